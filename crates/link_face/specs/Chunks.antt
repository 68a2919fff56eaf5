-- Bytes in chunks, of which the first is the last in a vector.
use Rattle.std.specs.Prelude.{ℕ, ◌<◌, List, [], ◌∷◌, ◌++◌, Vec, length}
use Rattle.std.specs.Global.{Global}

-- all bytes
abbrev pub from_last : List (Vec ℕ Global) → List ℕ
from_last [] = []
from_last (chunk ∷ chunks) = from_last chunks ++ chunk.items

-- no chunk is empty
abbrev pub AreSome : List (Vec ℕ Global) → Type 0
AreSome [] = Unit {0}
AreSome (chunk ∷ chunks) = (0 < length chunk.items) × AreSome chunks
