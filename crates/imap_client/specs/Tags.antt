-- The tags of a connection.
use Rattle.std.specs.Prelude.{ℕ, ◌++◌, List, codes, decimal}

-- the tag of the n-th command
abbrev pub tag_text : (n : ℕ) → List ℕ
tag_text n = codes "A" ++ decimal n

-- the number of the last tag
abbrev pub LAST_TAG : ℕ
LAST_TAG = 18446744073709551615
