-- Of two names no one name is made.
use Rattle.std.proofs.Common.{◌≡◌, ℕ, List, Option, Some, sym, ◌∙◌}
use Rattle.link_face.specs.Names.{IsName}

some_same : (a b : List ℕ) → (let o : Option (List ℕ) = Some a in o) ≡ Some b → a ≡ b
some_same a b e = cc

pub one_far : (near one other : List ℕ) → IsName one near → IsName other near → one ≡ other
one_far near one other a b = some_same one other (sym a.read ∙ b.read)
