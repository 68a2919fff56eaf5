-- What follows a text.
use Rattle.std.proofs.Common.{◌≡◌, ℕ, List, ◌++◌, Option, None, Some, refl, ap, append_assoc}
use Rattle.link_face.specs.Names.{joined}

pub joined_joined : (a b : List ℕ) (rest : Option (List ℕ)) → joined (Some (a ++ b)) rest ≡ joined (Some a) (joined (Some b) rest)
joined_joined a b None = refl
joined_joined a b (Some rest) = ap Some (append_assoc a b rest)
