-- What the record of the system's answers says of a tree.
use Rattle.std.proofs.Common.{◌≡◌, ℕ, Bool, List, ◌∷◌, Option, subst}
use Rattle.std.proofs.lemmas.List.Elements.{All-head, All-tail}
use Rattle.near_places.specs.Trees.{Tree, Look, Agrees, Answers, IsLater}
use Rattle.near_places.specs.Trees.Look.{FolderAt, NamesIn, BoxAt}
use Rattle.near_places.specs.declared.looks.Identity.{Identity}

-- ---- a later record

pub later_none : (old new : List Look) → new ≡ old → IsLater old new
later_none old new e = record { earlier = λ tree agrees. subst (λ (l : List Look). Agrees tree l) e agrees }

pub later_one : (look : Look) (old new : List Look) → new ≡ look ∷ old → IsLater old new
later_one look old new e =
    record { earlier = λ tree agrees. All-tail (Answers tree) look old (subst (λ (l : List Look). Agrees tree l) e agrees) }

pub later_then : {a b c : List Look} → IsLater a b → IsLater b c → IsLater a c
later_then first second = record { earlier = λ tree agrees. first.earlier tree (second.earlier tree agrees) }

-- ---- its last answer

answered : (tree : Tree) (look : Look) (old new : List Look) → new ≡ look ∷ old → Agrees tree new → Answers tree look
answered tree look old new e agrees = All-head (Answers tree) look old (subst (λ (l : List Look). Agrees tree l) e agrees)

pub folder_answered : (tree : Tree) (path : List ℕ) (found : Option Identity) (old new : List Look) → new ≡ FolderAt path found ∷ old → Agrees tree new
    → tree.folder path ≡ found
folder_answered tree path found old new e agrees = answered tree (FolderAt path found) old new e agrees

pub names_answered : (tree : Tree) (path : List ℕ) (names : List (List ℕ)) (old new : List Look) → new ≡ NamesIn path names ∷ old → Agrees tree new
    → tree.names path ≡ names
names_answered tree path names old new e agrees = answered tree (NamesIn path names) old new e agrees

pub box_answered : (tree : Tree) (path : List ℕ) (is_box : Bool) (old new : List Look) → new ≡ BoxAt path is_box ∷ old → Agrees tree new
    → tree.is_box path ≡ is_box
box_answered tree path is_box old new e agrees = answered tree (BoxAt path is_box) old new e agrees
