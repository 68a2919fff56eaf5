-- Lemmas on mailboxes that a server can serve.
use Rattle.std.proofs.Common.{ℕ, ◌<◌, List, All, map, sym, subst}
use Rattle.std.proofs.lemmas.List.{get_or-map, length-map}

-- what holds of each image holds of what it is the image of
pub all_unmap : {X Y : Type 0} (P : Y → Type 0) (f : X → Y) (xs : List X) → All P (map f xs) → All (λ x. P (f x)) xs
all_unmap P f xs h = λ k d within. subst P (get_or-map f xs k d (f d) within) (h k (f d) (subst (λ (n : ℕ). k < n) (sym (length-map xs f)) within))
