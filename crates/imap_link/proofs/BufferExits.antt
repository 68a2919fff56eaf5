-- The bytes from a place on.
use Rattle.std.proofs.Common.{◌≡◌, ℕ, ◌-◌, List, ◌∙◌, ap, arith, length, take, drop, length-drop}
use Rattle.std.proofs.lemmas.List.{take_all}

pub slice_is : (l heard : List ℕ) (read : ℕ) → l ≡ heard → take (length l - read) (drop read l) ≡ drop read heard
slice_is l heard read e = take_all (length l - read) (drop read l) (omega (arith, length-drop read l)) ∙ ap (drop read) e
