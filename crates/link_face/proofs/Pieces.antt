-- Fronts that are taken off bytes.
use Rattle.std.proofs.Common.{◌≡◌, ℕ, ◌+◌, ◌-◌, List, ◌++◌, length, take, drop, sym, ap, ◌∙◌, take-append-drop, length-drop}
use Rattle.std.proofs.Math.Seq.{take-length}
use Rattle.std.proofs.lemmas.List.{drop-drop}

-- `&xs[i..]`
pub rest_is : (xs : List ℕ) (i : ℕ) → take (length xs - i) (drop i xs) ≡ drop i xs
rest_is xs i = ap (λ (n : ℕ). take n (drop i xs)) (sym (length-drop i xs)) ∙ take-length (drop i xs)

-- a copy of the front was handed out
pub took : (bytes lent piece now : List ℕ) (given n : ℕ) → drop given bytes ≡ now → lent ≡ bytes → take n piece ≡ take n (take (length lent - given) (drop given lent))
    → now ≡ take n piece ++ drop (given + n) bytes
took bytes lent piece now given n is same copied =
    let from : take n piece ≡ take n (drop given bytes) = copied ∙ ap (take n) (rest_is lent given ∙ ap (drop given) same) in
    sym is
    ∙ sym (ap (λ (l : List ℕ). l ++ drop n (drop given bytes)) from ∙ take-append-drop n (drop given bytes))
    ∙ ap (λ (l : List ℕ). take n piece ++ l) (drop-drop n given bytes)

-- a copy of the front was taken out
pub front_and_rest : (bytes now front : List ℕ) (taken n : ℕ) → drop taken bytes ≡ now → front ≡ take n now → now ≡ front ++ drop (taken + n) bytes
front_and_rest bytes now front taken n view is =
    sym (ap (λ (l : List ℕ). l ++ drop (taken + n) bytes) is
    ∙ ap (λ (l : List ℕ). take n now ++ l) (sym (drop-drop n taken bytes) ∙ ap (drop n) view)
    ∙ take-append-drop n now)
