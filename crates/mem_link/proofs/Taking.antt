-- What is taken off the front of what was said.
use Rattle.std.proofs.Common.{◌≡◌, ℕ, ◌+◌, ◌-◌, ◌==◌, true, List, [], ◌++◌, length, take, drop, sym, ap, ◌∙◌, append_assoc, take-append-drop, length-drop}
use Rattle.std.proofs.Math.Seq.{take-length}
use Rattle.std.proofs.lemmas.Bool.{eqb-true}
use Rattle.std.proofs.lemmas.List.{drop-drop, nil_from_length}

-- `&xs[i..]`
part_is : (xs : List ℕ) (i : ℕ) → take (length xs - i) (drop i xs) ≡ drop i xs
part_is xs i = ap (λ (n : ℕ). take n (drop i xs)) (sym (length-drop i xs)) ∙ take-length (drop i xs)

taken : (xs piece : List ℕ) (n : ℕ) → take n piece ≡ take n xs → xs ≡ take n piece ++ drop n xs
taken xs piece n e = sym (ap (λ (l : List ℕ). l ++ drop n xs) e ∙ take-append-drop n xs)

no_bytes : (xs : List ℕ) → (length xs == 0) ≡ true → xs ≡ []
no_bytes xs e = nil_from_length xs (eqb-true (length xs) 0 e)

-- of the greeting
pub took_greeting : (greeting rest piece now : List ℕ) (n : ℕ) → greeting ++ rest ≡ now → take n piece ≡ take n greeting → now ≡ take n piece ++ (take (length greeting - n) (drop n greeting) ++ rest)
took_greeting greeting rest piece now n is copied =
    sym is
    ∙ ap (λ (l : List ℕ). l ++ rest) (taken greeting piece n copied)
    ∙ append_assoc (take n piece) (drop n greeting) rest
    ∙ ap (λ (l : List ℕ). take n piece ++ (l ++ rest)) (sym (part_is greeting n))

-- of the replies, where the greeting was taken
pub took_replies : (greeting replies v piece now : List ℕ) (received n : ℕ) → greeting ++ drop received replies ≡ now → (length greeting == 0) ≡ true → v ≡ replies
    → take n piece ≡ take n (take (length v - received) (drop received v)) → now ≡ take n piece ++ (greeting ++ drop (received + n) replies)
took_replies greeting replies v piece now received n is none same copied =
    let gone : greeting ≡ [] = no_bytes greeting none in
    let from : take n piece ≡ take n (drop received replies) = copied ∙ ap (take n) (part_is v received ∙ ap (drop received) same) in
    sym is
    ∙ ap (λ (l : List ℕ). l ++ drop received replies) gone
    ∙ taken (drop received replies) piece n from
    ∙ ap (λ (l : List ℕ). take n piece ++ l) (drop-drop n received replies)
    ∙ ap (λ (l : List ℕ). take n piece ++ (l ++ drop (received + n) replies)) (sym gone)
