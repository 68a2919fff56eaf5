-- The bytes of a text before a rest.
use Rattle.std.proofs.Common.{◌≡◌, ℕ, ◌-◌, List, ◌++◌, length, take, ap, ◌∙◌, arith}
use Rattle.std.proofs.Math.Seq.{take-append_seam}
use Rattle.std.proofs.lemmas.List.{length-append}

-- the bytes before the rest
pub front_is : (xs text rest : List ℕ) → xs ≡ text ++ rest → take (length xs - length rest) xs ≡ text
front_is xs text rest e =
    let n : length xs - length rest ≡ length text = omega (arith, ap length e, length-append text rest) in
    ap (λ (k : ℕ). take k xs) n ∙ ap (take (length text)) e ∙ take-append_seam text rest
