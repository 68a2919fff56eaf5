-- Bytes outside literals before the first LF and the first `{`.
use Rattle.std.proofs.Common.{◌≡◌, ℕ, ◌<◌, ◌≤◌, zero, suc, Bool, true, false, not, ◌||◌, ◌&&◌, eqb, List, [], ◌∷◌, length, take, get_or, None, Some, refl, sym, ap, subst, arith}
use Rattle.std.proofs.lemmas.List.{get_or-take, length-take-le}
use Rattle.std.proofs.lemmas.List.Elements.{All-from_get_or}
use Rattle.std.specs.List.{All}
use Rattle.memchr.specs.Find.{IsFirstByte, Nowhere, Passes, is_byte2}
use Rattle.wire_reader.specs.Advancing.{is_plain}

neither : (p q : Bool) → ¬ ((p || q) ≡ true) → (not p && not q) ≡ true
neither true q lacks = absurd (lacks refl)
neither false true lacks = absurd (lacks refl)
neither false false lacks = refl

plain_until : (bytes : List ℕ) (count : ℕ) → count ≤ length bytes → Nowhere (Passes (is_byte2 10 123) bytes) 0 count → All (λ b. is_plain b ≡ true) (take count bytes)
plain_until bytes count within none =
    All-from_get_or (λ b. is_plain b ≡ true) (take count bytes) 0
    (λ k lt. let below : k < count = omega (arith, lt, length-take-le count bytes within) in
    subst (λ (b : ℕ). is_plain b ≡ true) (sym (get_or-take count bytes k 0 below)) (neither (eqb (get_or bytes k 0) 10) (eqb (get_or bytes k 0) 123) (none k (omega arith) below)))

pub plain_before : (bytes : List ℕ) (at : ℕ) → IsFirstByte (is_byte2 10 123) bytes (Some at) → All (λ b. is_plain b ≡ true) (take at bytes)
plain_before bytes at found = plain_until bytes at (let high = found.0.high in omega arith) found.0.before

pub plain_whole : (bytes : List ℕ) → IsFirstByte (is_byte2 10 123) bytes None → All (λ b. is_plain b ≡ true) (take (length bytes) bytes)
plain_whole bytes found = plain_until bytes (length bytes) (omega arith) found

-- the front of a front
pub take_take : (k n : ℕ) (xs : List ℕ) → k ≤ n → take k (take n xs) ≡ take k xs
take_take zero n xs less = refl
take_take (suc k) zero xs less = absurd (omega (arith, less))
take_take (suc k) (suc n) [] less = refl
take_take (suc k) (suc n) (x ∷ xs) less = ap (λ (z : List ℕ). x ∷ z) (take_take k n xs (omega (arith, less)))
