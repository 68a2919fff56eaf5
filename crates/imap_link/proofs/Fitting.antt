-- Bytes of which each front that ends at a place begins a reply have room outside their literals.
use Rattle.std.proofs.Common.{◌≡◌, ◌≤◌, ◌-◌, ◌+◌, ℕ, suc, Bool, true, false, cond, List, [], ◌∷◌, ◌++◌, Option, Some, None, inl, inr, refl, sym, ◌∙◌, ap, subst, arith, append_assoc, append-nil}
use Rattle.std.proofs.lemmas.Bool.{cases_Bool}
use Rattle.wire_reader.specs.declared.lexical.Phase.{Phase}
use Rattle.wire_reader.specs.declared.lexical.Phase.TheVariants.{Plain}
use Rattle.wire_reader.specs.declared.scanner.Scanner.{Scanner}
use Rattle.wire_reader.specs.Lexical.{outside, outside_from, phase}
use Rattle.wire_reader.specs.Scanning.{start, scanned, is_place, place_from}
use Rattle.wire_reader.proofs.Limits.{within}
use Rattle.wire_reader.proofs.LimitScan.{none_reached}
use Rattle.wire_reader.proofs.Positions.{outside-append, outside-scanned, phase-scanned}
use Rattle.imap_link.specs.Fronts.{BeginsAtPlaces}

none_at : (s : Scanner) (b : ℕ) → is_place s b ≡ false → place_from 0 s (b ∷ []) ≡ None
none_at s b e = ap (λ (t : Bool). cond t (Some 1) None) e

-- after a byte that is no place there is still room
still : (front : List ℕ) (b : ℕ) → outside front ≤ 65536 → is_place (scanned start front) b ≡ false → outside (front ++ b ∷ []) ≤ 65536
still front b le e =
    let s = scanned start front in
    let count : s.outside ≡ 0 + outside front = outside-scanned front start (omega (arith, le)) in
    let rest : outside_from s.phase (b ∷ []) ≤ 65536 - s.outside =
    within (b ∷ []) s.phase (65536 - s.outside) 0 (none_reached (b ∷ []) s 0 (omega (arith, count, le)) (none_at s b e)) in
    let same : outside_from s.phase (b ∷ []) ≡ outside_from (phase Plain front) (b ∷ []) = ap (λ (p : Phase). outside_from p (b ∷ [])) (phase-scanned start front) in
    let all = outside-append Plain front (b ∷ []) in
    omega (arith, count, rest, same, all, le)

fits_from : (front xs : List ℕ) → BeginsAtPlaces (front ++ xs) → outside front ≤ 65536 → outside (front ++ xs) ≤ 65536
fits_from front [] h le = subst (λ (l : List ℕ). outside l ≤ 65536) (sym (append-nil front)) le
fits_from front (b ∷ xs) h le =
    let one : outside (front ++ b ∷ []) ≤ 65536 = elim (cases_Bool (is_place (scanned start front) b)) [
      | inl p ↦ (h front xs b refl p).fits
      | inr p ↦ still front b le p
    ] in
    let same : (front ++ b ∷ []) ++ xs ≡ front ++ b ∷ xs = append_assoc front (b ∷ []) xs in
    subst (λ (l : List ℕ). outside l ≤ 65536) same (fits_from (front ++ b ∷ []) xs (subst BeginsAtPlaces (sym same) h) one)

-- so a line that does not end is not waited for
pub fits_at_places : (xs : List ℕ) → BeginsAtPlaces xs → outside xs ≤ 65536
fits_at_places xs h = fits_from [] xs h (omega arith)
