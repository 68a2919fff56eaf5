-- What a scanner says about the text that it has scanned from the begin of a line.
use Rattle.std.proofs.Common.{◌≡◌, ℕ, suc, ◌+◌, ◌*◌, ◌-◌, ◌≤◌, Bool, true, false, not, cond, eqb, leb, ◌||◌, ◌&&◌, List, [], ◌∷◌, ◌++◌, None, refl, sym, ap, ◌∙◌, inl, inr, arith}
use Rattle.std.specs.List.{list_all}
use Rattle.std.proofs.lemmas.Bool.{cases_Bool, true≢false, and_from, or_parts, le-leb, leb-false}
use Rattle.wire_reader.specs.declared.lexical.Phase.{Phase}
use Rattle.wire_reader.specs.declared.lexical.Phase.TheVariants.{Plain, Brace, Digits, Plus, Close, Return, In}
use Rattle.wire_reader.specs.declared.scanner.Scanner.{Scanner}
use Rattle.wire_reader.specs.Spelling.{is_digit}
use Rattle.wire_reader.specs.Lexical.{next, restart, is_in, phase, outside_from, literal_limit}
use Rattle.wire_reader.specs.Scanning.{one_more, after, scanned, is_place, place_from}
use Rattle.wire_reader.proofs.Limits.{one_is}
use Rattle.wire_reader.proofs.Scanned.{no_place}

-- ---- phases and counts

pub phase-scanned : (s : Scanner) (xs : List ℕ) → (scanned s xs).phase ≡ phase s.phase xs
phase-scanned s [] = refl
phase-scanned s (b ∷ bs) = phase-scanned (after s b) bs

pub outside-append : (p : Phase) (xs ys : List ℕ) → outside_from p (xs ++ ys) ≡ outside_from p xs + outside_from (phase p xs) ys
outside-append p [] ys = omega arith
outside-append p (b ∷ xs) ys = let r = outside-append (next p b) xs ys in omega (arith, r)

pub after_octet : (s : Scanner) (b : ℕ) → is_in s.phase ≡ true → (after s b).outside ≡ s.outside
after_octet s b e = ap (λ (t : Bool). cond t s.outside (one_more s.outside)) e

pub after_other : (s : Scanner) (b : ℕ) → is_in s.phase ≡ false → s.outside ≤ 65536 → (after s b).outside ≡ suc s.outside
after_other s b e le = ap (λ (t : Bool). cond t s.outside (one_more s.outside)) e ∙ ap (λ (t : Bool). cond t (suc s.outside) s.outside) (le-leb s.outside 65536 le)

-- as long as the count is no more than 65536, it is exact
pub outside-scanned : (xs : List ℕ) (s : Scanner) → s.outside + outside_from s.phase xs ≤ 65537 → (scanned s xs).outside ≡ s.outside + outside_from s.phase xs
outside-scanned [] s le = omega arith
outside-scanned (b ∷ bs) s le =
    elim (cases_Bool (is_in s.phase)) [
      | inl e ↦
          let k = one_is s.phase true e in
          let a = after_octet s b e in
          let r = outside-scanned bs (after s b) (omega (arith, a, k, le)) in
          omega (arith, r, a, k)
      | inr e ↦
          let k = one_is s.phase false e in
          let a = after_other s b e (omega (arith, k, le)) in
          let r = outside-scanned bs (after s b) (omega (arith, a, k, le)) in
          omega (arith, r, a, k)
    ]

-- ---- a byte that is no place

-- an octet that is not 0; or a byte outside octets that is no LF and has room
pub data NoPlaceAt (s : Scanner) (b : ℕ) : Type 0 where
  Octet : is_in s.phase ≡ true → eqb b 0 ≡ false → NoPlaceAt s b
  Outside : is_in s.phase ≡ false → eqb b 10 ≡ false → s.outside ≤ 65535 → NoPlaceAt s b

abbrev place_by : Scanner → ℕ → Bool → Bool
place_by s b t = cond t (eqb b 0) (eqb b 10 || leb 65536 s.outside)

pub no_place_at : (s : Scanner) (b : ℕ) → is_place s b ≡ false → NoPlaceAt s b
no_place_at s b h =
    elim (cases_Bool (is_in s.phase)) [
      | inl e ↦ Octet e (sym (ap (place_by s b) e) ∙ h)
      | inr e ↦
          let q = or_parts _ _ (sym (ap (place_by s b) e) ∙ h) in
          Outside e q.0 (let w = leb-false 65536 s.outside q.1 in omega arith)
    ]

-- no octets begin after a byte that is no LF
restart_out : (b : ℕ) → is_in (restart b) ≡ false
restart_out b = elim (cases_Bool (eqb b 123)) [ inl e ↦ ap (λ (t : Bool). is_in (cond t Brace Plain)) e | inr e ↦ ap (λ (t : Bool). is_in (cond t Brace Plain)) e ]

choice_out : (t : Bool) (p q : Phase) → is_in p ≡ false → is_in q ≡ false → is_in (cond t p q) ≡ false
choice_out true p q a b = a
choice_out false p q a b = b

pub stays_out : (p : Phase) (b : ℕ) → is_in p ≡ false → eqb b 10 ≡ false → is_in (next p b) ≡ false
stays_out Plain b h n = restart_out b
stays_out Brace b h n = choice_out (is_digit b) (Digits (b - 48)) (restart b) refl (restart_out b)
stays_out (Digits m) b h n =
    choice_out (eqb b 125) (Close m false) _ refl
    (choice_out (eqb b 43) (Plus m) _ refl (choice_out (is_digit b && leb m literal_limit) (Digits (10 * m + (b - 48))) (restart b) refl (restart_out b)))
stays_out (Plus m) b h n = choice_out (eqb b 125) (Close m true) (restart b) refl (restart_out b)
stays_out (Close m plus) b h n = choice_out (eqb b 13) (Return m plus) (restart b) refl (restart_out b)
stays_out (Return m plus) b h n = ap (λ (t : Bool). is_in (cond (t && not (eqb m 0)) (In m) (restart b))) n ∙ restart_out b
stays_out (In m) b h n = absurd (true≢false h)

-- so outside octets no LF stands before the next place
pub no_feed : (ys : List ℕ) (at : ℕ) (s : Scanner) → is_in s.phase ≡ false → place_from at s ys ≡ None → list_all (λ b. not (eqb b 10)) ys ≡ true
no_feed [] at s out h = refl
no_feed (b ∷ bs) at s out h =
    let n = no_place at s b bs h in
    elim (no_place_at s b n.0) [
      | Octet e z ↦ absurd (true≢false (sym e ∙ out))
      | Outside e f r ↦ and_from _ _ (ap not f) (no_feed bs (suc at) (after s b) (stays_out s.phase b e f) n.1)
    ]
