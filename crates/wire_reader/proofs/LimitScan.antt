-- The limit, where a scanner stops.
use Rattle.std.proofs.Common.{◌≡◌, ℕ, suc, ◌+◌, ◌-◌, ◌<◌, ◌≤◌, Bool, true, false, cond, eqb, leb, ◌||◌, List, [], ◌∷◌, length, take, drop, Option, Some, None, refl, sym, ap, ◌∙◌, inl, inr, arith}
use Rattle.std.proofs.lemmas.List.{take_all, drop-drop, length-drop}
use Rattle.std.proofs.lemmas.Bool.{cases_Bool, cases_lt, false≢true, ne_eqb, eq-eqb, le-leb}
use Rattle.wire_reader.specs.declared.scanner.Scanner.{Scanner}
use Rattle.wire_reader.specs.Lexical.{next, is_in, limit_from}
use Rattle.wire_reader.specs.Scanning.{after, scanned, is_place, place_from}
use Rattle.wire_reader.proofs.Limits.{step, full}
use Rattle.wire_reader.proofs.Scanned.{place_case, no_place, place-from_none}
use Rattle.wire_reader.proofs.Positions.{after_octet, after_other}

abbrev pub limit_at : Scanner → ℕ → List ℕ → Option ℕ
limit_at s at xs = limit_from s.phase (65536 - s.outside) at xs

or-true_right : (x y : Bool) → y ≡ true → (x || y) ≡ true
or-true_right true y h = refl
or-true_right false y h = h

-- a byte after which there is room
roomy : (s : Scanner) (at b : ℕ) (bs : List ℕ) → s.outside ≤ 65536 → (after s b).outside ≤ 65536 → limit_at s at (b ∷ bs) ≡ limit_at (after s b) (at + 1) bs
roomy s at b bs le more =
    elim (cases_Bool (is_in s.phase)) [
      | inl e ↦ ap (step (65536 - s.outside) at s.phase b bs) e ∙ ap (λ (o : ℕ). limit_from (next s.phase b) (65536 - o) (at + 1) bs) (sym (after_octet s b e))
      | inr e ↦
          let o = after_other s b e le in
          let room : 65536 - s.outside - 1 ≡ 65536 - (after s b).outside = omega (arith, o, more) in
          ap (step (65536 - s.outside) at s.phase b bs) e
          ∙ ap (full (65536 - s.outside) at s.phase b bs) (ne_eqb (65536 - s.outside) 0 (λ z. omega (arith, z, o, more)))
          ∙ ap (λ (n : ℕ). limit_from (next s.phase b) n (at + 1) bs) room
    ]

-- a byte for which there is none
over : (s : Scanner) (at b : ℕ) (bs : List ℕ) → s.outside ≤ 65536 → 65536 < (after s b).outside → (limit_at s at (b ∷ bs) ≡ Some (at + 1)) × (is_place s b ≡ true)
over s at b bs le more =
    elim (cases_Bool (is_in s.phase)) [
      | inl e ↦ let o = after_octet s b e in absurd (omega (arith, o, le, more))
      | inr e ↦
          let o = after_other s b e le in (
            ap (step (65536 - s.outside) at s.phase b bs) e ∙ ap (full (65536 - s.outside) at s.phase b bs) (eq-eqb (65536 - s.outside) 0 (omega (arith, o, more))),
            ap (λ (t : Bool). cond t (eqb b 0) (eqb b 10 || leb 65536 s.outside)) e ∙ or-true_right (eqb b 10) (leb 65536 s.outside) (le-leb 65536 s.outside (omega (arith, o, more))),
          )
    ]

-- after a byte that is no place there is still room
still : (s : Scanner) (b : ℕ) (bs : List ℕ) (at : ℕ) → s.outside ≤ 65536 → is_place s b ≡ false → (after s b).outside ≤ 65536
still s b bs at le h =
    elim (cases_lt 65536 (after s b).outside) [
      | inl more ↦ absurd (false≢true (sym h ∙ (over s at b bs le more).1))
      | inr fits ↦ fits
    ]

-- up to a place, which is counted from `at` on, and the limit from `pos` on: there is no room for it, or there is
pub record Reached (s : Scanner) (at pos : ℕ) (xs : List ℕ) (end : ℕ) : Type 0 where
  pub count : ℕ
  pub end_is : end ≡ at + count
  pub some : 0 < count
  pub within : count ≤ length xs
  pub over : 65536 < (scanned s (take count xs)).outside → limit_at s pos xs ≡ Some (pos + count)
  pub under : (scanned s (take count xs)).outside ≤ 65536 → limit_at s pos xs ≡ limit_at (scanned s (take count xs)) (pos + count) (drop count xs)

pub reached : (xs : List ℕ) (s : Scanner) (at pos end : ℕ) → s.outside ≤ 65536 → place_from at s xs ≡ Some end → Reached s at pos xs end
reached [] s at pos end le h = absurd cc
reached (b ∷ bs) s at pos end le h =
    elim (cases_Bool (is_place s b)) [
      | inl e ↦
          let here : Some (suc at) ≡ Some end = sym (ap (place_case at s b bs) e) ∙ h in
          let same : suc at ≡ end = cc in
          record { count = 1; end_is = omega (arith, same); some = omega arith; within = omega arith; over = λ m. (over s pos b bs le m).0; under = λ m. roomy s pos b bs le m }
      | inr e ↦
          let room = still s b bs at le e in
          let r = reached bs (after s b) (suc at) (pos + 1) end room (sym (ap (place_case at s b bs) e) ∙ h) in
          let further : pos + 1 + r.count ≡ pos + suc r.count = omega arith in
          record {
            count = suc r.count;
            end_is = (let x = r.end_is in omega (arith, x));
            some = omega arith;
            within = (let x = r.within in omega (arith, x));
            over = λ m. roomy s pos b bs le room ∙ r.over m ∙ ap (λ (k : ℕ). Some k) further;
            under = λ m. roomy s pos b bs le room ∙ r.under m ∙ ap (λ (k : ℕ). limit_at (scanned (after s b) (take r.count bs)) k (drop r.count bs)) further;
          }
    ]

pub none_reached : (xs : List ℕ) (s : Scanner) (at : ℕ) → s.outside ≤ 65536 → place_from at s xs ≡ None → limit_at s at xs ≡ None
none_reached [] s at le h = refl
none_reached (b ∷ bs) s at le h =
    let n = no_place at s b bs h in
    let room = still s b bs at le n.0 in
    roomy s at b bs le room ∙ ap (λ (k : ℕ). limit_at (after s b) k bs) (let e : at + 1 ≡ suc at = omega arith in e) ∙ none_reached bs (after s b) (suc at) room n.1

-- ---- along the bytes

pub record Passing (bytes : List ℕ) (done count : ℕ) (s new : Scanner) : Type 0 where
  pub some : 0 < count
  pub within : done + count ≤ length bytes
  pub over : 65536 < new.outside → limit_at s done (drop done bytes) ≡ Some (done + count)
  pub under : new.outside ≤ 65536 → limit_at s done (drop done bytes) ≡ limit_at new (done + count) (drop (done + count) bytes)

abbrev tail : List ℕ → ℕ → List ℕ
tail bytes done = take (length bytes - done) (drop done bytes)

tail_is : (bytes : List ℕ) (done : ℕ) → tail bytes done ≡ drop done bytes
tail_is bytes done = take_all (length bytes - done) (drop done bytes) (omega (arith, length-drop done bytes))

pub passing : (bytes : List ℕ) (done count : ℕ) (s new : Scanner) → done ≤ length bytes → s.outside ≤ 65536 → Some count ≡ place_from 0 s (tail bytes done) → new ≡ scanned s (take count (tail bytes done)) → Passing bytes done count s new
passing bytes done count s new in_range le place moves =
    let r = reached (drop done bytes) s 0 done count le (ap (place_from 0 s) (sym (tail_is bytes done)) ∙ sym place) in
    let same : r.count ≡ count = (let x = r.end_is in omega (arith, x)) in
    let state : new ≡ scanned s (take r.count (drop done bytes)) = moves ∙ ap (λ (xs : List ℕ). scanned s (take count xs)) (tail_is bytes done) ∙ ap (λ (k : ℕ). scanned s (take k (drop done bytes))) (sym same) in
    let count_is : new.outside ≡ (scanned s (take r.count (drop done bytes))).outside = ap (λ (t : Scanner). t.outside) state in
    record {
      some = (let x = r.some in omega (arith, x, same));
      within = (let x = r.within in omega (arith, x, same, length-drop done bytes, in_range));
      over = λ m. r.over (omega (arith, m, count_is)) ∙ ap (λ (k : ℕ). Some (done + k)) same;
      under = λ m.
          r.under (omega (arith, m, count_is)) ∙ ap (λ (t : Scanner). limit_at t (done + r.count) (drop r.count (drop done bytes))) (sym state)
          ∙ ap (limit_at new (done + r.count)) (drop-drop r.count done bytes) ∙ ap (λ (k : ℕ). limit_at new (done + k) (drop (done + k) bytes)) same;
    }

pub none_passing : (bytes : List ℕ) (done : ℕ) (s : Scanner) → s.outside ≤ 65536 → None ≡ place_from 0 s (tail bytes done) → limit_at s done (drop done bytes) ≡ None
none_passing bytes done s le place = none_reached (drop done bytes) s done le (place-from_none (drop done bytes) 0 done s (ap (place_from 0 s) (sym (tail_is bytes done)) ∙ sym place))
