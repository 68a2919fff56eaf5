-- Where the limit is passed.
use Rattle.std.proofs.Common.{◌≡◌, ℕ, zero, suc, ◌+◌, ◌-◌, ◌<◌, ◌≤◌, Bool, true, false, cond, eqb, List, [], ◌∷◌, length, take, Option, Some, None, refl, sym, ap, ◌∙◌, inl, inr, arith}
use Rattle.std.proofs.lemmas.Bool.{cases_Bool, eqb-true, eqb-false, ne_eqb}
use Rattle.wire_reader.specs.declared.lexical.Phase.{Phase}
use Rattle.wire_reader.specs.Lexical.{next, is_in, outside_from, limit_from}

abbrev pub one : Phase → ℕ
one phase = cond (is_in phase) 0 1

pub one_is : (phase : Phase) (b : Bool) → is_in phase ≡ b → one phase ≡ cond b 0 1
one_is phase b e = ap (λ (t : Bool). cond t 0 1) e

pub outside_le : (xs : List ℕ) (phase : Phase) (i j : ℕ) → i ≤ j → outside_from phase (take i xs) ≤ outside_from phase (take j xs)
outside_le [] phase zero zero le = omega arith
outside_le [] phase zero (suc j) le = omega arith
outside_le [] phase (suc i) zero le = absurd (omega (arith, le))
outside_le [] phase (suc i) (suc j) le = omega arith
outside_le (b ∷ bs) phase zero j le = omega arith
outside_le (b ∷ bs) phase (suc i) zero le = absurd (omega (arith, le))
outside_le (b ∷ bs) phase (suc i) (suc j) le = let r = outside_le bs (next phase b) i j (omega (arith, le)) in omega (arith, r)

abbrev pub step : ℕ → ℕ → Phase → ℕ → List ℕ → Bool → Option ℕ
step room at phase b bs t = cond t (limit_from (next phase b) room (at + 1) bs) (cond (eqb room 0) (Some (at + 1)) (limit_from (next phase b) (room - 1) (at + 1) bs))

abbrev pub full : ℕ → ℕ → Phase → ℕ → List ℕ → Bool → Option ℕ
full room at phase b bs t = cond t (Some (at + 1)) (limit_from (next phase b) (room - 1) (at + 1) bs)

pub within : (xs : List ℕ) (phase : Phase) (room at : ℕ) → limit_from phase room at xs ≡ None → outside_from phase xs ≤ room
within [] phase room at h = omega arith
within (b ∷ bs) phase room at h =
    elim (cases_Bool (is_in phase)) [
      | inl e ↦
          let r = within bs (next phase b) room (at + 1) (sym (ap (step room at phase b bs) e) ∙ h) in
          omega (arith, r, one_is phase true e)
      | inr e ↦
          let g : full room at phase b bs (eqb room 0) ≡ None = sym (ap (step room at phase b bs) e) ∙ h in
          elim (cases_Bool (eqb room 0)) [
            | inl z ↦ absurd (let w = sym (ap (full room at phase b bs) z) ∙ g in cc)
            | inr z ↦
                let r = within bs (next phase b) (room - 1) (at + 1) (sym (ap (full room at phase b bs) z) ∙ g) in
                let pos = eqb-false room 0 z in
                omega (arith, r, pos, one_is phase false e)
          ]
    ]

-- the byte for which there is no room
pub record Passed (phase : Phase) (room at : ℕ) (xs : List ℕ) (end : ℕ) : Type 0 where
  pub index : ℕ
  pub end_is : end ≡ at + suc index
  pub in_range : index < length xs
  pub before : outside_from phase (take index xs) ≡ room
  pub after : outside_from phase (take (suc index) xs) ≡ suc room

pub passed : (xs : List ℕ) (phase : Phase) (room at end : ℕ) → limit_from phase room at xs ≡ Some end → Passed phase room at xs end
passed [] phase room at end h = absurd cc
passed (b ∷ bs) phase room at end h =
    elim (cases_Bool (is_in phase)) [
      | inl e ↦
          let r = passed bs (next phase b) room (at + 1) end (sym (ap (step room at phase b bs) e) ∙ h) in
          let k = one_is phase true e in
          record { index = suc r.index; end_is = omega (arith, r.end_is); in_range = omega (arith, r.in_range); before = omega (arith, r.before, k); after = omega (arith, r.after, k) }
      | inr e ↦
          let g : full room at phase b bs (eqb room 0) ≡ Some end = sym (ap (step room at phase b bs) e) ∙ h in
          let k = one_is phase false e in
          elim (cases_Bool (eqb room 0)) [
            | inl z ↦
                let w : Some (at + 1) ≡ Some end = sym (ap (full room at phase b bs) z) ∙ g in
                let same : at + 1 ≡ end = cc in
                let none = eqb-true room 0 z in
                record { index = 0; end_is = omega (arith, same); in_range = omega arith; before = omega (arith, none); after = omega (arith, none, k) }
            | inr z ↦
                let r = passed bs (next phase b) (room - 1) (at + 1) end (sym (ap (full room at phase b bs) z) ∙ g) in
                let pos = eqb-false room 0 z in
                record { index = suc r.index; end_is = omega (arith, r.end_is); in_range = omega (arith, r.in_range); before = omega (arith, r.before, k, pos); after = omega (arith, r.after, k, pos) }
          ]
    ]

-- there is room for all of them
pub room_for_all : (xs : List ℕ) (phase : Phase) (room at : ℕ) → length xs ≤ room → limit_from phase room at xs ≡ None
room_for_all [] phase room at le = refl
room_for_all (b ∷ bs) phase room at le =
    elim (cases_Bool (is_in phase)) [
      | inl e ↦ ap (step room at phase b bs) e ∙ room_for_all bs (next phase b) room (at + 1) (omega (arith, le))
      | inr e ↦ ap (step room at phase b bs) e ∙ ap (full room at phase b bs) (ne_eqb room 0 (λ z. omega (arith, z, le))) ∙ room_for_all bs (next phase b) (room - 1) (at + 1) (omega (arith, le))
    ]
