-- Numbers as parts of a grammar.
use Rattle.std.proofs.Common.{◌≡◌, ℕ, ◌+◌, ◌*◌, ◌-◌, ◌≤◌, Bool, true, cond, eqb, leb, ltb, List, [], ◌∷◌, Option, None, Some, Ok, Err, refl, sym, ap, subst, ◌∙◌, inl, inr, zero-add, arith}
use Rattle.std.specs.List.{list_all}
use Rattle.std.proofs.lemmas.Bool.{cases_Bool, eqb-true, eqb-false, ne_eqb, leb-true, le-leb, ltb-false, le-ltb, and_parts, and_from}
use Rattle.wire_reader.specs.declared.side.Speaker.{Speaker}
use Rattle.wire_reader.specs.declared.stop.Kind.{Kind}
use Rattle.wire_reader.specs.declared.stop.Kind.TheVariants.{Syntax}
use Rattle.wire_reader.specs.Spelling.{is_digit}
use Rattle.wire_reader.specs.Literal.{value, Number}
use Rattle.wire_reader.specs.Machine.{RunText}
use Rattle.wire_reader.proofs.Reader.{Open}
use Rattle.wire_reader.proofs.LengthSteps.{digit_is}
use Rattle.wire_reader.proofs.Part.{Part, same_part}
use Rattle.wire_reader.proofs.PartTokens.{run_part}
use Rattle.wire_tokens.specs.Numbers.{greatest, NumberText, NzText, with_digit, or_syntax, number_go, read_so_far, digits_at, number_at, nz_at}
use Rattle.wire_reader.proofs.PartFilled.{value_le}

or_syntax-err : (o : Option ℕ) (k : Kind) → or_syntax o ≡ Err k → k ≡ Syntax
or_syntax-err None k h = cc
or_syntax-err (Some n) k h = absurd cc

or_syntax-ok : (o s : Option ℕ) → or_syntax o ≡ Ok s → o ≡ s
or_syntax-ok None s h = absurd cc
or_syntax-ok (Some n) s h = cc

cons_not : (b : ℕ) (bs : List ℕ) → b ∷ bs ≡ [] → ⊥
cons_not b bs h = cc

some_is : (m n : ℕ) → (let o : Option ℕ = Some m in o ≡ Some n) → m ≡ n
some_is m n h = cc

module _ (least most : ℕ) (low : least ≤ 1) (high : 9 ≤ most) where
  abbrev Text : Option ℕ → ℕ → List ℕ → Type 0
  Text s n t = RunText is_digit (number_go least most) read_so_far s n t

  -- what a digit does after the number v
  data Added (v d : ℕ) : Type 0 where
    Counts : (v ≡ 0 → ⊥) → 10 * v + d ≤ most → with_digit least most (Some v) d ≡ Some (10 * v + d) → Added v d
    Refuses : with_digit least most (Some v) d ≡ None → Added v d

  abbrev at_zero : ℕ → ℕ → Bool → Option ℕ
  at_zero v d t = cond t None (cond (leb (10 * v + d) most) (Some (10 * v + d)) None)

  abbrev at_most : ℕ → Bool → Option ℕ
  at_most m t = cond t (Some m) None

  abbrev at_first : ℕ → Bool → Option ℕ
  at_first d t = cond t None (Some d)

  added : (v d : ℕ) → Added v d
  added v d =
      elim (cases_Bool (eqb v 0)) [
        | inl z ↦ Refuses (ap (at_zero v d) z)
        | inr z ↦
            elim (cases_Bool (leb (10 * v + d) most)) [
              | inl m ↦ Counts (eqb-false v 0 z) (leb-true _ _ m) (ap (at_zero v d) z ∙ ap (at_most (10 * v + d)) m)
              | inr m ↦ Refuses (ap (at_zero v d) z ∙ ap (at_most (10 * v + d)) m)
            ]
      ]

  -- the digits after a number v
  record More (v n : ℕ) (t : List ℕ) : Type 0 where
    each : list_all is_digit t ≡ true
    is : value v t ≡ n
    plain : v ≡ 0 → t ≡ []
    below : n ≤ most
    above : v ≤ n

  to_more : (t : List ℕ) (v n : ℕ) → v ≤ most → Text (Some v) n t → More v n t
  to_more [] v n le h = let e = some_is v n h in record { each = refl; is = e; plain = λ _. refl; below = omega (arith, e, le); above = omega (arith, e) }
  to_more (b ∷ bs) v n le h = elim (added v (b - 48)) [
    | Counts pos m g ↦
        let same : Some (10 * v + (b - 48)) ≡ h.1.0 = sym g ∙ or_syntax-ok _ h.1.0 h.1.1 in
        let r = to_more bs (10 * v + (b - 48)) n m (subst (λ (s : Option ℕ). Text s n bs) (sym same) h.1.2) in
        record { each = and_from _ _ h.0 r.each; is = r.is; plain = λ z. absurd (pos z); below = r.below; above = (let l = r.above in omega (arith, l)) }
    | Refuses g ↦ absurd (let e : Err Syntax ≡ Ok h.1.0 = sym (ap or_syntax g) ∙ h.1.1 in cc)
  ]

  from_more : (t : List ℕ) (v n : ℕ) → list_all is_digit t ≡ true → value v t ≡ n → (v ≡ 0 → t ≡ []) → n ≤ most → Text (Some v) n t
  from_more [] v n each e z le = ap (λ (x : ℕ). Some x) e
  from_more (b ∷ bs) v n each e z le =
      let p = and_parts (is_digit b) (list_all is_digit bs) each in
      let pos : v ≡ 0 → ⊥ = λ v0. cons_not b bs (z v0) in
      let small : 10 * v + (b - 48) ≤ most = omega (arith, value_le bs (10 * v + (b - 48)), e, le) in
      let goes : with_digit least most (Some v) (b - 48) ≡ Some (10 * v + (b - 48)) = ap (at_zero v (b - 48)) (ne_eqb v 0 pos) ∙ ap (at_most (10 * v + (b - 48))) (le-leb _ _ small) in
      let later : 10 * v + (b - 48) ≡ 0 → bs ≡ [] = λ k. absurd (pos (omega (arith, k))) in
      (p.0, (Some (10 * v + (b - 48)), ap or_syntax goes, from_more bs (10 * v + (b - 48)) n p.1 e later le))

  abbrev Within : ℕ → List ℕ → Type 0
  Within n t = Number n t × (least ≤ n) × (n ≤ most)

  to_number : (n : ℕ) (t : List ℕ) → Text None n t → Within n t
  to_number n [] h = absurd (let e : None ≡ Some n = h in cc)
  to_number n (b ∷ bs) h =
      elim (cases_Bool (ltb (b - 48) least)) [
        | inl s ↦ absurd (let e : Err Syntax ≡ Ok h.1.0 = sym (ap or_syntax (ap (at_first (b - 48)) s)) ∙ h.1.1 in cc)
        | inr s ↦
            let range = digit_is b h.0 in
            let same : Some (b - 48) ≡ h.1.0 = sym (ap (at_first (b - 48)) s) ∙ or_syntax-ok _ h.1.0 h.1.1 in
            let r = to_more bs (b - 48) n (omega (arith, range.1, high)) (subst (λ (s : Option ℕ). Text s n bs) (sym same) h.1.2) in
            let l = r.above in
            (record { each = and_from _ _ h.0 r.each; plain = λ e. r.plain (omega (arith, e)); is = ap (λ (v : ℕ). value v bs) (zero-add (b - 48)) ∙ r.is }, omega (arith, ltb-false _ _ s, l), r.below)
      ]

  from_number : (n : ℕ) (t : List ℕ) → Within n t → Text None n t
  from_number n [] h = absurd (let m = h.0 in m.plain)
  from_number n (b ∷ bs) h =
      let m = h.0 in
      let p = and_parts (is_digit b) (list_all is_digit bs) m.each in
      let range = digit_is b p.0 in
      let is : value (b - 48) bs ≡ n = sym (ap (λ (v : ℕ). value v bs) (zero-add (b - 48))) ∙ m.is in
      let plain : b - 48 ≡ 0 → bs ≡ [] = λ z. m.plain (omega (arith, z, range.0)) in
      let enough : least ≤ b - 48 = elim (cases_Bool (eqb (b - 48) 0)) [
        | inl z ↦ (let e : b - 48 ≡ n = sym (ap (value (b - 48)) (plain (eqb-true _ _ z))) ∙ is in omega (arith, e, h.1))
        | inr z ↦ (let ne = eqb-false _ _ z in omega (arith, low, ne))
      ] in
      (p.0, (Some (b - 48), ap or_syntax (ap (at_first (b - 48)) (le-ltb _ _ enough)), from_more bs (b - 48) n p.1 is plain h.2))

  completes : (s : Option ℕ) → (z : List ℕ) × (n : ℕ) × Text s n z
  completes None = (49 ∷ [], 1, (refl, (Some 1, ap or_syntax (ap (at_first 1) (le-ltb 1 least low)), refl)))
  completes (Some n) = ([], n, refl)

  pub digits_part : {side : Speaker} → Part side true (Open is_digit) Within (digits_at least most)
  digits_part {side} = same_part to_number from_number
      (run_part side is_digit (number_go least most) read_so_far refl (λ s b k h. or_syntax-err (with_digit least most s (b - 48)) k h) completes None)

pub number_part : {side : Speaker} → Part side true (Open is_digit) NumberText number_at
number_part = same_part (λ n t h. (h.0, h.2)) (λ n t h. (h.0, omega arith, h.1)) (digits_part 0 greatest (omega arith) (omega arith))

pub nz_part : {side : Speaker} → Part side true (Open is_digit) NzText nz_at
nz_part = same_part (λ n t h. (h.0, (let l = h.1 in omega (arith, l)), h.2)) (λ n t h. (h.0, (let l = h.1 in omega (arith, l)), h.2)) (digits_part 1 greatest (omega arith) (omega arith))
