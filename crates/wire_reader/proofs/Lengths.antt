-- The length of a literal, as a number without leading zero.
use Rattle.std.proofs.Common.{◌≡◌, ℕ, ◌+◌, ◌*◌, ◌-◌, ◌≤◌, Bool, true, false, cond, eqb, List, [], ◌∷◌, ◌++◌, length, Option, None, Some, refl, sym, ap, subst, ◌∙◌, inl, inr, zero-add, arith}
use Rattle.std.specs.List.{list_all}
use Rattle.std.proofs.lemmas.Bool.{cases_Bool, eqb-true, ne_eqb, le-leb, and_parts, and_from}
use Rattle.wire_reader.specs.declared.side.Speaker.{Speaker}
use Rattle.wire_reader.specs.declared.side.Speaker.TheVariants.{Commands, Replies}
use Rattle.wire_reader.specs.declared.stop.Kind.{Kind}
use Rattle.wire_reader.specs.declared.stop.Kind.TheVariants.{Syntax, TooLong}
use Rattle.wire_reader.specs.Spelling.{is_digit}
use Rattle.wire_reader.specs.Lexical.{literal_limit, plus_limit}
use Rattle.wire_reader.specs.Machine.{On, Take, Odd, ScanText}
use Rattle.wire_reader.specs.Literal.{value, Number, MayPlus, close_text, LengthText, length_step, length_at}
use Rattle.wire_reader.proofs.Reader.{Closed, Reader}
use Rattle.wire_reader.proofs.Parts.{same_reader}
use Rattle.wire_reader.proofs.Scans.{scan_reader}
use Rattle.wire_reader.proofs.LengthSteps.{LengthStep, Closes, Pluses, Counts, Refuses, stepped, digit_is}

module _ (side : Speaker) where
  abbrev Text : Option (ℕ × Bool) → ℕ × Bool → List ℕ → Type 0
  Text s p t = ScanText (length_step side) s p t

  -- the digits that follow a value v which may go on
  record More (v : ℕ) (p : ℕ × Bool) (t : List ℕ) : Type 0 where
    digits : List ℕ
    parts : t ≡ digits ++ close_text p.1
    each : list_all is_digit digits ≡ true
    is : value v digits ≡ p.0
    plain : v ≡ 0 → digits ≡ []
    plus : MayPlus side p.1
    most : p.0 ≤ cond p.1 plus_limit literal_limit

  pub on_not_take : (s : Option (ℕ × Bool)) (p : ℕ × Bool) → (let o : LengthStep = On s in o ≡ Take p) → ⊥
  on_not_take s p h = cc

  pub odd_not_on : (k : Kind) (s : Option (ℕ × Bool)) → (let o : LengthStep = Odd k in o ≡ On s) → ⊥
  odd_not_on k s h = cc

  pub odd_not_take : (k : Kind) (p : ℕ × Bool) → (let o : LengthStep = Odd k in o ≡ Take p) → ⊥
  odd_not_take k p h = cc

  pub on_is : (s t : Option (ℕ × Bool)) → (let o : LengthStep = On s in o ≡ On t) → s ≡ t
  on_is s t h = cc

  pub take_is : (p q : ℕ × Bool) → (let o : LengthStep = Take p in o ≡ Take q) → p ≡ q
  take_is p q h = cc

  abbrev at_end : ℕ → Bool → LengthStep
  at_end n t = cond t (Take (n, true)) (Odd Syntax)

  -- after the plus stands the brace
  after_plus : (n : ℕ) (p : ℕ × Bool) (t : List ℕ) → Text (Some (n, true)) p t → (t ≡ 125 ∷ []) × ((n, true) ≡ p)
  after_plus n p [] h = absurd h
  after_plus n p (b ∷ bs) (inl h) =
      elim (cases_Bool (eqb b 125)) [
        | inl e ↦ absurd (on_not_take h.0 (n, true) (sym h.1 ∙ ap (at_end n) e))
        | inr e ↦ absurd (odd_not_on Syntax h.0 (sym (ap (at_end n) e) ∙ h.1))
      ]
  after_plus n p (b ∷ bs) (inr h) =
      elim (cases_Bool (eqb b 125)) [
        | inl e ↦ (ap (λ (x : ℕ). x ∷ bs) (eqb-true b 125 e) ∙ ap (λ (x : List ℕ). 125 ∷ x) h.1, take_is (n, true) p (sym (ap (at_end n) e) ∙ h.0))
        | inr e ↦ absurd (odd_not_take Syntax p (sym (ap (at_end n) e) ∙ h.0))
      ]

  to_more : (t : List ℕ) (v : ℕ) (p : ℕ × Bool) → Text (Some (v, false)) p t → v ≤ 16777238 → More v p t
  to_more [] v p h le = absurd h
  to_more (b ∷ bs) v p (inr h) le = elim (stepped side v b) [
    | Closes e g ↦
        subst (λ (q : ℕ × Bool). More v q (b ∷ bs)) (take_is (v, false) p (sym g ∙ h.0))
        (record { digits = []; parts = ap (λ (x : ℕ). x ∷ bs) e ∙ ap (λ (x : List ℕ). 125 ∷ x) h.1; each = refl; is = refl; plain = λ _. refl; plus = no_plus side; most = le })
    | Pluses e m s g ↦ absurd (on_not_take (Some (v, true)) p (sym g ∙ h.0))
    | Counts d z m g ↦ absurd (on_not_take (Some (10 * v + (b - 48), false)) p (sym g ∙ h.0))
    | Refuses k o g ↦ absurd (odd_not_take k p (sym g ∙ h.0))
  ]
    where
      no_plus : (s : Speaker) → MayPlus s false
      no_plus Commands = tt
      no_plus Replies = tt
  to_more (b ∷ bs) v p (inl h) le = elim (stepped side v b) [
    | Closes e g ↦ absurd (on_not_take h.0 (v, false) (sym h.1 ∙ g))
    | Pluses e may s g ↦
        let same : Some (v, true) ≡ h.0 = on_is (Some (v, true)) h.0 (sym g ∙ h.1) in
        let r = after_plus v p bs (subst (λ (x : Option (ℕ × Bool)). Text x p bs) (sym same) h.2) in
        let text : b ∷ bs ≡ 43 ∷ 125 ∷ [] = ap (λ (x : ℕ). x ∷ bs) e ∙ ap (λ (x : List ℕ). 43 ∷ x) r.0 in
        subst (λ (q : ℕ × Bool). More v q (b ∷ bs)) r.1 (record { digits = []; parts = text; each = refl; is = refl; plain = λ _. refl; plus = may; most = s })
    | Counts d z m g ↦
        let same : Some (10 * v + (b - 48), false) ≡ h.0 = on_is (Some (10 * v + (b - 48), false)) h.0 (sym g ∙ h.1) in
        let r = to_more bs (10 * v + (b - 48)) p (subst (λ (x : Option (ℕ × Bool)). Text x p bs) (sym same) h.2) m in
        record { digits = b ∷ r.digits; parts = ap (λ (y : List ℕ). b ∷ y) r.parts; each = and_from _ _ d r.each; is = r.is; plain = λ v0. absurd (z v0); plus = r.plus; most = r.most }
    | Refuses k o g ↦ absurd (odd_not_on k h.0 (sym g ∙ h.1))
  ]

  abbrev at_first : ℕ → Bool → LengthStep
  at_first b t = cond t (On (Some (b - 48, false))) (Odd Syntax)

  to_length : (p : ℕ × Bool) (t : List ℕ) → Text None p t → LengthText side p t
  to_length p [] h = absurd h
  to_length p (b ∷ bs) (inr h) =
      elim (cases_Bool (is_digit b)) [
        | inl d ↦ absurd (on_not_take (Some (b - 48, false)) p (sym (ap (at_first b) d) ∙ h.0))
        | inr d ↦ absurd (odd_not_take Syntax p (sym (ap (at_first b) d) ∙ h.0))
      ]
  to_length p (b ∷ bs) (inl h) =
      elim (cases_Bool (is_digit b)) [
        | inl d ↦
            let range = digit_is b d in
            let same : Some (b - 48, false) ≡ h.0 = on_is (Some (b - 48, false)) h.0 (sym (ap (at_first b) d) ∙ h.1) in
            let r = to_more bs (b - 48) p (subst (λ (x : Option (ℕ × Bool)). Text x p bs) (sym same) h.2) (omega arith) in
            record {
              digits = b ∷ r.digits;
              parts = ap (λ (y : List ℕ). b ∷ y) r.parts;
              number = record { each = and_from _ _ d r.each; plain = λ b0. r.plain (omega (arith, b0)); is = ap (λ (k : ℕ). value k r.digits) (zero-add (b - 48)) ∙ r.is };
              plus = r.plus;
              most = r.most;
            }
        | inr d ↦ absurd (odd_not_on Syntax h.0 (sym (ap (at_first b) d) ∙ h.1))
      ]

  -- ---- and back

  value_le : (ds : List ℕ) (v : ℕ) → v ≤ value v ds
  value_le [] v = omega arith
  value_le (d ∷ ds) v = let r = value_le ds (10 * v + (d - 48)) in omega (arith, r)

  plus_goes : (n : ℕ) → n ≤ plus_limit → MayPlus side true → length_step side (Some (n, false)) 43 ≡ On (Some (n, true))
  plus_goes n le may = by_side side may
    where
      by_side : (s : Speaker) → MayPlus s true → length_step s (Some (n, false)) 43 ≡ On (Some (n, true))
      by_side Commands m = ap (λ (t : Bool). let o : LengthStep = cond t (On (Some (n, true))) (Odd TooLong) in o) (le-leb n plus_limit le)
      by_side Replies m = absurd m

  digit_goes : (v d : ℕ) → is_digit d ≡ true → (v ≡ 0 → ⊥) → 10 * v + (d - 48) ≤ 16777238 → length_step side (Some (v, false)) d ≡ On (Some (10 * v + (d - 48), false))
  digit_goes v d h z le = elim (stepped side v d) [
    | Closes e g ↦ absurd (let r = digit_is d h in omega (arith, e))
    | Pluses e m s g ↦ absurd (let r = digit_is d h in omega (arith, e))
    | Counts _ _ _ g ↦ g
    | Refuses k o g ↦ by_steps v d h z le
  ]
    where
      by_steps : (v d : ℕ) → is_digit d ≡ true → (v ≡ 0 → ⊥) → 10 * v + (d - 48) ≤ 16777238 → length_step side (Some (v, false)) d ≡ On (Some (10 * v + (d - 48), false))
      by_steps v d h z le =
          let r = digit_is d h in
          let no_close : eqb d 125 ≡ false = ne_eqb d 125 (λ e. omega (arith, e)) in
          let no_plus : eqb d 43 ≡ false = ne_eqb d 43 (λ e. omega (arith, e)) in
          let pos : eqb v 0 ≡ false = ne_eqb v 0 z in
          rw (no_close, no_plus, h, pos, le-leb (10 * v + (d - 48)) 16777238 le) refl

  from_more : (ds : List ℕ) (v n : ℕ) (plus : Bool) → list_all is_digit ds ≡ true → value v ds ≡ n → (v ≡ 0 → ds ≡ []) → MayPlus side plus → n ≤ cond plus plus_limit literal_limit → n ≤ 16777238 → Text (Some (v, false)) (n, plus) (ds ++ close_text plus)
  from_more [] v n true each e z may most le =
      inl (Some (v, true), plus_goes v (omega (arith, e, most)) may, inr (ap (λ (k : ℕ). let o : LengthStep = Take (k, true) in o) e, refl))
  from_more [] v n false each e z may most le = inr (ap (λ (k : ℕ). let o : LengthStep = Take (k, false) in o) e, refl)
  from_more (d ∷ ds) v n plus each e z may most le =
      let p = and_parts _ _ each in
      let pos : v ≡ 0 → ⊥ = λ v0. (let w : length (d ∷ ds) ≡ 0 = ap length (z v0) in omega (arith, w)) in
      let small : 10 * v + (d - 48) ≤ 16777238 = omega (arith, value_le ds (10 * v + (d - 48)), e, le) in
      let later : 10 * v + (d - 48) ≡ 0 → ds ≡ [] = λ k. absurd (pos (omega (arith, k))) in
      inl (Some (10 * v + (d - 48), false), digit_goes v d p.0 pos small, from_more ds (10 * v + (d - 48)) n plus p.1 e later may most le)

  from_length : (p : ℕ × Bool) (t : List ℕ) → LengthText side p t → Text None p t
  from_length p t l = subst (Text None p) (sym l.parts) (by_digits l.digits l.number)
    where
      le_of : (plus : Bool) (n : ℕ) → n ≤ cond plus plus_limit literal_limit → n ≤ 16777238
      le_of true n h = omega (arith, h)
      le_of false n h = h

      by_digits : (ds : List ℕ) → Number p.0 ds → Text None p (ds ++ close_text p.1)
      by_digits [] m = absurd m.plain
      by_digits (d ∷ ds) m =
          let q = and_parts _ _ m.each in
          let range = digit_is d q.0 in
          inl (
            Some (d - 48, false),
            ap (at_first d) q.0,
            from_more ds (d - 48) p.0 p.1 q.1 (sym (ap (λ (k : ℕ). value k ds) (zero-add (d - 48))) ∙ m.is) (λ k. m.plain (omega (arith, k, range.0))) l.plus l.most (le_of p.1 p.0 l.most),
          )

  length_completes : (s : Option (ℕ × Bool)) → (z : List ℕ) × (p : ℕ × Bool) × ScanText (length_step side) s p z
  length_completes None = (49 ∷ 125 ∷ [], (1, false), inl (Some (1, false), refl, inr (refl, refl)))
  length_completes (Some (n, true)) = (125 ∷ [], (n, true), inr (refl, refl))
  length_completes (Some (n, false)) = (125 ∷ [], (n, false), inr (refl, refl))

  pub length_reader : Reader Closed (LengthText side) (length_at side)
  length_reader = same_reader to_length from_length (scan_reader (length_step side) length_completes None)

  -- the texts of a length, step by step
  pub length_scanned : (p : ℕ × Bool) (t : List ℕ) → LengthText side p t → ScanText (length_step side) None p t
  length_scanned p t l = from_length p t l
