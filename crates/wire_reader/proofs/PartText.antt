-- The text that ends a line, up to and with its line end. `{5}` may stand there and is no literal, so this part stands last.
use Rattle.std.proofs.Common.{◌≡◌, ℕ, Bool, true, false, cond, eqb, List, [], ◌∷◌, ◌++◌, None, refl, sym, ap, subst, ◌∙◌, append_assoc, inl, inr}
use Rattle.std.specs.List.{list_all}
use Rattle.std.proofs.lemmas.Bool.{cases_Bool, true≢false, false≢true, eqb-true, and_parts, and_from}
use Rattle.std.proofs.lemmas.List.{append-nil}
use Rattle.wire_reader.specs.declared.side.Speaker.{Speaker}
use Rattle.wire_reader.specs.declared.lexical.Phase.{Phase}
use Rattle.wire_reader.specs.declared.lexical.Phase.TheVariants.{Digits, Return, In}
use Rattle.wire_reader.specs.declared.stop.Kind.{Kind}
use Rattle.wire_reader.specs.declared.stop.Kind.TheVariants.{Syntax}
use Rattle.wire_reader.specs.Spelling.{crlf, is_digit, LineText}
use Rattle.wire_reader.specs.Lexical.{next, is_in, asked, kind_of}
use Rattle.wire_reader.specs.Machine.{Step, On, Take, Odd, ScanText, line_step, line_at}
use Rattle.wire_reader.proofs.Reader.{Closed}
use Rattle.wire_reader.proofs.Part.{Part, same_part}
use Rattle.wire_reader.proofs.PartTokens.{scan_last}
use Rattle.wire_reader.proofs.Texty.{texty, texty-next, texty-asked, texty-kind, texty-out}

abbrev LineStep : Type 0
LineStep = Step (List ℕ × Bool) (List ℕ)

-- no number stands before the next byte, and it is no octet
abbrev calm : Phase → Bool
calm (Digits n) = false
calm (In n) = false
calm _ = true

calm-kind : (side : Speaker) (p : Phase) (b : ℕ) → calm p ≡ true → kind_of side p b ≡ Syntax
calm-kind side (Digits n) b h = absurd (false≢true h)
calm-kind side (In n) b h = absurd (false≢true h)
calm-kind side _ b h = refl

calm-out : (p : Phase) → calm p ≡ true → is_in p ≡ false
calm-out (In n) h = absurd (false≢true h)
calm-out _ h = refl

calm-cr : (p : Phase) → texty p ≡ true → calm (next p 13) ≡ true
calm-cr (Return n plus) h = absurd (false≢true h)
calm-cr (In n) h = absurd (false≢true h)
calm-cr _ h = refl

-- `holds`: a byte that the class lacks is no digit and no `+`
module _ (class : ℕ → Bool) (no_cr : class 13 ≡ false) (holds : (b : ℕ) → class b ≡ false → (is_digit b ≡ false) × (eqb b 43 ≡ false)) where
  abbrev at_end : List ℕ → Bool → LineStep
  at_end acc t = cond t (Take acc) (Odd Syntax)

  abbrev at_cr : List ℕ → ℕ → Bool → LineStep
  at_cr acc b t = cond t (On (acc, true)) (cond (class b) (On (acc ++ b ∷ [], false)) (Odd Syntax))

  abbrev at_class : List ℕ → ℕ → Bool → LineStep
  at_class acc b t = cond t (On (acc ++ b ∷ [], false)) (Odd Syntax)

  on_is : (s t : List ℕ × Bool) → (let o : LineStep = On s in o ≡ On t) → s ≡ t
  on_is s t h = cc

  not_on : (s : List ℕ × Bool) (a : List ℕ) → (let o : LineStep = On s in o ≡ Take a) → ⊥
  not_on s a h = cc

  odd_on : (k : Kind) (s : List ℕ × Bool) → (let o : LineStep = Odd k in o ≡ On s) → ⊥
  odd_on k s h = cc

  odd_take : (k : Kind) (a : List ℕ) → (let o : LineStep = Odd k in o ≡ Take a) → ⊥
  odd_take k a h = cc

  take_is : (a b : List ℕ) → (let o : LineStep = Take a in o ≡ Take b) → a ≡ b
  take_is a b h = cc

  on_odd : (s : List ℕ × Bool) (k : Kind) → (let o : LineStep = On s in o ≡ Odd k) → ⊥
  on_odd s k h = cc

  take_odd : (a : List ℕ) (k : Kind) → (let o : LineStep = Take a in o ≡ Odd k) → ⊥
  take_odd a k h = cc

  odd_is : (k l : Kind) → (let o : LineStep = Odd k in o ≡ Odd l) → k ≡ l
  odd_is k l h = cc

  -- ---- the texts

  after_cr : (acc a t : List ℕ) → ScanText (line_step class) (acc, true) a t → (t ≡ 10 ∷ []) × (acc ≡ a)
  after_cr acc a [] h = absurd h
  after_cr acc a (b ∷ bs) (inl h) =
      elim (cases_Bool (eqb b 10)) [
        | inl e ↦ absurd (not_on h.0 acc (sym h.1 ∙ ap (at_end acc) e))
        | inr e ↦ absurd (odd_on Syntax h.0 (sym (ap (at_end acc) e) ∙ h.1))
      ]
  after_cr acc a (b ∷ bs) (inr h) =
      elim (cases_Bool (eqb b 10)) [
        | inl e ↦ (ap (λ (x : ℕ). x ∷ bs) (eqb-true b 10 e) ∙ ap (λ (x : List ℕ). 10 ∷ x) h.1, take_is acc a (sym (ap (at_end acc) e) ∙ h.0))
        | inr e ↦ absurd (odd_take Syntax a (sym (ap (at_end acc) e) ∙ h.0))
      ]

  -- what is still to come of a text
  abbrev Rest : List ℕ → List ℕ → List ℕ → Type 0
  Rest acc a t = (ds : List ℕ) × (a ≡ acc ++ ds) × (t ≡ ds ++ crlf) × (list_all class ds ≡ true)

  line_to : (t acc a : List ℕ) → ScanText (line_step class) (acc, false) a t → Rest acc a t
  line_to [] acc a h = absurd h
  line_to (b ∷ bs) acc a (inr h) =
      elim (cases_Bool (eqb b 13)) [
        | inl e ↦ absurd (not_on (acc, true) a (sym (ap (at_cr acc b) e) ∙ h.0))
        | inr e ↦
            elim (cases_Bool (class b)) [
              | inl f ↦ absurd (not_on (acc ++ b ∷ [], false) a (sym (ap (at_cr acc b) e ∙ ap (at_class acc b) f) ∙ h.0))
              | inr f ↦ absurd (odd_take Syntax a (sym (ap (at_cr acc b) e ∙ ap (at_class acc b) f) ∙ h.0))
            ]
      ]
  line_to (b ∷ bs) acc a (inl h) =
      elim (cases_Bool (eqb b 13)) [
        | inl e ↦
            let same : (acc, true) ≡ h.0 = on_is (acc, true) h.0 (sym (ap (at_cr acc b) e) ∙ h.1) in
            let r = after_cr acc a bs (subst (λ (x : List ℕ × Bool). ScanText (line_step class) x a bs) (sym same) h.2) in
            ([], sym r.1 ∙ sym (append-nil acc), ap (λ (x : ℕ). x ∷ bs) (eqb-true b 13 e) ∙ ap (λ (x : List ℕ). 13 ∷ x) r.0, refl)
        | inr e ↦
            elim (cases_Bool (class b)) [
              | inl f ↦
                  let same : (acc ++ b ∷ [], false) ≡ h.0 = on_is (acc ++ b ∷ [], false) h.0 (sym (ap (at_cr acc b) e ∙ ap (at_class acc b) f) ∙ h.1) in
                  let r = line_to bs (acc ++ b ∷ []) a (subst (λ (x : List ℕ × Bool). ScanText (line_step class) x a bs) (sym same) h.2) in
                  (b ∷ r.0, r.1 ∙ append_assoc acc (b ∷ []) r.0, ap (λ (x : List ℕ). b ∷ x) r.2, and_from _ _ f r.3)
              | inr f ↦ absurd (odd_on Syntax h.0 (sym (ap (at_cr acc b) e ∙ ap (at_class acc b) f) ∙ h.1))
            ]
      ]

  no_13 : (b : ℕ) → class b ≡ true → eqb b 13 ≡ false
  no_13 b h = elim (cases_Bool (eqb b 13)) [ inl e ↦ absurd (true≢false (sym h ∙ ap class (eqb-true b 13 e) ∙ no_cr)) | inr e ↦ e ]

  line_from : (ds acc a : List ℕ) → a ≡ acc ++ ds → list_all class ds ≡ true → ScanText (line_step class) (acc, false) a (ds ++ crlf)
  line_from [] acc a e all = inl ((acc, true), refl, inr (ap (λ (x : List ℕ). let o : LineStep = Take x in o) (sym (append-nil acc) ∙ sym e), refl))
  line_from (b ∷ ds) acc a e all =
      let q = and_parts _ _ all in
      inl ((acc ++ b ∷ [], false), ap (at_cr acc b) (no_13 b q.0) ∙ ap (at_class acc b) q.0, line_from ds (acc ++ b ∷ []) a (e ∙ sym (append_assoc acc (b ∷ []) ds)) q.1)

  -- ---- the phases

  abbrev Stands : List ℕ × Bool → Phase → Type 0
  Stands (acc, true) p = calm p ≡ true
  Stands (acc, false) p = texty p ≡ true

  module _ (side : Speaker) where
    keeps : (s t : List ℕ × Bool) (p : Phase) (b : ℕ) → Stands s p → line_step class s b ≡ On t → Stands t (next p b) × (asked side p b ≡ None)
    keeps (acc, true) t p b i h =
        elim (cases_Bool (eqb b 10)) [
          | inl e ↦ absurd (not_on t acc (sym h ∙ ap (at_end acc) e))
          | inr e ↦ absurd (odd_on Syntax t (sym (ap (at_end acc) e) ∙ h))
        ]
    keeps (acc, false) t p b i h =
        elim (cases_Bool (eqb b 13)) [
          | inl e ↦
              let there : Stands (acc, true) (next p b) = ap (λ (c : ℕ). calm (next p c)) (eqb-true b 13 e) ∙ calm-cr p i in
              (subst (λ (x : List ℕ × Bool). Stands x (next p b)) (on_is (acc, true) t (sym (ap (at_cr acc b) e) ∙ h)) there, texty-asked side p b i)
          | inr e ↦
              elim (cases_Bool (class b)) [
                | inl f ↦
                    let there : Stands (acc ++ b ∷ [], false) (next p b) = texty-next p b i e in
                    (subst (λ (x : List ℕ × Bool). Stands x (next p b)) (on_is (acc ++ b ∷ [], false) t (sym (ap (at_cr acc b) e ∙ ap (at_class acc b) f) ∙ h)) there, texty-asked side p b i)
                | inr f ↦ absurd (odd_on Syntax t (sym (ap (at_cr acc b) e ∙ ap (at_class acc b) f) ∙ h))
              ]
        ]

    odd : (s : List ℕ × Bool) (p : Phase) (b : ℕ) (k : Kind) → Stands s p → line_step class s b ≡ Odd k → kind_of side p b ≡ k
    odd (acc, true) p b k i h =
        elim (cases_Bool (eqb b 10)) [
          | inl e ↦ absurd (take_odd acc k (sym (ap (at_end acc) e) ∙ h))
          | inr e ↦ calm-kind side p b i ∙ odd_is Syntax k (sym (ap (at_end acc) e) ∙ h)
        ]
    odd (acc, false) p b k i h =
        elim (cases_Bool (eqb b 13)) [
          | inl e ↦ absurd (on_odd (acc, true) k (sym (ap (at_cr acc b) e) ∙ h))
          | inr e ↦
              elim (cases_Bool (class b)) [
                | inl f ↦ absurd (on_odd (acc ++ b ∷ [], false) k (sym (ap (at_cr acc b) e ∙ ap (at_class acc b) f) ∙ h))
                | inr f ↦ let q = holds b f in texty-kind side p b q.0 q.1 ∙ odd_is Syntax k (sym (ap (at_cr acc b) e ∙ ap (at_class acc b) f) ∙ h)
              ]
        ]

    out : (s : List ℕ × Bool) (p : Phase) → Stands s p → is_in p ≡ false
    out (acc, true) p i = calm-out p i
    out (acc, false) p i = texty-out p i

    completes : (s : List ℕ × Bool) → (z : List ℕ) × (a : List ℕ) × ScanText (line_step class) s a z
    completes (acc, true) = (10 ∷ [], acc, inr (refl, refl))
    completes (acc, false) = (crlf, acc, inl ((acc, true), refl, inr (refl, refl)))

    pub line_part : Part side false Closed (LineText class) (line_at class)
    line_part = same_part
        (λ a t h. let r = line_to t [] a h in (r.2 ∙ ap (λ (x : List ℕ). x ++ crlf) (sym r.1), ap (list_all class) r.1 ∙ r.3))
        (λ a t h. subst (ScanText (line_step class) ([], false) a) (sym h.0) (line_from a [] a refl h.1))
        (scan_last side (line_step class) Stands keeps odd out completes ([], false) refl)
