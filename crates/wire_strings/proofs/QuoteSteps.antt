-- What a byte does between quotes.
use Rattle.std.proofs.Common.{◌≡◌, ℕ, Bool, true, false, cond, eqb, ◌||◌, List, [], ◌∷◌, ◌++◌, ap, ◌∙◌, inl, inr}
use Rattle.std.proofs.lemmas.Bool.{cases_Bool, eqb-true}
use Rattle.wire_reader.specs.declared.stop.Kind.{Kind}
use Rattle.wire_reader.specs.declared.stop.Kind.TheVariants.{Syntax}
use Rattle.wire_reader.specs.Machine.{Step, On, Take, Odd}
use Rattle.wire_strings.specs.Texts.{is_text}
use Rattle.wire_strings.specs.Quotes.{is_special, raw_step}

abbrev pub RawStep : Type 0
RawStep = Step (List ℕ × Bool) (List ℕ)

pub data Stepped (acc : List ℕ) (b : ℕ) : Bool → Type 0 where
  Closes : b ≡ 34 → raw_step (acc, false) b ≡ Take acc → Stepped acc b false
  Escapes : b ≡ 92 → raw_step (acc, false) b ≡ On (acc ++ b ∷ [], true) → Stepped acc b false
  Stands : is_special b ≡ false → is_text b ≡ true → raw_step (acc, false) b ≡ On (acc ++ b ∷ [], false) → Stepped acc b false
  Refuses : is_text b ≡ false → raw_step (acc, false) b ≡ Odd Syntax → Stepped acc b false
  Follows : is_special b ≡ true → raw_step (acc, true) b ≡ On (acc ++ b ∷ [], false) → Stepped acc b true
  Lacks : is_special b ≡ false → raw_step (acc, true) b ≡ Odd Syntax → Stepped acc b true

abbrev at_slash : List ℕ → ℕ → Bool → RawStep
at_slash acc b t = cond t (On (acc ++ b ∷ [], false)) (Odd Syntax)

abbrev at_escape : List ℕ → ℕ → Bool → RawStep
at_escape acc b t = cond t (On (acc ++ b ∷ [], true)) (cond (is_text b) (On (acc ++ b ∷ [], false)) (Odd Syntax))

abbrev at_quote : List ℕ → ℕ → Bool → RawStep
at_quote acc b t = cond t (Take acc) (cond (eqb b 92) (On (acc ++ b ∷ [], true)) (cond (is_text b) (On (acc ++ b ∷ [], false)) (Odd Syntax)))

pub stepped : (acc : List ℕ) (b : ℕ) (slash : Bool) → Stepped acc b slash
stepped acc b true = elim (cases_Bool (is_special b)) [
  | inl s ↦ Follows s (ap (at_slash acc b) s)
  | inr s ↦ Lacks s (ap (at_slash acc b) s)
]
stepped acc b false =
    elim (cases_Bool (eqb b 34)) [
      | inl q ↦ Closes (eqb-true b 34 q) (ap (at_quote acc b) q)
      | inr q ↦
          elim (cases_Bool (eqb b 92)) [
            | inl s ↦ Escapes (eqb-true b 92 s) (ap (at_quote acc b) q ∙ ap (at_escape acc b) s)
            | inr s ↦
                let plain : is_special b ≡ false = ap (λ (x : Bool). x || eqb b 92) q ∙ s in
                elim (cases_Bool (is_text b)) [
                  | inl t ↦ Stands plain t (ap (at_quote acc b) q ∙ ap (at_escape acc b) s ∙ ap (at_slash acc b) t)
                  | inr t ↦ Refuses t (ap (at_quote acc b) q ∙ ap (at_escape acc b) s ∙ ap (at_slash acc b) t)
                ]
          ]
    ]

pub on_is : (s t : List ℕ × Bool) → (let o : RawStep = On s in o ≡ On t) → s ≡ t
on_is s t h = cc

pub on_not_take : (s : List ℕ × Bool) (a : List ℕ) → (let o : RawStep = On s in o ≡ Take a) → ⊥
on_not_take s a h = cc

pub on_not_odd : (s : List ℕ × Bool) (k : Kind) → (let o : RawStep = On s in o ≡ Odd k) → ⊥
on_not_odd s k h = cc

pub take_is : (a b : List ℕ) → (let o : RawStep = Take a in o ≡ Take b) → a ≡ b
take_is a b h = cc

pub take_not_odd : (a : List ℕ) (k : Kind) → (let o : RawStep = Take a in o ≡ Odd k) → ⊥
take_not_odd a k h = cc

pub odd_is : (k l : Kind) → (let o : RawStep = Odd k in o ≡ Odd l) → k ≡ l
odd_is k l h = cc

pub odd_not_on : (k : Kind) (s : List ℕ × Bool) → (let o : RawStep = Odd k in o ≡ On s) → ⊥
odd_not_on k s h = cc

pub odd_not_take : (k : Kind) (a : List ℕ) → (let o : RawStep = Odd k in o ≡ Take a) → ⊥
odd_not_take k a h = cc
