-- The steps over a literal's length, with what each says about the byte.
use Rattle.std.proofs.Common.{◌≡◌, ℕ, ◌+◌, ◌*◌, ◌-◌, ◌≤◌, Bool, true, false, cond, eqb, leb, ltb, ◌&&◌, Option, Some, refl, ap, ◌∙◌, inl, inr, arith}
use Rattle.std.proofs.lemmas.Bool.{cases_Bool, eqb-true, eqb-false, leb-true, leb-false, lt-ltb, le-ltb, and_parts}
use Rattle.wire_reader.specs.declared.side.Speaker.{Speaker}
use Rattle.wire_reader.specs.declared.side.Speaker.TheVariants.{Commands, Replies}
use Rattle.wire_reader.specs.declared.lexical.Phase.TheVariants.{Digits}
use Rattle.wire_reader.specs.declared.stop.Kind.{Kind}
use Rattle.wire_reader.specs.declared.stop.Kind.TheVariants.{Syntax, TooLong}
use Rattle.wire_reader.specs.Spelling.{is_digit}
use Rattle.wire_reader.specs.Lexical.{literal_limit, plus_limit, over_by, kind_of}
use Rattle.wire_reader.specs.Machine.{Step, On, Take, Odd}
use Rattle.wire_reader.specs.Literal.{MayPlus, more_digits, plus_step, length_step}

abbrev pub LengthStep : Type 0
LengthStep = Step (Option (ℕ × Bool)) (ℕ × Bool)

-- what a byte does after the number v
pub data Stepped (side : Speaker) (v b : ℕ) : Type 0 where
  Closes : b ≡ 125 → length_step side (Some (v, false)) b ≡ Take (v, false) → Stepped side v b
  Pluses : b ≡ 43 → MayPlus side true → v ≤ 4096 → length_step side (Some (v, false)) b ≡ On (Some (v, true)) → Stepped side v b
  Counts : is_digit b ≡ true → (v ≡ 0 → ⊥) → 10 * v + (b - 48) ≤ 16777238 → length_step side (Some (v, false)) b ≡ On (Some (10 * v + (b - 48), false)) → Stepped side v b
  Refuses : (k : Kind) → kind_of side (Digits v) b ≡ k → length_step side (Some (v, false)) b ≡ Odd k → Stepped side v b

pub digit_is : (b : ℕ) → is_digit b ≡ true → (48 ≤ b) × (b ≤ 57)
digit_is b h = let p = and_parts _ _ h in (leb-true 48 b p.0, leb-true b 57 p.1)

abbrev kind_if : Bool → Kind
kind_if t = cond t TooLong Syntax

over_digit : (side : Speaker) (v b : ℕ) → eqb b 43 ≡ false → over_by side v b ≡ (is_digit b && ltb literal_limit (10 * v + (b - 48)))
over_digit Commands v b e = ap (λ (t : Bool). cond t (ltb plus_limit v) (is_digit b && ltb literal_limit (10 * v + (b - 48)))) e
over_digit Replies v b e = refl

abbrev at_more : ℕ → ℕ → Bool → LengthStep
at_more v b t = cond t (On (Some (10 * v + (b - 48), false))) (Odd TooLong)

abbrev at_zero : ℕ → ℕ → Bool → LengthStep
at_zero v b t = cond t (Odd Syntax) (more_digits (10 * v + (b - 48)))

abbrev at_digit : ℕ → ℕ → Bool → LengthStep
at_digit v b t = cond t (cond (eqb v 0) (Odd Syntax) (more_digits (10 * v + (b - 48)))) (Odd Syntax)

abbrev at_plus : Speaker → ℕ → ℕ → Bool → LengthStep
at_plus side v b t = cond t (plus_step side v) (cond (is_digit b) (cond (eqb v 0) (Odd Syntax) (more_digits (10 * v + (b - 48)))) (Odd Syntax))

abbrev at_close : Speaker → ℕ → ℕ → Bool → LengthStep
at_close side v b t = cond t (Take (v, false)) (cond (eqb b 43) (plus_step side v) (cond (is_digit b) (cond (eqb v 0) (Odd Syntax) (more_digits (10 * v + (b - 48)))) (Odd Syntax)))

abbrev at_small : ℕ → Bool → LengthStep
at_small v t = cond t (On (Some (v, true))) (Odd TooLong)

-- a byte that neither closes nor is a plus
counted : (side : Speaker) (v b : ℕ) → eqb b 125 ≡ false → eqb b 43 ≡ false → Stepped side v b
counted side v b c p =
    let there : length_step side (Some (v, false)) b ≡ at_digit v b (is_digit b) = ap (at_close side v b) c ∙ ap (at_plus side v b) p in
    elim (cases_Bool (is_digit b)) [
      | inr d ↦ Refuses Syntax (ap kind_if (over_digit side v b p ∙ ap (λ (t : Bool). t && ltb literal_limit (10 * v + (b - 48))) d)) (there ∙ ap (at_digit v b) d)
      | inl d ↦
          let range = digit_is b d in
          let over : over_by side v b ≡ ltb literal_limit (10 * v + (b - 48)) = over_digit side v b p ∙ ap (λ (t : Bool). t && ltb literal_limit (10 * v + (b - 48))) d in
          elim (cases_Bool (eqb v 0)) [
            | inl z ↦
                let zero = eqb-true v 0 z in
                Refuses Syntax (ap kind_if (over ∙ le-ltb _ _ (omega (arith, zero, range.1)))) (there ∙ ap (at_digit v b) d ∙ ap (at_zero v b) z)
            | inr z ↦
                elim (cases_Bool (leb (10 * v + (b - 48)) literal_limit)) [
                  | inl m ↦ Counts d (eqb-false v 0 z) (leb-true _ _ m) (there ∙ ap (at_digit v b) d ∙ ap (at_zero v b) z ∙ ap (at_more v b) m)
                  | inr m ↦ Refuses TooLong (ap kind_if (over ∙ lt-ltb _ _ (leb-false _ _ m))) (there ∙ ap (at_digit v b) d ∙ ap (at_zero v b) z ∙ ap (at_more v b) m)
                ]
          ]
    ]

plus_by : (side : Speaker) (v b : ℕ) → eqb b 125 ≡ false → eqb b 43 ≡ true → Stepped side v b
plus_by Commands v b c p =
    let there : length_step Commands (Some (v, false)) b ≡ at_small v (leb v plus_limit) = ap (at_close Commands v b) c ∙ ap (at_plus Commands v b) p in
    elim (cases_Bool (leb v plus_limit)) [
      | inl m ↦ Pluses (eqb-true b 43 p) tt (leb-true v plus_limit m) (there ∙ ap (at_small v) m)
      | inr m ↦ Refuses TooLong (ap kind_if (ap (λ (t : Bool). cond t (ltb plus_limit v) (is_digit b && ltb literal_limit (10 * v + (b - 48)))) p ∙ lt-ltb _ _ (leb-false _ _ m))) (there ∙ ap (at_small v) m)
    ]
plus_by Replies v b c p =
    let there : length_step Replies (Some (v, false)) b ≡ Odd Syntax = ap (at_close Replies v b) c ∙ ap (at_plus Replies v b) p in
    let no_digit : is_digit b ≡ false = ap is_digit (eqb-true b 43 p) in
    Refuses Syntax (ap kind_if (ap (λ (t : Bool). t && ltb literal_limit (10 * v + (b - 48))) no_digit)) there

pub stepped : (side : Speaker) (v b : ℕ) → Stepped side v b
stepped side v b =
    elim (cases_Bool (eqb b 125)) [
      | inl c ↦ Closes (eqb-true b 125 c) (ap (at_close side v b) c)
      | inr c ↦ elim (cases_Bool (eqb b 43)) [ inl p ↦ plus_by side v b c p | inr p ↦ counted side v b c p ]
    ]
