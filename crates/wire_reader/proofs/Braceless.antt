-- Texts without `{`: no literal begins in them.
use Rattle.std.proofs.Common.{◌≡◌, ℕ, Bool, true, false, not, cond, eqb, List, [], ◌∷◌, map, None, refl, sym, ap, ◌∙◌, inl, inr}
use Rattle.std.specs.List.{list_all}
use Rattle.std.proofs.lemmas.Bool.{cases_Bool, true≢false, false≢true, eqb-true, and_parts, and_from, not-true}
use Rattle.wire_reader.specs.declared.side.Speaker.{Speaker}
use Rattle.wire_reader.specs.declared.lexical.Phase.{Phase}
use Rattle.wire_reader.specs.declared.lexical.Phase.TheVariants.{Plain, Brace}
use Rattle.wire_reader.specs.Lexical.{next, phase, asks_from}
use Rattle.wire_reader.specs.Spelling.{upper, Word}
use Rattle.wire_reader.proofs.Lexed.{asks-step}

abbrev pub no_brace : ℕ → Bool
no_brace b = not (eqb b 123)

abbrev pub braceless : List ℕ → Bool
braceless xs = list_all no_brace xs

pub stays_plain : (b : ℕ) → no_brace b ≡ true → next Plain b ≡ Plain
stays_plain b h = ap (λ (x : Bool). cond x Brace Plain) (not-true _ h)

pub braceless-phase : (t : List ℕ) → braceless t ≡ true → phase Plain t ≡ Plain
braceless-phase [] h = refl
braceless-phase (b ∷ t) h = let p = and_parts _ _ h in ap (λ (x : Phase). phase x t) (stays_plain b p.0) ∙ braceless-phase t p.1

pub braceless-asks : (side : Speaker) (t : List ℕ) → braceless t ≡ true → asks_from side Plain t ≡ None
braceless-asks side [] h = refl
braceless-asks side (b ∷ t) h = let p = and_parts _ _ h in asks-step side Plain b t refl ∙ ap (λ (x : Phase). asks_from side x t) (stays_plain b p.0) ∙ braceless-asks side t p.1

-- a byte of a class that lacks `{`
pub lacks_brace : (class : ℕ → Bool) → class 123 ≡ false → (b : ℕ) → class b ≡ true → no_brace b ≡ true
lacks_brace class n b h =
    elim (cases_Bool (eqb b 123)) [
      | inl e ↦ absurd (false≢true (sym n ∙ ap class (sym (eqb-true b 123 e)) ∙ h))
      | inr e ↦ ap not e
    ]

-- a byte whose upper case is no `{`
pub upper_braceless : (b c : ℕ) → upper b ≡ c → no_brace c ≡ true → no_brace b ≡ true
upper_braceless b c e h =
    elim (cases_Bool (eqb b 123)) [
      | inl g ↦ let same : no_brace c ≡ no_brace 123 = ap no_brace (sym e ∙ ap upper (eqb-true b 123 g)) in absurd (true≢false (sym h ∙ same))
      | inr g ↦ ap not g
    ]

pub word_braceless : (w t : List ℕ) → braceless w ≡ true → Word w t → braceless t ≡ true
word_braceless w [] h l = refl
word_braceless [] (b ∷ t) h l = absurd cc
word_braceless (c ∷ w) (b ∷ t) h l =
    let p = and_parts _ _ h in
    let head : upper b ≡ c = cc in
    let tail : map upper t ≡ w = cc in
    and_from _ _ (upper_braceless b c head p.0) (word_braceless w t p.1 tail)
