-- The tag of a line with a fault.
use Rattle.std.proofs.Common.{◌≡◌, ℕ, zero, suc, ◌≤◌, Bool, true, false, ◌&&◌, eqb, List, [], ◌∷◌, ◌++◌, length, take, drop, slice_get, Option, None, Some, Result, Ok, Err, refl, sym, ap, subst, ◌∙◌, append_assoc, take-append-drop, inl, inr, arith}
use Rattle.std.specs.Prelude.{nat_eq}
use Rattle.std.specs.Option.{option_eq}
use Rattle.std.specs.List.{list_all}
use Rattle.std.proofs.lemmas.Bool.{cases_Bool, true≢false, eqb-true, eq-eqb, and_parts}
use Rattle.std.proofs.lemmas.List.{length-take}
use Rattle.wire_reader.specs.declared.side.Speaker.TheVariants.{Commands}
use Rattle.wire_reader.specs.declared.lexical.Phase.{Phase}
use Rattle.wire_reader.specs.declared.lexical.Phase.TheVariants.{Plain}
use Rattle.wire_reader.specs.declared.stop.Stop.{Stop}
use Rattle.wire_reader.specs.Lexical.{over_from, passes_limit}
use Rattle.wire_reader.specs.Answers.{Begins}
use Rattle.wire_reader.proofs.Parts.{pair_is}
use Rattle.wire_reader.proofs.Braceless.{no_brace, braceless, lacks_brace, stays_plain}
use Rattle.wire_tokens.specs.Atoms.{is_tag_byte, IsTag, tag_at}
use Rattle.wire_tokens.proofs.AtomParts.{tag_part}
use Rattle.imap_commands.specs.Commands.{Spelled}
use Rattle.imap_session.specs.Portions.{Tagged, TagIs}

-- ---- what is read of the bytes before the fault

rest_is : (a c b d : List ℕ) → (let o : Result (List ℕ × List ℕ) Stop = Ok (a, b) in o ≡ Ok (c, d)) → b ≡ d
rest_is a c b d e = ap (λ (p : List ℕ × List ℕ). p.1) (pair_is (a, b) (c, d) e)

not_read : (s : Stop) (x : List ℕ × List ℕ) → (let o : Result (List ℕ × List ℕ) Stop = Err s in o ≡ Ok x) → ⊥
not_read s x e = cc

tag_read : (front tag : List ℕ) (t : Tagged front tag) → tag_at front ≡ Ok (tag, 32 ∷ t.more)
tag_read front tag t = ap tag_at t.parts ∙ (tag_part {side = Commands}).reader.complete tag tag (32 ∷ t.more) (refl, t.is_tag) refl

pub tag_there : (front tag rest : List ℕ) → tag_at front ≡ Ok (tag, 32 ∷ rest) → Tagged front tag
tag_there front tag rest h =
    let t = (tag_part {side = Commands}).reader.sound front tag (32 ∷ rest) h in
    record { is_tag = subst IsTag t.spelled.0 t.spelled.1; more = rest; parts = t.parts ∙ ap (λ (l : List ℕ). l ++ 32 ∷ rest) t.spelled.0 }

pub no_tag_end : (front tag : List ℕ) → tag_at front ≡ Ok (tag, []) → TagIs front None
no_tag_end front tag h other t =
    let same : [] ≡ 32 ∷ t.more = rest_is tag other [] (32 ∷ t.more) (sym h ∙ tag_read front other t) in
    cc

pub no_tag_byte : (front tag : List ℕ) (c : ℕ) (rest : List ℕ) → tag_at front ≡ Ok (tag, c ∷ rest) → eqb c 32 ≡ false → TagIs front None
no_tag_byte front tag c rest h n other t =
    let same : c ∷ rest ≡ 32 ∷ t.more = rest_is tag other (c ∷ rest) (32 ∷ t.more) (sym h ∙ tag_read front other t) in
    let one : c ≡ 32 = cc in
    true≢false (sym (eq-eqb c 32 one) ∙ n)

pub no_tag_stop : (front : List ℕ) (s : Stop) → tag_at front ≡ Err s → TagIs front None
no_tag_stop front s h other t =
    not_read s (other, 32 ∷ t.more) (sym h ∙ tag_read front other t)

-- by the byte after it
abbrev pub is_space : Option ℕ → Bool
is_space None = false
is_space (Some c) = eqb c 32

pub space_test : (o p : Option ℕ) (t : Bool) → t ≡ option_eq nat_eq o (Some 32) → o ≡ p → is_space p ≡ t
space_test o p t e f = ap is_space (sym f) ∙ by_case o ∙ sym e
  where
    by_case : (o : Option ℕ) → is_space o ≡ option_eq nat_eq o (Some 32)
    by_case None = refl
    by_case (Some c) = refl

pub tag_if_space : (front tag rest : List ℕ) → tag_at front ≡ Ok (tag, rest) → is_space (slice_get rest 0) ≡ true → Tagged front tag
tag_if_space front tag [] h e = absurd cc
tag_if_space front tag (c ∷ rest) h e = tag_there front tag rest (h ∙ ap (λ (x : ℕ). Ok (tag, x ∷ rest)) (eqb-true c 32 e))

pub no_tag_else : (front tag rest : List ℕ) → tag_at front ≡ Ok (tag, rest) → is_space (slice_get rest 0) ≡ false → TagIs front None
no_tag_else front tag [] h e = no_tag_end front tag h
no_tag_else front tag (c ∷ rest) h e = no_tag_byte front tag c rest h e

-- any front has a tag or none
pub record Sorted (front : List ℕ) : Type 0 where
  pub tag : Option (List ℕ)
  pub is : TagIs front tag

pub sorted : (front : List ℕ) → Sorted front
sorted front = by_read (tag_at front) refl
  where
    by_read : (o : Result (List ℕ × List ℕ) Stop) → tag_at front ≡ o → Sorted front
    by_read (Ok (tag, [])) h = record { tag = None; is = no_tag_end front tag h }
    by_read (Ok (tag, c ∷ rest)) h =
        elim (cases_Bool (eqb c 32)) [
          | inl e ↦ record { tag = Some tag; is = tag_there front tag rest (h ∙ ap (λ (x : ℕ). Ok (tag, x ∷ rest)) (eqb-true c 32 e)) }
          | inr e ↦ record { tag = None; is = no_tag_byte front tag c rest h e }
        ]
    by_read (Err s) h = record { tag = None; is = no_tag_stop front s h }

-- ---- where a literal's length passes its limit, a tag stands before it

plain_over : (t : List ℕ) (at : ℕ) (xs : List ℕ) → braceless t ≡ true → at ≤ length t → over_from Commands Plain at (t ++ xs) ≡ false
plain_over [] zero [] h l = refl
plain_over [] zero (x ∷ xs) h l = refl
plain_over [] (suc at) xs h l = absurd (omega (arith, l))
plain_over (b ∷ t) zero xs h l = refl
plain_over (b ∷ t) (suc at) xs h l =
    let p = and_parts _ _ h in
    ap (λ (q : Phase). over_from Commands q at (t ++ xs)) (stays_plain b p.0) ∙ plain_over t at xs p.1 (omega (arith, l))

tag_braceless : (t : List ℕ) → list_all is_tag_byte t ≡ true → braceless t ≡ true
tag_braceless [] h = refl
tag_braceless (b ∷ t) h = let p = and_parts _ _ h in both (no_brace b) (braceless t) (lacks_brace is_tag_byte refl b p.0) (tag_braceless t p.1)
  where
    both : (x y : Bool) → x ≡ true → y ≡ true → (x && y) ≡ true
    both x y e f = ap (λ (z : Bool). z && y) e ∙ f

-- of two texts with the same begin, the shorter begins the longer
pub data Fits (a b c d : List ℕ) : Type 0 where
  Within : (more : List ℕ) → a ≡ c ++ more → Fits a b c d
  Beyond : (x : ℕ) (more : List ℕ) → c ≡ a ++ x ∷ more → Fits a b c d

fits : (a b c d : List ℕ) → a ++ b ≡ c ++ d → Fits a b c d
fits a b [] d e = Within a refl
fits [] b (x ∷ c) d e = Beyond x c refl
fits (y ∷ a) b (x ∷ c) d e =
    let head : y ≡ x = cc in
    let tail : a ++ b ≡ c ++ d = cc in
    elim (fits a b c d tail) [
      | Within more is ↦ Within more (ap (λ (z : ℕ). z ∷ a) head ∙ ap (λ (l : List ℕ). x ∷ l) is)
      | Beyond z more is ↦ Beyond z more (ap (λ (l : List ℕ). x ∷ l) is ∙ ap (λ (w : ℕ). w ∷ (a ++ z ∷ more)) (sym head))
    ]

pub tag_before_literal : (text : List ℕ) (at : ℕ) → at ≤ length text → Begins Spelled (take at text) → passes_limit Commands at text ≡ true → (tag : List ℕ) × Tagged (take at text) tag
tag_before_literal text at within b passes =
    let h = b.spelled in
    let tag = b.value.tag in
    let is_tag = subst IsTag h.first.0 h.first.1 in
    let rest = h.second in
    let space : rest.front ≡ 32 ∷ [] = rest.first in
    let parts : take at text ++ b.more ≡ (tag ++ 32 ∷ []) ++ rest.back =
    h.parts ∙ ap (λ (l : List ℕ). l ++ h.back) h.first.0 ∙ ap (λ (l : List ℕ). tag ++ l) (rest.parts ∙ ap (λ (l : List ℕ). l ++ rest.back) space) ∙ sym (append_assoc tag (32 ∷ []) rest.back) in
    by_fit tag is_tag (fits (take at text) b.more (tag ++ 32 ∷ []) rest.back parts)
  where
    by_fit : (tag : List ℕ) → IsTag tag → {d : List ℕ} → Fits (take at text) b.more (tag ++ 32 ∷ []) d → (t : List ℕ) × Tagged (take at text) t
    by_fit tag is_tag (Within more is) = (tag, record { is_tag = is_tag; more = more; parts = is ∙ append_assoc tag (32 ∷ []) more })
    by_fit tag is_tag (Beyond x more is) =
        let plain : braceless (tag ++ 32 ∷ []) ≡ true = with_space tag (tag_braceless tag is_tag.each) in
        let front : braceless (take at text) ≡ true = front_braceless (take at text) (x ∷ more) (sym (ap braceless is) ∙ plain) in
        let none : passes_limit Commands at text ≡ false = ap (passes_limit Commands at) (sym (take-append-drop at text)) ∙ plain_over (take at text) at (drop at text) front (long) in
        absurd (true≢false (sym passes ∙ none))
      where
        long : at ≤ length (take at text)
        long = let l = length-take at text in omega (arith, l, within)

        with_space : (t : List ℕ) → braceless t ≡ true → braceless (t ++ 32 ∷ []) ≡ true
        with_space [] h = refl
        with_space (c ∷ t) h = let p = and_parts _ _ h in ap (λ (z : Bool). z && braceless (t ++ 32 ∷ [])) p.0 ∙ with_space t p.1

        front_braceless : (a c : List ℕ) → braceless (a ++ c) ≡ true → braceless a ≡ true
        front_braceless [] c h = refl
        front_braceless (y ∷ a) c h = let p = and_parts _ _ h in ap (λ (z : Bool). z && braceless a) p.0 ∙ front_braceless a c p.1
