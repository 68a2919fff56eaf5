-- Texts of commands in which no literal is asked for.
use Rattle.std.proofs.Common.{◌≡◌, inl, inr, ℕ, ◌+◌, ◌*◌, ◌-◌, Bool, true, false, not, List, [], ◌∷◌, ◌++◌, refl, sym, ◌∙◌, ap, subst, append_assoc, Option, None, eqb}
use Rattle.std.specs.Prelude.{◌==◌, ◌&&◌, nat_le, if◌then◌else◌}
use Rattle.std.specs.List.{list_all}
use Rattle.std.proofs.lemmas.Bool.{and_parts, and_from, cases_Bool, false≢true, eqb-true}
use Rattle.std.proofs.lemmas.List.Folds.{list_all-append}
use Rattle.wire_reader.specs.declared.side.Speaker.TheVariants.{Commands}
use Rattle.wire_reader.specs.declared.lexical.Phase.{Phase}
use Rattle.wire_reader.specs.declared.lexical.Phase.TheVariants as phases
use Rattle.wire_reader.specs.Lexical.{next, restart, phase, asked, literal_limit}
use Rattle.wire_reader.specs.Spelling.{◌⨾◌, Is, crlf, ItemsText, is_digit}
use Rattle.wire_reader.proofs.Braceless.{no_brace, braceless, braceless-phase}
use Rattle.wire_reader.proofs.LexedSeq.{two-phases}
use Rattle.imap_session.specs.Portions.{once, goes_from, goes_in}
use Rattle.imap_session.proofs.Gos.{goes-append}

-- ---- where no CR stands, nothing is asked for

abbrev pub no_return : ℕ → Bool
no_return b = not (b == 13)

abbrev pub calm : List ℕ → Bool
calm t = list_all no_return t

-- neither after the CR of a literal nor in one
abbrev pub soft : Phase → Bool
soft phases.Plain = true
soft phases.Brace = true
soft (phases.Digits n) = true
soft (phases.Plus n) = true
soft (phases.Close n plus) = true
soft (phases.Return n plus) = false
soft (phases.In n) = false

soft_if : (c : Bool) (p q : Phase) → soft p ≡ true → soft q ≡ true → soft (if c then p else q) ≡ true
soft_if true p q h k = h
soft_if false p q h k = k

soft_restart : (b : ℕ) → soft (restart b) ≡ true
soft_restart b = soft_if (b == 123) phases.Brace phases.Plain refl refl

soft_close : (c : Bool) (n b : ℕ) (plus : Bool) → not c ≡ true → soft (if c then phases.Return n plus else restart b) ≡ true
soft_close true n b plus h = cc
soft_close false n b plus h = soft_restart b

pub soft_next : (p : Phase) (b : ℕ) → soft p ≡ true → no_return b ≡ true → soft (next p b) ≡ true
soft_next phases.Plain b h k = soft_restart b
soft_next phases.Brace b h k = soft_if (is_digit b) (phases.Digits (b - 48)) (restart b) refl (soft_restart b)
soft_next (phases.Digits n) b h k =
    soft_if (b == 125) (phases.Close n false) _ refl
    (soft_if (b == 43) (phases.Plus n) _ refl (soft_if (is_digit b && nat_le n literal_limit) (phases.Digits (10 * n + (b - 48))) (restart b) refl (soft_restart b)))
soft_next (phases.Plus n) b h k = soft_if (b == 125) (phases.Close n true) (restart b) refl (soft_restart b)
soft_next (phases.Close n plus) b h k = soft_close (b == 13) n b plus k
soft_next (phases.Return n plus) b h k = cc
soft_next (phases.In n) b h k = cc

pub asked_none : (p : Phase) (b : ℕ) → soft p ≡ true → asked Commands p b ≡ None
asked_none phases.Plain b h = refl
asked_none phases.Brace b h = refl
asked_none (phases.Digits n) b h = refl
asked_none (phases.Plus n) b h = refl
asked_none (phases.Close n plus) b h = refl
asked_none (phases.Return n plus) b h = cc
asked_none (phases.In n) b h = cc

pub calm_goes : (p : Phase) (t : List ℕ) → soft p ≡ true → calm t ≡ true → goes_from p t ≡ []
calm_goes p [] h k = refl
calm_goes p (b ∷ t) h k =
    let two = and_parts (no_return b) (calm t) k in
    ap (λ (o : Option ℕ). once o ++ goes_from (next p b) t) (asked_none p b h) ∙ calm_goes (next p b) t (soft_next p b h two.0) two.1

-- ---- parts

-- the text has no CR, and leads back to where no literal is under way
pub record IsCalm (t : List ℕ) : Type 0 where
  pub calm : calm t ≡ true
  pub plain : phase phases.Plain t ≡ phases.Plain

pub calm_both : (a b : List ℕ) → IsCalm a → IsCalm b → IsCalm (a ++ b)
calm_both a b h k = record {
  calm = list_all-append no_return a b ∙ and_from (calm a) (calm b) h.calm k.calm;
  plain = two-phases phases.Plain phases.Plain a b h.plain ∙ k.plain;
}

module _ {P Q : List ℕ → Type 0} (first : (t : List ℕ) → P t → IsCalm t) (second : (t : List ℕ) → Q t → IsCalm t) where
  pub calm_then : (t : List ℕ) → (P ⨾ Q) t → IsCalm t
  calm_then t h = subst IsCalm (sym h.parts) (calm_both h.front h.back (first h.front h.first) (second h.back h.second))

-- a byte that is neither CR nor `{`
abbrev pub tame : ℕ → Bool
tame b = no_return b && no_brace b

tame_parts : (t : List ℕ) → list_all tame t ≡ true → (calm t ≡ true) × (braceless t ≡ true)
tame_parts [] h = (refl, refl)
tame_parts (b ∷ t) h =
    let two = and_parts (tame b) (list_all tame t) h in
    let one = and_parts (no_return b) (no_brace b) two.0 in
    let rest = tame_parts t two.1 in
    (and_from (no_return b) (calm t) one.0 rest.0, and_from (no_brace b) (braceless t) one.1 rest.1)

pub tame_calm : (t : List ℕ) → list_all tame t ≡ true → IsCalm t
tame_calm t h = let two = tame_parts t h in record { calm = two.0; plain = braceless-phase t two.1 }

-- of a class that has neither
pub lacks : (class : ℕ → Bool) (n : ℕ) → class n ≡ false → (b : ℕ) → class b ≡ true → not (b == n) ≡ true
lacks class n none b h =
    elim (cases_Bool (eqb b n)) [
      | inl e ↦ absurd (false≢true (sym none ∙ ap class (sym (eqb-true b n e)) ∙ h))
      | inr e ↦ ap not e
    ]

pub class_tame : (class : ℕ → Bool) → class 13 ≡ false → class 123 ≡ false → (t : List ℕ) → list_all class t ≡ true → list_all tame t ≡ true
class_tame class r c [] h = refl
class_tame class r c (b ∷ t) h =
    let two = and_parts (class b) (list_all class t) h in
    and_from (tame b) (list_all tame t) (and_from (no_return b) (no_brace b) (lacks class 13 r b two.0) (lacks class 123 c b two.0)) (class_tame class r c t two.1)

tame_both : (a b : List ℕ) → list_all tame a ≡ true → list_all tame b ≡ true → list_all tame (a ++ b) ≡ true
tame_both a b h k = list_all-append tame a b ∙ and_from (list_all tame a) (list_all tame b) h k

module _ {P Q : List ℕ → Type 0} (first : (t : List ℕ) → P t → list_all tame t ≡ true) (second : (t : List ℕ) → Q t → list_all tame t ≡ true) where
  pub tame_then : (t : List ℕ) → (P ⨾ Q) t → list_all tame t ≡ true
  tame_then t h = ap (list_all tame) h.parts ∙ tame_both h.front h.back (first h.front h.first) (second h.back h.second)

pub tame_is : (w : List ℕ) → list_all tame w ≡ true → (t : List ℕ) → Is w t → list_all tame t ≡ true
tame_is w h t e = ap (list_all tame) e ∙ h

module _ {A : Type 0} (L : A → List ℕ → Type 0) (each : (a : A) (t : List ℕ) → L a t → list_all tame t ≡ true) (sep : ℕ) (sep_tame : list_all tame (sep ∷ []) ≡ true) where
  pub tame_items : (items : List A) (t : List ℕ) → ItemsText sep L items t → list_all tame t ≡ true
  tame_items [] t h = absurd h
  tame_items (a ∷ []) t h = each a t h
  tame_items (a ∷ b ∷ others) t h = tame_then (each a) (tame_then (tame_is (sep ∷ []) sep_tame) (tame_items (b ∷ others))) t h

-- ---- a line

-- such a text and a line end
pub record IsLine (t : List ℕ) : Type 0 where
  pub body : List ℕ
  pub parts : t ≡ body ++ crlf
  pub is : IsCalm body

pub bare_line : (t : List ℕ) → Is crlf t → IsLine t
bare_line t e = record { body = []; parts = e; is = record { calm = refl; plain = refl } }

module _ {P Q : List ℕ → Type 0} (first : (t : List ℕ) → P t → IsCalm t) (second : (t : List ℕ) → Q t → IsLine t) where
  pub line_then : (t : List ℕ) → (P ⨾ Q) t → IsLine t
  line_then t h =
      let line = second h.back h.second in
      record {
        body = h.front ++ line.body;
        parts = h.parts ∙ ap (λ (x : List ℕ). h.front ++ x) line.parts ∙ sym (append_assoc h.front line.body crlf);
        is = calm_both h.front line.body (first h.front h.first) line.is;
      }

-- nothing is asked for in a line
pub line_asks_none : (t : List ℕ) → IsLine t → goes_in t ≡ []
line_asks_none t h =
    ap goes_in h.parts ∙ goes-append phases.Plain h.body crlf
    ∙ ap (λ (l : List _). l ++ goes_from (phase phases.Plain h.body) crlf) (calm_goes phases.Plain h.body refl h.is.calm)
    ∙ ap (λ (p : Phase). goes_from p crlf) h.is.plain
