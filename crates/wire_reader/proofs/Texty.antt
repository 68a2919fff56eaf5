-- Phases in a text without line ends: `{`, digits and `}` may stand there, and no literal comes of them.
use Rattle.std.proofs.Common.{◌≡◌, ℕ, ◌+◌, ◌*◌, ◌-◌, Bool, true, false, cond, eqb, ltb, leb, ◌&&◌, None, refl, ap, ◌∙◌, inl, inr}
use Rattle.std.proofs.lemmas.Bool.{cases_Bool, false≢true}
use Rattle.wire_reader.specs.declared.side.Speaker.{Speaker}
use Rattle.wire_reader.specs.declared.side.Speaker.TheVariants.{Commands, Replies}
use Rattle.wire_reader.specs.declared.lexical.Phase.{Phase}
use Rattle.wire_reader.specs.declared.lexical.Phase.TheVariants.{Plain, Brace, Digits, Plus, Close, Return, In}
use Rattle.wire_reader.specs.declared.stop.Kind.{Kind}
use Rattle.wire_reader.specs.declared.stop.Kind.TheVariants.{Syntax, TooLong}
use Rattle.wire_reader.specs.Spelling.{is_digit}
use Rattle.wire_reader.specs.Lexical.{next, restart, is_in, asked, kind_of, over_by, literal_limit, plus_limit}

-- no line end is under way, and no octets
abbrev pub texty : Phase → Bool
texty (Return n plus) = false
texty (In n) = false
texty _ = true

restart_texty : (b : ℕ) → texty (restart b) ≡ true
restart_texty b = elim (cases_Bool (eqb b 123)) [
  | inl e ↦ ap (λ (t : Bool). texty (cond t Brace Plain)) e
  | inr e ↦ ap (λ (t : Bool). texty (cond t Brace Plain)) e
]

-- one of two phases
choice_texty : (t : Bool) (p q : Phase) → texty p ≡ true → texty q ≡ true → texty (cond t p q) ≡ true
choice_texty true p q a b = a
choice_texty false p q a b = b

-- after a byte that is no CR
pub texty-next : (p : Phase) (b : ℕ) → texty p ≡ true → eqb b 13 ≡ false → texty (next p b) ≡ true
texty-next Plain b h n = restart_texty b
texty-next Brace b h n = choice_texty (is_digit b) (Digits (b - 48)) (restart b) refl (restart_texty b)
texty-next (Digits m) b h n =
    choice_texty (eqb b 125) (Close m false) _ refl
    (choice_texty (eqb b 43) (Plus m) _ refl (choice_texty (is_digit b && leb m literal_limit) (Digits (10 * m + (b - 48))) (restart b) refl (restart_texty b)))
texty-next (Plus m) b h n = choice_texty (eqb b 125) (Close m true) (restart b) refl (restart_texty b)
texty-next (Close m plus) b h n = ap (λ (t : Bool). texty (cond t (Return m plus) (restart b))) n ∙ restart_texty b
texty-next (Return m plus) b h n = absurd (false≢true h)
texty-next (In m) b h n = absurd (false≢true h)

pub texty-out : (p : Phase) → texty p ≡ true → is_in p ≡ false
texty-out (In n) h = absurd (false≢true h)
texty-out _ h = refl

pub texty-asked : (side : Speaker) (p : Phase) (b : ℕ) → texty p ≡ true → asked side p b ≡ None
texty-asked side (Return m plus) b h = absurd (false≢true h)
texty-asked side (In m) b h = absurd (false≢true h)
texty-asked side _ b h = refl

abbrev kind_if : Bool → Kind
kind_if t = cond t TooLong Syntax

over_none : (side : Speaker) (n b : ℕ) → is_digit b ≡ false → eqb b 43 ≡ false → over_by side n b ≡ false
over_none Commands n b d p = ap (λ (t : Bool). cond t (ltb plus_limit n) (is_digit b && ltb literal_limit (10 * n + (b - 48)))) p ∙ ap (λ (t : Bool). t && ltb literal_limit (10 * n + (b - 48))) d
over_none Replies n b d p = ap (λ (t : Bool). t && ltb literal_limit (10 * n + (b - 48))) d

-- a fault at a byte that is no digit and no `+` is none of a length
pub texty-kind : (side : Speaker) (p : Phase) (b : ℕ) → is_digit b ≡ false → eqb b 43 ≡ false → kind_of side p b ≡ Syntax
texty-kind side (Digits n) b d e = ap kind_if (over_none side n b d e)
texty-kind side _ b d e = refl

-- a quote leads back to where no literal is under way
pub texty-quote : (p : Phase) → texty p ≡ true → next p 34 ≡ Plain
texty-quote (Return m plus) h = absurd (false≢true h)
texty-quote (In m) h = absurd (false≢true h)
texty-quote _ h = refl

-- so does a closing bracket
pub texty-bracket : (p : Phase) → texty p ≡ true → next p 93 ≡ Plain
texty-bracket (Return m plus) h = absurd (false≢true h)
texty-bracket (In m) h = absurd (false≢true h)
texty-bracket _ h = refl
