-- Texts (RFC 9051, section 9: text, TEXT-CHAR, resp-text, resp-text-code; in the profile a text may be empty, and its
-- 8-bit bytes stand for themselves).
use Rattle.std.specs.Prelude.{◌≡◌, ℕ, Bool, true, false, ◌&&◌, not, List, [], ◌∷◌, ◌++◌, nat_le, ◌==◌, Result, if◌then◌else◌}
use Rattle.std.specs.List.{list_all}
use Rattle.wire_reader.specs.declared.stop.Kind.TheVariants.{Syntax}
use Rattle.wire_reader.specs.declared.stop.Stop.{Stop}
use Rattle.wire_reader.specs.Spelling.{crlf, LineText}
use Rattle.wire_reader.specs.Reading.{stuck, by_first}
use Rattle.wire_reader.specs.Machine.{Step, On, Take, Odd, scan, line_at}

-- a byte from 32 on except 127
abbrev pub is_text : ℕ → Bool
is_text b = nat_le 32 b && not (b == 127)

-- the text that ends a line, with its line end
abbrev pub LastText : List ℕ → List ℕ → Type 0
LastText a text = LineText is_text a text

-- the bytes begin with c
abbrev pub begins_with : ℕ → List ℕ → Bool
begins_with c [] = false
begins_with c (b ∷ bs) = b == c

-- a text that does not begin with `[`, as one without a response code
pub record IsPlain (a : List ℕ) : Type 0 where
  pub each : list_all is_text a ≡ true
  pub first : begins_with 91 a ≡ false

-- such a text, with its line end
abbrev pub PlainLine : List ℕ → List ℕ → Type 0
PlainLine a text = (text ≡ a ++ crlf) × IsPlain a

-- ---- in a response code

abbrev pub is_code_text : ℕ → Bool
is_code_text b = is_text b && not (b == 93)

-- a text without `]`, and `]`
abbrev pub BracketText : List ℕ → List ℕ → Type 0
BracketText a text = (text ≡ a ++ 93 ∷ []) × (list_all is_code_text a ≡ true)

-- ---- how they are read

abbrev pub last_text_at : List ℕ → Result (List ℕ × List ℕ) Stop
last_text_at = line_at is_text

-- a reader, but not where the byte c comes first
abbrev pub unless_at : {A : Type 0} → ℕ → (List ℕ → Result (A × List ℕ) Stop) → List ℕ → Result (A × List ℕ) Stop
unless_at c r = by_first (λ b. b == c) stuck r

abbrev pub plain_text_at : List ℕ → Result (List ℕ × List ℕ) Stop
plain_text_at = unless_at 91 last_text_at

-- the bytes so far
abbrev pub code_step : List ℕ → ℕ → Step (List ℕ) (List ℕ)
code_step acc b = if b == 93 then Take acc else (if is_text b then On (acc ++ b ∷ []) else Odd Syntax)

abbrev pub code_text_at : List ℕ → Result (List ℕ × List ℕ) Stop
code_text_at = scan code_step []
