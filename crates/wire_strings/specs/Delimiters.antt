-- The quoted string of one character, as LIST replies have it (RFC 9051, section 9: mailbox-list).
use Rattle.std.specs.Prelude.{ℕ, List, [], ◌∷◌, ◌==◌, Result, if◌then◌else◌}
use Rattle.wire_reader.specs.declared.stop.Kind.TheVariants.{Syntax}
use Rattle.wire_reader.specs.declared.stop.Stop.{Stop}
use Rattle.wire_reader.specs.Reading.{skip, byte_at}
use Rattle.wire_reader.specs.Machine.{Step, On, Take, Odd, scan}
use Rattle.wire_strings.specs.Texts.{is_text}
use Rattle.wire_strings.specs.Quotes.{is_special, QuotedText}

abbrev pub DelimiterText : ℕ → List ℕ → Type 0
DelimiterText c text = QuotedText (c ∷ []) text

-- ---- how it is read

-- what follows the first quote so far: nothing, a backslash, or the character
pub data Between : Type 0 where
  Nothing : Between
  Slash : Between
  Got : ℕ → Between

abbrev pub delimiter_step : Between → ℕ → Step Between ℕ
delimiter_step Nothing b = if b == 34 then Odd Syntax else (if b == 92 then On Slash else (if is_text b then On (Got b) else Odd Syntax))
delimiter_step Slash b = if is_special b then On (Got b) else Odd Syntax
delimiter_step (Got c) b = if b == 34 then Take c else Odd Syntax

abbrev pub delimiter_rest : Between → List ℕ → Result (ℕ × List ℕ) Stop
delimiter_rest so_far = scan delimiter_step so_far

abbrev pub delimiter_at : List ℕ → Result (ℕ × List ℕ) Stop
delimiter_at = skip (byte_at 34) (delimiter_rest Nothing)
