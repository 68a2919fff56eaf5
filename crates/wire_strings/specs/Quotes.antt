-- Quoted strings (RFC 9051, section 9: quoted, QUOTED-CHAR, quoted-specials).
use Rattle.std.specs.Prelude.{◌≡◌, ℕ, Bool, true, false, ◌||◌, List, [], ◌∷◌, ◌++◌, ◌==◌, Result, if◌then◌else◌}
use Rattle.std.specs.List.{list_all, flat_map}
use Rattle.wire_reader.specs.declared.stop.Kind.TheVariants.{Syntax}
use Rattle.wire_reader.specs.declared.stop.Stop.{Stop}
use Rattle.wire_reader.specs.Reading.{mapped, skip, byte_at}
use Rattle.wire_reader.specs.Machine.{Step, On, Take, Odd, scan}
use Rattle.wire_strings.specs.Texts.{is_text}

-- `"` or `\`
abbrev pub is_special : ℕ → Bool
is_special b = b == 34 || b == 92

-- how a byte stands between quotes: `"` and `\` after a `\`, another as it is
abbrev pub escaped : ℕ → List ℕ
escaped b = if is_special b then 92 ∷ b ∷ [] else b ∷ []

-- a quoted string of these bytes
abbrev pub QuotedText : List ℕ → List ℕ → Type 0
QuotedText value text = (text ≡ 34 ∷ flat_map escaped value ++ 34 ∷ []) × (list_all is_text value ≡ true)

-- what stands between the quotes of a quoted string of this value
pub record RawOf (value raw : List ℕ) : Type 0 where
  pub is : raw ≡ flat_map escaped value
  pub each : list_all is_text value ≡ true

-- what stands between the quotes of a quoted string
pub record IsRaw (raw : List ℕ) : Type 0 where
  pub value : List ℕ
  pub of : RawOf value raw

-- a quoted string, by what stands between its quotes
abbrev pub RawText : List ℕ → List ℕ → Type 0
RawText raw text = (text ≡ 34 ∷ raw ++ 34 ∷ []) × IsRaw raw

-- ---- without the backslashes

-- after a backslash (`true`) a byte stands for itself
abbrev pub unescaped_from : Bool → List ℕ → List ℕ
unescaped_from slash [] = []
unescaped_from true (b ∷ bs) = b ∷ unescaped_from false bs
unescaped_from false (b ∷ bs) = if b == 92 then unescaped_from true bs else b ∷ unescaped_from false bs

abbrev pub unescaped : List ℕ → List ℕ
unescaped raw = unescaped_from false raw

-- ---- how they are read

-- the bytes so far between the quotes, and whether a backslash follows them
abbrev pub raw_step : List ℕ × Bool → ℕ → Step (List ℕ × Bool) (List ℕ)
raw_step (acc, true) b = if is_special b then On (acc ++ b ∷ [], false) else Odd Syntax
raw_step (acc, false) b =
    if b == 34 then Take acc
    else (if b == 92 then On (acc ++ b ∷ [], true) else (if is_text b then On (acc ++ b ∷ [], false) else Odd Syntax))

-- after the first quote
abbrev pub raw_rest : List ℕ → Result (List ℕ × List ℕ) Stop
raw_rest = scan raw_step ([], false)

abbrev pub raw_at : List ℕ → Result (List ℕ × List ℕ) Stop
raw_at = skip (byte_at 34) raw_rest

abbrev pub quoted_at : List ℕ → Result (List ℕ × List ℕ) Stop
quoted_at = mapped unescaped raw_at
