-- Strings (RFC 9051, section 9: string, nstring, nil, astring; in the profile the atom of an astring has no `]`).
use Rattle.std.specs.Prelude.{ℕ, Bool, true, false, ◌||◌, List, codes, Option, None, Some, Result, ◌⊎◌, ◌==◌}
use Rattle.std.specs.List.{list_all}
use Rattle.wire_reader.specs.declared.side.Speaker.{Speaker}
use Rattle.wire_reader.specs.declared.stop.Stop.{Stop}
use Rattle.wire_reader.specs.Spelling.{Word}
use Rattle.wire_reader.specs.Literal.{Literal, literal_at}
use Rattle.wire_reader.specs.Reading.{mapped, by_first}
use Rattle.wire_reader.specs.Listing.{ended}
use Rattle.wire_reader.specs.Words.{word_at}
use Rattle.wire_tokens.specs.Atoms.{is_atom_byte, AtomText, atom_at}
use Rattle.wire_strings.specs.Texts.{is_text}
use Rattle.wire_strings.specs.Quotes.{RawText, QuotedText, unescaped, raw_at}
use Rattle.wire_strings.specs.declared.string.WireString.{WireString}
use Rattle.wire_strings.specs.declared.string.WireString.TheVariants as strings
use Rattle.wire_strings.specs.declared.astring.AString.{AString}
use Rattle.wire_strings.specs.declared.astring.AString.TheVariants as astrings

-- a quoted string, by what stands between its quotes, or a literal
abbrev pub StringText : Speaker → WireString → List ℕ → Type 0
StringText side (strings.Quoted raw) text = RawText raw text
StringText side (strings.Literal octets) text = Literal side octets text

-- a string, or NIL in any case
abbrev pub NStringText : Speaker → Option WireString → List ℕ → Type 0
NStringText side None text = Word (codes "NIL") text
NStringText side (Some string) text = StringText side string text

-- an atom or a string
abbrev pub AStringText : Speaker → AString → List ℕ → Type 0
AStringText side (astrings.Atom atom) text = AtomText atom text
AStringText side (astrings.Quoted raw) text = RawText raw text
AStringText side (astrings.Literal octets) text = Literal side octets text

-- the same, by the bytes that it stands for
abbrev pub ValueText : Speaker → List ℕ → List ℕ → Type 0
ValueText side value text = AtomText value text ⊎ (QuotedText value text ⊎ Literal side value text)

-- a text that each side may write
abbrev pub OnEitherSide : (Speaker → List ℕ → Type 0) → List ℕ → Type 0
OnEitherSide L text = (side : Speaker) → L side text

-- quoted where each byte may stand between quotes, else a literal `{n}`, without `+`
abbrev pub StringBy : Bool → List ℕ → List ℕ → Type 0
StringBy true value text = QuotedText value text
StringBy false value text = OnEitherSide (λ side. Literal side value) text

abbrev pub WrittenString : List ℕ → List ℕ → Type 0
WrittenString value text = StringBy (list_all is_text value) value text

-- ---- how they are read: what ends by itself, too, ends before the first byte that is no atom's

abbrev pub lent_quoted_at : List ℕ → Result (List ℕ × List ℕ) Stop
lent_quoted_at = ended is_atom_byte raw_at

abbrev pub lent_literal_at : Speaker → List ℕ → Result (List ℕ × List ℕ) Stop
lent_literal_at side = ended is_atom_byte (literal_at side)

abbrev pub string_at : Speaker → List ℕ → Result (WireString × List ℕ) Stop
string_at side = by_first (λ b. b == 34) (mapped strings.Quoted lent_quoted_at) (mapped strings.Literal (lent_literal_at side))

-- what a string begins with
abbrev pub begins_string : ℕ → Bool
begins_string b = b == 34 || b == 123

abbrev pub nil_at : List ℕ → Result (Unit {0} × List ℕ) Stop
nil_at = ended is_atom_byte (word_at (codes "NIL"))

abbrev pub nstring_at : Speaker → List ℕ → Result (Option WireString × List ℕ) Stop
nstring_at side = by_first begins_string (mapped (λ s. Some s) (string_at side)) (mapped (λ _. None) nil_at)

abbrev pub astring_at : Speaker → List ℕ → Result (AString × List ℕ) Stop
astring_at side =
    by_first (λ b. b == 34) (mapped astrings.Quoted lent_quoted_at)
    (by_first (λ b. b == 123) (mapped astrings.Literal (lent_literal_at side)) (mapped astrings.Atom atom_at))

-- the bytes that it stands for
abbrev pub value_of : AString → List ℕ
value_of (astrings.Atom atom) = atom
value_of (astrings.Quoted raw) = unescaped raw
value_of (astrings.Literal octets) = octets

abbrev pub value_at : Speaker → List ℕ → Result (List ℕ × List ℕ) Stop
value_at side = mapped value_of (astring_at side)
