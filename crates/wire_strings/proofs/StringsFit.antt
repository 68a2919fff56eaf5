-- How many bytes of strings stand outside the octets of literals, at most.
use Rattle.std.proofs.Common.{◌≡◌, ℕ, ◌+◌, ◌*◌, ◌≤◌, Bool, true, false, cond, List, [], ◌∷◌, length, refl, ap, inl, inr, arith}
use Rattle.std.specs.List.{flat_map, list_all}
use Rattle.std.proofs.lemmas.Bool.{cases_Bool}
use Rattle.std.proofs.lemmas.List.{length-append}
use Rattle.std.proofs.lemmas.List.Concat.{flat_map-cons}
use Rattle.wire_reader.specs.declared.side.Speaker.{Speaker}
use Rattle.wire_reader.specs.declared.side.Speaker.TheVariants.{Replies}
use Rattle.wire_reader.specs.declared.lexical.Phase.TheVariants.{Plain}
use Rattle.wire_reader.specs.Lexical.{phase}
use Rattle.wire_reader.specs.Literal.{Literal, literal_at}
use Rattle.wire_reader.proofs.Reader.{Closed}
use Rattle.wire_reader.proofs.Part.{Part}
use Rattle.wire_reader.proofs.Octets.{waits}
use Rattle.wire_reader.proofs.LiteralPhases.{literal_part}
use Rattle.wire_reader.proofs.Fitting.{Fits, outside-le, literal_few}
use Rattle.wire_tokens.proofs.TokensFit.{atom_fits}
use Rattle.wire_strings.specs.declared.astring.AString.{AString}
use Rattle.wire_strings.specs.declared.astring.AString.TheVariants as astrings
use Rattle.wire_strings.specs.Texts.{is_text}
use Rattle.wire_strings.specs.Quotes.{is_special, escaped, QuotedText, RawText, quoted_at, raw_at}
use Rattle.wire_strings.specs.Strings.{AStringText, ValueText, StringBy, WrittenString}
use Rattle.wire_strings.specs.Room.{most_string, most_astring, most_literal}
use Rattle.wire_strings.proofs.QuoteParts.{quoted_part, raw_part}

abbrev escaped_by : ℕ → Bool → List ℕ
escaped_by b t = cond t (92 ∷ b ∷ []) (b ∷ [])

escaped_few : (b : ℕ) → length (escaped b) ≤ 2
escaped_few b = elim (cases_Bool (is_special b)) [
  | inl e ↦ omega (arith, ap (λ (t : Bool). length (escaped_by b t)) e)
  | inr e ↦ omega (arith, ap (λ (t : Bool). length (escaped_by b t)) e)
]

all_few : (bs : List ℕ) → length (flat_map escaped bs) ≤ 2 * length bs
all_few [] = omega arith
all_few (b ∷ bs) = let r = all_few bs in omega (arith, r, escaped_few b, ap length (flat_map-cons escaped b bs), length-append (escaped b) (flat_map escaped bs))

by_length : (most : ℕ) (t : List ℕ) → phase Plain t ≡ Plain → length t ≤ most → Fits most t
by_length most t plain le = record { plain = plain; few = omega (arith, le, outside-le Plain t) }

pub quoted_fits : (value t : List ℕ) → QuotedText value t → Fits (2 * length value + 2) t
quoted_fits value t h =
    let p : Part Replies true Closed QuotedText quoted_at = quoted_part in
    by_length (2 * length value + 2) t ((p.leads refl).after value t h) (omega (arith, ap length h.0, length-append (flat_map escaped value) (34 ∷ []), all_few value))

pub raw_fits : (raw t : List ℕ) → RawText raw t → Fits (length raw + 2) t
raw_fits raw t h =
    let p : Part Replies true Closed RawText raw_at = raw_part in
    by_length (length raw + 2) t ((p.leads refl).after raw t h) (omega (arith, ap length h.0, length-append raw (34 ∷ [])))

pub literal_fits : (side : Speaker) (octets t : List ℕ) → Literal side octets t → Fits most_literal t
literal_fits side octets t h =
    let p : Part side true waits (Literal side) (literal_at side) = literal_part side in
    record { plain = (p.leads refl).after octets t h; few = literal_few side octets t h }

string_by_fits : (b : Bool) (value t : List ℕ) → StringBy b value t → Fits (most_string value) t
string_by_fits true value t h = let f = quoted_fits value t h in record { plain = f.plain; few = (let g = f.few in omega (arith, g)) }
string_by_fits false value t h = let f = literal_fits Replies value t (h Replies) in record { plain = f.plain; few = (let g = f.few in omega (arith, g)) }

pub string_fits : (value t : List ℕ) → WrittenString value t → Fits (most_string value) t
string_fits value t h = string_by_fits (list_all is_text value) value t h

pub astring_fits : (a : AString) (t : List ℕ) → AStringText Replies a t → Fits (most_astring a) t
astring_fits (astrings.Atom atom) t h = atom_fits atom t h
astring_fits (astrings.Quoted raw) t h = raw_fits raw t h
astring_fits (astrings.Literal octets) t h = literal_fits Replies octets t h

-- ---- as a string of the bytes

string_value : (b : Bool) (side : Speaker) (value t : List ℕ) → StringBy b value t → ValueText side value t
string_value true side value t h = inr (inl h)
string_value false side value t h = inr (inr (h side))

pub written_value : (side : Speaker) (value t : List ℕ) → WrittenString value t → ValueText side value t
written_value side value t h = string_value (list_all is_text value) side value t h
