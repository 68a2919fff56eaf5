-- How many bytes of strings stand outside the octets of literals as they are written, at most.
use Rattle.std.specs.Prelude.{ℕ, ◌+◌, ◌*◌, List, length, Option, None, Some}
use Rattle.wire_strings.specs.declared.string.WireString.{WireString}
use Rattle.wire_strings.specs.declared.string.WireString.TheVariants as strings
use Rattle.wire_strings.specs.declared.astring.AString.{AString}
use Rattle.wire_strings.specs.declared.astring.AString.TheVariants as astrings

-- `{n}` and a line end
abbrev pub most_literal : ℕ
most_literal = 12

-- quoted, where a `\` may stand before each byte, or a literal
abbrev pub most_string : List ℕ → ℕ
most_string value = 2 * length value + most_literal

-- as it is held
abbrev pub most_astring : AString → ℕ
most_astring (astrings.Atom atom) = length atom
most_astring (astrings.Quoted raw) = length raw + 2
most_astring (astrings.Literal octets) = most_literal

abbrev pub most_nstring : Option WireString → ℕ
most_nstring None = 3
most_nstring (Some (strings.Quoted raw)) = length raw + 2
most_nstring (Some (strings.Literal octets)) = most_literal
