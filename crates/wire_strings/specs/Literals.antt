-- The octets of literals, and the bytes that strings stand for.
use Rattle.std.specs.Prelude.{◌≡◌, ◌≤◌, ℕ, true, List, length, ◌⊎◌}
use Rattle.std.specs.List.{list_all}
use Rattle.wire_reader.specs.Lexical.{literal_limit}
use Rattle.wire_reader.specs.Literal.{is_octet}
use Rattle.wire_strings.specs.Texts.{is_text}

-- the octets of a literal
pub record IsLiteral (octets : List ℕ) : Type 0 where
  pub each : list_all is_octet octets ≡ true
  pub most : length octets ≤ literal_limit

-- bytes for which a quoted string or a literal stands
abbrev pub IsValue : List ℕ → Type 0
IsValue value = (list_all is_text value ≡ true) ⊎ IsLiteral value
