-- Messages of APPEND commands (RFC 9051, section 9: append-message; in the profile of at least one octet).
use Rattle.std.specs.Prelude.{◌<◌, ℕ, List, length}
use Rattle.wire_strings.specs.Literals.{IsLiteral}

-- 1 to 16777238 octets, none of them 0
pub record IsMessage (octets : List ℕ) : Type 0 where
  pub literal : IsLiteral octets
  pub some : 0 < length octets
