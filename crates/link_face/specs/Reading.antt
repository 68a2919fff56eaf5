-- What is left to read, after what was read.
use Rattle.std.specs.Prelude.{ℕ, List, Option, Some}
use Rattle.link_face.specs.declared.modified_utf7.Reader.{Reader}
use Rattle.link_face.specs.declared.run.Units.{Units}
use Rattle.link_face.specs.Names.{joined, read, units_after}

-- the name, where these bytes are left
abbrev pub name_with : Reader → (bytes : List ℕ) → Option (List ℕ)
name_with reader bytes = joined (Some reader.far.items) (read reader.is_within reader.run.items bytes)

-- the units, where these octets are left
abbrev pub units_with : Units → (octets : List ℕ) → Option (List ℕ)
units_with units octets = joined (Some units.whole.items) (units_after units.high octets)
