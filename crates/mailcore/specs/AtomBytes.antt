-- The bytes of atoms (RFC 9051, section 9: atom, ATOM-CHAR).
use Rattle.std.specs.Prelude.{ℕ, Bool, ◌&&◌, ◌||◌, not, List, length, nat_le, ◌==◌}
use Rattle.std.specs.List.{list_all}

-- `"`, `%`, `(`, `)`, `*`, `\`, `]` and `{`
abbrev pub is_atom_special : ℕ → Bool
is_atom_special b = b == 34 || b == 37 || b == 40 || b == 41 || b == 42 || b == 92 || b == 93 || b == 123

-- a visible character of ASCII that is not special
abbrev pub is_atom_byte : ℕ → Bool
is_atom_byte b = nat_le 33 b && nat_le b 126 && not (is_atom_special b)

-- one to 255 of them
abbrev pub is_atom : List ℕ → Bool
is_atom text = nat_le 1 (length text) && nat_le (length text) 255 && list_all is_atom_byte text
