-- Atoms and tags (RFC 9051, section 9: atom, ATOM-CHAR, tag; in the profile a tag is of letters and digits alone).
use Rattle.std.specs.Prelude.{◌≡◌, ℕ, ◌-◌, Bool, ◌&&◌, ◌||◌, List, [], ◌++◌, length, take, replicate, nat_le, Result}
use Rattle.mailcore.specs.AtomBytes as mail
use Rattle.wire_reader.specs.declared.stop.Stop.{Stop}
use Rattle.wire_reader.specs.Spelling.{IsRun, is_digit}
use Rattle.wire_reader.specs.Machine.{run, text_go, text_out}

-- as names of keywords have them too
abbrev pub is_atom_byte : ℕ → Bool
is_atom_byte b = mail.is_atom_byte b

-- a letter of ASCII or a digit
abbrev pub is_tag_byte : ℕ → Bool
is_tag_byte b = nat_le 65 b && nat_le b 90 || nat_le 97 b && nat_le b 122 || is_digit b

abbrev pub IsAtom : List ℕ → Type 0
IsAtom a = IsRun is_atom_byte 255 a

abbrev pub IsTag : List ℕ → Type 0
IsTag a = IsRun is_tag_byte 32 a

abbrev pub AtomText : List ℕ → List ℕ → Type 0
AtomText a text = (text ≡ a) × IsAtom text

abbrev pub TagText : List ℕ → List ℕ → Type 0
TagText a text = (text ≡ a) × IsTag text

-- a tag in 32 bytes, with zeros after it
abbrev pub padded : List ℕ → List ℕ
padded a = a ++ replicate (32 - length a) 0

-- the first `len` of the bytes are a tag, and zeros follow it
pub record InTag (bytes : List ℕ) (len : ℕ) : Type 0 where
  pub tag : IsTag (take len bytes)
  pub long : length (take len bytes) ≡ len
  pub zeros : bytes ≡ padded (take len bytes)

-- ---- how they are read

abbrev pub atom_at : List ℕ → Result (List ℕ × List ℕ) Stop
atom_at = run is_atom_byte (text_go 255) text_out []

abbrev pub tag_at : List ℕ → Result (List ℕ × List ℕ) Stop
tag_at = run is_tag_byte (text_go 32) text_out []
