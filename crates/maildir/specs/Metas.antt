-- The text of a mailbox's meta file.
use Rattle.std.specs.Prelude.{◌≡◌, ℕ, ◌+◌, ◌-◌, ◌^◌, Bool, ◌&&◌, nat_lt, IsTrue, List, [], ◌∷◌, ◌++◌, decimal, Option, None, Some, if◌then◌else◌}
use Rattle.texts.specs.Cut.{Sides, cut_first}
use Rattle.texts.specs.Number.{number_of}
use Rattle.maildir.specs.declared.meta.Meta.{Meta}

-- ---- how it is spelled

-- the validity and the highest UID given so far, each on a line
abbrev pub meta_text : Meta → List ℕ
meta_text meta = decimal meta.validity ++ 10 ∷ (decimal (meta.next - 1) ++ 10 ∷ [])

-- both are numbers from 1 to 4294967295
abbrev pub is_meta : Meta → Bool
is_meta meta =
    nat_lt 0 meta.validity && nat_lt meta.validity (2 ^ 32) && (nat_lt 0 meta.next && nat_lt meta.next (2 ^ 32))

-- these bytes are the spelling of a meta file
pub record MetaText (meta : Meta) (text : List ℕ) : Type 0 where
  pub parts : text ≡ meta_text meta
  pub is : IsTrue (is_meta meta)

-- ---- how it is read

-- the number below 2 ^ 32 with this decimal text
abbrev pub u32_of : List ℕ → Option ℕ
u32_of digits = number_of 4294967295 digits

abbrev pub meta_of_numbers : Option ℕ → Option ℕ → Option Meta
meta_of_numbers (Some validity) (Some highest) =
    if nat_lt 0 validity && nat_lt (highest + 1) (2 ^ 32) then Some (record { validity = validity; next = highest + 1 }) else None
meta_of_numbers (Some validity) None = None
meta_of_numbers None highest = None

abbrev pub meta_of_lines : List ℕ → Option Sides → Option Meta
meta_of_lines first None = None
meta_of_lines first (Some (second, [])) = meta_of_numbers (u32_of first) (u32_of second)
meta_of_lines first (Some (second, b ∷ rest)) = None

abbrev pub meta_after : Option Sides → Option Meta
meta_after None = None
meta_after (Some (first, rest)) = meta_of_lines first (cut_first 10 rest)

-- the meta file that a text spells, or none
unfoldable pub meta_of : List ℕ → Option Meta
meta_of text = meta_after (cut_first 10 text)
