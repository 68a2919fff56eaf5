-- The flags by their letters in Maildir names and state texts, and by their names in IMAP.
use Rattle.std.specs.Prelude.{ℕ, suc, Bool, List, [], ◌∷◌, Option, find, codes, if◌then◌else◌}
use Rattle.std.specs.Str.{str_eq_ignore_ascii_case}
use Rattle.mailcore.specs.declared.flags.Flag.{Flag}
use Rattle.mailcore.specs.declared.flags.Flag.TheVariants.{Draft, Flagged, Forwarded, Answered, Seen, Deleted}
use Rattle.mailcore.specs.FlagSet.{has}

-- the place of a flag in a set, which is that of its letter among the letters
abbrev pub place : Flag → ℕ
place Draft = 0
place Flagged = 1
place Forwarded = 2
place Answered = 3
place Seen = 4
place Deleted = 5

-- D F P R S T
abbrev pub letter : Flag → ℕ
letter Draft = 68
letter Flagged = 70
letter Forwarded = 80
letter Answered = 82
letter Seen = 83
letter Deleted = 84

-- in the order of their letters
abbrev pub all_flags : List Flag
all_flags = Draft ∷ Flagged ∷ Forwarded ∷ Answered ∷ Seen ∷ Deleted ∷ []

-- D F P R S T for the flags that IMAP names, and a to z for keywords: a flag's place is that of its letter
abbrev pub LETTERS : List ℕ
LETTERS = codes "DFPRSTabcdefghijklmnopqrstuvwxyz"

-- of letters that have the places from this one on, those of flags that are in a set
abbrev pub letters_from : (from : ℕ) → List ℕ → (flags : ℕ) → List ℕ
letters_from from [] flags = []
letters_from from (x ∷ xs) flags = if has flags from then x ∷ letters_from (suc from) xs flags else letters_from (suc from) xs flags

-- the letters of a set, in the order of ASCII
unfoldable pub letters_of : ℕ → List ℕ
letters_of flags = letters_from 0 LETTERS flags

-- RFC 9051, section 2.3.2; $Forwarded is a keyword
abbrev pub imap_name : Flag → List ℕ
imap_name Draft = codes "\\Draft"
imap_name Flagged = codes "\\Flagged"
imap_name Forwarded = codes "$Forwarded"
imap_name Answered = codes "\\Answered"
imap_name Seen = codes "\\Seen"
imap_name Deleted = codes "\\Deleted"

-- names compare without case
abbrev pub is_named : List ℕ → Flag → Bool
is_named name flag = str_eq_ignore_ascii_case name (imap_name flag)

-- the flag with this name
abbrev pub flag_named : List ℕ → Option Flag
flag_named name = find (is_named name) all_flags
