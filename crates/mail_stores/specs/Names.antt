-- Which names are synchronised, and under which name.
use Rattle.std.specs.Prelude.{◌≡◌, ◌==◌, ◌↔◌, ℕ, Bool, true, List, map, filter, not, codes, Contains, if◌then◌else◌}
use Rattle.std.specs.List.{list_any}
use Rattle.config_words.specs.Inboxes.{is_inbox}
use Rattle.link_face.specs.Names.{IsName}
use Rattle.near_places.specs.Names.{has_own_part}

-- ---- of far mailboxes

-- INBOX is one mailbox, however a server spells it
abbrev pub called : List ℕ → List ℕ
called name = if is_inbox name then codes "INBOX" else name

-- of the names that a server lists, those that a mailbox near can have
abbrev pub synchronised : List (List ℕ) → List (List ℕ)
synchronised names = map called (filter (λ name. not (has_own_part name)) names)

-- ---- of near mailboxes

-- whether a name has an `&` (38), as one in modified UTF-7 that is no ASCII has
abbrev pub has_ampersand : List ℕ → Bool
has_ampersand name = list_any (λ b. b == 38) name

-- a server can have a mailbox of this name
abbrev pub IsServable : List ℕ → Type 0
IsServable name = has_ampersand name ≡ true → (far : List ℕ) × IsName far name

-- of these names, those that a server can have
abbrev pub AreServable : (names servable : List (List ℕ)) → Type 0
AreServable names servable = (name : List ℕ) → Contains servable name ↔ (Contains names name × IsServable name)
