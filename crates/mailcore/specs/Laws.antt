-- What the definitions of this crate come to, in laws that functions of `src/laws.rt` show.
use Rattle.std.specs.Prelude.{◌≡◌, ◌≤◌, ℕ, List, Some}
use Rattle.mailcore.specs.Content.{content, with_line_ends, copy_text, mark_of}
use Rattle.mailcore.specs.Mark.{IsMark}
use Rattle.mailcore.specs.declared.side.LineEnd.{LineEnd}
use Rattle.mailcore.specs.Operations.{added, set_aside, flagged, expunged}
use Rattle.mailcore.specs.Stores.{Store, IsStore}

-- a content is its own content
abbrev pub ContentOfContent : Type 0
ContentOfContent = (bytes : List ℕ) → content (content bytes) ≡ content bytes

-- a store's line ends do not change a content
abbrev pub ContentInStore : Type 0
ContentInStore = (bytes : List ℕ) (end : LineEnd) → content (with_line_ends end (content bytes)) ≡ content bytes

-- a copy says what its source says
abbrev pub ContentOfCopy : Type 0
ContentOfCopy =
    (mark bytes : List ℕ) (end : LineEnd) → IsMark mark → content (copy_text mark bytes end) ≡ content bytes

-- a copy bears the mark that it was given
abbrev pub MarkOfCopy : Type 0
MarkOfCopy =
    (mark bytes : List ℕ) (end : LineEnd) → IsMark mark → mark_of (copy_text mark bytes end) ≡ Some mark

-- each operation keeps that UIDs rise and are below the next one

abbrev pub AddedKeepsStores : Type 0
AddedKeepsStores = (s : Store) (uid flags : ℕ) (bytes : List ℕ) → s.next ≤ uid → IsStore s → IsStore (added uid flags bytes s)

abbrev pub SetAsideKeepsStores : Type 0
SetAsideKeepsStores = (s : Store) (count : ℕ) → IsStore s → IsStore (set_aside count s)

abbrev pub FlaggedKeepsStores : Type 0
FlaggedKeepsStores = (s : Store) (change : ℕ → ℕ) (uid : ℕ) → IsStore s → IsStore (flagged change uid s)

abbrev pub ExpungedKeepsStores : Type 0
ExpungedKeepsStores = (s : Store) (uids : List ℕ) → IsStore s → IsStore (expunged uids s)
