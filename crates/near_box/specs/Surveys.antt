-- What the near mailbox remembers of its folder.
use Rattle.std.specs.Prelude.{◌≡◌, ◌<◌, ℕ, ◌+◌, true, nat_lt, List, [], ◌∷◌, ◌++◌, map, Option, Some, is_some, All, AllPairs}
use Rattle.std.specs.List.{filter_map}
use Rattle.std.specs.Option.{option_map}
use Rattle.mailcore.specs.declared.keywords.Keyword.{Keyword}
use Rattle.maildir.specs.declared.folder.File.{File}
use Rattle.maildir.specs.declared.folder.FileName.{FileName}
use Rattle.maildir.specs.declared.meta.Meta.{Meta}
use Rattle.near_box.specs.declared.survey.SurveyEntry.{SurveyEntry}
use Rattle.near_box.specs.declared.survey.Survey.{Survey}
use Rattle.maildir.specs.Folders.{Stored, AreApart, name_of_file}
use Rattle.near_box.specs.KnownMarks.{AreMarksOf}
use Rattle.near_box.specs.Mailboxes.{meta_in, near_of, waiting_files}
use Rattle.maildir.specs.Names.{uid_in}
use Rattle.near_box.specs.NearEffects.{admitted}
use Rattle.near_box.specs.Sorting.{sorted}

-- the file of a message
abbrev pub entry_of : File → Option SurveyEntry
entry_of file = option_map (λ uid. record { uid = uid; place = file.place; name = file.name }) (uid_in file.name)

-- the files of messages, in the order of their UIDs
abbrev pub entries_in : List File → List SurveyEntry
entries_in files = sorted (λ a b. nat_lt a.uid b.uid) (filter_map entry_of files)

-- what was surveyed is so of the folder
pub record Surveys (survey : Survey) (fresh : ℕ) (keywords : List Keyword) (s : Stored) : Type 0 where
  pub is_there : s.is_there ≡ true
  pub apart : AreApart s.files
  pub entries : survey.entries.items ≡ entries_in s.files
  pub rising : AllPairs (λ a b. a.uid < b.uid) survey.entries.items
  pub below : All (λ e. e.uid < survey.meta.next) survey.entries.items
  pub waiting : survey.waiting.items ≡ map name_of_file (waiting_files s.files)
  pub meta : meta_in fresh s.meta ≡ Some survey.meta
  pub has_meta : is_some s.meta ≡ survey.has_meta
  pub marks : AreMarksOf (near_of fresh keywords s).store survey.marks

-- ---- what it remembers more once UIDs are given

-- the message with this UID in this file
abbrev pub entry_at : (uid : ℕ) → FileName → SurveyEntry
entry_at uid file = record { uid = uid; place = file.place; name = file.name }

-- waiting files as messages, under the UIDs from this one on
abbrev pub entries_from : (uid : ℕ) → List FileName → List SurveyEntry
entries_from uid [] = []
entries_from uid (file ∷ files) = entry_at uid (admitted file uid) ∷ entries_from (uid + 1) files

-- there are more messages after the others, these files wait, the meta file says this, and the same marks are known
pub record Extends (more : List SurveyEntry) (wait : List FileName) (says : Meta) (old new : Survey) : Type 0 where
  pub entries : new.entries.items ≡ old.entries.items ++ more
  pub waiting : new.waiting.items ≡ wait
  pub meta : new.meta ≡ says
  pub has_meta : new.has_meta ≡ true
  pub marks : new.marks ≡ old.marks
