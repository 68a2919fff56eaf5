-- The messages that a survey names, and the files that wait.
use Rattle.std.specs.Prelude.{◌≡◌, ◌<◌, ℕ, Bool, true, false, not, List, [], Some, All, AllPairs, filter, length, unwrap_or}
use Rattle.mailcore.specs.FlagSet.{DELETED, has}
use Rattle.mailcore.specs.declared.keywords.Keyword.{Keyword}
use Rattle.mailcore.specs.declared.mailbox.Message.{Message}
use Rattle.mailcore.specs.declared.listing.Item.{Item}
use Rattle.mailcore.specs.declared.side.Side.TheVariants.{Near}
use Rattle.mailcore.specs.Operations.{item_sparing}
use Rattle.near_box.specs.declared.survey.SurveyEntry.{SurveyEntry}
use Rattle.maildir.specs.Folders.{Stored, bytes_at}
use Rattle.maildir.specs.FlaggedNames.{flags_by_name}

-- what the file of an entry holds
abbrev pub bytes_in : Stored → SurveyEntry → List ℕ
bytes_in s entry = unwrap_or (bytes_at entry.place entry.name s) []

-- the message in it
abbrev pub message_at : List Keyword → Stored → SurveyEntry → Message
message_at keywords s entry = record { uid = entry.uid; flags = flags_by_name keywords entry.name; bytes = bytes_in s entry }

-- what it lists, where some messages are not asked whether they are fit
abbrev pub item_at : List Keyword → (spared : ℕ → Bool) → Stored → SurveyEntry → Item
item_at keywords spared s entry = item_sparing Near spared (message_at keywords s entry)

-- the messages that are asked
abbrev pub asked : (spared : ℕ → Bool) → List Message → List Message
asked spared = filter (λ m. not (spared m.uid))

-- how many messages of entries are asked
abbrev pub count_asked : (spared : ℕ → Bool) → List SurveyEntry → ℕ
count_asked spared entries = length (filter (λ entry. not (spared entry.uid)) entries)

-- an entry's file stands in the folder
abbrev pub IsThere : Stored → SurveyEntry → Type 0
IsThere s entry = bytes_at entry.place entry.name s ≡ Some (bytes_in s entry)

abbrev pub AreThere : List SurveyEntry → Stored → Type 0
AreThere entries s = All (IsThere s) entries

-- the same, but of those that are spared
abbrev pub IsThereUnless : (spared : ℕ → Bool) → Stored → SurveyEntry → Type 0
IsThereUnless spared s entry = spared entry.uid ≡ false → IsThere s entry

abbrev pub AreThereUnless : (spared : ℕ → Bool) → List SurveyEntry → Stored → Type 0
AreThereUnless spared entries s = All (IsThereUnless spared s) entries

abbrev pub AreRising : List SurveyEntry → Type 0
AreRising entries = AllPairs (λ a b. a.uid < b.uid) entries

-- all are spared
abbrev pub AreSpared : (spared : ℕ → Bool) → List SurveyEntry → Type 0
AreSpared spared entries = All (λ entry. spared entry.uid ≡ true) entries

-- the name of no file with this UID marks its message as deleted
abbrev pub IsUnmarked : List Keyword → (uid : ℕ) → List SurveyEntry → Type 0
IsUnmarked keywords uid entries = All (λ entry. entry.uid ≡ uid → has (flags_by_name keywords entry.name) DELETED ≡ false) entries
