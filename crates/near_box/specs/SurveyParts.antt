-- What the parts of a survey report.
use Rattle.std.specs.Prelude.{◌≡◌, ℕ, Bool, List, Option, None, Some, Result, Ok, Err}
use Rattle.std.specs.Option.{option_map}
use Rattle.std.specs.Ordering.{is_lt, ordering_then}
use Rattle.std.specs.declared.cmp.Ordering.{Ordering}
use Rattle.mailcore.specs.declared.keywords.Keyword.{Keyword}
use Rattle.maildir.specs.declared.folder.FileName.{FileName}
use Rattle.near_box.specs.declared.near_fault.NearFault.{NearFault}
use Rattle.near_box.specs.declared.near_fault.NearFault.TheVariants.{Stopped, Absent, TwoWithOneUid, BadMeta, UidsExhausted, NoMemory}
use Rattle.near_box.specs.declared.survey.SurveyEntry.{SurveyEntry}
use Rattle.near_box.specs.declared.survey.Survey.{Survey}
use Rattle.near_box.specs.declared.survey.FileKind.{FileKind}
use Rattle.near_box.specs.declared.survey.FileKind.TheVariants.{Message, Waiting, Other}
use Rattle.maildir.specs.Folders.{Stored}
use Rattle.near_box.specs.Mailboxes.{name_cmp, place_cmp}
use Rattle.maildir.specs.Names.{NameParts, uid_in, is_waiting}
use Rattle.near_box.specs.NearContracts.{ReportsWhy}
use Rattle.near_box.specs.Surveys.{Surveys}

-- a file of a message by its name
abbrev pub named_entry : FileName → Option SurveyEntry
named_entry file = option_map (λ uid. record { uid = uid; place = file.place; name = file.name }) (uid_in file.name)

abbrev pub waits : FileName → Bool
waits file = is_waiting file.name

abbrev pub file_cmp : FileName → FileName → Ordering
file_cmp a b = ordering_then (name_cmp a.name b.name) (place_cmp a.place b.place)

abbrev pub is_before : FileName → FileName → Bool
is_before a b = is_lt (file_cmp a b)

abbrev pub IsKindOf : NameParts → FileKind → Type 0
IsKindOf parts (Message uid) = parts.uid ≡ Some uid
IsKindOf parts Waiting = parts.uid ≡ None
IsKindOf parts Other = ⊥

-- what a name makes of its file
abbrev pub IsKind : Option NameParts → FileKind → Type 0
IsKind None kind = kind ≡ Other
IsKind (Some parts) kind = IsKindOf parts kind

-- a fault of the box's own, not of a call of the folder
abbrev pub IsOwnFault : NearFault → Type 0
IsOwnFault Stopped = ⊥
IsOwnFault Absent = ⊥
IsOwnFault TwoWithOneUid = Unit {0}
IsOwnFault BadMeta = Unit {0}
IsOwnFault UidsExhausted = ⊥
IsOwnFault NoMemory = Unit {0}

-- what a survey reports of the folder
abbrev pub SurveyReports : (fresh : ℕ) (keywords : List Keyword) → Stored → Result Survey NearFault → Type 0
SurveyReports fresh keywords s (Ok survey) = Surveys survey fresh keywords s
SurveyReports fresh keywords s (Err fault) = ReportsWhy fresh s fault
