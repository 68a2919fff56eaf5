-- The mailbox that stands in a folder.
use Rattle.std.specs.Prelude.{◌≡◌, ◌<◌, ℕ, Bool, true, nat_lt, List, map, filter, Option, None, Some, unwrap_or, All, AllPairs}
use Rattle.std.specs.List.{filter_map}
use Rattle.std.specs.Option.{option_map}
use Rattle.std.specs.Ordering.{nat_cmp, is_lt, ordering_then}
use Rattle.std.specs.Cmp.Lexicographic.{slice_cmp}
use Rattle.std.specs.declared.cmp.Ordering.{Ordering}
use Rattle.std.specs.declared.cmp.Ordering.TheVariants.{Less, Equal, Greater}
use Rattle.mailcore.specs.declared.keywords.Keyword.{Keyword}
use Rattle.mailcore.specs.declared.mailbox.Message.{Message}
use Rattle.mailcore.specs.Mailboxes.{Mailbox}
use Rattle.mailcore.specs.Stores.{Store, Waiting}
use Rattle.maildir.specs.declared.folder.Place.{Place}
use Rattle.maildir.specs.declared.folder.Place.TheVariants.{New, Cur}
use Rattle.maildir.specs.declared.folder.File.{File}
use Rattle.maildir.specs.declared.folder.FileName.{FileName}
use Rattle.maildir.specs.declared.meta.Meta.{Meta}
use Rattle.maildir.specs.Folders.{Stored, AreApart, name_of_file}
use Rattle.maildir.specs.Metas.{meta_of}
use Rattle.maildir.specs.Names.{uid_in, is_waiting}
use Rattle.maildir.specs.FlaggedNames.{flags_by_name}
use Rattle.near_box.specs.Sorting.{sorted}

-- ---- messages: the files with a UID, in the order of their UIDs

-- their flags are those that have a name by a map
abbrev pub message_of : List Keyword → File → Option Message
message_of keywords file = option_map (λ uid. record { uid = uid; flags = flags_by_name keywords file.name; bytes = file.bytes }) (uid_in file.name)

abbrev pub messages_in : List Keyword → List File → List Message
messages_in keywords files = filter_map (message_of keywords) files

abbrev pub by_uid : List Message → List Message
by_uid messages = sorted (λ a b. nat_lt a.uid b.uid) messages

-- their UIDs, in the order of the files
abbrev pub uids_in : List File → List ℕ
uids_in files = filter_map (λ file. uid_in file.name) files

-- no UID is there twice
abbrev pub AreDistinct : List ℕ → Type 0
AreDistinct uids = AllPairs (λ a b. a ≡ b → ⊥) uids

-- ---- waiting files: in the byte order of their names, `new` before `cur`

abbrev pub place_cmp : Place → Place → Ordering
place_cmp New New = Equal
place_cmp New Cur = Less
place_cmp Cur New = Greater
place_cmp Cur Cur = Equal

abbrev pub name_cmp : (a b : List ℕ) → Ordering
name_cmp = slice_cmp nat_cmp

abbrev pub is_before : File → File → Bool
is_before a b = is_lt (ordering_then (name_cmp a.name b.name) (place_cmp a.place b.place))

abbrev pub waiting_files : List File → List File
waiting_files files = sorted is_before (filter (λ file. is_waiting file.name) files)

abbrev pub waiting_of : List Keyword → File → Waiting
waiting_of keywords file = record { flags = flags_by_name keywords file.name; bytes = file.bytes }

-- a file with these bytes and flags
abbrev pub waiting_with : List ℕ → ℕ → Waiting
waiting_with bytes flags = record { flags = flags; bytes = bytes }

-- ---- the meta file

abbrev pub first_meta : (fresh : ℕ) → Meta
first_meta fresh = record { validity = fresh; next = 1 }

-- what the meta file says, if it is spelled as one; a mailbox without one begins with UID 1 under a fresh validity
abbrev pub meta_in : (fresh : ℕ) → Option (List ℕ) → Option Meta
meta_in fresh None = Some (first_meta fresh)
meta_in fresh (Some text) = meta_of text

-- ---- the mailbox

-- what its meta file says
abbrev pub meta_at : (fresh : ℕ) → Stored → Meta
meta_at fresh s = unwrap_or (meta_in fresh s.meta) (first_meta fresh)

-- the names of the files that wait, in their order
abbrev pub waiting_names : Stored → List FileName
waiting_names s = map name_of_file (waiting_files s.files)

abbrev pub store_of : List Keyword → Meta → List File → Store
store_of keywords meta files = record { validity = meta.validity; next = meta.next; messages = by_uid (messages_in keywords files) }

-- as it is seen by a map of keywords
abbrev pub near_of : (fresh : ℕ) (keywords : List Keyword) → Stored → Mailbox
near_of fresh keywords s = record {
  store = store_of keywords (meta_at fresh s) s.files;
  waiting = map (waiting_of keywords) (waiting_files s.files);
}

-- a validity and a next UID are the mailbox's
abbrev pub IsMetaOf : Store → Meta → Type 0
IsMetaOf store meta = (meta.validity ≡ store.validity) × (meta.next ≡ store.next)

-- the meta file is spelled as one, or missing, and each UID is below the next one
pub record HasMeta (fresh : ℕ) (s : Stored) : Type 0 where
  pub meta : Meta
  pub is : meta_in fresh s.meta ≡ Some meta
  pub below : All (λ uid. uid < meta.next) (uids_in s.files)

-- the folder holds a mailbox, whatever the map
pub record IsMailbox (fresh : ℕ) (s : Stored) : Type 0 where
  pub is_there : s.is_there ≡ true
  pub apart : AreApart s.files
  pub once : AreDistinct (uids_in s.files)
  pub meta : HasMeta fresh s
