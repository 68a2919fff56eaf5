-- What calls of the near mailbox do to what its folder stores.
use Rattle.std.specs.Prelude.{◌≡◌, ◌⊎◌, ℕ, ◌+◌, List, [], ◌++◌, ◌∷◌, decimal, codes, Option, None, Some, Result, Ok, Err, nat_eq, if◌then◌else◌, length, take, map, filter, not, Bool, true, false}
use Rattle.std.specs.Option.{option_map, option_map_or}
use Rattle.std.specs.Cmp.Lexicographic.{pointwise}
use Rattle.mailcore.specs.declared.keywords.Keyword.{Keyword}
use Rattle.maildir.specs.declared.folder.Place.TheVariants.{Cur}
use Rattle.maildir.specs.declared.folder.File.{File}
use Rattle.maildir.specs.declared.folder.FileName.{FileName}
use Rattle.maildir.specs.declared.meta.Meta.{Meta}
use Rattle.near_box.specs.declared.survey.SurveyEntry.{SurveyEntry}
use Rattle.near_box.specs.declared.near_fault.NearFault.{NearFault}
use Rattle.maildir.specs.Folders.{Stored, Begins, with_copy, with_meta, placed, renamed_file}
use Rattle.maildir.specs.FlaggedNames.{flagged, flags_by_name}
use Rattle.maildir.specs.Letters.{letters_with}
use Rattle.maildir.specs.Metas.{meta_text}
use Rattle.maildir.specs.Names.{name_of, name_text, uid_in, is_one_of}

-- ---- names

-- another name, or none
abbrev pub if_other : List ℕ → Option (List ℕ) → Option (List ℕ)
if_other name None = None
if_other name (Some other) = if pointwise nat_eq other name then None else Some other

-- the name that a change of flags gives, or none where the name stays
abbrev pub name_flagged : List Keyword → List ℕ → ℕ → Option (List ℕ)
name_flagged keywords name flags = if_other name (option_map (λ parts. flagged keywords parts flags) (name_of name))

-- the name of a waiting file once it has this UID
abbrev pub name_admitted : List ℕ → ℕ → List ℕ
name_admitted name uid =
    option_map_or (λ parts. name_text (record { base = parts.base; uid = Some uid; letters = parts.letters })) (name_of name) name

abbrev pub admitted : FileName → ℕ → FileName
admitted file uid = record { place = file.place; name = name_admitted file.name uid }

-- the base of a copy's name
abbrev pub copy_base : (validity uid : ℕ) → List ℕ
copy_base validity uid = decimal validity ++ codes "." ++ decimal uid ++ codes ".mbsync"

-- the name of a copy
abbrev pub copy_name : List Keyword → (validity uid flags : ℕ) → List ℕ
copy_name keywords validity uid flags =
    name_text (record {
      base = copy_base validity uid;
      uid = Some uid;
      letters = Some (letters_with keywords [] flags);
    })

-- ---- effects

abbrev pub file_of : SurveyEntry → FileName
file_of entry = record { place = entry.place; name = entry.name }

abbrev pub set_name : FileName → Option (List ℕ) → Stored → Stored
set_name file None s = s
set_name file (Some name) s = renamed_file file (record { place = Cur; name = name }) s

-- a file under another name, in `cur`
abbrev pub under_name : File → Option (List ℕ) → File
under_name file None = file
under_name file (Some name) = record { place = Cur; name = name; bytes = file.bytes }

-- the flags of the message with this UID are changed: its file gets the name that they ask for
abbrev pub flagged_file : List Keyword → (ℕ → ℕ) → (uid : ℕ) → File → File
flagged_file keywords change uid file =
    if is_one_of (uid ∷ []) (uid_in file.name)
    then under_name file (name_flagged keywords file.name (change (flags_by_name keywords file.name)))
    else file

abbrev pub flagged_files : List Keyword → (ℕ → ℕ) → (uid : ℕ) → Stored → Stored
flagged_files keywords change uid s = record s { files = map (flagged_file keywords change uid) s.files }

-- the files of these messages are removed
abbrev pub without_uids : List ℕ → Stored → Stored
without_uids uids s = record s { files = filter (λ file. not (is_one_of uids (uid_in file.name))) s.files }

-- some of them are, in the order in which they are named
pub record RemovesSome (uids : List ℕ) (s s' : Stored) : Type 0 where
  pub count : ℕ
  pub now : s' ≡ without_uids (take count uids) s

abbrev pub raised : Meta → ℕ → Meta
raised meta count = record { validity = meta.validity; next = meta.next + count }

-- the copy is written, the next UID is set aside, and the copy gets its name
abbrev pub set_aside : Meta → List ℕ → Stored → Stored
set_aside meta bytes s = with_meta (meta_text (raised meta 1)) (with_copy bytes s)

abbrev pub appended : List Keyword → Meta → (bytes : List ℕ) (flags : ℕ) → Stored → Stored
appended keywords meta bytes flags s =
    placed (record { place = Cur; name = copy_name keywords meta.validity meta.next flags }) (set_aside meta bytes s)

-- a part of an append: a beginning of the copy in `tmp`, all of it, or the next UID set aside too
abbrev pub AppendsPart : Meta → List ℕ → Stored → Stored → Type 0
AppendsPart meta bytes s s' = Begins bytes s s' ⊎ ((s' ≡ with_copy bytes s) ⊎ (s' ≡ set_aside meta bytes s))

-- a call with this effect if it is Ok, else without it, with it, or with a part of it
abbrev pub Does : {T : Type 0} → (Stored → Stored) → (Stored → Stored → Type 0) → Stored → Stored → Result T NearFault → Type 0
Does effect part s s' (Ok answer) = s' ≡ effect s
Does effect part s s' (Err fault) = (s' ≡ s) ⊎ ((s' ≡ effect s) ⊎ part s s')

-- waiting files get the UIDs from this one on, in turn
abbrev pub admitted_all : List FileName → ℕ → Stored → Stored
admitted_all [] uid s = s
admitted_all (file ∷ files) uid s = admitted_all files (uid + 1) (renamed_file file (admitted file uid) s)

-- the UIDs of waiting files are set aside
abbrev pub set_aside_all : List FileName → Meta → Stored → Stored
set_aside_all waiting meta s = with_meta (meta_text (raised meta (length waiting))) s

-- the UIDs are set aside, and some of the files have theirs
pub record Admitting (waiting : List FileName) (meta : Meta) (s s' : Stored) : Type 0 where
  pub count : ℕ
  pub now : s' ≡ admitted_all (take count waiting) meta.next (set_aside_all waiting meta s)

-- the UIDs are set aside first, and then the files get theirs, in order; a fault leaves all as it was, or some done
abbrev pub Admits : {T : Type 0} → List FileName → Meta → Stored → Stored → Result T NearFault → Type 0
Admits waiting meta s s' (Ok answer) = s' ≡ admitted_all waiting meta.next (set_aside_all waiting meta s)
Admits waiting meta s s' (Err fault) = (s' ≡ s) ⊎ Admitting waiting meta s s'

-- the same, where nothing is done if no file waits and there is a meta file
abbrev pub AdmitsIf : {T : Type 0} → Bool → List FileName → Meta → Stored → Stored → Result T NearFault → Type 0
AdmitsIf true [] meta s s' (Ok answer) = s' ≡ s
AdmitsIf true [] meta s s' (Err fault) = s' ≡ s
AdmitsIf true (file ∷ files) meta s s' result = Admits (file ∷ files) meta s s' result
AdmitsIf false waiting meta s s' result = Admits waiting meta s s' result
