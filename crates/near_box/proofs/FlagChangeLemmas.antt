-- A message's flags change: what becomes of its file, of its entry and of the mailbox.
use Rattle.std.proofs.Common.{◌≡◌, ℕ, ◌<◌, Bool, true, false, cond, eqb, ltb, not, List, [], ◌∷◌, length, get_or, set, map, Option, None, Some, All, refl, sym, ap, subst, ◌∙◌, ◌⊎◌, inl, inr, arith}
use Rattle.std.specs.Prelude.{◌||◌, AllPairs, slice_get, nat_eq, unwrap_or, is_none, Result, Ok, Err}
use Rattle.std.specs.List.{filter_map}
use Rattle.std.specs.Option.{option_map, option_and_then}
use Rattle.std.specs.Cmp.Lexicographic.{pointwise, bytes_decides}
use Rattle.std.proofs.lemmas.Bool.{or_left, or_right, eq-eqb, false≢true}
use Rattle.std.proofs.lemmas.Option.{none-some, get_or_from_slice_get}
use Rattle.std.proofs.lemmas.List.{get_or-map, length-map}
use Rattle.std.proofs.lemmas.List.Elements.{All-weaker, All-map}
use Rattle.mailcore.specs.declared.keywords.Keyword.{Keyword}
use Rattle.mailcore.specs.declared.mailbox.Message.{Message}
use Rattle.mailcore.specs.KeywordNames.{kept}
use Rattle.device.specs.Calls.{Nothing}
use Rattle.maildir.specs.declared.folder.Place.TheVariants.{Cur}
use Rattle.maildir.specs.declared.folder.File.{File}
use Rattle.maildir.specs.declared.folder.FileName.{FileName}
use Rattle.maildir.specs.declared.meta.Meta.{Meta}
use Rattle.near_box.specs.declared.near_fault.NearFault.{NearFault}
use Rattle.near_box.specs.declared.survey.SurveyEntry.{SurveyEntry}
use Rattle.near_box.specs.declared.survey.Survey.{Survey}
use Rattle.maildir.specs.Folders.{Stored, AreApart, is_at, is_left, left, moved, name_of_file}
use Rattle.maildir.specs.Letters.{flags_in}
use Rattle.maildir.specs.Names.{NameParts, name_of, uid_in, lacks_uid, is_waiting, is_one_of}
use Rattle.maildir.specs.FlaggedNames.{flags_by_name, flagged, letters_by_name}
use Rattle.near_box.specs.NearEffects.{if_other, name_flagged, under_name, flagged_file, flagged_files, file_of, set_name, Does}
use Rattle.near_box.specs.NearContracts.{Changes}
use Rattle.mailcore.specs.Mailboxes.{on_store}
use Rattle.near_box.specs.Mailboxes.{message_of, messages_in, by_uid, is_before, waiting_files, near_of}
use Rattle.mailcore.specs.Operations.{flagged as store_flagged, with_flags}
use Rattle.near_box.specs.Sorting.{sorted}
use Rattle.near_box.specs.Surveys.{Surveys, entry_of, entries_in}
use Rattle.maildir.proofs.FileLemmas.{at_true, apart_moved}
use Rattle.maildir.proofs.LetterLemmas.{uid_in-flagged, flags-flagged}
use Rattle.near_box.proofs.KeptLemmas.{map_agree, map_same, filter_all, filter_map-mapped, filter-mapped, set_by_key}
use Rattle.near_box.proofs.SortingLemmas.{sorted_map}
use Rattle.near_box.proofs.UidLemmas.{IsItsFile, entry_within, entry_named, entry_stands}
use Rattle.near_box.proofs.KnownMarkLemmas.{marks_after, marks_flagged}

-- ---- names

abbrev new_name : (keywords : List Keyword) → List ℕ → ℕ → List ℕ
new_name keywords text flags = unwrap_or (name_flagged keywords text flags) text

uid_in-renamed : (keywords : List Keyword) (text : List ℕ) (flags : ℕ) → uid_in (new_name keywords text flags) ≡ uid_in text
uid_in-renamed keywords text flags = by_case (name_of text) refl
  where
    by_test : (parts : NameParts) → name_of text ≡ Some parts → (b : Bool) → uid_in (unwrap_or (cond b None (Some (flagged keywords parts flags))) text) ≡ uid_in text
    by_test parts e true = refl
    by_test parts e false = uid_in-flagged keywords text parts flags e ∙ sym (ap (λ (o : Option NameParts). option_and_then (λ parts. parts.uid) o) e)

    by_case : (o : Option NameParts) → name_of text ≡ o → uid_in (unwrap_or (if_other text (option_map (λ parts. flagged keywords parts flags) o)) text) ≡ uid_in text
    by_case None e = refl
    by_case (Some parts) e = by_test parts e (pointwise nat_eq (flagged keywords parts flags) text)

no_parts : (text : List ℕ) (uid : ℕ) → name_of text ≡ None → uid_in text ≡ Some uid → ⊥
no_parts text uid e has = none-some uid (sym (ap (λ (o : Option NameParts). option_and_then (λ parts. parts.uid) o) e) ∙ has)

flags-renamed : (keywords : List Keyword) (text : List ℕ) (flags uid : ℕ) → uid_in text ≡ Some uid → flags_by_name keywords (new_name keywords text flags) ≡ kept keywords flags
flags-renamed keywords text flags uid has = by_case (name_of text) refl
  where
    by_test : (parts : NameParts) → name_of text ≡ Some parts → (b : Bool) → pointwise nat_eq (flagged keywords parts flags) text ≡ b
        → flags_by_name keywords (unwrap_or (cond b None (Some (flagged keywords parts flags))) text) ≡ kept keywords flags
    by_test parts e true f = ap (flags_by_name keywords) (sym ((bytes_decides (flagged keywords parts flags) text).0 f)) ∙ flags-flagged keywords text parts flags e
    by_test parts e false f = flags-flagged keywords text parts flags e

    by_case : (o : Option NameParts) → name_of text ≡ o → flags_by_name keywords (unwrap_or (if_other text (option_map (λ parts. flagged keywords parts flags) o)) text) ≡ kept keywords flags
    by_case None e = absurd (no_parts text uid e has)
    by_case (Some parts) e = by_test parts e (pointwise nat_eq (flagged keywords parts flags) text) refl

-- a name that a change gives is another
other_name : (keywords : List Keyword) (text name : List ℕ) (flags : ℕ) → name_flagged keywords text flags ≡ Some name → text ≡ name → ⊥
other_name keywords text name flags is same = by_case (name_of text) is
  where
    by_test : (parts : NameParts) (b : Bool) → pointwise nat_eq (flagged keywords parts flags) text ≡ b → cond b None (Some (flagged keywords parts flags)) ≡ Some name → ⊥
    by_test parts true f e = cc
    by_test parts false f e =
        let own : flagged keywords parts flags ≡ name = cc in
        false≢true (sym f ∙ (bytes_decides (flagged keywords parts flags) text).1 (own ∙ sym same))

    by_case : (o : Option NameParts) → if_other text (option_map (λ parts. flagged keywords parts flags) o) ≡ Some name → ⊥
    by_case None e = cc
    by_case (Some parts) e = by_test parts (pointwise nat_eq (flagged keywords parts flags) text) refl e

-- a name with a UID waits for none
pub has_uid : (text : List ℕ) (uid : ℕ) → uid_in text ≡ Some uid → is_waiting text ≡ false
has_uid text uid has = by_case (name_of text) refl
  where
    by_case : (o : Option NameParts) → name_of text ≡ o → lacks_uid o ≡ false
    by_case None e = refl
    by_case (Some parts) e = ap is_none (sym (ap (λ (o : Option NameParts). option_and_then (λ parts. parts.uid) o) e) ∙ has)

-- ---- files

name-under : (file : File) (name : Option (List ℕ)) → (under_name file name).name ≡ unwrap_or name file.name
name-under file None = refl
name-under file (Some name) = refl

abbrev entry_with : ℕ → File → SurveyEntry
entry_with uid file = record { uid = uid; place = file.place; name = file.name }

abbrev pub entry_under : SurveyEntry → Option (List ℕ) → SurveyEntry
entry_under entry None = entry
entry_under entry (Some name) = record { uid = entry.uid; place = Cur; name = name }

entry_of-under : (file : File) (name : Option (List ℕ)) (uid : ℕ) → uid_in (unwrap_or name file.name) ≡ Some uid → entry_of (under_name file name) ≡ Some (entry_under (entry_with uid file) name)
entry_of-under file None uid has = rw has refl
entry_of-under file (Some name) uid has = rw has refl

message_of-under : (keywords : List Keyword) (file : File) (name : Option (List ℕ)) (uid flags : ℕ) → uid_in (unwrap_or name file.name) ≡ Some uid → flags_by_name keywords (unwrap_or name file.name) ≡ flags
    → message_of keywords (under_name file name) ≡ Some (record { uid = uid; flags = flags; bytes = file.bytes })
message_of-under keywords file None uid flags has bears = rw (has, bears) refl
message_of-under keywords file (Some name) uid flags has bears = rw (has, bears) refl

-- ---- a change

module _ (keywords : List Keyword) (change : ℕ → ℕ) where
  -- the entry of a message whose flags are changed
  abbrev pub reflagged_entry : SurveyEntry → SurveyEntry
  reflagged_entry entry = entry_under entry (name_flagged keywords entry.name (change (flags_by_name keywords entry.name)))

  module _ (uid : ℕ) where
    abbrev with_file : SurveyEntry → SurveyEntry
    with_file entry = cond (eqb entry.uid uid) (reflagged_entry entry) entry

    untouched : (file : File) → is_one_of (uid ∷ []) (uid_in file.name) ≡ false → flagged_file keywords change uid file ≡ file
    untouched file other = rw other refl

    touched : (file : File) → is_one_of (uid ∷ []) (uid_in file.name) ≡ true → flagged_file keywords change uid file ≡ under_name file (name_flagged keywords file.name (change (flags_by_name keywords file.name)))
    touched file is = rw is refl

    no_uid : (file : File) → uid_in file.name ≡ None → flagged_file keywords change uid file ≡ file
    no_uid file e = untouched file (ap (is_one_of (uid ∷ [])) e)

    with_uid : (file : File) (u : ℕ) (b : Bool) → uid_in file.name ≡ Some u → eqb u uid ≡ b → is_one_of (uid ∷ []) (uid_in file.name) ≡ (b || false)
    with_uid file u b e f = ap (is_one_of (uid ∷ [])) e ∙ ap (λ (t : Bool). t || false) f

    uid_in-flagged_file : (file : File) → uid_in (flagged_file keywords change uid file).name ≡ uid_in file.name
    uid_in-flagged_file file = by_test (is_one_of (uid ∷ []) (uid_in file.name)) refl
      where
        flags : ℕ
        flags = change (flags_by_name keywords file.name)

        by_test : (b : Bool) → is_one_of (uid ∷ []) (uid_in file.name) ≡ b → uid_in (flagged_file keywords change uid file).name ≡ uid_in file.name
        by_test true e = ap (λ (f : File). uid_in f.name) (touched file e) ∙ ap uid_in (name-under file (name_flagged keywords file.name flags)) ∙ uid_in-renamed keywords file.name flags
        by_test false e = ap (λ (f : File). uid_in f.name) (untouched file e)

    entry_of-flagged : (file : File) → entry_of (flagged_file keywords change uid file) ≡ option_map with_file (entry_of file)
    entry_of-flagged file = by_case (uid_in file.name) refl
      where
        flags : ℕ
        flags = change (flags_by_name keywords file.name)

        by_test : (u : ℕ) → uid_in file.name ≡ Some u → (b : Bool) → eqb u uid ≡ b → entry_of (flagged_file keywords change uid file) ≡ option_map with_file (entry_of file)
        by_test u e true f =
            ap entry_of (touched file (with_uid file u true e f))
            ∙ entry_of-under file (name_flagged keywords file.name flags) u (uid_in-renamed keywords file.name flags ∙ e)
            ∙ rw (e, f) refl
        by_test u e false f = ap entry_of (untouched file (with_uid file u false e f)) ∙ rw (e, f) refl

        by_case : (o : Option ℕ) → uid_in file.name ≡ o → entry_of (flagged_file keywords change uid file) ≡ option_map with_file (entry_of file)
        by_case None e = ap entry_of (no_uid file e) ∙ rw e refl
        by_case (Some u) e = by_test u e (eqb u uid) refl

    -- what the change is to the flags that have a name
    abbrev pub IsSeenAs : (ℕ → ℕ) → Type 0
    IsSeenAs seen = (n : ℕ) → kept keywords (change (kept keywords n)) ≡ seen (kept keywords n)

    message_of-flagged : (seen : ℕ → ℕ) → IsSeenAs seen → (file : File) → message_of keywords (flagged_file keywords change uid file) ≡ option_map (with_flags seen uid) (message_of keywords file)
    message_of-flagged seen is_seen file = by_case (uid_in file.name) refl
      where
        flags : ℕ
        flags = change (flags_by_name keywords file.name)

        by_test : (u : ℕ) → uid_in file.name ≡ Some u → (b : Bool) → eqb u uid ≡ b → message_of keywords (flagged_file keywords change uid file) ≡ option_map (with_flags seen uid) (message_of keywords file)
        by_test u e true f =
            ap (message_of keywords) (touched file (with_uid file u true e f))
            ∙ message_of-under keywords file (name_flagged keywords file.name flags) u (seen (flags_by_name keywords file.name)) (uid_in-renamed keywords file.name flags ∙ e)
            (flags-renamed keywords file.name flags u e ∙ is_seen (flags_in (letters_by_name file.name)))
            ∙ rw (e, f) refl
        by_test u e false f = ap (message_of keywords) (untouched file (with_uid file u false e f)) ∙ rw (e, f) refl

        by_case : (o : Option ℕ) → uid_in file.name ≡ o → message_of keywords (flagged_file keywords change uid file) ≡ option_map (with_flags seen uid) (message_of keywords file)
        by_case None e = ap (message_of keywords) (no_uid file e) ∙ rw e refl
        by_case (Some u) e = by_test u e (eqb u uid) refl

    waiting_same : (file : File) → is_waiting (flagged_file keywords change uid file).name ≡ is_waiting file.name
    waiting_same file = by_case (uid_in file.name) refl
      where
        by_case : (o : Option ℕ) → uid_in file.name ≡ o → is_waiting (flagged_file keywords change uid file).name ≡ is_waiting file.name
        by_case None e = ap (λ (f : File). is_waiting f.name) (no_uid file e)
        by_case (Some u) e = has_uid (flagged_file keywords change uid file).name u (uid_in-flagged_file file ∙ e) ∙ sym (has_uid file.name u e)

    waiting_stays : (file : File) → is_waiting file.name ≡ true → flagged_file keywords change uid file ≡ file
    waiting_stays file waits = by_case (uid_in file.name) refl
      where
        by_case : (o : Option ℕ) → uid_in file.name ≡ o → flagged_file keywords change uid file ≡ file
        by_case None e = no_uid file e
        by_case (Some u) e = absurd (false≢true (sym (has_uid file.name u e) ∙ waits))

    pub waiting-flagged : (files : List File) → waiting_files (map (flagged_file keywords change uid) files) ≡ waiting_files files
    waiting-flagged files = ap (sorted is_before) (filter-mapped (λ file. is_waiting file.name) (flagged_file keywords change uid) waiting_same waiting_stays files)

    uid-with_flags : (seen : ℕ → ℕ) (m : Message) → (with_flags seen uid m).uid ≡ m.uid
    uid-with_flags seen m = elim (eqb m.uid uid) as (λ b. (cond b (record m { flags = seen m.flags }) m).uid ≡ m.uid) [ true ↦ refl | false ↦ refl ]

    -- the mailbox after a change of flags
    pub near-flagged : (seen : ℕ → ℕ) → IsSeenAs seen → (fresh : ℕ) (s : Stored) → near_of fresh keywords (flagged_files keywords change uid s) ≡ on_store (store_flagged seen uid) (near_of fresh keywords s)
    near-flagged seen is_seen fresh s =
        let messages : by_uid (messages_in keywords (map (flagged_file keywords change uid) s.files)) ≡ map (with_flags seen uid) (by_uid (messages_in keywords s.files)) =
        ap by_uid (filter_map-mapped (message_of keywords) (message_of keywords) (flagged_file keywords change uid) (with_flags seen uid) (message_of-flagged seen is_seen) s.files)
        ∙ sorted_map (λ m. m.uid) (λ m. m.uid) (with_flags seen uid) (uid-with_flags seen) (messages_in keywords s.files) in
        rw (messages, waiting-flagged s.files) refl

    pub changes_flags : {T : Type 0} (seen : ℕ → ℕ) → IsSeenAs seen → (fresh : ℕ) (s s' : Stored) (r : Result T NearFault)
        → Does (flagged_files keywords change uid) Nothing s s' r → Changes (on_store (store_flagged seen uid)) Nothing (near_of fresh keywords s) (near_of fresh keywords s') r
    changes_flags seen is_seen fresh s s' (Ok answer) done = ap (near_of fresh keywords) done ∙ near-flagged seen is_seen fresh s
    changes_flags seen is_seen fresh s s' (Err fault) (inl same) = inl (ap (near_of fresh keywords) same)
    changes_flags seen is_seen fresh s s' (Err fault) (inr (inl done)) = inr (inl (ap (near_of fresh keywords) done ∙ near-flagged seen is_seen fresh s))
    changes_flags seen is_seen fresh s s' (Err fault) (inr (inr never)) = absurd never

    -- where no message has the UID
    pub flagged_nowhere : (s : Stored) → All (λ x. is_one_of (uid ∷ []) (uid_in x.name) ≡ false) s.files → flagged_files keywords change uid s ≡ s
    flagged_nowhere s none =
        ap (λ (files : List File). let t : Stored = record s { files = files } in t)
        (map_same (flagged_file keywords change uid) s.files (All-weaker (λ x. is_one_of (uid ∷ []) (uid_in x.name) ≡ false) (λ x. flagged_file keywords change uid x ≡ x) untouched s.files none))

-- ---- the file of a message, as a survey knows it

module _ (survey : Survey) (fresh : ℕ) (keywords : List Keyword) (s : Stored) (surveys : Surveys survey fresh keywords s) (i : ℕ) (entry : SurveyEntry) (there : slice_get survey.entries.items i ≡ Some entry) where
  abbrev name_with : ℕ → Option (List ℕ)
  name_with flags = name_flagged keywords entry.name flags

  flagged_file_is : (change : ℕ → ℕ) (flags : ℕ) → flags ≡ change (flags_by_name keywords entry.name) → (x : File) → IsItsFile survey fresh keywords s surveys entry x
      → flagged_file keywords change entry.uid x ≡ cond (is_at entry.place entry.name x) (under_name x (name_with flags)) x
  flagged_file_is change flags is x its = by_test (is_at entry.place entry.name x) refl
    where
      by_test : (b : Bool) → is_at entry.place entry.name x ≡ b → flagged_file keywords change entry.uid x ≡ cond b (under_name x (name_with flags)) x
      by_test false e = untouched keywords change entry.uid x (its ∙ e)
      by_test true e =
          let same : name_of_file x ≡ file_of entry = at_true (file_of entry) x e in
          touched keywords change entry.uid x (its ∙ e)
          ∙ ap (λ (f : FileName). under_name x (name_flagged keywords f.name (change (flags_by_name keywords f.name)))) same
          ∙ ap (λ (n : ℕ). under_name x (name_flagged keywords entry.name n)) (sym is)

  -- no other file has the new name
  alone : (flags : ℕ) (name : List ℕ) → name_with flags ≡ Some name → (x : File) → IsItsFile survey fresh keywords s surveys entry x
      → is_left (Some (file_of entry)) Cur name x ≡ true
  alone flags name is x its = by_test (is_at Cur name x) refl
    where
      by_test : (b : Bool) → is_at Cur name x ≡ b → (is_at entry.place entry.name x || not b) ≡ true
      by_test false e = or_right (is_at entry.place entry.name x) true refl
      by_test true e =
          let at : FileName = record { place = Cur; name = name } in
          let same : name_of_file x ≡ at = at_true at x e in
          let uid : uid_in name ≡ Some entry.uid =
          ap (λ (n : Option (List ℕ)). uid_in (unwrap_or n entry.name)) (sym is) ∙ uid_in-renamed keywords entry.name flags ∙ entry_named survey fresh keywords s surveys i entry there in
          let stands : is_one_of (entry.uid ∷ []) (uid_in x.name) ≡ true =
          ap (λ (f : FileName). is_one_of (entry.uid ∷ []) (uid_in f.name)) same ∙ ap (is_one_of (entry.uid ∷ [])) uid ∙ ap (λ (t : Bool). t || false) (eq-eqb entry.uid entry.uid refl) in
          or_left (is_at entry.place entry.name x) false (sym its ∙ stands)

  abbrev renamed_by : Option (List ℕ) → Stored
  renamed_by name = set_name (file_of entry) name s

  files_renamed : (change : ℕ → ℕ) (flags : ℕ) → flags ≡ change (flags_by_name keywords entry.name) → (n : Option (List ℕ)) → name_with flags ≡ n
      → renamed_by n ≡ flagged_files keywords change entry.uid s
  files_renamed change flags is None e =
      sym (ap (λ (files : List File). let t : Stored = record s { files = files } in t)
      (map_same (flagged_file keywords change entry.uid) s.files
      (All-weaker (IsItsFile survey fresh keywords s surveys entry) (λ x. flagged_file keywords change entry.uid x ≡ x)
      (λ x its. flagged_file_is change flags is x its ∙ ap (λ (n : Option (List ℕ)). cond (is_at entry.place entry.name x) (under_name x n) x) e ∙ either (is_at entry.place entry.name x) x)
      s.files (entry_stands survey fresh keywords s surveys i entry there))))
    where
      either : (b : Bool) (x : File) → cond b x x ≡ x
      either true x = refl
      either false x = refl
  files_renamed change flags is (Some name) e =
      let at : FileName = record { place = Cur; name = name } in
      let kept : left (Some (file_of entry)) Cur name s.files ≡ s.files =
      filter_all (is_left (Some (file_of entry)) Cur name) s.files
      (All-weaker (IsItsFile survey fresh keywords s surveys entry) (λ x. is_left (Some (file_of entry)) Cur name x ≡ true) (alone flags name e) s.files (entry_stands survey fresh keywords s surveys i entry there)) in
      ap (λ (files : List File). let t : Stored = record s { files = files } in t)
      (ap (map (moved (file_of entry) at)) kept
      ∙ map_agree (moved (file_of entry) at) (flagged_file keywords change entry.uid) s.files
      (All-weaker (IsItsFile survey fresh keywords s surveys entry) (λ x. moved (file_of entry) at x ≡ flagged_file keywords change entry.uid x)
      (λ x its. sym (flagged_file_is change flags is x its ∙ ap (λ (n : Option (List ℕ)). cond (is_at entry.place entry.name x) (under_name x n) x) e))
      s.files (entry_stands survey fresh keywords s surveys i entry there)))

  -- the rename of its file is the change of its flags
  pub rename_is_change : (change : ℕ → ℕ) (flags : ℕ) → flags ≡ change (flags_by_name keywords entry.name)
      → set_name (file_of entry) (name_flagged keywords entry.name flags) s ≡ flagged_files keywords change entry.uid s
  rename_is_change change flags is = files_renamed change flags is (name_with flags) refl

  pub change_done : (change : ℕ → ℕ) (flags uid : ℕ) → flags ≡ change (flags_by_name keywords entry.name) → entry.uid ≡ uid → (before after : Stored) → s ≡ before
      → after ≡ set_name (file_of entry) (name_flagged keywords entry.name flags) s → after ≡ flagged_files keywords change uid before
  change_done change flags uid is own before after same done =
      done ∙ rename_is_change change flags is ∙ ap (λ (u : ℕ). flagged_files keywords change u s) own ∙ ap (flagged_files keywords change uid) same

  -- the same of a call that may have stopped
  pub change_stopped : (change : ℕ → ℕ) (flags uid : ℕ) → flags ≡ change (flags_by_name keywords entry.name) → entry.uid ≡ uid → (before after : Stored) → s ≡ before
      → (after ≡ s) ⊎ ((after ≡ set_name (file_of entry) (name_flagged keywords entry.name flags) s) ⊎ ⊥) → (after ≡ before) ⊎ ((after ≡ flagged_files keywords change uid before) ⊎ ⊥)
  change_stopped change flags uid is own before after same (inl left_so) = inl (left_so ∙ same)
  change_stopped change flags uid is own before after same (inr (inl done)) = inr (inl (change_done change flags uid is own before after same done))
  change_stopped change flags uid is own before after same (inr (inr never)) = absurd never

  apart_renamed : (n : Option (List ℕ)) → AreApart (renamed_by n).files
  apart_renamed None = surveys.apart
  apart_renamed (Some name) = apart_moved (file_of entry) (record { place = Cur; name = name }) s.files surveys.apart

  pub flagged_apart : (change : ℕ → ℕ) → AreApart (flagged_files keywords change entry.uid s).files
  flagged_apart change =
      subst (λ (t : Stored). AreApart t.files) (rename_is_change change (change (flags_by_name keywords entry.name)) refl) (apart_renamed (name_with (change (flags_by_name keywords entry.name))))

  uid-with_file : (change : ℕ → ℕ) (e : SurveyEntry) → (with_file keywords change entry.uid e).uid ≡ e.uid
  uid-with_file change e = by_test (eqb e.uid entry.uid) (name_flagged keywords e.name (change (flags_by_name keywords e.name)))
    where
      by_test : (b : Bool) (n : Option (List ℕ)) → (cond b (entry_under e n) e).uid ≡ e.uid
      by_test true None = refl
      by_test true (Some name) = refl
      by_test false n = refl

  entries_flagged : (change : ℕ → ℕ) → entries_in (flagged_files keywords change entry.uid s).files ≡ map (with_file keywords change entry.uid) (entries_in s.files)
  entries_flagged change =
      ap (sorted (λ a b. ltb a.uid b.uid)) (filter_map-mapped entry_of entry_of (flagged_file keywords change entry.uid) (with_file keywords change entry.uid) (entry_of-flagged keywords change entry.uid) s.files)
      ∙ sorted_map (λ e. e.uid) (λ e. e.uid) (with_file keywords change entry.uid) (uid-with_file change) (filter_map entry_of s.files)

  -- a change that changes nothing keeps the name
  pub kept_name : (change : ℕ → ℕ) (flags uid : ℕ) → flags ≡ change (flags_by_name keywords entry.name) → entry.uid ≡ uid → flagged_files keywords change uid s ≡ s → name_flagged keywords entry.name flags ≡ None
  kept_name change flags uid is own same =
      let kept : flagged_files keywords change entry.uid s ≡ s = subst (λ (u : ℕ). flagged_files keywords change u s ≡ s) (sym own) same in
      let mapped : map (with_file keywords change entry.uid) survey.entries.items ≡ survey.entries.items =
      ap (map (with_file keywords change entry.uid)) surveys.entries ∙ sym (entries_flagged change) ∙ ap (λ (t : Stored). entries_in t.files) kept ∙ sym surveys.entries in
      let at : (d : SurveyEntry) → get_or survey.entries.items i d ≡ entry = λ d. get_or_from_slice_get survey.entries.items i entry d there in
      let stays : with_file keywords change entry.uid entry ≡ entry =
      ap (with_file keywords change entry.uid) (sym (at entry)) ∙ sym (get_or-map (with_file keywords change entry.uid) survey.entries.items i entry entry (entry_within survey fresh keywords s surveys i entry there))
      ∙ ap (λ (l : List SurveyEntry). get_or l i entry) mapped ∙ at entry in
      ap (name_flagged keywords entry.name) is
      ∙ by_case (name_flagged keywords entry.name (change (flags_by_name keywords entry.name))) refl
      (subst (λ (b : Bool). cond b (reflagged_entry keywords change entry) entry ≡ entry) (eq-eqb entry.uid entry.uid refl) stays)
    where
      by_case : (n : Option (List ℕ)) → name_flagged keywords entry.name (change (flags_by_name keywords entry.name)) ≡ n → entry_under entry (name_flagged keywords entry.name (change (flags_by_name keywords entry.name))) ≡ entry → name_flagged keywords entry.name (change (flags_by_name keywords entry.name)) ≡ None
      by_case None e stays = e
      by_case (Some name) e stays =
          absurd (other_name keywords entry.name name (change (flags_by_name keywords entry.name)) e
          (ap (λ (x : SurveyEntry). x.name) (sym stays ∙ ap (entry_under entry) e)))

  -- the survey after the rename
  pub surveys_renamed : (flags : ℕ) (new : Survey) (s' : Stored) → s' ≡ set_name (file_of entry) (name_flagged keywords entry.name flags) s
      → new.entries.items ≡ set survey.entries.items i (entry_under entry (name_flagged keywords entry.name flags))
      → new.waiting.items ≡ survey.waiting.items → new.meta ≡ survey.meta → new.has_meta ≡ survey.has_meta → new.marks ≡ survey.marks → Surveys new fresh keywords s'
  surveys_renamed flags new s' now items waiting meta has_meta marks =
      let change : ℕ → ℕ = λ n. flags in
      let seen : ℕ → ℕ = λ n. kept keywords flags in
      let after : Stored = flagged_files keywords change entry.uid s in
      let is : s' ≡ after = now ∙ rename_is_change change flags refl in
      let own : (d : SurveyEntry) → get_or survey.entries.items i d ≡ entry = λ d. get_or_from_slice_get survey.entries.items i entry d there in
      let mapped : new.entries.items ≡ map (with_file keywords change entry.uid) survey.entries.items =
      items
      ∙ subst (λ (e : SurveyEntry). set survey.entries.items i (reflagged_entry keywords change e) ≡ map (λ x. cond (eqb x.uid e.uid) (reflagged_entry keywords change x) x) survey.entries.items) (own entry)
      (set_by_key (λ e. e.uid) (reflagged_entry keywords change) survey.entries.items surveys.rising i entry (entry_within survey fresh keywords s surveys i entry there)) in
      subst (λ (t : Stored). Surveys new fresh keywords t) (sym is) (record {
        is_there = surveys.is_there;
        apart = subst (λ (t : Stored). AreApart t.files) (rename_is_change change flags refl) (apart_renamed (name_with flags));
        entries = mapped ∙ ap (map (with_file keywords change entry.uid)) surveys.entries ∙ sym (entries_flagged change);
        rising = subst (λ (l : List SurveyEntry). AllPairs (λ a b. a.uid < b.uid) l) (sym mapped) (rise_mapped change);
        below = subst (λ (l : List SurveyEntry). All (λ e. e.uid < new.meta.next) l) (sym mapped)
            (All-map (λ e. e.uid < new.meta.next) (with_file keywords change entry.uid) survey.entries.items
            (All-weaker (λ e. e.uid < survey.meta.next) (λ e. (with_file keywords change entry.uid e).uid < new.meta.next)
            (λ e low. let same = uid-with_file change e in let next = ap (λ (m : Meta). m.next) meta in omega arith)
            survey.entries.items surveys.below));
        waiting = waiting ∙ surveys.waiting ∙ ap (map name_of_file) (sym (waiting-flagged keywords change entry.uid s.files));
        meta = surveys.meta ∙ ap Some (sym meta);
        has_meta = surveys.has_meta ∙ sym has_meta;
        marks = marks_after (on_store (store_flagged seen entry.uid) (near_of fresh keywords s)) (near_of fresh keywords after) survey.marks new.marks (near-flagged keywords change entry.uid seen (λ n. refl) fresh s) marks
            (marks_flagged seen entry.uid (near_of fresh keywords s).store survey.marks surveys.marks);
      })
    where
      rise_mapped : (change : ℕ → ℕ) → AllPairs (λ a b. a.uid < b.uid) (map (with_file keywords change entry.uid) survey.entries.items)
      rise_mapped change = λ p q d less below.
          let size : length (map (with_file keywords change entry.uid) survey.entries.items) ≡ length survey.entries.items = length-map survey.entries.items (with_file keywords change entry.uid) in
          let low = surveys.rising p q d less (omega arith) in
          let first = ap (λ (e : SurveyEntry). e.uid) (get_or-map (with_file keywords change entry.uid) survey.entries.items p d d (omega arith)) ∙ uid-with_file change (get_or survey.entries.items p d) in
          let second = ap (λ (e : SurveyEntry). e.uid) (get_or-map (with_file keywords change entry.uid) survey.entries.items q d d (omega arith)) ∙ uid-with_file change (get_or survey.entries.items q d) in
          omega arith
