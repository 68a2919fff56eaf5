-- What an append does to the mailbox.
use Rattle.std.proofs.Common.{◌≡◌, ℕ, ◌+◌, ◌<◌, ◌^◌, true, List, [], ◌∷◌, ◌++◌, map, None, Some, sym, ap, subst, ◌∙◌, ◌⊎◌, inl, inr, append-nil, arith}
use Rattle.std.specs.List.{filter_map}
use Rattle.std.proofs.lemmas.Bool.Decides.{nat_tests}
use Rattle.std.proofs.lemmas.List.Elements.{All-nil}
use Rattle.mailcore.specs.declared.keywords.Keyword.{Keyword}
use Rattle.mailcore.specs.declared.mailbox.Message.{Message}
use Rattle.mailcore.specs.KeywordNames.{kept}
use Rattle.maildir.specs.declared.folder.File.{File}
use Rattle.maildir.specs.declared.folder.FileName.{FileName}
use Rattle.maildir.specs.declared.folder.Place.TheVariants.{Cur}
use Rattle.near_box.specs.declared.survey.SurveyEntry.{SurveyEntry}
use Rattle.near_box.specs.declared.survey.Survey.{Survey}
use Rattle.maildir.specs.Folders.{Stored, AreApart, without, name_of_file}
use Rattle.mailcore.specs.Mailboxes.{on_store, delivered, SetsAside}
use Rattle.near_box.specs.Mailboxes.{messages_in, by_uid, waiting_files, near_of, is_before}
use Rattle.mailcore.specs.Operations.{set_aside as uids_set_aside}
use Rattle.maildir.specs.Metas.{is_meta}
use Rattle.near_box.specs.NearEffects.{AppendsPart, appended, copy_name, raised, set_aside}
use Rattle.near_box.specs.Surveys.{Surveys, Extends, entry_of, entry_at}
use Rattle.near_box.specs.Sorting.{sorted}
use Rattle.maildir.proofs.FileLemmas.{apart_added}
use Rattle.near_box.proofs.NewNameLemmas.{IsNumbered, copy_is_numbered}
use Rattle.near_box.proofs.NewUidLemmas.{Gains, gains, Holds, HasUidBelow, holds_from_survey, survey_from_holds, left_all, none_there, meta_fits, meta_is_positive, near_is, near_with, raised_is_read, waits_not, message_in}
use Rattle.near_box.proofs.KnownMarkLemmas.{marks_after, marks_delivered}

abbrev copy_at : (keywords : List Keyword) → Survey → (flags : ℕ) → FileName
copy_at keywords survey flags = record { place = Cur; name = copy_name keywords survey.meta.validity survey.meta.next flags }

abbrev copy_of : (keywords : List Keyword) → Survey → (bytes : List ℕ) (flags : ℕ) → File
copy_of keywords survey bytes flags = record { place = Cur; name = copy_name keywords survey.meta.validity survey.meta.next flags; bytes = bytes }

-- what a delivery leaves, said of the survey that it began with
pub delivery : (keywords : List Keyword) (old begun new : Survey) (uid flags : ℕ) → begun ≡ old → uid ≡ old.meta.next
    → Extends (entry_at uid (record { place = Cur; name = copy_name keywords begun.meta.validity uid flags }) ∷ []) begun.waiting.items (raised begun.meta 1) begun new
    → Extends (entry_at old.meta.next (copy_at keywords old flags) ∷ []) old.waiting.items (raised old.meta 1) old new
delivery keywords old begun new uid flags same number extends =
    subst (λ (n : ℕ). Extends (entry_at n (record { place = Cur; name = copy_name keywords old.meta.validity n flags }) ∷ []) old.waiting.items (raised old.meta 1) old new) number
    (subst (λ (v : Survey). Extends (entry_at uid (record { place = Cur; name = copy_name keywords v.meta.validity uid flags }) ∷ []) v.waiting.items (raised v.meta 1) v new) same extends)

module _ (survey : Survey) (fresh : ℕ) (keywords : List Keyword) (s : Stored) (surveys : Surveys survey fresh keywords s) (positive : 0 < fresh) (small : fresh < 2 ^ 32) (room : survey.meta.next + 1 < 2 ^ 32) where
  pub fits : is_meta survey.meta ≡ true
  fits = meta_fits fresh s.meta survey.meta positive small surveys.meta

  pub set_aside_near : (bytes : List ℕ) → near_of fresh keywords (set_aside survey.meta bytes s) ≡ on_store (uids_set_aside 1) (near_of fresh keywords s)
  set_aside_near bytes =
      near_is fresh keywords (set_aside survey.meta bytes s) (raised survey.meta 1) (raised_is_read survey.meta 1 fits room)
      ∙ sym (ap (on_store (uids_set_aside 1)) (near_is fresh keywords s survey.meta surveys.meta))

  module _ (bytes : List ℕ) (flags : ℕ) where
    numbered : IsNumbered keywords (copy_name keywords survey.meta.validity survey.meta.next flags) survey.meta.next (kept keywords flags)
    numbered =
        let bounds = meta_is_positive survey.meta fits in
        copy_is_numbered keywords survey.meta.validity survey.meta.next flags (omega arith) (grind (arith, nat_tests))

    -- no file goes
    all_stay : without Cur (copy_name keywords survey.meta.validity survey.meta.next flags) s.files ≡ s.files
    all_stay =
        let holds = holds_from_survey survey fresh keywords s surveys in
        left_all None (copy_at keywords survey flags) s.files (none_there survey.meta.next s.files (copy_at keywords survey flags) numbered.uid holds.below)

    pub is_added : Gains keywords s.files (appended keywords survey.meta bytes flags s).files (copy_of keywords survey bytes flags) survey.meta.next
    is_added =
        let file : File = copy_of keywords survey bytes flags in
        let holds = holds_from_survey survey fresh keywords s surveys in
        let apart : AreApart (s.files ++ file ∷ []) = subst (λ (l : List File). AreApart (l ++ file ∷ [])) all_stay (apart_added s.files file surveys.apart) in
        subst (λ (l : List File). Gains keywords s.files (l ++ file ∷ []) file survey.meta.next) (sym all_stay)
        (gains keywords survey.meta.next s.files s.files [] file numbered.uid apart holds.below (All-nil (HasUidBelow survey.meta.next))
        (ap (messages_in keywords) (append-nil s.files)) (ap (filter_map entry_of) (append-nil s.files)) holds)

    same_wait : waiting_files (appended keywords survey.meta bytes flags s).files ≡ waiting_files s.files
    same_wait =
        let file : File = copy_of keywords survey bytes flags in
        ap (λ (l : List File). waiting_files (l ++ file ∷ [])) all_stay
        ∙ ap (sorted is_before) (waits_not s.files [] file numbered.waits)
        ∙ ap waiting_files (append-nil s.files)

    pub appended_near : near_of fresh keywords (appended keywords survey.meta bytes flags s) ≡ delivered bytes (kept keywords flags) (near_of fresh keywords s)
    appended_near =
        let old : List Message = by_uid (messages_in keywords s.files) in
        let next : ℕ = survey.meta.next in
        near_is fresh keywords (appended keywords survey.meta bytes flags s) (raised survey.meta 1) (raised_is_read survey.meta 1 fits room)
        ∙ ap (λ (ms : List Message). near_with keywords (raised survey.meta 1) ms (waiting_files (appended keywords survey.meta bytes flags s).files)) is_added.messages
        ∙ ap (λ (ws : List File). near_with keywords (raised survey.meta 1) (old ++ message_in keywords (copy_of keywords survey bytes flags) next ∷ []) ws) same_wait
        ∙ ap (λ (f : ℕ). near_with keywords (raised survey.meta 1) (old ++ (let m : Message = record { uid = next; flags = f; bytes = bytes } in m) ∷ []) (waiting_files s.files)) numbered.flags
        ∙ sym (ap (delivered bytes (kept keywords flags)) (near_is fresh keywords s survey.meta surveys.meta))

    pub appended_surveys : (new : Survey) → Extends (entry_at survey.meta.next (copy_at keywords survey flags) ∷ []) survey.waiting.items (raised survey.meta 1) survey new
        → Surveys new fresh keywords (appended keywords survey.meta bytes flags s)
    appended_surveys new extends =
        survey_from_holds new fresh keywords (appended keywords survey.meta bytes flags s) (subst (λ (n : ℕ). Holds (appended keywords survey.meta bytes flags s).files n) (ap (λ m. m.next) (sym extends.meta)) is_added.holds) surveys.is_there
        (extends.entries ∙ ap (λ (es : List SurveyEntry). es ++ entry_at survey.meta.next (copy_at keywords survey flags) ∷ []) surveys.entries ∙ sym is_added.entries)
        (extends.waiting ∙ surveys.waiting ∙ ap (map name_of_file) (sym same_wait))
        (raised_is_read survey.meta 1 fits room ∙ ap Some (sym extends.meta)) (sym extends.has_meta)
        (marks_after (delivered bytes (kept keywords flags) (near_of fresh keywords s)) (near_of fresh keywords (appended keywords survey.meta bytes flags s)) survey.marks new.marks appended_near extends.marks
        (marks_delivered bytes (kept keywords flags) (near_of fresh keywords s) survey.marks surveys.marks))

    -- a fault leaves the mailbox as it was, or with the message, or with its UID set aside
    pub append_stopped : (s' : Stored) → (s' ≡ s) ⊎ ((s' ≡ appended keywords survey.meta bytes flags s) ⊎ AppendsPart survey.meta bytes s s')
        → (near_of fresh keywords s' ≡ near_of fresh keywords s) ⊎ ((near_of fresh keywords s' ≡ delivered bytes (kept keywords flags) (near_of fresh keywords s)) ⊎ SetsAside (near_of fresh keywords s) (near_of fresh keywords s'))
    append_stopped s' (inl same) = inl (ap (near_of fresh keywords) same)
    append_stopped s' (inr (inl done)) = inr (inl (ap (near_of fresh keywords) done ∙ appended_near))
    append_stopped s' (inr (inr (inl begun))) = inl (ap (near_of fresh keywords) begun.written)
    append_stopped s' (inr (inr (inr (inl copied)))) = inl (ap (near_of fresh keywords) copied)
    append_stopped s' (inr (inr (inr (inr aside)))) = inr (inr (ap (near_of fresh keywords) aside ∙ set_aside_near bytes))
