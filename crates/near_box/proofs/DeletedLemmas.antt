-- Which messages that were surveyed are marked as deleted.
use Rattle.std.proofs.Common.{◌≡◌, ◌<◌, ℕ, Bool, false, List, [], ◌∷◌, map, length, get_or, All, sym, ap, subst, ◌∙◌}
use Rattle.std.proofs.lemmas.List.{get_or_default}
use Rattle.std.proofs.lemmas.List.Elements.{All-cons, All-head, All-map, All-nil, All-tail, All-weaker}
use Rattle.mailcore.specs.declared.keywords.Keyword.{Keyword}
use Rattle.mailcore.specs.declared.mailbox.Message.{Message}
use Rattle.mailcore.specs.FlagSet.{DELETED, has}
use Rattle.maildir.specs.FlaggedNames.{flags_by_name}
use Rattle.maildir.specs.Folders.{Stored}
use Rattle.near_box.specs.declared.survey.SurveyEntry.{SurveyEntry}
use Rattle.near_box.specs.declared.survey.Survey.{Survey}
use Rattle.near_box.specs.Entries.{AreRising, IsUnmarked, message_at}
use Rattle.near_box.specs.Mailboxes.{near_of}
use Rattle.near_box.specs.Surveys.{Surveys}
use Rattle.near_box.proofs.KeptLemmas.{one_place}
use Rattle.near_box.proofs.NearLemmas.{near_messages}

module _ (keywords : List Keyword) (uid : ℕ) where
  abbrev is_marked : SurveyEntry → Bool
  is_marked e = has (flags_by_name keywords e.name) DELETED

  -- no other entry has the UID of the one that was found
  pub marked_found : (es : List SurveyEntry) (i : ℕ) (entry : SurveyEntry) (reported : Bool) → AreRising es → i < length es → entry ≡ get_or es i entry → entry.uid ≡ uid
      → reported ≡ is_marked entry → All (λ e. e.uid ≡ uid → is_marked e ≡ reported) es
  marked_found es i entry reported rising within is own by_name k d below same =
      let here : get_or es i d ≡ entry = get_or_default es i d entry within ∙ sym is in
      let place : k ≡ i = one_place (λ e. e.uid) es rising k i d below within (same ∙ sym (ap (λ (e : SurveyEntry). e.uid) here ∙ own)) in
      ap (λ (j : ℕ). is_marked (get_or es j d)) place ∙ ap is_marked here ∙ sym by_name

  pub marked_missing : (es : List SurveyEntry) (reported : Bool) → All (λ e. e.uid ≡ uid → ⊥) es → All (λ e. e.uid ≡ uid → is_marked e ≡ reported) es
  marked_missing es reported none = All-weaker (λ e. e.uid ≡ uid → ⊥) (λ e. e.uid ≡ uid → is_marked e ≡ reported) (λ e other same. absurd (other same)) es none

  pub is_found : (es : List SurveyEntry) (i : ℕ) (entry : SurveyEntry) → i < length es → entry ≡ get_or es i entry → entry.uid ≡ uid → All (λ e. e.uid ≡ uid → ⊥) es → ⊥
  is_found es i entry within is own none = none i entry within (sym (ap (λ (e : SurveyEntry). e.uid) is) ∙ own)

  -- the entry that was found is one of those that do not bear the mark
  pub unmarked_found : (es : List SurveyEntry) (i : ℕ) (entry : SurveyEntry) → i < length es → entry ≡ get_or es i entry → entry.uid ≡ uid → IsUnmarked keywords uid es → is_marked entry ≡ false
  unmarked_found es i entry within is own none = ap is_marked is ∙ none i entry within (sym (ap (λ (e : SurveyEntry). e.uid) is) ∙ own)

  of_entries : (s : Stored) (es : List SurveyEntry) → All (λ m. m.uid ≡ uid → ⊥) (map (message_at keywords s) es) → All (λ e. e.uid ≡ uid → ⊥) es
  of_entries s [] none = All-nil (λ (e : SurveyEntry). e.uid ≡ uid → ⊥)
  of_entries s (e ∷ es) none =
      All-cons (λ (e : SurveyEntry). e.uid ≡ uid → ⊥) e es
      (All-head (λ (m : Message). m.uid ≡ uid → ⊥) (message_at keywords s e) (map (message_at keywords s) es) none)
      (of_entries s es (All-tail (λ (m : Message). m.uid ≡ uid → ⊥) (message_at keywords s e) (map (message_at keywords s) es) none))

  module _ (survey : Survey) (fresh : ℕ) (s : Stored) (surveys : Surveys survey fresh keywords s) (es : List SurveyEntry) (read : es ≡ survey.entries.items) where
    abbrev messages : List Message
    messages = (near_of fresh keywords s).store.messages

    pub near_marked_as : (reported : Bool) → (AreRising es → All (λ e. e.uid ≡ uid → is_marked e ≡ reported) es) → All (λ m. m.uid ≡ uid → has m.flags DELETED ≡ reported) messages
    near_marked_as reported says =
        subst (λ (ms : List Message). All (λ m. m.uid ≡ uid → has m.flags DELETED ≡ reported) ms)
        (ap (map (message_at keywords s)) read ∙ sym (near_messages survey fresh keywords s surveys))
        (All-map (λ (m : Message). m.uid ≡ uid → has m.flags DELETED ≡ reported) (message_at keywords s) es (says (subst AreRising (sym read) surveys.rising)))

    pub near_missing : All (λ m. m.uid ≡ uid → ⊥) messages → All (λ e. e.uid ≡ uid → ⊥) es
    near_missing none =
        of_entries s es
        (subst (λ (ms : List Message). All (λ m. m.uid ≡ uid → ⊥) ms) (near_messages survey fresh keywords s surveys ∙ ap (map (message_at keywords s)) (sym read)) none)
