-- A mailbox is selected.
use Rattle.std.proofs.Common.{◌≡◌, inl, inr, ℕ, Bool, true, false, List, [], ◌∷◌, ◌++◌, refl, sym, ◌∙◌, ap, subst, append_assoc, length, arith, Option, Some, None, Result, Ok, Err}
use Rattle.std.specs.Prelude.{codes, filter, if◌then◌else◌}
use Rattle.std.specs.Option.{option_map}
use Rattle.std.proofs.lemmas.Bool.{le-leb}
use Rattle.mailcore.specs.declared.keywords.Keyword.{Keyword}
use Rattle.mailcore.specs.KeywordNames.{IsMap, named_set}
use Rattle.wire_tokens.specs.Names.{has_name, star}
use Rattle.imap_commands.specs.declared.command.Request.TheVariants as requests
use Rattle.imap_replies.specs.declared.response.Code.TheVariants as codes_of
use Rattle.imap_replies.specs.declared.reply.Reply.{Reply}
use Rattle.imap_replies.specs.declared.reply.Reply.TheVariants.{Flags, Exists}
use Rattle.imap_session.specs.Mailboxes.{FarMailbox, mailbox_at}
use Rattle.imap_session.specs.Servers.{Condition, NotAuthenticated, Authenticated, Selected, LoggedOut, Server, is_logged_in, selected}
use Rattle.imap_session.specs.Answering.{Gives, bad, done_with, refused_with, note, listed, out_of_place}
use Rattle.imap_session.specs.MailboxCommands.{all_names, closes, selects_at}
use Rattle.imap_session.specs.Heard.{AreReplies}
use Rattle.imap_session.proofs.HeardAs.{gathers_same}
use Rattle.imap_link.specs.declared.fault.FarFault.{FarFault}
use Rattle.imap_link.specs.declared.fault.FarFault.TheVariants as faults
use Rattle.imap_link.specs.UsedReplies.{opening_read, is_used}
use Rattle.imap_link.specs.Outcomes.{Outcome, Never}
use Rattle.imap_link.specs.Sinks.{any_replies}
use Rattle.imap_answers.specs.declared.opening.Opening.{Opening}
use Rattle.imap_client.specs.Tags.{tag_text}
use Rattle.imap_client.specs.Exchanged.{command_at, Exchanged}
use Rattle.imap_client.specs.Saying.{HeardOf}
use Rattle.imap_answers.specs.Openings.{nothing_reported, opening_more, opening_of, permits_all}
use Rattle.imap_client.specs.Boxes.{selected_name, is_next, IsSelected, Selects, NoMailbox, Chooses}
use Rattle.imap_answers.specs.Spoken.{Speaks}
use Rattle.imap_link.specs.Buffers.{IsAnswerText}
use Rattle.imap_replies.specs.declared.word.Status.{Status}
use Rattle.imap_replies.specs.declared.word.Status.TheVariants as statuses
use Rattle.imap_answers.proofs.HeardSame.{opening_same}
use Rattle.imap_answers.proofs.Permitted.{permits_known}
use Rattle.imap_answers.proofs.Unread.{opening_of_read}
use Rattle.imap_client.specs.Seen.{HasMap}
use Rattle.imap_client.proofs.OpeningNumbers.{AreSame, numbers_same}
use Rattle.imap_client.proofs.Answered.{Sure, status_so, answered, refused}

-- all but the tagged reply
abbrev front : List Keyword → FarMailbox → List Reply
front keywords m =
    Flags (all_names keywords) ∷ Exists (length m.store.messages) ∷ listed m.name
    ∷ note (codes_of.PermanentFlags (all_names keywords)) (codes "flags")
    ∷ note (codes_of.UidNext m.store.next) (codes "next")
    ∷ note (codes_of.UidValidity m.store.validity) (codes "validity") ∷ []

-- the mailbox was selected, and the bytes are what was said of it
pub record ChosenBy (name tag bytes : List ℕ) (old new : Server) : Type 0 where
  pub mailbox : FarMailbox
  pub there : mailbox_at name old.mailboxes ≡ Some mailbox
  pub after : new ≡ record old { condition = Selected name }
  pub heard : HeardOf old.keywords opening_read any_replies ((closes old.condition ++ front old.keywords mailbox) ++ done_with tag codes_of.ReadWrite ∷ []) bytes

chosen : (old new : Server) (c : Condition) → new ≡ record old { condition = c } → new ≡ record old { condition = new.condition }
chosen old new c e = e ∙ ap (λ (d : Condition). record old { condition = d }) (sym (ap (λ (s : Server). s.condition) e))

same : (a b : ℕ) → (let x : Option ℕ = Some a in x) ≡ Some b → a ≡ b
same a b e = cc

module _ (n : ℕ) (name : List ℕ) (old : Server) (logged : is_logged_in old.condition ≡ true) where
  module _ (m : FarMailbox) (is : mailbox_at name old.mailboxes ≡ Some m) where
    some_sure : Sure (command_at n (requests.Select name)) old (closes old.condition ++ front old.keywords m) (done_with (tag_text n) codes_of.ReadWrite) (record old { condition = Selected name })
    some_sure = record {
      each = λ said new step.
          let now = subst (λ (b : Bool). Gives (if b then selects_at (mailbox_at name old.mailboxes) old (tag_text n) name else out_of_place old (tag_text n)) said new) logged step in
          let at = subst (λ (x : Option FarMailbox). Gives (selects_at x old (tag_text n) name) said new) is now in
          (at.0 ∙ sym (append_assoc (closes old.condition) (front old.keywords m) (done_with (tag_text n) codes_of.ReadWrite ∷ [])), at.1);
    }

    some_by : (result : Result (Unit {0}) FarFault) (heard : List ℕ) (new : Server)
        → Outcome {T = Unit {0}} (λ _ s t. HeardOf old.keywords opening_read any_replies ((closes old.condition ++ front old.keywords m) ++ done_with (tag_text n) codes_of.ReadWrite ∷ []) heard × (t ≡ record old { condition = Selected name })) Never (λ s t. t ≡ record old { condition = Selected name }) result old new
        → Outcome {T = Unit {0}} (λ _. ChosenBy name (tag_text n) heard) (NoMailbox name) (Chooses name) result old new
    some_by (Ok x) heard new h = record { mailbox = m; there = is; after = h.1; heard = h.0 }
    some_by (Err faults.Stopped) heard new (inl q) = inl q
    some_by (Err faults.Stopped) heard new (inr e) = inr (chosen old new (Selected name) e)
    some_by (Err faults.Refused) heard new h = absurd h
    some_by (Err faults.Protocol) heard new h = h
    some_by (Err faults.TooLong) heard new h = h
    some_by (Err faults.NoRev2) heard new h = h
    some_by (Err faults.ReadOnly) heard new h = h
    some_by (Err faults.NoMemory) heard new (inl q) = inl q
    some_by (Err faults.NoMemory) heard new (inr e) = inr (chosen old new (Selected name) e)

  module _ (is : mailbox_at name old.mailboxes ≡ None) where
    none_sure : Sure (command_at n (requests.Select name)) old (closes old.condition) (refused_with (tag_text n) (codes "NONEXISTENT") (codes "no mailbox")) (record old { condition = Authenticated })
    none_sure = record {
      each = λ said new step.
          let now = subst (λ (b : Bool). Gives (if b then selects_at (mailbox_at name old.mailboxes) old (tag_text n) name else out_of_place old (tag_text n)) said new) logged step in
          subst (λ (x : Option FarMailbox). Gives (selects_at x old (tag_text n) name) said new) is now;
    }

    none_by : (result : Result (Unit {0}) FarFault) (heard : List ℕ) (new : Server)
        → Outcome {T = Unit {0}} (λ _ s t. ⊥) (λ s t. t ≡ record old { condition = Authenticated }) (λ s t. t ≡ record old { condition = Authenticated }) result old new
        → Outcome {T = Unit {0}} (λ _. ChosenBy name (tag_text n) heard) (NoMailbox name) (Chooses name) result old new
    none_by (Ok x) heard new h = absurd h
    none_by (Err faults.Stopped) heard new (inl q) = inl q
    none_by (Err faults.Stopped) heard new (inr e) = inr (chosen old new Authenticated e)
    none_by (Err faults.Refused) heard new h = (is, h)
    none_by (Err faults.Protocol) heard new h = h
    none_by (Err faults.TooLong) heard new h = h
    none_by (Err faults.NoRev2) heard new h = h
    none_by (Err faults.ReadOnly) heard new h = h
    none_by (Err faults.NoMemory) heard new (inl q) = inl q
    none_by (Err faults.NoMemory) heard new (inr e) = inr (chosen old new Authenticated e)

  by_mailbox : (x : Option FarMailbox) → mailbox_at name old.mailboxes ≡ x → (result : Result (Unit {0}) FarFault) (heard : List ℕ) (new : Server) → Exchanged (command_at n (requests.Select name)) any_replies result heard old new
      → Outcome {T = Unit {0}} (λ _. ChosenBy name (tag_text n) heard) (NoMailbox name) (Chooses name) result old new
  by_mailbox (Some m) is result heard new h =
      some_by m is result heard new (answered any_replies (command_at n (requests.Select name)) old (closes old.condition ++ front old.keywords m) (done_with (tag_text n) codes_of.ReadWrite) (record old { condition = Selected name }) (some_sure m is) refl result heard new h)
  by_mailbox None is result heard new h =
      none_by is result heard new (refused any_replies (command_at n (requests.Select name)) old (closes old.condition) (refused_with (tag_text n) (codes "NONEXISTENT") (codes "no mailbox")) (record old { condition = Authenticated }) (none_sure is) refl (λ _ s t. ⊥) result heard new h)

  pub select_exchanged : (result : Result (Unit {0}) FarFault) (heard : List ℕ) (new : Server) → Exchanged (command_at n (requests.Select name)) any_replies result heard old new
      → Outcome {T = Unit {0}} (λ _. ChosenBy name (tag_text n) heard) (NoMailbox name) (Chooses name) result old new
  select_exchanged = by_mailbox (mailbox_at name old.mailboxes) refl

-- where the answer is OK, somebody is logged in
module _ (n : ℕ) (name : List ℕ) (old : Server) where
  out_sure : is_logged_in old.condition ≡ false → Sure (command_at n (requests.Select name)) old [] (bad (tag_text n) (codes "state")) old
  out_sure out = record {
    each = λ said new step. subst (λ (b : Bool). Gives (if b then selects_at (mailbox_at name old.mailboxes) old (tag_text n) name else out_of_place old (tag_text n)) said new) out step;
  }

  by_login : (b : Bool) → is_logged_in old.condition ≡ b → (x : Unit {0}) (heard : List ℕ) (new : Server) → Exchanged (command_at n (requests.Select name)) any_replies (Ok x) heard old new → ChosenBy name (tag_text n) heard old new
  by_login true is x heard new h = select_exchanged n name old is (Ok x) heard new h
  by_login false is x heard new h =
      let ok = status_so any_replies (command_at n (requests.Select name)) old [] (bad (tag_text n) (codes "state")) old (out_sure is) statuses.Ok heard new h in
      let both : (let x : Option Status = Some statuses.Bad in x) ≡ Some statuses.Ok = ok in cc

  pub ok_chosen : (x : Unit {0}) (heard : List ℕ) (new : Server) → Exchanged (command_at n (requests.Select name)) any_replies (Ok x) heard old new → ChosenBy name (tag_text n) heard old new
  ok_chosen = by_login (is_logged_in old.condition) refl

-- ---- what is reported

abbrev pub reported_of : FarMailbox → Opening
reported_of m = record { next = Some m.store.next; validity = Some m.store.validity; is_read_only = false }

-- its numbers are reported, by whichever map flags are read
abbrev pub HasNumbers : FarMailbox → Opening → Type 0
HasNumbers m o = AreSame o (reported_of m)

module _ (keywords : List Keyword) (m : FarMailbox) (tag : List ℕ) where
  abbrev reported_if : Bool → Opening
  reported_if b = record { next = Some m.store.next; validity = Some m.store.validity; is_read_only = (let o : Opening = if b then nothing_reported else record nothing_reported { is_read_only = true } in o).is_read_only }

  abbrev permits : Bool
  permits = permits_all keywords (named_set keywords (all_names keywords)) (has_name star (all_names keywords))

  closes_report : (c : Condition) → opening_of keywords ((closes c ++ front keywords m) ++ done_with tag codes_of.ReadWrite ∷ []) ≡ reported_if permits
  closes_report NotAuthenticated = refl
  closes_report Authenticated = refl
  closes_report (Selected name) = refl
  closes_report LoggedOut = refl

module _ (name tag bytes : List ℕ) (old new : Server) (c : ChosenBy name tag bytes old new) (keywords : List Keyword) (o : Opening) (is : (rs : List Reply) → AreReplies rs bytes → o ≡ opening_of keywords rs) where
  read_so : o ≡ opening_of keywords c.heard.replies
  read_so = is (filter (is_used opening_read) c.heard.replies) c.heard.spelled ∙ opening_of_read keywords c.heard.replies

  -- as the server said it
  said_so : opening_of old.keywords c.heard.replies ≡ reported_if old.keywords c.mailbox tag (permits old.keywords c.mailbox tag)
  said_so = gathers_same old.keywords (opening_more old.keywords) (opening_same old.keywords) nothing_reported c.heard.replies _ c.heard.heard_as ∙ closes_report old.keywords c.mailbox tag old.condition

  pub numbers_so : HasNumbers c.mailbox o
  numbers_so =
      let same = numbers_same keywords old.keywords c.heard.replies nothing_reported nothing_reported (refl, refl) in (
        ap (λ (x : Opening). x.next) read_so ∙ same.0 ∙ ap (λ (x : Opening). x.next) said_so,
        ap (λ (x : Opening). x.validity) read_so ∙ same.1 ∙ ap (λ (x : Opening). x.validity) said_so,
      )

  -- where the server has this map
  pub reported_so : IsMap keywords → HasMap keywords old → o ≡ reported_of c.mailbox
  reported_so map has =
      read_so ∙ ap (λ (k : List Keyword). opening_of k c.heard.replies) (sym has) ∙ said_so
      ∙ ap (reported_if old.keywords c.mailbox tag) (permits_known old.keywords (has_name star (all_names old.keywords)) (subst IsMap (sym has) map))

-- ---- after it

module _ (name tag bytes : List ℕ) (old new : Server) where
  pub effect_so : ChosenBy name tag bytes old new → Chooses name old new
  effect_so c = chosen old new (Selected name) c.after

  pub selects_so : (c : ChosenBy name tag bytes old new) (validity next : ℕ) (o : Opening) → HasNumbers c.mailbox o → o.validity ≡ Some validity → o.next ≡ Some next → Selects name validity next old new
  selects_so c validity next o is v k = record {
    mailbox = c.mailbox;
    there = c.there;
    validity_is = same validity c.mailbox.store.validity (sym v ∙ is.1);
    next_is = same next c.mailbox.store.next (sym k ∙ is.0);
    after = c.after;
  }

pub speaks_of : (tag : List ℕ) (status : Status) (bytes : List ℕ) → IsAnswerText tag status bytes → Speaks bytes
speaks_of tag status bytes h = record { replies = h.passed ++ h.last ∷ []; spelled = h.spelled }

at_validity : (x : Option FarMailbox) (m : FarMailbox) (validity : ℕ) → x ≡ Some m → validity ≡ m.store.validity → option_map (λ y. y.store.validity) x ≡ Some validity
at_validity x m validity e v = ap (option_map (λ y. y.store.validity)) e ∙ ap (λ (n : ℕ). Some n) (sym v)

at_next : (x : Option FarMailbox) (m : FarMailbox) (next : ℕ) → x ≡ Some m → next ≡ m.store.next → is_next next x ≡ true
at_next x m next e v = ap (is_next next) e ∙ le-leb next m.store.next (omega (arith, v))

-- what was selected is selected
pub selected_so : (name : List ℕ) (validity next : ℕ) (old new : Server) → Selects name validity next old new → IsSelected name validity next new
selected_so name validity next old new h =
    let at : selected new ≡ Some h.mailbox = ap selected h.after ∙ h.there in
    (ap (λ (s : Server). selected_name s.condition) h.after, at_validity (selected new) h.mailbox validity at h.validity_is, at_next (selected new) h.mailbox next at h.next_is)
