-- A mailbox is made.
use Rattle.std.proofs.Common.{◌≡◌, inl, inr, ℕ, Bool, true, false, List, [], ◌∷◌, refl, ◌∙◌, subst, Option, Some, None, Result, Ok, Err}
use Rattle.std.specs.Prelude.{codes, nat_le, if◌then◌else◌}
use Rattle.mailcore.specs.MailboxNames.{is_mailbox_name}
use Rattle.imap_commands.specs.declared.command.Command.{Command}
use Rattle.imap_commands.specs.declared.command.Request.TheVariants as requests
use Rattle.imap_replies.specs.declared.reply.Reply.{Reply}
use Rattle.imap_session.specs.Mailboxes.{FarMailbox, mailbox_at}
use Rattle.imap_session.specs.Servers.{Server, is_logged_in}
use Rattle.imap_session.specs.Answering.{Gives, done, refused as refused_reply, refused_with, only, out_of_place}
use Rattle.imap_session.specs.MailboxCommands.{next_validity, makes, creates_at}
use Rattle.imap_link.specs.declared.fault.FarFault.{FarFault}
use Rattle.imap_link.specs.declared.fault.FarFault.TheVariants as faults
use Rattle.imap_link.specs.UsedReplies.{answer_alone}
use Rattle.imap_link.specs.Outcomes.{Outcome, Never}
use Rattle.imap_link.specs.Sinks.{any_replies}
use Rattle.imap_client.specs.Tags.{tag_text}
use Rattle.imap_client.specs.Exchanged.{command_at, Exchanged}
use Rattle.imap_client.specs.Saying.{HeardOf}
use Rattle.imap_client.specs.Creations.{made, Makes, CannotMake, Exists, BadName, NoValidity}
use Rattle.imap_client.proofs.Answered.{Sure, answered, refused}

module _ (old after : Server) (refuses effect : Server → Server → Type 0) where
  -- where it was done
  pub to_effect : ((t : Server) → t ≡ after → effect old t) → (said : List Reply) (heard : List ℕ) (new : Server) (result : Result (Unit {0}) FarFault)
      → Outcome {T = Unit {0}} (λ _ s t. HeardOf old.keywords answer_alone any_replies said heard × (t ≡ after)) Never (λ s t. t ≡ after) result old new
      → Outcome {T = Unit {0}} (λ _. effect) refuses effect result old new
  to_effect e said heard new (Ok x) h = e new h.1
  to_effect e said heard new (Err faults.Stopped) (inl q) = inl q
  to_effect e said heard new (Err faults.Stopped) (inr k) = inr (e new k)
  to_effect e said heard new (Err faults.Refused) h = absurd h
  to_effect e said heard new (Err faults.Protocol) h = h
  to_effect e said heard new (Err faults.TooLong) h = h
  to_effect e said heard new (Err faults.NoRev2) h = h
  to_effect e said heard new (Err faults.ReadOnly) h = h
  to_effect e said heard new (Err faults.NoMemory) (inl q) = inl q
  to_effect e said heard new (Err faults.NoMemory) (inr k) = inr (e new k)

  -- where it was refused
  pub to_refusal : ((t : Server) → t ≡ after → refuses old t) → after ≡ old → (new : Server) (result : Result (Unit {0}) FarFault)
      → Outcome {T = Unit {0}} (λ _ s t. ⊥) (λ s t. t ≡ after) (λ s t. t ≡ after) result old new
      → Outcome {T = Unit {0}} (λ _. effect) refuses effect result old new
  to_refusal r same new (Ok x) h = absurd h
  to_refusal r same new (Err faults.Stopped) (inl q) = inl q
  to_refusal r same new (Err faults.Stopped) (inr k) = inl (k ∙ same)
  to_refusal r same new (Err faults.Refused) h = r new h
  to_refusal r same new (Err faults.Protocol) h = h
  to_refusal r same new (Err faults.TooLong) h = h
  to_refusal r same new (Err faults.NoRev2) h = h
  to_refusal r same new (Err faults.ReadOnly) h = h
  to_refusal r same new (Err faults.NoMemory) (inl q) = inl q
  to_refusal r same new (Err faults.NoMemory) (inr k) = inl (k ∙ same)

module _ (n : ℕ) (name : List ℕ) (old : Server) (logged : is_logged_in old.condition ≡ true) where
  abbrev c : Command
  c = command_at n (requests.Create name)

  abbrev Ends : Result (Unit {0}) FarFault → Server → Type 0
  Ends result new = Outcome {T = Unit {0}} (λ _. Makes name) (CannotMake name) (Makes name) result old new

  at : (x : Option FarMailbox) → mailbox_at name old.mailboxes ≡ x → (said : List Reply) (new : Server) → Gives (if is_logged_in old.condition then creates_at (mailbox_at name old.mailboxes) old (tag_text n) name else out_of_place old (tag_text n)) said new
      → Gives (creates_at x old (tag_text n) name) said new
  at x is said new step =
      subst (λ (y : Option FarMailbox). Gives (creates_at y old (tag_text n) name) said new) is
      (subst (λ (b : Bool). Gives (if b then creates_at (mailbox_at name old.mailboxes) old (tag_text n) name else out_of_place old (tag_text n)) said new) logged step)

  there_sure : (m : FarMailbox) → mailbox_at name old.mailboxes ≡ Some m → Sure c old [] (refused_with (tag_text n) (codes "ALREADYEXISTS") (codes "exists")) old
  there_sure m is = record { each = λ said new step. at (Some m) is said new step }

  named : (b : Bool) → is_mailbox_name name ≡ b → mailbox_at name old.mailboxes ≡ None → (said : List Reply) (new : Server) → Gives (if is_logged_in old.condition then creates_at (mailbox_at name old.mailboxes) old (tag_text n) name else out_of_place old (tag_text n)) said new
      → Gives (if b then makes old (tag_text n) name (next_validity old.mailboxes) else only old (refused_reply (tag_text n) (codes "name"))) said new
  named b is none said new step =
      subst (λ (k : Bool). Gives (if k then makes old (tag_text n) name (next_validity old.mailboxes) else only old (refused_reply (tag_text n) (codes "name"))) said new) is (at None none said new step)

  bad_sure : is_mailbox_name name ≡ false → mailbox_at name old.mailboxes ≡ None → Sure c old [] (refused_reply (tag_text n) (codes "name")) old
  bad_sure is none = record { each = λ said new step. named false is none said new step }

  valid : (b : Bool) → nat_le (next_validity old.mailboxes) 4294967295 ≡ b → is_mailbox_name name ≡ true → mailbox_at name old.mailboxes ≡ None → (said : List Reply) (new : Server) → Gives (if is_logged_in old.condition then creates_at (mailbox_at name old.mailboxes) old (tag_text n) name else out_of_place old (tag_text n)) said new
      → Gives (if b then record { replies = done (tag_text n) ∷ []; after = made name old } else only old (refused_reply (tag_text n) (codes "limit"))) said new
  valid b v is none said new step =
      subst (λ (k : Bool). Gives (if k then record { replies = done (tag_text n) ∷ []; after = made name old } else only old (refused_reply (tag_text n) (codes "limit"))) said new) v (named true is none said new step)

  made_sure : nat_le (next_validity old.mailboxes) 4294967295 ≡ true → is_mailbox_name name ≡ true → mailbox_at name old.mailboxes ≡ None → Sure c old [] (done (tag_text n)) (made name old)
  made_sure v is none = record { each = λ said new step. valid true v is none said new step }

  limit_sure : nat_le (next_validity old.mailboxes) 4294967295 ≡ false → is_mailbox_name name ≡ true → mailbox_at name old.mailboxes ≡ None → Sure c old [] (refused_reply (tag_text n) (codes "limit")) old
  limit_sure v is none = record { each = λ said new step. valid false v is none said new step }

  by_validity : (b : Bool) → nat_le (next_validity old.mailboxes) 4294967295 ≡ b → is_mailbox_name name ≡ true → mailbox_at name old.mailboxes ≡ None → (result : Result (Unit {0}) FarFault) (heard : List ℕ) (new : Server) → Exchanged c any_replies result heard old new → Ends result new
  by_validity true v is none result heard new h =
      to_effect old (made name old) (CannotMake name) (Makes name) (λ t e. (none, is, e)) (done (tag_text n) ∷ []) heard new result
      (answered any_replies c old [] (done (tag_text n)) (made name old) (made_sure v is none) refl result heard new h)
  by_validity false v is none result heard new h =
      to_refusal old old (CannotMake name) (Makes name) (λ t e. (e, NoValidity v)) refl new result
      (refused any_replies c old [] (refused_reply (tag_text n) (codes "limit")) old (limit_sure v is none) refl (λ _ s t. ⊥) result heard new h)

  by_name : (b : Bool) → is_mailbox_name name ≡ b → mailbox_at name old.mailboxes ≡ None → (result : Result (Unit {0}) FarFault) (heard : List ℕ) (new : Server) → Exchanged c any_replies result heard old new → Ends result new
  by_name true is none result heard new h = by_validity (nat_le (next_validity old.mailboxes) 4294967295) refl is none result heard new h
  by_name false is none result heard new h =
      to_refusal old old (CannotMake name) (Makes name) (λ t e. (e, BadName is)) refl new result
      (refused any_replies c old [] (refused_reply (tag_text n) (codes "name")) old (bad_sure is none) refl (λ _ s t. ⊥) result heard new h)

  by_mailbox : (x : Option FarMailbox) → mailbox_at name old.mailboxes ≡ x → (result : Result (Unit {0}) FarFault) (heard : List ℕ) (new : Server) → Exchanged c any_replies result heard old new → Ends result new
  by_mailbox None none result heard new h = by_name (is_mailbox_name name) refl none result heard new h
  by_mailbox (Some m) is result heard new h =
      to_refusal old old (CannotMake name) (Makes name) (λ t e. (e, Exists m is)) refl new result
      (refused any_replies c old [] (refused_with (tag_text n) (codes "ALREADYEXISTS") (codes "exists")) old (there_sure m is) refl (λ _ s t. ⊥) result heard new h)

  pub create_exchanged : (result : Result (Unit {0}) FarFault) (heard : List ℕ) (new : Server) → Exchanged (command_at n (requests.Create name)) any_replies result heard old new → Outcome {T = Unit {0}} (λ _. Makes name) (CannotMake name) (Makes name) result old new
  create_exchanged = by_mailbox (mailbox_at name old.mailboxes) refl
