-- The connection goes on after each command but LOGOUT.
use Rattle.std.proofs.Common.{◌≡◌, inl, inr, ℕ, ◌&&◌, Bool, true, false, List, refl, ◌∙◌, ap, Option, Some, None, if◌then◌else◌}
use Rattle.std.specs.Prelude.{nat_eq, nat_le}
use Rattle.std.specs.Cmp.Lexicographic.{pointwise}
use Rattle.mailcore.specs.MailboxNames.{is_mailbox_name}
use Rattle.wire_tokens.specs.declared.uid_set.SetItem.{SetItem}
use Rattle.imap_commands.specs.declared.command.FetchItems.{FetchItems}
use Rattle.imap_commands.specs.declared.command.StoreMode.{StoreMode}
use Rattle.imap_commands.specs.declared.command.Request.{Request}
use Rattle.imap_commands.specs.declared.command.Request.TheVariants as requests
use Rattle.imap_replies.specs.declared.reply.Reply.{Reply}
use Rattle.imap_session.specs.Mailboxes.{FarMailbox, mailbox_at}
use Rattle.imap_session.specs.Servers.{Server, is_logged_in, is_before_login, is_over, selected}
use Rattle.imap_session.specs.Answering.{Answer, Gives}
use Rattle.imap_session.specs.SessionCommands.{lets_in, logs_in}
use Rattle.imap_session.specs.MailboxCommands.{makes, creates_at, selects_at, next_validity}
use Rattle.imap_session.specs.AppendCommand.{AppendsAt, AppendsIf}
use Rattle.imap_session.specs.MessageCommands.{fetches_in, stores_in, expunges_in}
use Rattle.imap_session.specs.Steps.{StepOf}
use Rattle.imap_session.specs.Ends.{is_logout}

abbrev GoesOn : Answer → Type 0
GoesOn a = is_over a.after.condition ≡ false

either : (b : Bool) (x y : Answer) → GoesOn x → GoesOn y → GoesOn (if b then x else y)
either true x y h k = h
either false x y h k = k

given : (a : Answer) (rs : List Reply) (new : Server) → Gives a rs new → GoesOn a → is_over new.condition ≡ false
given a rs new h k = ap (λ (s : Server). is_over s.condition) h.1 ∙ k

module _ (s : Server) (tag : List ℕ) (on : is_over s.condition ≡ false) where
  lets_in_on : (user password : List ℕ) → GoesOn (lets_in s tag user password)
  lets_in_on user password = either (pointwise nat_eq user s.user && pointwise nat_eq password s.password) _ _ refl on

  logs_in_on : (user password : List ℕ) → GoesOn (logs_in s tag user password)
  logs_in_on user password = either (is_before_login s.condition) _ _ (lets_in_on user password) on

  makes_on : (name : List ℕ) (validity : ℕ) → GoesOn (makes s tag name validity)
  makes_on name validity = either (nat_le validity 4294967295) _ _ on on

  creates_at_on : (m : Option FarMailbox) (name : List ℕ) → GoesOn (creates_at m s tag name)
  creates_at_on (Some m) name = on
  creates_at_on None name = either (is_mailbox_name name) _ _ (makes_on name (next_validity s.mailboxes)) on

  selects_at_on : (m : Option FarMailbox) (name : List ℕ) → GoesOn (selects_at m s tag name)
  selects_at_on (Some m) name = refl
  selects_at_on None name = refl

  fetches_on : (m : Option FarMailbox) (set : List SetItem) (what : FetchItems) → GoesOn (fetches_in m s tag set what)
  fetches_on None set what = on
  fetches_on (Some m) set what = on

  stores_on : (m : Option FarMailbox) (set : List SetItem) (mode : StoreMode) (flags : List (List ℕ)) → GoesOn (stores_in m s tag set mode flags)
  stores_on None set mode flags = on
  stores_on (Some m) set mode flags = on

  expunges_on : (m : Option FarMailbox) (set : List SetItem) → GoesOn (expunges_in m s tag set)
  expunges_on None set = on
  expunges_on (Some m) set = on

  appends_at_on : (m : Option FarMailbox) (name : List ℕ) (flags : List (List ℕ)) (message : List ℕ) (rs : List Reply) (new : Server) → AppendsAt m s tag name flags message rs new → is_over new.condition ≡ false
  appends_at_on None name flags message rs new h = given _ rs new h on
  appends_at_on (Some m) name flags message rs new (inl h) = given _ rs new h.gives on
  appends_at_on (Some m) name flags message rs new (inr h) = given _ rs new h.gives on

  appends_on : (b : Bool) (name : List ℕ) (flags : List (List ℕ)) (message : List ℕ) (rs : List Reply) (new : Server) → AppendsIf b s tag name flags message rs new → is_over new.condition ≡ false
  appends_on false name flags message rs new h = given _ rs new h on
  appends_on true name flags message rs new h = appends_at_on (mailbox_at name s.mailboxes) name flags message rs new h

  pub step_on : (r : Request) (rs : List Reply) (new : Server) → is_logout r ≡ false → StepOf s tag r rs new → is_over new.condition ≡ false
  step_on requests.Capability rs new l h = given _ rs new h on
  step_on requests.Noop rs new l h = given _ rs new h on
  step_on requests.Logout rs new l h = cc
  step_on (requests.Login user password) rs new l h = given _ rs new h (logs_in_on user password)
  step_on (requests.Enable names) rs new l h = given _ rs new h (either (is_logged_in s.condition) _ _ on on)
  step_on (requests.List pattern) rs new l h = given _ rs new h (either (is_logged_in s.condition) _ _ on on)
  step_on (requests.Create name) rs new l h = given _ rs new h (either (is_logged_in s.condition) _ _ (creates_at_on (mailbox_at name s.mailboxes) name) on)
  step_on (requests.Select name) rs new l h = given _ rs new h (either (is_logged_in s.condition) _ _ (selects_at_on (mailbox_at name s.mailboxes) name) on)
  step_on (requests.Append name flags message) rs new l h = appends_on (is_logged_in s.condition) name flags message rs new h
  step_on (requests.Fetch set what) rs new l h = given _ rs new h (fetches_on (selected s) set what)
  step_on (requests.Store set mode flags) rs new l h = given _ rs new h (stores_on (selected s) set mode flags)
  step_on (requests.Expunge set) rs new l h = given _ rs new h (expunges_on (selected s) set)
