-- A command does not change which news is to be reported.
use Rattle.std.proofs.Common.{◌≡◌, inl, inr, ℕ, ◌&&◌, Bool, true, false, List, refl, ◌∙◌, ap, Option, Some, None, if◌then◌else◌}
use Rattle.std.specs.Prelude.{nat_eq, nat_le}
use Rattle.std.specs.Cmp.Lexicographic.{pointwise}
use Rattle.mailcore.specs.MailboxNames.{is_mailbox_name}
use Rattle.wire_tokens.specs.declared.uid_set.SetItem.{SetItem}
use Rattle.imap_commands.specs.declared.command.FetchItems.{FetchItems}
use Rattle.imap_commands.specs.declared.command.StoreMode.{StoreMode}
use Rattle.imap_commands.specs.declared.command.Request.{Request}
use Rattle.imap_commands.specs.declared.command.Request.TheVariants as requests
use Rattle.imap_replies.specs.declared.reply.Reply.{Reply}
use Rattle.imap_session.specs.Mailboxes.{FarMailbox, mailbox_at}
use Rattle.imap_session.specs.Servers.{Server, is_logged_in, is_before_login, selected}
use Rattle.imap_session.specs.Answering.{Answer, Gives}
use Rattle.imap_session.specs.SessionCommands.{lets_in, logs_in}
use Rattle.imap_session.specs.MailboxCommands.{makes, creates_at, selects_at, next_validity}
use Rattle.imap_session.specs.AppendCommand.{AppendsAt, AppendsIf}
use Rattle.imap_session.specs.MessageCommands.{fetches_in, stores_in, expunges_in}
use Rattle.imap_session.specs.Steps.{StepOf}

abbrev Keeps : Server → Answer → Type 0
Keeps s a = a.after.has_news ≡ s.has_news

either : (b : Bool) (s : Server) (x y : Answer) → Keeps s x → Keeps s y → Keeps s (if b then x else y)
either true s x y h k = h
either false s x y h k = k

given : (s : Server) (a : Answer) (rs : List Reply) (new : Server) → Gives a rs new → Keeps s a → new.has_news ≡ s.has_news
given s a rs new h k = ap (λ (t : Server). t.has_news) h.1 ∙ k

module _ (s : Server) (tag : List ℕ) where
  lets_in_keeps : (user password : List ℕ) → Keeps s (lets_in s tag user password)
  lets_in_keeps user password = either (pointwise nat_eq user s.user && pointwise nat_eq password s.password) s _ _ refl refl

  logs_in_keeps : (user password : List ℕ) → Keeps s (logs_in s tag user password)
  logs_in_keeps user password = either (is_before_login s.condition) s _ _ (lets_in_keeps user password) refl

  makes_keeps : (name : List ℕ) (validity : ℕ) → Keeps s (makes s tag name validity)
  makes_keeps name validity = either (nat_le validity 4294967295) s _ _ refl refl

  creates_at_keeps : (m : Option FarMailbox) (name : List ℕ) → Keeps s (creates_at m s tag name)
  creates_at_keeps (Some m) name = refl
  creates_at_keeps None name = either (is_mailbox_name name) s _ _ (makes_keeps name (next_validity s.mailboxes)) refl

  selects_at_keeps : (m : Option FarMailbox) (name : List ℕ) → Keeps s (selects_at m s tag name)
  selects_at_keeps (Some m) name = refl
  selects_at_keeps None name = refl

  fetches_keeps : (m : Option FarMailbox) (set : List SetItem) (what : FetchItems) → Keeps s (fetches_in m s tag set what)
  fetches_keeps None set what = refl
  fetches_keeps (Some m) set what = refl

  stores_keeps : (m : Option FarMailbox) (set : List SetItem) (mode : StoreMode) (flags : List (List ℕ)) → Keeps s (stores_in m s tag set mode flags)
  stores_keeps None set mode flags = refl
  stores_keeps (Some m) set mode flags = refl

  expunges_keeps : (m : Option FarMailbox) (set : List SetItem) → Keeps s (expunges_in m s tag set)
  expunges_keeps None set = refl
  expunges_keeps (Some m) set = refl

  appends_at_keeps : (m : Option FarMailbox) (name : List ℕ) (flags : List (List ℕ)) (message : List ℕ) (rs : List Reply) (new : Server) → AppendsAt m s tag name flags message rs new → new.has_news ≡ s.has_news
  appends_at_keeps None name flags message rs new h = given s _ rs new h refl
  appends_at_keeps (Some m) name flags message rs new (inl h) = given s _ rs new h.gives refl
  appends_at_keeps (Some m) name flags message rs new (inr h) = given s _ rs new h.gives refl

  appends_keeps : (b : Bool) (name : List ℕ) (flags : List (List ℕ)) (message : List ℕ) (rs : List Reply) (new : Server) → AppendsIf b s tag name flags message rs new → new.has_news ≡ s.has_news
  appends_keeps false name flags message rs new h = given s _ rs new h refl
  appends_keeps true name flags message rs new h = appends_at_keeps (mailbox_at name s.mailboxes) name flags message rs new h

  pub step_keeps : (r : Request) (rs : List Reply) (new : Server) → StepOf s tag r rs new → new.has_news ≡ s.has_news
  step_keeps requests.Capability rs new h = given s _ rs new h refl
  step_keeps requests.Noop rs new h = given s _ rs new h refl
  step_keeps requests.Logout rs new h = given s _ rs new h refl
  step_keeps (requests.Login user password) rs new h = given s _ rs new h (logs_in_keeps user password)
  step_keeps (requests.Enable names) rs new h = given s _ rs new h (either (is_logged_in s.condition) s _ _ refl refl)
  step_keeps (requests.List pattern) rs new h = given s _ rs new h (either (is_logged_in s.condition) s _ _ refl refl)
  step_keeps (requests.Create name) rs new h = given s _ rs new h (either (is_logged_in s.condition) s _ _ (creates_at_keeps (mailbox_at name s.mailboxes) name) refl)
  step_keeps (requests.Select name) rs new h = given s _ rs new h (either (is_logged_in s.condition) s _ _ (selects_at_keeps (mailbox_at name s.mailboxes) name) refl)
  step_keeps (requests.Append name flags message) rs new h = appends_keeps (is_logged_in s.condition) name flags message rs new h
  step_keeps (requests.Fetch set what) rs new h = given s _ rs new h (fetches_keeps (selected s) set what)
  step_keeps (requests.Store set mode flags) rs new h = given s _ rs new h (stores_keeps (selected s) set mode flags)
  step_keeps (requests.Expunge set) rs new h = given s _ rs new h (expunges_keeps (selected s) set)
