-- What holds of a server whatever command is done, but for LOGOUT.
use Rattle.std.proofs.Common.{◌≡◌, inl, inr, ℕ, Bool, true, false, List, sym, subst, Option, Some, None, Result, Ok, Err}
use Rattle.std.specs.Prelude.{◌&&◌, nat_eq, nat_le, if◌then◌else◌}
use Rattle.std.specs.Cmp.Lexicographic.{pointwise}
use Rattle.mailcore.specs.MailboxNames.{is_mailbox_name}
use Rattle.wire_tokens.specs.declared.uid_set.SetItem.{SetItem}
use Rattle.imap_commands.specs.declared.command.Command.{Command}
use Rattle.imap_commands.specs.declared.command.FetchItems.{FetchItems}
use Rattle.imap_commands.specs.declared.command.StoreMode.{StoreMode}
use Rattle.imap_commands.specs.declared.command.Request.{Request}
use Rattle.imap_commands.specs.declared.command.Request.TheVariants as requests
use Rattle.imap_replies.specs.declared.reply.Reply.{Reply}
use Rattle.imap_replies.specs.declared.word.Status.{Status}
use Rattle.imap_session.specs.Mailboxes.{FarMailbox, mailbox_at}
use Rattle.imap_session.specs.Servers.{Authenticated, Selected, Server, is_before_login, is_logged_in, selected}
use Rattle.imap_session.specs.Answering.{Answer, Gives, out_of_place}
use Rattle.imap_session.specs.SessionCommands.{lets_in}
use Rattle.imap_session.specs.MailboxCommands.{creates_at, makes, next_validity, selects_at}
use Rattle.imap_session.specs.AppendCommand.{AppendsAt, AppendsIf}
use Rattle.imap_session.specs.MessageCommands.{fetches_in, stores_in, expunges_in}
use Rattle.imap_session.specs.Steps.{StepOf}
use Rattle.imap_session.specs.Ends.{MayHave, is_logout}
use Rattle.imap_link.specs.declared.fault.FarFault.{FarFault}
use Rattle.imap_link.specs.declared.fault.FarFault.TheVariants as faults
use Rattle.imap_link.specs.Exchanges.{Performs}
use Rattle.imap_client.specs.Exchanged.{AnsweredSo, Exchanged}

-- it holds of this server, where somebody is let in, where a mailbox is selected, and where mailboxes are changed
pub record Lasts (Q : Server → Type 0) (s : Server) : Type 0 where
  pub same : Q s
  pub let_in : Q (record s { condition = Authenticated })
  pub chosen : (name : List ℕ) → Q (record s { condition = Selected name })
  pub changed : (mailboxes : List FarMailbox) → Q (record s { mailboxes = mailboxes })

module _ (Q : Server → Type 0) where
  -- whichever answer it is
  by_if : (b : Bool) (x y : Answer) → Q x.after → Q y.after → Q (if b then x else y).after
  by_if true x y h k = h
  by_if false x y h k = k

  given : (a : Answer) (said : List Reply) (new : Server) → Q a.after → Gives a said new → Q new
  given a said new h g = subst Q (sym g.1) h

  module _ (s : Server) (lasts : Lasts Q s) (tag : List ℕ) where
    creates_so : (m : Option FarMailbox) (name : List ℕ) → Q (creates_at m s tag name).after
    creates_so (Some m) name = lasts.same
    creates_so None name =
        by_if (is_mailbox_name name) (makes s tag name (next_validity s.mailboxes)) _ (by_if (nat_le (next_validity s.mailboxes) 4294967295) _ _ (lasts.changed _) lasts.same) lasts.same

    selects_so : (m : Option FarMailbox) (name : List ℕ) → Q (selects_at m s tag name).after
    selects_so (Some m) name = lasts.chosen name
    selects_so None name = lasts.let_in

    fetches_so : (m : Option FarMailbox) (set : List SetItem) (what : FetchItems) → Q (fetches_in m s tag set what).after
    fetches_so (Some m) set what = lasts.same
    fetches_so None set what = lasts.same

    stores_so : (m : Option FarMailbox) (set : List SetItem) (mode : StoreMode) (flags : List (List ℕ)) → Q (stores_in m s tag set mode flags).after
    stores_so (Some m) set mode flags = lasts.changed _
    stores_so None set mode flags = lasts.same

    expunges_so : (m : Option FarMailbox) (set : List SetItem) → Q (expunges_in m s tag set).after
    expunges_so (Some m) set = lasts.changed _
    expunges_so None set = lasts.same

    module _ (said : List Reply) (new : Server) where
      appends_at_so : (m : Option FarMailbox) (name : List ℕ) (flags : List (List ℕ)) (message : List ℕ) → AppendsAt m s tag name flags message said new → Q new
      appends_at_so None name flags message g = subst Q (sym g.1) lasts.same
      appends_at_so (Some m) name flags message (inl l) = subst Q (sym l.gives.1) lasts.same
      appends_at_so (Some m) name flags message (inr a) = subst Q (sym a.gives.1) (lasts.changed _)

      appends_so : (b : Bool) (name : List ℕ) (flags : List (List ℕ)) (message : List ℕ) → AppendsIf b s tag name flags message said new → Q new
      appends_so true name flags message h = appends_at_so (mailbox_at name s.mailboxes) name flags message h
      appends_so false name flags message g = subst Q (sym g.1) lasts.same

      pub step_so : (r : Request) → is_logout r ≡ false → StepOf s tag r said new → Q new
      step_so requests.Capability stays g = subst Q (sym g.1) lasts.same
      step_so requests.Noop stays g = subst Q (sym g.1) lasts.same
      step_so requests.Logout stays g = cc
      step_so (requests.Login user password) stays g =
          given _ said new
          (by_if (is_before_login s.condition) (lets_in s tag user password) (out_of_place s tag) (by_if (pointwise nat_eq user s.user && pointwise nat_eq password s.password) _ _ lasts.let_in lasts.same) lasts.same) g
      step_so (requests.Enable names) stays g = given _ said new (by_if (is_logged_in s.condition) _ _ lasts.same lasts.same) g
      step_so (requests.List pattern) stays g = given _ said new (by_if (is_logged_in s.condition) _ _ lasts.same lasts.same) g
      step_so (requests.Create name) stays g =
          given _ said new (by_if (is_logged_in s.condition) (creates_at (mailbox_at name s.mailboxes) s tag name) (out_of_place s tag) (creates_so (mailbox_at name s.mailboxes) name) lasts.same) g
      step_so (requests.Select name) stays g =
          given _ said new (by_if (is_logged_in s.condition) (selects_at (mailbox_at name s.mailboxes) s tag name) (out_of_place s tag) (selects_so (mailbox_at name s.mailboxes) name) lasts.same) g
      step_so (requests.Append name flags message) stays h = appends_so (is_logged_in s.condition) name flags message h
      step_so (requests.Fetch set what) stays g = given (fetches_in (selected s) s tag set what) said new (fetches_so (selected s) set what) g
      step_so (requests.Store set mode flags) stays g = given (stores_in (selected s) s tag set mode flags) said new (stores_so (selected s) set mode flags) g
      step_so (requests.Expunge set) stays g = given (expunges_in (selected s) s tag set) said new (expunges_so (selected s) set) g

  -- ---- whatever became of it

  module _ (c : Command) (stays : is_logout c.request ≡ false) (T : List Reply → Type 0) (read : List ℕ) (old new : Server) (lasts : Lasts Q old) where
    may_last : MayHave (Performs c) old new → Q new
    may_last (inl same) = subst Q (sym same) lasts.same
    may_last (inr d) = step_so old lasts c.tag d.said new c.request stays d.step

    pub answered_so : (result : Result Status FarFault) → AnsweredSo c T result read old new → Q new
    answered_so (Ok status) h = step_so old lasts c.tag h.did.said new c.request stays h.did.step
    answered_so (Err faults.Stopped) h = may_last h
    answered_so (Err faults.Refused) h = absurd h
    answered_so (Err faults.Protocol) h = absurd h
    answered_so (Err faults.TooLong) h = absurd h
    answered_so (Err faults.NoRev2) h = absurd h
    answered_so (Err faults.ReadOnly) h = absurd h
    answered_so (Err faults.NoMemory) h = may_last h

    pub exchanged_so : (result : Result (Unit {0}) FarFault) → Exchanged c T result read old new → Q new
    exchanged_so (Ok x) h = step_so old lasts c.tag h.did.said new c.request stays h.did.step
    exchanged_so (Err faults.Stopped) h = may_last h
    exchanged_so (Err faults.Refused) h = step_so old lasts c.tag h.replied.did.said new c.request stays h.replied.did.step
    exchanged_so (Err faults.Protocol) h = step_so old lasts c.tag h.replied.did.said new c.request stays h.replied.did.step
    exchanged_so (Err faults.TooLong) h = absurd h
    exchanged_so (Err faults.NoRev2) h = absurd h
    exchanged_so (Err faults.ReadOnly) h = absurd h
    exchanged_so (Err faults.NoMemory) h = may_last h
