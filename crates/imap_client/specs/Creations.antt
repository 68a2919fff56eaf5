-- New mailboxes.
use Rattle.std.specs.Prelude.{◌≡◌, ℕ, true, false, nat_le, List, [], ◌∷◌, ◌++◌, None, Some}
use Rattle.mailcore.specs.MailboxNames.{is_mailbox_name}
use Rattle.imap_session.specs.Mailboxes.{FarMailbox, mailbox_at}
use Rattle.imap_session.specs.Servers.{Server}
use Rattle.imap_session.specs.MailboxCommands.{next_validity, empty_mailbox}

-- with a new mailbox, which is empty
abbrev pub made : (name : List ℕ) → Server → Server
made name s = record s { mailboxes = s.mailboxes ++ empty_mailbox name (next_validity s.mailboxes) ∷ [] }

abbrev pub Makes : (name : List ℕ) → Server → Server → Type 0
Makes name old new = (mailbox_at name old.mailboxes ≡ None) × (is_mailbox_name name ≡ true) × (new ≡ made name old)

-- why there can be none of this name: there is one; it is no name; no UIDVALIDITY is left
pub data CannotBe (name : List ℕ) (s : Server) : Type 0 where
  Exists : (m : FarMailbox) → mailbox_at name s.mailboxes ≡ Some m → CannotBe name s
  BadName : is_mailbox_name name ≡ false → CannotBe name s
  NoValidity : nat_le (next_validity s.mailboxes) 4294967295 ≡ false → CannotBe name s

abbrev pub CannotMake : (name : List ℕ) → Server → Server → Type 0
CannotMake name old new = (new ≡ old) × CannotBe name old
