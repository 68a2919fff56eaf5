-- A message that comes to a mailbox from elsewhere, and not by a command of the connection.
use Rattle.std.specs.Prelude.{◌≡◌, ◌<◌, ℕ, Bool, false, ◌||◌, List, Option, None, Some}
use Rattle.mailcore.specs.KeywordNames.{kept}
use Rattle.mailcore.specs.Operations.{added}
use Rattle.wire_strings.specs.Literals.{IsLiteral}
use Rattle.imap_session.specs.Mailboxes.{FarMailbox, same_name, mailbox_at, changed}
use Rattle.imap_session.specs.Servers.{Condition, NotAuthenticated, Authenticated, Selected, LoggedOut, Server}

-- the mailbox of this name is selected
abbrev pub is_selected : (name : List ℕ) → Condition → Bool
is_selected name NotAuthenticated = false
is_selected name Authenticated = false
is_selected name (Selected at) = same_name at name
is_selected name LoggedOut = false

-- why none is added: there is no mailbox of this name; no literal can have these bytes; or no UID is left
pub data CannotArrive (name message : List ℕ) (s : Server) : Type 0 where
  NoMailbox : mailbox_at name s.mailboxes ≡ None → CannotArrive name message s
  NoLiteral : (IsLiteral message → ⊥) → CannotArrive name message s
  NoUid : (m : FarMailbox) → mailbox_at name s.mailboxes ≡ Some m → m.store.next ≡ 4294967295 → CannotArrive name message s

-- It is added after the others, under the next UID, with those of the flags that have a name. If its mailbox is selected, that is news.
pub record ArrivedUnder (uid : ℕ) (name : List ℕ) (flags : ℕ) (message : List ℕ) (old new : Server) : Type 0 where
  pub mailbox : FarMailbox
  pub there : mailbox_at name old.mailboxes ≡ Some mailbox
  pub literal : IsLiteral message
  pub uid_is : uid ≡ mailbox.store.next
  pub below : uid < 4294967295
  pub after : new ≡ record old {
    mailboxes = changed (added uid (kept old.keywords flags) message) name old.mailboxes;
    has_news = is_selected name old.condition || old.has_news;
  }

abbrev pub Arrived : (name : List ℕ) (flags : ℕ) (message : List ℕ) → Option ℕ → Server → Server → Type 0
Arrived name flags message None old new = (new ≡ old) × CannotArrive name message old
Arrived name flags message (Some uid) old new = ArrivedUnder uid name flags message old new
