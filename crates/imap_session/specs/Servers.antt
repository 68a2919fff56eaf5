-- A server, with its end of a connection (RFC 9051, section 3).
use Rattle.std.specs.Prelude.{◌≡◌, ℕ, Bool, true, false, List, [], ◌∷◌, length, Option, None, Some, if◌then◌else◌}
use Rattle.imap_replies.specs.declared.reply.Reply.{Reply}
use Rattle.imap_replies.specs.declared.reply.Reply.TheVariants.{Exists}
use Rattle.mailcore.specs.declared.keywords.Keyword.{Keyword}
use Rattle.mailcore.specs.Stores.{Store}
use Rattle.imap_session.specs.Mailboxes.{FarMailbox, mailbox_at, changed}

-- Before login, after it, with the mailbox of this name selected, and where nothing more is read.
pub data Condition : Type 0 where
  NotAuthenticated : Condition
  Authenticated : Condition
  Selected : List ℕ → Condition
  LoggedOut : Condition

-- `keywords`: the letters by which flags are seen here; a server itself knows names alone. `has_news`: messages have arrived in the selected mailbox, of which nothing was said yet
pub record Server : Type 0 where
  pub user : List ℕ
  pub password : List ℕ
  pub mailboxes : List FarMailbox
  pub keywords : List Keyword
  pub condition : Condition
  pub has_news : Bool

abbrev pub is_before_login : Condition → Bool
is_before_login NotAuthenticated = true
is_before_login Authenticated = false
is_before_login (Selected name) = false
is_before_login LoggedOut = false

abbrev pub is_logged_in : Condition → Bool
is_logged_in NotAuthenticated = false
is_logged_in Authenticated = true
is_logged_in (Selected name) = true
is_logged_in LoggedOut = false

abbrev pub is_over : Condition → Bool
is_over NotAuthenticated = false
is_over Authenticated = false
is_over (Selected name) = false
is_over LoggedOut = true

abbrev pub selected_in : List FarMailbox → Condition → Option FarMailbox
selected_in mailboxes NotAuthenticated = None
selected_in mailboxes Authenticated = None
selected_in mailboxes (Selected name) = mailbox_at name mailboxes
selected_in mailboxes LoggedOut = None

abbrev pub selected : Server → Option FarMailbox
selected s = selected_in s.mailboxes s.condition

-- what the selected mailbox stores is changed
abbrev pub changed_in : Condition → (Store → Store) → List FarMailbox → List FarMailbox
changed_in NotAuthenticated change mailboxes = mailboxes
changed_in Authenticated change mailboxes = mailboxes
changed_in (Selected name) change mailboxes = changed change name mailboxes
changed_in LoggedOut change mailboxes = mailboxes

abbrev pub with_selected : (Store → Store) → Server → Server
with_selected change s = record s { mailboxes = changed_in s.condition change s.mailboxes }

-- ---- what others do to the mailboxes

-- The same server: nobody did anything.
abbrev pub Quiet : Server → Server → Type 0
Quiet old new = new ≡ old

-- `* n EXISTS` (RFC 9051, section 7.4.1), where a mailbox is there
abbrev pub exists_of : Option FarMailbox → List Reply
exists_of None = []
exists_of (Some m) = Exists (length m.store.messages) ∷ []

-- what is reported of arrivals before the replies to the next command
abbrev pub news : Server → List Reply
news s = if s.has_news then exists_of (selected s) else []

-- the server once it has reported them
abbrev pub reported : Server → Server
reported s = record s { has_news = false }
