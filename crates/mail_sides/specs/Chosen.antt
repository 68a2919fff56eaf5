-- The mailbox of a name, as a server keeps it.
use Rattle.std.specs.Prelude.{◌≡◌, ℕ, Bool, true, false, List, [], Option, None, Some}
use Rattle.mailcore.specs.declared.keywords.Keyword.{Keyword}
use Rattle.mailcore.specs.declared.listing.Listing.{Listing}
use Rattle.outside.specs.MailboxOperations.{ListsFar}
use Rattle.mailcore.specs.Stores.{Store}
use Rattle.mailcore.specs.Mailboxes.{Mailbox}
use Rattle.imap_session.specs.Mailboxes.{FarMailbox, mailbox_at}
use Rattle.imap_session.specs.Servers.{Server, Selected, is_logged_in}
use Rattle.imap_client.specs.Logins.{is_known}
use Rattle.imap_client.specs.Seen.{seen_through}

-- where there is no mailbox
abbrev pub nothing : Store
nothing = record { validity = 0; next = 0; messages = [] }

abbrev pub store_in : Option FarMailbox → Store
store_in None = nothing
store_in (Some m) = m.store

-- what the mailbox of this name stores
abbrev pub store_at : (name : List ℕ) → List FarMailbox → Store
store_at name mailboxes = store_in (mailbox_at name mailboxes)

-- a mailbox at a server: nothing waits there
abbrev pub settled : Store → Mailbox
settled store = record { store = store; waiting = [] }

-- the mailbox of this name, at this server, as it is seen through a map
abbrev pub box_at : List Keyword → (name : List ℕ) → Server → Mailbox
box_at keywords name s = settled (seen_through keywords (store_at name s.mailboxes))

-- the mailbox of this name is selected
pub record IsChosen (name : List ℕ) (s : Server) : Type 0 where
  pub condition : s.condition ≡ Selected name
  pub mailbox : FarMailbox
  pub there : mailbox_at name s.mailboxes ≡ Some mailbox

-- there is none of this name
abbrev pub IsMissing : (name : List ℕ) → Server → Type 0
IsMissing name s = mailbox_at name s.mailboxes ≡ None

abbrev pub KeepsMailboxes : Server → Server → Type 0
KeepsMailboxes old new = new.mailboxes ≡ old.mailboxes

-- somebody has logged in
abbrev pub LogsIn : Server → Server → Type 0
LogsIn old new = KeepsMailboxes old new × (is_logged_in new.condition ≡ true)

-- the user has not this password
abbrev pub IsUnknown : (user password : List ℕ) → Server → Server → Type 0
IsUnknown user password old new = (is_known user password old ≡ false) × KeepsMailboxes old new

-- the mailbox of this name was selected, and this is its UIDVALIDITY
abbrev pub ReportsValidity : (name : List ℕ) → (validity : ℕ) → Server → Server → Type 0
ReportsValidity name validity old new = KeepsMailboxes old new × (validity ≡ (store_at name old.mailboxes).validity)

-- this is what the mailbox of this name lists, where this next UID was known
abbrev pub ListsAll : List Keyword → (alone : Bool) → (known : ℕ) → (name : List ℕ) → Listing → Server → Server → Type 0
ListsAll keywords alone known name listing old new = KeepsMailboxes old new × ListsFar alone known listing (seen_through keywords (store_at name old.mailboxes))

-- there is none of this name, and nothing was changed
abbrev pub Misses : (name : List ℕ) → Server → Server → Type 0
Misses name old new = IsMissing name old × KeepsMailboxes old new
