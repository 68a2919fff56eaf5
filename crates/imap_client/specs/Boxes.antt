-- What calls do to the selected mailbox.
use Rattle.std.specs.Prelude.{◌≡◌, ℕ, Bool, true, false, nat_le, List, [], ◌∷◌, Option, None, Some}
use Rattle.std.specs.Option.{option_map}
use Rattle.mailcore.specs.Stores.{Store}
use Rattle.mailcore.specs.declared.passed_marks.PassedMarks.{PassedMarks}
use Rattle.mailcore.specs.Passed.{ArePassed}
use Rattle.wire_tokens.specs.declared.uid_set.SetEnd.TheVariants.{Number}
use Rattle.wire_tokens.specs.declared.uid_set.SetItem.{SetItem}
use Rattle.wire_tokens.specs.declared.uid_set.SetItem.TheVariants.{One}
use Rattle.imap_session.specs.Mailboxes.{FarMailbox, mailbox_at}
use Rattle.imap_session.specs.Servers.{Condition, NotAuthenticated, Authenticated, Selected, LoggedOut, Server, selected, with_selected}
use Rattle.imap_session.specs.NamedMessages.{stored, swept}
use Rattle.imap_client.specs.declared.call.Call.{Call}
use Rattle.imap_client.specs.declared.call.Call.TheVariants as calls
use Rattle.imap_client.specs.Calls.{each_one}
use Rattle.imap_client.specs.Seen.{flags_sent}

-- the name of the selected mailbox
abbrev pub selected_name : Condition → Option (List ℕ)
selected_name NotAuthenticated = None
selected_name Authenticated = None
selected_name (Selected name) = Some name
selected_name LoggedOut = None

-- the next UID is at least this
abbrev pub is_next : ℕ → Option FarMailbox → Bool
is_next next None = false
is_next next (Some m) = nat_le next m.store.next

-- the mailbox of this name is selected, with this validity, and a next UID of at least this
abbrev pub IsSelected : (name : List ℕ) (validity next : ℕ) → Server → Type 0
IsSelected name validity next s =
    (selected_name s.condition ≡ Some name) × (option_map (λ m. m.store.validity) (selected s) ≡ Some validity) × (is_next next (selected s) ≡ true)

-- the messages of the selected mailbox that searches for a mark went past
abbrev pub Passes : PassedMarks → Server → Type 0
Passes passed s = (m : FarMailbox) → selected s ≡ Some m → ArePassed m.store.next m.store.messages passed

-- the mailbox of this name was selected, with this validity and next UID
pub record Selects (name : List ℕ) (validity next : ℕ) (old new : Server) : Type 0 where
  pub mailbox : FarMailbox
  pub there : mailbox_at name old.mailboxes ≡ Some mailbox
  pub validity_is : validity ≡ mailbox.store.validity
  pub next_is : next ≡ mailbox.store.next
  pub after : new ≡ record old { condition = Selected name }

-- there is none of this name, and none is selected
abbrev pub NoMailbox : (name : List ℕ) → Server → Server → Type 0
NoMailbox name old new = (mailbox_at name old.mailboxes ≡ None) × (new ≡ record old { condition = Authenticated })

-- the mailbox is selected, or there is none and none is
abbrev pub Chooses : (name : List ℕ) → Server → Server → Type 0
Chooses name old new = new ≡ record old { condition = new.condition }

-- the selected mailbox is changed, and nothing else
abbrev pub Becomes : (Store → Store) → Server → Server → Type 0
Becomes change old new = new ≡ with_selected change old

-- `uid`
abbrev pub one_uid : ℕ → List SetItem
one_uid uid = One (Number uid) ∷ []

-- the call changes the selected mailbox of this server so
abbrev pub Changing : Server → Call → (Store → Store) → Type 0
Changing s calls.Capability change = ⊥
Changing s (calls.Login user password) change = ⊥
Changing s calls.Enable change = ⊥
Changing s calls.Names change = ⊥
Changing s (calls.Create name) change = ⊥
Changing s (calls.Select name) change = ⊥
Changing s calls.Listing change = ⊥
Changing s (calls.Body uid) change = ⊥
Changing s (calls.Heads from) change = ⊥
Changing s (calls.Store uid mode flags keywords) change = change ≡ stored mode (flags_sent keywords.now flags s) (one_uid uid)
Changing s (calls.Expunge uids) change = change ≡ swept (each_one uids.now)

-- how many commands a removal of these messages sends
abbrev pub commands_for : List ℕ → ℕ
commands_for [] = 0
commands_for (uid ∷ uids) = 1
