-- The place of the mailbox that is selected.
use Rattle.std.specs.Prelude.{◌≡◌, ◌<◌, ℕ, length, Option, None, Some, slice_get}
use Rattle.mailcore.specs.Stores.{Store}
use Rattle.imap_session.specs.Servers.{Server, selected, changed_in}
use Rattle.imap_server.specs.Places.{changed_there}

pub record IsSelected (s : Server) (n : ℕ) : Type 0 where
  pub within : n < length s.mailboxes
  pub found : selected s ≡ slice_get s.mailboxes n
  pub change : (c : Store → Store) → changed_in s.condition c s.mailboxes ≡ changed_there c n s.mailboxes

abbrev pub SelectedPlace : Server → Option ℕ → Type 0
SelectedPlace s (Some n) = IsSelected s n
SelectedPlace s None = selected s ≡ None
