-- What the mailboxes of a server are, whatever a session does to them.
use Rattle.std.specs.Prelude.{List, All}
use Rattle.mailcore.specs.Ranges.{IsInRange}
use Rattle.mailcore.specs.Stores.{IsStore}
use Rattle.imap_session.specs.Mailboxes.{FarMailbox}

-- UIDs rise and are below the next one, and numbers are in their ranges
pub record IsSound (m : FarMailbox) : Type 0 where
  pub store : IsStore m.store
  pub range : IsInRange m.store

abbrev pub AreSound : List FarMailbox → Type 0
AreSound mailboxes = All IsSound mailboxes
