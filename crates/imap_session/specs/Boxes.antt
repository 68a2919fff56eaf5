-- The mailboxes that a server keeps, as imap_session sees them.
use Rattle.std.specs.Prelude.{◌≡◌, true, List, map, All}
use Rattle.mailcore.specs.declared.mailbox.StoredMailbox.{StoredMailbox}
use Rattle.mailcore.specs.Ranges.{IsInRange}
use Rattle.mailcore.specs.Stores.{Store, IsStore}
use Rattle.mailcore.specs.MailboxNames.{is_mailbox_name}
use Rattle.wire_strings.specs.Literals.{IsLiteral}
use Rattle.imap_session.specs.Mailboxes.{FarMailbox}

abbrev pub store_of : StoredMailbox → Store
store_of m = record { validity = m.validity; next = m.next; messages = m.messages }

abbrev pub far_of : StoredMailbox → FarMailbox
far_of m = record { name = m.name; store = store_of m }

abbrev pub all_of : List StoredMailbox → List FarMailbox
all_of mailboxes = map far_of mailboxes

-- What a server can serve: a name within the limits, UIDs that rise below the next one, numbers in their ranges, and
-- messages that are octets of a literal.
pub record IsServed (m : FarMailbox) : Type 0 where
  pub name : is_mailbox_name m.name ≡ true
  pub store : IsStore m.store
  pub range : IsInRange m.store
  pub bodies : All (λ x. IsLiteral x.bytes) m.store.messages

abbrev pub AreServed : List FarMailbox → Type 0
AreServed mailboxes = All IsServed mailboxes
