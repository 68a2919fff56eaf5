-- What a mailbox keeps while other clients act on it.
use Rattle.std.specs.Prelude.{◌≡◌, ◌<◌, ◌≤◌, Contains}
use Rattle.mailcore.specs.declared.mailbox.Message.{Message}
use Rattle.mailcore.specs.Stores.{IsStore, Store}
use Rattle.law_others.specs.Acts.{Acts}

-- a message was there under the same UID, with the same bytes
pub record WasThere (s : Store) (m : Message) : Type 0 where
  pub old : Message
  pub among : Contains s.messages old
  pub uid : old.uid ≡ m.uid
  pub bytes : old.bytes ≡ m.bytes

-- Its UIDVALIDITY; UIDs rise and are below the next one, which never falls; and no UID is given again: a message below what was the next one
-- is the one that had that UID, with its bytes (RFC 9051, sections 2.3.1.1 and 2.3.1.2).
pub record Keeps (s s' : Store) : Type 0 where
  pub validity : s'.validity ≡ s.validity
  pub next : s.next ≤ s'.next
  pub order : IsStore s'
  pub same : (m : Message) → Contains s'.messages m → m.uid < s.next → WasThere s m

abbrev pub ActsKeep : Type 0
ActsKeep = (s s' : Store) → IsStore s → Acts s s' → Keeps s s'
