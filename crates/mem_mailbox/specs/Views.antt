-- What a mailbox in memory is, as a mailbox of a run.
use Rattle.std.specs.Prelude.{ℕ, Bool, true, List, map}
use Rattle.mailcore.specs.declared.mailbox.Message.{Message}
use Rattle.mailcore.specs.Stores.{Store, Waiting}
use Rattle.mailcore.specs.Mailboxes.{Mailbox}
use Rattle.mem_mailbox.specs.declared.mem_store.MemStore.{MemStore}

-- every mark is the run's: nobody else adds messages
abbrev pub every : List ℕ → Bool
every mark = true

abbrev pub store_of : MemStore → Store
store_of s = record { validity = s.validity; next = s.next; messages = s.messages.items }

-- a file that waits has no UID yet, whatever stands in its place
abbrev pub waiting_of : Message → Waiting
waiting_of m = record { flags = m.flags; bytes = m.bytes }

abbrev pub near_of : MemStore → List Message → Mailbox
near_of s files = record { store = store_of s; waiting = map waiting_of files }
