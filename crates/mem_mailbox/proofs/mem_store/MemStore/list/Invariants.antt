use Rattle.std.proofs.Common.{◌≡◌, map, take}
use Rattle.mailcore.specs.Spared.{spares}
use Rattle.mem_mailbox.specs.Listings.{item_in}
use Rattle.mem_mailbox.proofs.mem_store.MemStore.list.Given as goal

abbrev pub invariant-loop-message : goal.invariant-loop-message
invariant-loop-message l = l.items ≡ map (item_in l.side (spares l.spared)) (take l.message-index l.self.messages.items)
