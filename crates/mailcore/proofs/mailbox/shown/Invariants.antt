use Rattle.std.proofs.Common.{◌≡◌, ◌++◌, map, drop}
use Rattle.mailcore.specs.Listed.{item_of}
use Rattle.mailcore.proofs.mailbox.shown.Given as goal

abbrev pub invariant-loop-message : goal.invariant-loop-message
invariant-loop-message l = l.items.items ++ map (item_of l.side) (drop l.message-index l.messages) ≡ map (item_of l.side) l.messages
