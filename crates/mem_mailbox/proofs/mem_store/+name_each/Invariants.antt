use Rattle.std.proofs.Common.{length}
use Rattle.mem_mailbox.proofs.mem_store.+name_each.Given as goal

abbrev pub decreases-name_each : goal.decreases-name_each
decreases-name_each l = length l.messages.now
