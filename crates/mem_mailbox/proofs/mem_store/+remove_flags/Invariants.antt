use Rattle.std.proofs.Common.{length}
use Rattle.mem_mailbox.proofs.mem_store.+remove_flags.Given as goal

abbrev pub decreases-remove_flags : goal.decreases-remove_flags
decreases-remove_flags l = length l.messages.now
