use Rattle.std.proofs.Common.{length}
use Rattle.mem_mailbox.proofs.mem_store.+add_flags.Given as goal

abbrev pub decreases-add_flags : goal.decreases-add_flags
decreases-add_flags l = length l.messages.now
