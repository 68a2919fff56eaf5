use Rattle.std.proofs.Common.{length}
use Rattle.mem_mailbox.proofs.admission.+number.Given as goal

abbrev pub decreases-number : goal.decreases-number
decreases-number l = length l.messages.now
