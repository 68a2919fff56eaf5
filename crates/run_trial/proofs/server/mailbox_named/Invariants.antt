use Rattle.std.proofs.Common.{◌≡◌, length}
use Rattle.imap_session.specs.Boxes.{all_of}
use Rattle.imap_session.specs.Mailboxes.{mailbox_at}
use Rattle.run_trial.proofs.server.mailbox_named.Given as goal

abbrev pub invariant-loop-mailbox : goal.invariant-loop-mailbox
invariant-loop-mailbox l = mailbox_at l.name (all_of l.rest) ≡ mailbox_at l.fn.name (all_of l.fn.mailboxes)

abbrev pub decreases-loop-mailbox : goal.decreases-loop-mailbox
decreases-loop-mailbox l = length l.rest
