use Rattle.near_box.specs.Mailboxes.{waiting_files}
use Rattle.near_box.proofs.MailboxLemmas.{mailbox_store}
use Rattle.near_box.proofs.RangeLemmas.{messages_within, near_in_range, waiting_flags, waiting_within}
use Rattle.near_box.proofs.laws.near_mailboxes_are_mailboxes.Goals as goal

pub returns : goal.returns
returns c = record { store = mailbox_store; ranges = near_in_range; waiting = λ fresh keywords s. waiting_flags keywords (waiting_files s.files); within = messages_within; waiting_within = λ fresh keywords s. waiting_within keywords (waiting_files s.files) }
