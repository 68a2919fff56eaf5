use Rattle.std.proofs.Common.{◌≡◌, take}
use Rattle.imap_answers.specs.MailboxNames.{names_in}
use Rattle.imap_answers.proofs.names.names_in.Given as goal

abbrev pub invariant-loop-reply : goal.invariant-loop-reply
invariant-loop-reply l = l.names.items ≡ names_in (take l.reply-index l.replies)
