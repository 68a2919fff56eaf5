use Rattle.std.proofs.Common.{List}
use Rattle.imap_replies.specs.declared.reply.Reply.{Reply}
use Rattle.imap_session.specs.Heard.{AreReplies}
use Rattle.imap_answers.specs.Spoken.{IsLeft}
use Rattle.imap_answers.proofs.reading.read_replies.Given as goal

abbrev pub invariant-loop : goal.invariant-loop
invariant-loop l = (rs : List Reply) → AreReplies rs l.fn.bytes → IsLeft l.replies.items l.rest rs
