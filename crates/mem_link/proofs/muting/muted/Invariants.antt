use Rattle.std.proofs.Common.{List}
use Rattle.imap_replies.specs.declared.reply.Reply.{Reply}
use Rattle.imap_session.specs.Heard.{AreReplies}
use Rattle.mem_link.specs.Muting.{IsLeft}
use Rattle.mem_link.proofs.muting.muted.Given as goal

abbrev pub invariant-loop : goal.invariant-loop
invariant-loop l = (said : List Reply) → AreReplies said l.fn.answer → IsLeft said l.out.items l.rest
