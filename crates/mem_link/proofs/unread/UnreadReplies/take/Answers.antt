use Rattle.std.proofs.Common.{sym, ◌∙◌, drop}
use Rattle.mem_link.proofs.Taking.{took_greeting, took_replies}
use Rattle.mem_link.proofs.unread.UnreadReplies.take.Goals as goal

pub returns-then-is_empty-clause-took : goal.returns-then-is_empty-clause-took
returns-then-is_empty-clause-took c =
    took_replies c.self.inside.greeting.now c.self.inside.replies.items c.deref.result.now c.copy_front-count.new.piece c.args.self.now c.self.inside.received c.copy_front-count.result
    c.self.view_is (sym c.is_empty.ensures ∙ c.if-is_empty.true) c.deref.ensures.value c.copy_front-count.ensures.copied

pub returns-else-is_empty-clause-took : goal.returns-else-is_empty-clause-took
returns-else-is_empty-clause-took c =
    took_greeting c.self.inside.greeting.now (drop c.self.inside.received c.self.inside.replies.items) c.copy_front-count-else-is_empty.new.piece c.args.self.now c.copy_front-count-else-is_empty.result
    c.self.view_is c.copy_front-count-else-is_empty.ensures.copied
