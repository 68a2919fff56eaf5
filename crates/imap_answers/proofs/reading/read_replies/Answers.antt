use Rattle.std.proofs.Common.{sym, ◌∙◌, refl}
use Rattle.imap_link.proofs.BufferExits.{slice_is}
use Rattle.imap_answers.proofs.Left.{all_read, left_next, none_rest}
use Rattle.imap_answers.proofs.reading.read_replies.Goals as goal

pub returns-then-is_empty-clause-replies : goal.returns-then-is_empty-clause-replies
returns-then-is_empty-clause-replies c rs h = all_read c.loop.replies.items c.loop.rest.now rs (c.loop.invariant rs h) (none_rest c.loop.rest.now (sym c.is_empty.ensures ∙ c.if-is_empty.true))

pub loop-preserved : goal.loop-preserved
loop-preserved c rs h =
    let left = c.loop.invariant rs h in
    left_next c.loop.replies.items _ c.loop.rest.now _ rs c.in_ok-reply.reply c.in_ok-reply.len
    c.in_ok-push.ensures.items (slice_is c.loop.rest.now c.loop.rest.now c.in_ok-reply.len refl) left (c.in_ok-reply.ensures.first left.left left.spelled)
