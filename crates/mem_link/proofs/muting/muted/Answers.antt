use Rattle.std.proofs.Common.{◌∙◌, refl, sym}
use Rattle.imap_link.proofs.BufferExits.{slice_is}
use Rattle.imap_answers.proofs.Left.{none_rest}
use Rattle.mem_link.proofs.MutingLemmas.{all_muted, muted_next}
use Rattle.mem_link.proofs.muting.muted.Goals as goal

pub returns-then-is_empty : goal.returns-then-is_empty
returns-then-is_empty c said h = all_muted said c.loop.out.items c.loop.rest.now (c.loop.invariant said h) (none_rest c.loop.rest.now (sym c.is_empty.ensures ∙ c.if-is_empty.true))

pub loop-preserved : goal.loop-preserved
loop-preserved c said h =
    let left = c.loop.invariant said h in
    muted_next said c.loop.out.items _ c.loop.rest.now _ c.in_ok-reply.reply c.in_ok-reply.len
    (slice_is c.loop.rest.now c.loop.rest.now c.in_ok-reply.len refl) left (c.in_ok-reply.ensures.first left.left left.spelled) c.in_ok-push_muted.ensures
