use Rattle.std.proofs.Common.{◌∙◌, sym}
use Rattle.imap_replies.proofs.HeadSteps.{number_head, number_no}
use Rattle.imap_replies.proofs.head.read_head.Goals as goal

pub returns-in-Ok : goal.returns-in-Ok
returns-in-Ok c = rw (c.split_at.ensures.back) (number_head c.args.bytes.now c.loop-i.i _ c.if-i-eq0.false c.loop-i-test.true (sym c.is_atom_byte.ensures ∙ c.if-is_atom_byte.false) c.loop-i.invariant.reads (rw c.split_at.ensures.front at (sym c.is_digits.ensures ∙ c.if-is_digits.true)) _ c.in-Ok.ensures)

pub returns-in-Err : goal.returns-in-Err
returns-in-Err c = rw (c.split_at.ensures.back) (number_no c.args.bytes.now c.loop-i.i _ c.if-i-eq0.false c.loop-i-test.true (sym c.is_atom_byte.ensures ∙ c.if-is_atom_byte.false) c.loop-i.invariant.reads (rw c.split_at.ensures.front at (sym c.is_digits.ensures ∙ c.if-is_digits.true)) _ c.in-Err.ensures)
