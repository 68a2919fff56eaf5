use Rattle.std.proofs.Common.{suc, length, arith}
use Rattle.std.proofs.lemmas.Result.{err_from_is_err_and}
use Rattle.wire_tokens.proofs.SpacedNames.{pass_init, pass_fails, pass_goes}
use Rattle.wire_tokens.proofs.spaced.pass_names.Goals as goal

pub loop-init : goal.loop-init
loop-init c = pass_init c.args.kind c.args.bytes.now

pub returns-in_err-after : goal.returns-in_err-after
returns-in_err-after c =
    let p = err_from_is_err_and c.from_residual.result c.from_residual.ensures.1 in
    rw (p.1, p.2) (pass_fails c.args.kind (suc (length c.args.bytes.now)) c.loop.counter c.loop.rest.now _ _ (omega arith) c.loop.invariant c.in_err-after.ensures)

pub loop-preserved : goal.loop-preserved
loop-preserved c = pass_goes c.args.kind (suc (length c.args.bytes.now)) c.loop.counter c.loop.rest.now _ _ _ (omega arith) c.loop.invariant c.in_ok-after.ensures (rw c.in-Some.is at c.in_ok-next.ensures)
