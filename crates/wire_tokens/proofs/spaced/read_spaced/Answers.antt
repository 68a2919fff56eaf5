use Rattle.std.proofs.lemmas.Result.{err_from_is_err_and}
use Rattle.wire_tokens.proofs.SpacedNames.{lent, not_lent}
use Rattle.wire_tokens.proofs.spaced.read_spaced.Goals as goal

pub returns-in_err-rest-clause-gives : goal.returns-in_err-rest-clause-gives
returns-in_err-rest-clause-gives c =
    let p = err_from_is_err_and c.from_residual.result c.from_residual.ensures.1 in
    rw (p.1, p.2) (not_lent c.args.kind c.args.bytes.now _ c.in_err-rest.ensures)

pub returns-clause-gives : goal.returns-clause-gives
returns-clause-gives c = rw c.saturating_sub.ensures (lent c.args.kind c.args.bytes.now c.in_ok-rest.rest.now c.in_ok-rest.ensures).reads

pub returns-clause-spaced : goal.returns-clause-spaced
returns-clause-spaced c = rw c.saturating_sub.ensures (lent c.args.kind c.args.bytes.now c.in_ok-rest.rest.now c.in_ok-rest.ensures).spaced
