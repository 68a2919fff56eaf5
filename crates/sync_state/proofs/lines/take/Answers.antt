use Rattle.sync_state.proofs.LineLemmas.{no_line_end, other_start, other_value, line_is}
use Rattle.sync_state.proofs.lines.take.Goals as goal

pub returns-in_err-line-clause-none : goal.returns-in_err-line-clause-none
returns-in_err-line-clause-none g c = no_line_end _ c.args.start.now g.T.Fields.fits g.T.Fields.spelling c.args.lines.now.rest.now c.in_err-line.ensures.sides

pub returns-in_err-strip_prefix-clause-none : goal.returns-in_err-strip_prefix-clause-none
returns-in_err-strip_prefix-clause-none g c =
    other_start _ c.args.start.now g.T.Fields.fits g.T.Fields.spelling c.args.lines.now.rest.now c.in_ok-line.line.now c.in_ok-line.rest.now
    c.in_ok-line.ensures.sides.0 c.in_ok-line.ensures.sides.1 c.in_err-strip_prefix.ensures.cases

pub returns-in_err-value-clause-none : goal.returns-in_err-value-clause-none
returns-in_err-value-clause-none g c =
    other_value _ c.args.start.now g.T.Fields.fits g.T.Fields.spelling c.args.lines.now.rest.now c.in_ok-line.line.now c.in_ok-line.rest.now c.in_ok-strip_prefix.field-0.now
    c.in_ok-line.ensures.sides.0 c.in_ok-line.ensures.sides.1 c.in_ok-strip_prefix.ensures.cases.1 c.in_err-value.ensures.none

pub returns-clause-some : goal.returns-clause-some
returns-clause-some g c =
    line_is c.args.start.now g.T.Fields.fits g.T.Fields.spelling c.in_ok-value.value c.args.lines.now.rest.now c.in_ok-line.line.now c.in_ok-line.rest.now c.in_ok-strip_prefix.field-0.now
    c.in_ok-line.ensures.sides.0 c.in_ok-line.ensures.sides.1 c.in_ok-strip_prefix.ensures.cases.0 c.in_ok-strip_prefix.ensures.cases.1 c.in_ok-value.ensures.some.0 c.in_ok-value.ensures.some.1
