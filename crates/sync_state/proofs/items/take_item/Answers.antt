use Rattle.sync_state.proofs.ItemLemmas.{line_ends_text, line_is_none}
use Rattle.sync_state.proofs.items.take_item.Goals as goal

pub returns-in_err-text-clause-none : goal.returns-in_err-text-clause-none
returns-in_err-text-clause-none g c = line_ends_text _ (g.A.PlanItem.fits c.args.version) g.A.PlanItem.line c.args.lines.now.rest.now c.in_err-text.ensures.sides

pub returns-in_err-item-clause-none : goal.returns-in_err-item-clause-none
returns-in_err-item-clause-none g c =
    line_is_none _ (g.A.PlanItem.fits c.args.version) g.A.PlanItem.line c.args.lines.now.rest.now c.in_ok-text.text.now c.in_ok-text.rest.now c.in_ok-text.ensures.sides.0 c.in_ok-text.ensures.sides.1 c.in_err-item.ensures.none
