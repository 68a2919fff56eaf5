use Rattle.sync_state.proofs.ItemLemmas.{line_ends_text, line_is_none, line_of}
use Rattle.sync_state.specs.StateText.{IsEntry, entry_line}
use Rattle.sync_state.proofs.state_text.take_entry.Goals as goal

pub returns-clause-some : goal.returns-clause-some
returns-clause-some c =
    line_of (IsEntry c.args.version) entry_line c.in_ok-entry.entry c.args.lines.now.rest.now c.in_ok-line.line.now c.in_ok-line.rest.now
    c.in_ok-line.ensures.sides.0 c.in_ok-line.ensures.sides.1 c.in_ok-entry.ensures.some

pub returns-in_err-line-clause-none : goal.returns-in_err-line-clause-none
returns-in_err-line-clause-none c = line_ends_text _ (IsEntry c.args.version) entry_line c.args.lines.now.rest.now c.in_err-line.ensures.sides

pub returns-in_err-entry-clause-none : goal.returns-in_err-entry-clause-none
returns-in_err-entry-clause-none c =
    line_is_none _ (IsEntry c.args.version) entry_line c.args.lines.now.rest.now c.in_ok-line.line.now c.in_ok-line.rest.now c.in_ok-line.ensures.sides.0 c.in_ok-line.ensures.sides.1 c.in_err-entry.ensures.none
