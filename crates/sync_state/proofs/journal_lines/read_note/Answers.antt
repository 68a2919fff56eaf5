use Rattle.sync_state.proofs.StepLemmas.{no_note}
use Rattle.sync_state.proofs.journal_lines.read_note.Goals as goal

pub returns-in_err-far-clause-none : goal.returns-in_err-far-clause-none
returns-in_err-far-clause-none c = no_note _ c.args.line.now c.in_default.ensures.none c.in_err-far.ensures.none
