use Rattle.sync_state.proofs.StepLemmas.{no_flags_step}
use Rattle.sync_state.proofs.journal_lines.read_flags_step.Goals as goal

pub returns-in_err-direction-clause-none : goal.returns-in_err-direction-clause-none
returns-in_err-direction-clause-none c =
    no_flags_step _ c.args.line.now c.in_default.ensures.none c.in_default-after.ensures.none c.in_default-after-2.ensures.none c.in_err-direction.ensures.none
