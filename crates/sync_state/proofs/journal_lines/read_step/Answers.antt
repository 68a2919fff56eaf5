use Rattle.sync_state.proofs.StepLemmas.{no_step}
use Rattle.sync_state.proofs.journal_lines.read_step.Goals as goal

pub returns-clause-none : goal.returns-clause-none
returns-clause-none c =
    no_step _ c.args.line.now c.in_default.ensures.none c.in_default-after.ensures.none c.in_default-after-2.ensures.none c.read_flags_step.ensures.none
