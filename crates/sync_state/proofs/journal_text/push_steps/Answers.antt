use Rattle.sync_state.specs.JournalText.{step_line}
use Rattle.sync_state.proofs.LineLemmas.{next_written}
use Rattle.sync_state.proofs.journal_text.push_steps.Goals as goal

pub loop-step-preserved : goal.loop-step-preserved
loop-step-preserved c =
    next_written step_line c.args.steps.now c.loop-step.step-index c.step-item.result c.args.text.now.items c.loop-step.text.items c.push_step.new.text.items
    c.loop-step-test.true c.step-item.is c.loop-step.invariant c.in_ok-push_step.ensures
