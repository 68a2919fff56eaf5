use Rattle.std.proofs.Common.{sym, ◌∙◌}
use Rattle.std.proofs.lemmas.Bool.{false≢true}
use Rattle.sync_state.proofs.KnownLines.{no_step_letters}
use Rattle.sync_state.proofs.items.StepPlanItem.of_line.Goals as goal

pub returns-else-has_letters_of_step-clause-none : goal.returns-else-has_letters_of_step-clause-none
returns-else-has_letters_of_step-clause-none c =
    let some = c.in_ok-step.ensures.some in
    no_step_letters c.args.version c.in_ok-step.step c.args.text.now some.0 (λ h. false≢true (sym c.if-has_letters_of_step.false ∙ c.has_letters_of_step.ensures.0 h)) some.1
