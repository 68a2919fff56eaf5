use Rattle.run_trial.proofs.TextRunLemmas.{reports_text}
use Rattle.run_trial.proofs.run.reported_of_text.Goals as goal

pub returns-clause-text : goal.returns-clause-text
returns-clause-text g c = λ memory.
    let given = c.in_ok-trial in
    reports_text given.trial c.args.text.now c.reported_of_trial.result given.ensures.text given.ensures.named (c.reported_of_trial.ensures.alone memory)
    (c.reported_of_trial.ensures.among memory)
