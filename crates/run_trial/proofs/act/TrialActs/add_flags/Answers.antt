use Rattle.run_trial.proofs.ActLemmas.{flags_add}
use Rattle.run_trial.proofs.act.TrialActs.add_flags.Goals as goal

pub returns-clause-adds : goal.returns-clause-adds
returns-clause-adds c =
    let change = c.in-Some-read.change in
    flags_add c.args.text.now c.in-Some.acting change.uid c.args.self.now c.push.new.self c.in-Some.ensures change.set change.clear c.push.result
    c.in-Some-read.ensures c.push.ensures.adds
