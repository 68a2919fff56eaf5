use Rattle.run_trial.proofs.run.reported_of.Goals as goal

pub returns-clause-prints : goal.returns-clause-prints
returns-clause-prints g c = (_, c.in_ok-write.ensures.text)
