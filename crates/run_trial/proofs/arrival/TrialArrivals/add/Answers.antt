use Rattle.run_trial.proofs.CourseLemmas.{near_adds}
use Rattle.run_trial.proofs.arrival.TrialArrivals.add.Goals as goal

pub returns-in-Near-clause-adds : goal.returns-in-Near-clause-adds
returns-in-Near-clause-adds c =
    near_adds c.in-Some.coming c.args.text.now c.args.self.now c.add_near.new.self c.in_ok-bytes.bytes.items c.add_near.result c.in-Some.ensures c.in-Near.is c.in_ok-bytes.ensures.bytes
    c.add_near.ensures.far c.add_near.ensures.adds
