use Rattle.run_trial.proofs.AmongLemmas.{mapped_foreign}
use Rattle.run_trial.proofs.visited.visited.Goals as goal

pub returns-clause-foreign : goal.returns-clause-foreign
returns-clause-foreign g c = mapped_foreign g.O.Others.ours c.args.setting.arrivals.far.items c.in_ok-far_arrivals.field-0.list.items c.in_ok-far_arrivals.ensures
