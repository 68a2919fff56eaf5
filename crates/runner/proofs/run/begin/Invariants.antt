use Rattle.run_states.specs.Openings.{once_listed}
use Rattle.runner.specs.Before.{world_shown}
use Rattle.runner.proofs.run.begin.Given as goal

abbrev pub ghost-propose : goal.ghost-propose
ghost-propose g a = g.opening

abbrev pub ghost-carry_out : goal.ghost-carry_out
ghost-carry_out g a = once_listed g.opening (world_shown (g.O.Outside.opened a.outside.now))

abbrev pub ghost-conclude : goal.ghost-conclude
ghost-conclude g a = once_listed g.opening (world_shown (g.O.Outside.opened a.outside.now))
