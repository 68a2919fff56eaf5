use Rattle.run_states.specs.Beginnings.{opening_of}
use Rattle.run_trial.proofs.devices.settle_world.Given as goal

abbrev pub ghost-settle_from : goal.ghost-settle_from
ghost-settle_from g a = opening_of g.O.Outside.ours g.O.Outside.alone g.start a.options.now
