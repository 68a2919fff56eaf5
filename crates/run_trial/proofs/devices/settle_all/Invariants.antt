use Rattle.run_states.specs.Openings.{world_at}
use Rattle.run_trial.proofs.devices.settle_all.Given as goal

-- both mailboxes are those of the outside
abbrev pub ghost-settle_world : goal.ghost-settle_world
ghost-settle_world g a = world_at (g.O.Outside.seen a.outside).device a._state.now
