use Rattle.run_trial.proofs.RunLemmas.{done_of, left_of, others_of, over_of}
use Rattle.run_trial.proofs.devices.settle_all.Goals as goal

pub returns-clause-done : goal.returns-clause-done
returns-clause-done g c = λ start same honest alone ours begins.
    done_of g.O.Outside.ours g.O.Outside.alone start c.args.options.now c.args.state.now (g.O.Outside.seen c.args.outside).device (g.O.Outside.seen c.settle_world.result.0).device
    c.settle_world.result.1 same begins (c.settle_world.ensures.done honest alone ours)

pub returns-clause-over : goal.returns-clause-over
returns-clause-over g c = λ start same honest ours begins.
    over_of g.O.Outside.ours g.O.Outside.alone start c.args.options.now c.args.state.now (g.O.Outside.seen c.args.outside).device (g.O.Outside.seen c.settle_world.result.0).device
    c.settle_world.result.1 same begins (c.settle_world.ensures.over honest ours)

pub returns-clause-others : goal.returns-clause-others
returns-clause-others g c = λ start same honest ours begins.
    others_of g.O.Outside.ours g.O.Outside.alone start c.args.options.now c.args.state.now (g.O.Outside.seen c.args.outside).device (g.O.Outside.seen c.settle_world.result.0).device
    c.settle_world.result.1 same begins (c.settle_world.ensures.others honest ours)

pub returns-clause-left : goal.returns-clause-left
returns-clause-left g c = λ start same honest ours begins.
    left_of g.O.Outside.ours g.O.Outside.alone start c.args.options.now c.args.state.now (g.O.Outside.seen c.args.outside) (g.O.Outside.seen c.settle_world.result.0)
    c.settle_world.result.1 same begins (c.settle_world.ensures.left honest ours)
