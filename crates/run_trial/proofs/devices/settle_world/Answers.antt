use Rattle.run_trial.proofs.RunLemmas.{order_of, stands_world}
use Rattle.run_trial.proofs.devices.settle_world.Goals as goal

pub returns-clause-done : goal.returns-clause-done
returns-clause-done g c = λ honest alone ours begins.
    c.settle_from.ensures.done honest alone ours
    (stands_world g.O.Outside.ours g.O.Outside.alone g.start c.args.options.now (g.O.Outside.seen c.args.outside).device begins) begins.sound

pub returns-clause-over : goal.returns-clause-over
returns-clause-over g c = λ honest ours begins.
    c.settle_from.ensures.over honest ours
    (stands_world g.O.Outside.ours g.O.Outside.alone g.start c.args.options.now (g.O.Outside.seen c.args.outside).device begins)

pub returns-clause-others : goal.returns-clause-others
returns-clause-others g c = λ honest ours begins.
    c.settle_from.ensures.others honest ours
    (stands_world g.O.Outside.ours g.O.Outside.alone g.start c.args.options.now (g.O.Outside.seen c.args.outside).device begins)
    (order_of g.O.Outside.ours g.O.Outside.alone g.start c.args.options.now (g.O.Outside.seen c.args.outside).device begins)

pub returns-clause-left : goal.returns-clause-left
returns-clause-left g c = λ honest ours begins.
    c.settle_from.ensures.left honest ours
    (stands_world g.O.Outside.ours g.O.Outside.alone g.start c.args.options.now (g.O.Outside.seen c.args.outside).device begins)
