use Rattle.run_trial.proofs.RunLemmas.{done_from, left_from, others_from, over_from, stopped_from}
use Rattle.run_trial.proofs.devices.settle_from.Goals as goal

pub returns-clause-done : goal.returns-clause-done
returns-clause-done g c = λ honest alone ours at sound.
    done_from g.opening c.args.options.now _ (g.O.Outside.honest c.settle_trial-settled.new.outside)
    (g.O.Outside.seen c.args.outside) (g.O.Outside.seen c.settle_trial-settled.new.outside) c.settle_trial-settled.result c.settle_trial-settled.ensures.done honest alone ours at sound

pub returns-clause-over : goal.returns-clause-over
returns-clause-over g c = λ honest ours at.
    over_from g.opening c.args.options.now _ (g.O.Outside.honest c.settle_trial-settled.new.outside)
    (g.O.Outside.seen c.args.outside) (g.O.Outside.seen c.settle_trial-settled.new.outside) c.settle_trial-settled.result c.settle_trial-settled.ensures.done honest ours at

pub returns-clause-others : goal.returns-clause-others
returns-clause-others g c = λ honest ours at order.
    others_from g.opening c.args.options.now _ (g.O.Outside.honest c.settle_trial-settled.new.outside)
    (g.O.Outside.seen c.args.outside) (g.O.Outside.seen c.settle_trial-settled.new.outside) c.settle_trial-settled.result c.settle_trial-settled.ensures.done honest ours at order

pub returns-clause-left : goal.returns-clause-left
returns-clause-left g c = λ honest ours at.
    left_from g.opening c.args.options.now (g.O.Outside.honest c.settle_trial-settled.new.outside) c.args.tries
    (g.O.Outside.seen c.args.outside) (g.O.Outside.seen c.settle_trial-settled.new.outside) c.settle_trial-settled.result c.settle_trial-settled.ensures.left honest ours at

pub returns-clause-stopped : goal.returns-clause-stopped
returns-clause-stopped g c = λ is.
    stopped_from c.args.tries
    (g.O.Outside.seen c.args.outside) (g.O.Outside.seen c.settle_trial-settled.new.outside) c.settle_trial-settled.result c.settle_trial-settled.ensures.counts is
