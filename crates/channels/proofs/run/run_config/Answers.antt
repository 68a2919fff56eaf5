use Rattle.std.proofs.Common.{arith, ap, rules}
use Rattle.std.proofs.lemmas.Grind.{common_steps}
use Rattle.channels.proofs.ChannelLemmas.{GoesAsFar-reported}
use Rattle.channels.proofs.RunLemmas.{RunsOnly-line}
use Rattle.channels.proofs.run.run_config.Goals as goal

-- what the command line names was asked
pub returns-in-Ok-clause-asked : goal.returns-in-Ok-clause-asked
returns-in-Ok-clause-asked g c =
    GoesAsFar-reported g.S.BoxLists.noted c.args.config.now c.args.request.now c.in-Ok.course.cells c.in-Ok.course.places.items c.run_reported.result
    c.run_reported.new.stores.write_failed _ _ (g.S.BoxLists.asked c.args.stores.now) (g.S.BoxLists.asked c.new.result.stores.now)
    (g.S.BoxLists.asked c.run_reported.new.stores.stores.now) _ c.in-Ok.ensures.cells c.in-Ok.ensures.places (ap g.S.BoxLists.asked c.new.ensures.stores_now)
    (first_of (search rules, grind (arith, common_steps))) c.run_reported.ensures.asked

-- its mailboxes were run, once at most
pub returns-in-Ok-clause-runs : goal.returns-in-Ok-clause-runs
returns-in-Ok-clause-runs g c =
    RunsOnly-line g.S.BoxLists g.R.Rng.stream c.args.config.now c.args.request.now c.in-Ok.course.cells c.in-Ok.course.places.items c.args.stores.now
    c.new.result.stores.now c.run_reported.new.stores.stores.now _ c.in-Ok.ensures.cells c.in-Ok.ensures.places c.new.ensures.stores_now
    (first_of (search rules, grind (arith, common_steps))) c.run_reported.ensures.runs
