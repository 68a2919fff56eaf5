use Rattle.run_pair.specs.Pairs.{seen_of}
use Rattle.run_trial.specs.Held.{held_in}
use Rattle.run_trial.specs.Worlds.{world_of}
use Rattle.run_trial.proofs.TextRunLemmas.{reports_answer}
use Rattle.run_trial.proofs.run.reported_alone.Goals as goal

pub returns-clause-reports : goal.returns-clause-reports
returns-clause-reports c = λ start.
    let trial = c.args.trial in
    let run = c.in_ok-outside in
    reports_answer (world_of trial.world) trial.world.options (seen_of run.outside) (held_in c.of.result) c.of.ensures.seen run.settled c.reported_of.result
    c.reported_of.ensures.status c.reported_of.ensures.prints (run.ensures.done start) (run.ensures.left start)
