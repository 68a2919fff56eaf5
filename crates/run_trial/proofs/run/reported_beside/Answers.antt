use Rattle.run_pair.specs.Pairs.{seen_of}
use Rattle.run_trial.specs.Held.{held_in}
use Rattle.run_trial.specs.Worlds.{world_of}
use Rattle.run_trial.proofs.TextRunLemmas.{reports_among}
use Rattle.run_trial.proofs.run.reported_beside.Goals as goal

pub returns-clause-reports : goal.returns-clause-reports
returns-clause-reports g c = λ ours start.
    let trial = c.args.trial in
    let run = c.in_ok-outside in
    let devices = c.in_ok-among in
    reports_among g.O.Others.ours (world_of trial.world) trial.world.options (seen_of run.outside) (held_in devices.field-0) devices.ensures.seen run.settled c.reported_of.result
    c.reported_of.ensures.status c.reported_of.ensures.prints (run.ensures.over ours start) (run.ensures.others ours start) (run.ensures.left ours start)
