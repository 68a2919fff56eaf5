use Rattle.worlds.proofs.CountedMarks.{marks_counted}
use Rattle.run_trial.proofs.run.reported_among.Goals as goal

pub returns-then-are_of-clause-reports : goal.returns-then-are_of-clause-reports
returns-then-are_of-clause-reports c = λ foreign start. c.reported_beside.ensures.reports marks_counted start
