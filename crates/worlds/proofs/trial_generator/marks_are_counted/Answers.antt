use Rattle.worlds.proofs.CountedMarks.{marks_counted}
use Rattle.worlds.proofs.trial_generator.marks_are_counted.Goals as goal

pub returns : goal.returns
returns c = marks_counted
