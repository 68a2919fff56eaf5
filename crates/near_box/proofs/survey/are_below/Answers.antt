use Rattle.std.proofs.Common.{sym}
use Rattle.near_box.proofs.SurveyLemmas.{last_below}
use Rattle.near_box.proofs.survey.are_below.Goals as goal

pub returns-in-Some : goal.returns-in-Some
returns-in-Some c = rw (c.get.ensures.number) (last_below c.args.entries.now c.in-Some.last.now c.args.next c.requires (sym c.in-Some.ensures.value))
