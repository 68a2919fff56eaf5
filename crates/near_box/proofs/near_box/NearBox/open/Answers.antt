use Rattle.std.proofs.Common.{[]}
use Rattle.std.specs.Int.NonZero.{non_zero_u32_get}
use Rattle.near_box.proofs.SurveyedLemmas.{surveyed_mailbox}
use Rattle.near_box.proofs.near_box.NearBox.open.Goals as goal

pub returns-in-Ok-clause-mailbox : goal.returns-in-Ok-clause-mailbox
returns-in-Ok-clause-mailbox g c = λ honest.
    surveyed_mailbox c.in-Ok.survey (non_zero_u32_get c.args.fresh) c.args.keywords (g.F.Folder.seen c.survey_of.new.folder).stored (c.in-Ok.ensures.states honest c.args.keywords)

-- the fault is reported whatever the map
pub returns-in-Err-clause-refused : goal.returns-in-Err-clause-refused
returns-in-Err-clause-refused g c = λ honest. c.in-Err.ensures.states honest []

pub invariant_of-result-clause-surveys : goal.invariant_of-result-clause-surveys
invariant_of-result-clause-surveys g c = λ ready honest. rw (c.get.ensures.value) (c.in-Ok.ensures.states honest c.args.keywords)
