use Rattle.std.proofs.Common.{[], subst, sym}
use Rattle.std.specs.Prelude.{Result}
use Rattle.std.specs.Int.NonZero.{non_zero_u32_get}
use Rattle.std.proofs.lemmas.Result.{err_from_is_err_and}
use Rattle.near_box.specs.declared.near_fault.NearFault.{NearFault}
use Rattle.near_box.specs.NearContracts.{ReportsOf, ReportsWhy}
use Rattle.near_box.proofs.SurveyedLemmas.{surveyed_mailbox}
use Rattle.near_box.proofs.near_box.NearBox.enter.Goals as goal

pub returns-clause-mailbox : goal.returns-clause-mailbox
returns-clause-mailbox g c = λ honest.
    surveyed_mailbox c.in_ok-self.field-0 (non_zero_u32_get c.args.fresh) c.args.self.now.keywords (g.F.Folder.seen c.survey_of.new.folder).stored
    (c.in_ok-self.ensures.states honest c.args.self.now.keywords)

-- the fault is reported whatever the map
pub returns-in_err-self-clause-mailbox : goal.returns-in_err-self-clause-mailbox
returns-in_err-self-clause-mailbox g c = λ honest.
    let e = err_from_is_err_and c.from_residual.result c.from_residual.ensures.1 in
    let s = (g.F.Folder.seen c.survey_of.new.folder).stored in
    let why = subst (λ (f : NearFault). ReportsWhy (non_zero_u32_get c.args.fresh) s f) (sym e.2) (c.in_err-self.ensures.states honest []) in
    subst (λ (r : Result (Unit {0}) NearFault). ReportsOf (non_zero_u32_get c.args.fresh) s r) (sym e.1) why

pub invariant_of-self-2-clause-surveys : goal.invariant_of-self-2-clause-surveys
invariant_of-self-2-clause-surveys g c = λ ready honest. rw (c.get-self.ensures.value) (c.in_ok-self.ensures.states honest c.args.self.now.keywords)
