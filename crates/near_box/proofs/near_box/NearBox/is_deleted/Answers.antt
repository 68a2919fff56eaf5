use Rattle.std.proofs.Common.{List, subst, sym}
use Rattle.near_box.specs.declared.survey.SurveyEntry.{SurveyEntry}
use Rattle.near_box.specs.Entries.{IsUnmarked}
use Rattle.near_box.proofs.DeletedLemmas.{near_marked_as, near_missing}
use Rattle.near_box.proofs.near_box.NearBox.is_deleted.Goals as goal

pub returns-clause-marked : goal.returns-clause-marked
returns-clause-marked g c = λ honest ready.
    let near = c.args.self.now in
    near_marked_as near.keywords c.args.uid near.survey near.fresh (g.F.Folder.seen near.folder).stored (near.surveys ready honest) c.deref.result.now c.deref.ensures.value _ c.is_deleted.ensures.marked

pub returns-clause-missing : goal.returns-clause-missing
returns-clause-missing g c = λ honest ready none.
    let near = c.args.self.now in
    c.is_deleted.ensures.missing
    (near_missing near.keywords c.args.uid near.survey near.fresh (g.F.Folder.seen near.folder).stored (near.surveys ready honest) c.deref.result.now c.deref.ensures.value none)

pub returns-clause-unmarked : goal.returns-clause-unmarked
returns-clause-unmarked g c = λ unmarked.
    let near = c.args.self.now in
    c.is_deleted.ensures.unmarked (subst (λ (es : List SurveyEntry). IsUnmarked near.keywords c.args.uid es) (sym c.deref.ensures.value) unmarked)
