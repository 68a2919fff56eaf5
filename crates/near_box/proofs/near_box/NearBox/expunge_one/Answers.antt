use Rattle.std.proofs.Common.{◌≡◌, ◌∙◌, ap, refl, sym, Some, List}
use Rattle.std.specs.Prelude.{slice_get}
use Rattle.std.proofs.lemmas.Result.{err_from_is_err_and}
use Rattle.maildir.specs.declared.folder.FileName.{FileName}
use Rattle.near_box.specs.declared.survey.SurveyEntry.{SurveyEntry}
use Rattle.maildir.specs.Folders.{Stored, name_at, removed_file}
use Rattle.near_box.proofs.ExpungeLemmas.{done_removal, does_removal, surveys_removed, without_nowhere}
use Rattle.near_box.proofs.UidLemmas.{found_entry, found_uid, uid_not_found}
use Rattle.near_box.proofs.near_box.NearBox.expunge_one.Goals as goal

pub returns-in_default-clause-effect : goal.returns-in_default-clause-effect
returns-in_default-clause-effect g c = λ honest.
    let s : Stored = (g.F.Folder.seen c.args.self.now.folder).stored in
    sym (without_nowhere c.args.uid s (uid_not_found c.args.self.now.survey c.args.self.now.fresh c.args.self.now.keywords s (c.requires.surveyed honest) c.args.uid c.deref.result.now c.deref.ensures.value (λ rising. c.place_of.ensures.missing rising c.in_default.is)))

pub returns-in_err-remove-clause-effect : goal.returns-in_err-remove-clause-effect
returns-in_err-remove-clause-effect g c = λ honest.
    let s : Stored = (g.F.Folder.seen c.args.self.now.folder).stored in
    let entries : List SurveyEntry = c.args.self.now.survey.entries.items in
    let there : slice_get entries c.in-Some.i ≡ Some c.index.result.now = found_entry entries c.deref.result.now c.in-Some.i c.index.result.now c.deref.ensures.value c.in-Some.ensures.within c.index.ensures in
    let own = found_uid entries c.deref.result.now c.in-Some.i c.args.uid c.index.result.now c.deref.ensures.value c.index.ensures c.in-Some.ensures.found in
    let e = err_from_is_err_and c.from_residual.result c.from_residual.ensures.1 in
    rw (e.1) (does_removal c.args.self.now.survey c.args.self.now.fresh c.args.self.now.keywords s (c.requires.surveyed (c.remove.ensures.was_honest honest)) c.in-Some.i c.index.result.now there c.args.uid c.location.result own c.location.ensures (g.F.Folder.seen c.remove.new.self).stored (c.in_err-remove.ensures.call.left honest))

pub returns-clause-effect : goal.returns-clause-effect
returns-clause-effect g c = λ honest.
    let s : Stored = (g.F.Folder.seen c.args.self.now.folder).stored in
    let entries : List SurveyEntry = c.args.self.now.survey.entries.items in
    let there : slice_get entries c.in-Some.i ≡ Some c.index.result.now = found_entry entries c.deref.result.now c.in-Some.i c.index.result.now c.deref.ensures.value c.in-Some.ensures.within c.index.ensures in
    let own = found_uid entries c.deref.result.now c.in-Some.i c.args.uid c.index.result.now c.deref.ensures.value c.index.ensures c.in-Some.ensures.found in
    done_removal c.args.self.now.survey c.args.self.now.fresh c.args.self.now.keywords s (c.requires.surveyed (c.remove.ensures.was_honest honest)) c.in-Some.i c.index.result.now there c.args.uid (name_at c.location.result) own c.location.ensures (g.F.Folder.seen c.remove.new.self).stored (c.in_ok-remove.ensures.call.effect honest).now

pub returns-clause-surveys : goal.returns-clause-surveys
returns-clause-surveys g c = λ honest.
    let s : Stored = (g.F.Folder.seen c.args.self.now.folder).stored in
    let entries : List SurveyEntry = c.args.self.now.survey.entries.items in
    let there : slice_get entries c.in-Some.i ≡ Some c.index.result.now = found_entry entries c.deref.result.now c.in-Some.i c.index.result.now c.deref.ensures.value c.in-Some.ensures.within c.index.ensures in
    surveys_removed c.args.self.now.survey c.args.self.now.fresh c.args.self.now.keywords s (c.requires.surveyed (c.remove.ensures.was_honest honest)) c.in-Some.i c.index.result.now there _ _
    ((c.in_ok-remove.ensures.call.effect honest).now ∙ ap (λ (f : FileName). removed_file f s) c.location.ensures)
    c.remove-2.ensures.items refl refl refl refl
