use Rattle.std.proofs.Common.{◌≡◌, ℕ, List, Option, Some, set, sym, ap, ◌∙◌, arith, refl}
use Rattle.std.specs.Prelude.{slice_get}
use Rattle.std.proofs.lemmas.Grind.{common_steps}
use Rattle.std.proofs.lemmas.Option.{gets, same_Some}
use Rattle.near_box.specs.declared.survey.SurveyEntry.{SurveyEntry}
use Rattle.maildir.specs.Folders.{Stored, text_of}
use Rattle.near_box.specs.NearEffects.{file_of, name_flagged, set_name}
use Rattle.near_box.proofs.FlagChangeLemmas.{entry_under, surveys_renamed}
use Rattle.near_box.proofs.near_box.NearBox.set_flags.Goals as goal

pub returns-clause-surveys : goal.returns-clause-surveys
returns-clause-surveys g c = λ honest.
    let s : Stored = (g.F.Folder.seen c.args.self.now.folder).stored in
    let entries : List SurveyEntry = c.args.self.now.survey.entries.items in
    let entry : SurveyEntry = c.index_mut-entry.result.now in
    let there : slice_get entries c.args.i ≡ Some entry = grind (arith, common_steps, gets, c.requires.within, c.index_mut-entry.ensures.value) in
    let first : slice_get entries c.args.i ≡ Some c.index.result.now = grind (arith, common_steps, gets, c.requires.within, c.index.ensures) in
    let same : c.index.result.now ≡ entry = same_Some c.index.result.now entry (sym first ∙ there) in
    let name : Some c.from_vec.result ≡ name_flagged c.args.self.now.keywords entry.name c.args.flags =
    ap (λ (n : List ℕ). Some n) c.from_vec.ensures ∙ sym (ap text_of c.in-Some.is) ∙ c.in_ok-name.ensures.name ∙ ap (λ (e : SurveyEntry). name_flagged c.args.self.now.keywords e.name c.args.flags) same in
    surveys_renamed c.args.self.now.survey c.args.self.now.fresh c.args.self.now.keywords s (c.requires.surveyed (c.set_name.ensures.was_honest honest)) c.args.i entry there c.args.flags _ _
    (c.in_ok-name.ensures.effect honest ∙ ap (λ (e : SurveyEntry). set_name (file_of e) (name_flagged c.args.self.now.keywords e.name c.args.flags) s) same)
    (ap (λ (n : Option (List ℕ)). set entries c.args.i (entry_under entry n)) name)
    refl refl refl refl

pub returns-in_default-clause-effect : goal.returns-in_default-clause-effect
returns-in_default-clause-effect g c = λ honest entry there.
    let s : Stored = (g.F.Folder.seen c.args.self.now.folder).stored in
    let first : slice_get c.args.self.now.survey.entries.items c.args.i ≡ Some c.index.result.now = grind (arith, common_steps, gets, c.requires.within, c.index.ensures) in
    c.in_ok-name.ensures.effect honest ∙ ap (λ (e : SurveyEntry). set_name (file_of e) (name_flagged c.args.self.now.keywords e.name c.args.flags) s) (same_Some c.index.result.now entry (sym first ∙ there))

pub returns-clause-effect : goal.returns-clause-effect
returns-clause-effect g c = λ honest entry there.
    let s : Stored = (g.F.Folder.seen c.args.self.now.folder).stored in
    let first : slice_get c.args.self.now.survey.entries.items c.args.i ≡ Some c.index.result.now = grind (arith, common_steps, gets, c.requires.within, c.index.ensures) in
    c.in_ok-name.ensures.effect honest ∙ ap (λ (e : SurveyEntry). set_name (file_of e) (name_flagged c.args.self.now.keywords e.name c.args.flags) s) (same_Some c.index.result.now entry (sym first ∙ there))

pub returns-in_err-name-clause-untouched : goal.returns-in_err-name-clause-untouched
returns-in_err-name-clause-untouched g c = λ entry there stays.
    let first : slice_get c.args.self.now.survey.entries.items c.args.i ≡ Some c.index.result.now = grind (arith, common_steps, gets, c.requires.within, c.index.ensures) in
    c.set_name.ensures.untouched (ap (λ (e : SurveyEntry). name_flagged c.args.self.now.keywords e.name c.args.flags) (same_Some c.index.result.now entry (sym first ∙ there)) ∙ stays)

pub returns-in_default-clause-untouched : goal.returns-in_default-clause-untouched
returns-in_default-clause-untouched g c = λ entry there stays.
    let first : slice_get c.args.self.now.survey.entries.items c.args.i ≡ Some c.index.result.now = grind (arith, common_steps, gets, c.requires.within, c.index.ensures) in
    c.set_name.ensures.untouched (ap (λ (e : SurveyEntry). name_flagged c.args.self.now.keywords e.name c.args.flags) (same_Some c.index.result.now entry (sym first ∙ there)) ∙ stays)

pub returns-clause-untouched : goal.returns-clause-untouched
returns-clause-untouched g c = λ entry there stays.
    let first : slice_get c.args.self.now.survey.entries.items c.args.i ≡ Some c.index.result.now = grind (arith, common_steps, gets, c.requires.within, c.index.ensures) in
    c.set_name.ensures.untouched (ap (λ (e : SurveyEntry). name_flagged c.args.self.now.keywords e.name c.args.flags) (same_Some c.index.result.now entry (sym first ∙ there)) ∙ stays)
