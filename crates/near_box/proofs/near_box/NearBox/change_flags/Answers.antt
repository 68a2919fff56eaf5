use Rattle.std.proofs.Common.{◌≡◌, ◌⊎◌, ◌∙◌, ap, sym, subst, ℕ, List, Some}
use Rattle.std.specs.Prelude.{slice_get, Result, Ok}
use Rattle.std.proofs.lemmas.Result.{err_from_is_err_and}
use Rattle.near_box.specs.FlagChanges.{changed_flags, kept_change}
use Rattle.near_box.proofs.KeptMailboxes.{changed_kept, flagged_mailbox}
use Rattle.near_box.proofs.MailboxLemmas.{mailbox_after}
use Rattle.device.specs.Calls.{Nothing}
use Rattle.mailcore.specs.declared.keywords.Keyword.{Keyword}
use Rattle.near_box.specs.declared.survey.SurveyEntry.{SurveyEntry}
use Rattle.near_box.specs.Surveys.{Surveys}
use Rattle.maildir.specs.Folders.{Stored, AreApart}
use Rattle.near_box.specs.declared.near_fault.NearFault.{NearFault}
use Rattle.near_box.specs.Mailboxes.{near_of}
use Rattle.maildir.specs.FlaggedNames.{flags_by_name}
use Rattle.near_box.specs.NearEffects.{file_of, flagged_files, name_flagged, set_name}
use Rattle.near_box.proofs.FlagChangeLemmas.{change_done, change_stopped, changes_flags, flagged_apart, flagged_nowhere, kept_name, near-flagged}
use Rattle.near_box.proofs.UidLemmas.{found_entry, found_uid, uid_not_found}
use Rattle.near_box.proofs.near_box.NearBox.change_flags.Goals as goal

pub returns-in_default-clause-files : goal.returns-in_default-clause-files
returns-in_default-clause-files g c = λ honest.
    let change : ℕ → ℕ = changed_flags c.args.change in
    let begun : Stored = (g.F.Folder.seen c.begin.new.self.folder).stored in
    let words = c.begin.ensures.keywords in
    let surveys = subst (λ (k : List Keyword). Surveys c.begin.new.self.survey c.begin.new.self.fresh k begun) words (c.in_ok-begin.ensures.surveys honest) in
    sym (flagged_nowhere c.args.self.now.keywords change c.args.uid begun (uid_not_found c.begin.new.self.survey c.begin.new.self.fresh c.args.self.now.keywords begun surveys c.args.uid c.deref.result.now c.deref.ensures.value (λ rising. c.place_of.ensures.missing rising c.in_default.is)))
    ∙ ap (λ f. flagged_files c.args.self.now.keywords change c.args.uid (g.F.Folder.seen f).stored) c.in_ok-begin.ensures.folder

pub returns-in_default-clause-effect : goal.returns-in_default-clause-effect
returns-in_default-clause-effect g c = λ honest.
    ap (near_of c.args.self.now.fresh c.args.self.now.keywords) (returns-in_default-clause-files g c honest)
    ∙ near-flagged c.args.self.now.keywords (changed_flags c.args.change) c.args.uid (changed_flags (kept_change c.args.self.now.keywords c.args.change)) (changed_kept c.args.self.now.keywords c.args.change) c.args.self.now.fresh (g.F.Folder.seen c.args.self.now.folder).stored

pub returns-in_err-set_flags-clause-files : goal.returns-in_err-set_flags-clause-files
returns-in_err-set_flags-clause-files g c = λ honest.
    let change : ℕ → ℕ = changed_flags c.args.change in
    let begun : Stored = (g.F.Folder.seen c.begin.new.self.folder).stored in
    let words = c.begin.ensures.keywords in
    let surveys = subst (λ (k : List Keyword). Surveys c.begin.new.self.survey c.begin.new.self.fresh k begun) words (c.in_ok-begin.ensures.surveys (c.set_flags.ensures.was_honest honest)) in
    let entry : SurveyEntry = c.index.result.now in
    let entries : List SurveyEntry = c.begin.new.self.survey.entries.items in
    let there : slice_get entries c.in-Some.i ≡ Some entry = found_entry entries c.deref.result.now c.in-Some.i entry c.deref.ensures.value c.in-Some.ensures.within c.index.ensures in
    let own = found_uid entries c.deref.result.now c.in-Some.i c.args.uid entry c.deref.ensures.value c.index.ensures c.in-Some.ensures.found in
    let flags : c.of-flags.result ≡ change (flags_by_name c.args.self.now.keywords entry.name) = c.of-flags.ensures ∙ ap change c.flags_of.ensures ∙ ap (λ (k : List Keyword). change (flags_by_name k entry.name)) words in
    let after : Stored = (g.F.Folder.seen c.set_flags.new.self.folder).stored in
    let e = err_from_is_err_and c.from_residual-in_err-set_flags.result c.from_residual-in_err-set_flags.ensures.1 in
    rw (e.1) (change_stopped c.begin.new.self.survey c.begin.new.self.fresh c.args.self.now.keywords begun surveys c.in-Some.i entry there change c.of-flags.result c.args.uid flags own
    (g.F.Folder.seen c.args.self.now.folder).stored (g.F.Folder.seen c.set_flags.new.self.folder).stored (ap (λ f. (g.F.Folder.seen f).stored) c.in_ok-begin.ensures.folder)
    (subst (λ (k : List Keyword). (after ≡ begun) ⊎ ((after ≡ set_name (file_of entry) (name_flagged k entry.name c.of-flags.result) begun) ⊎ ⊥)) words (c.in_err-set_flags.ensures.effect honest entry there)))

pub returns-in_err-set_flags-clause-effect : goal.returns-in_err-set_flags-clause-effect
returns-in_err-set_flags-clause-effect g c = λ honest.
    changes_flags c.args.self.now.keywords (changed_flags c.args.change) c.args.uid (changed_flags (kept_change c.args.self.now.keywords c.args.change)) (changed_kept c.args.self.now.keywords c.args.change) c.args.self.now.fresh (g.F.Folder.seen c.args.self.now.folder).stored (g.F.Folder.seen c.set_flags.new.self.folder).stored
    c.from_residual-in_err-set_flags.result (returns-in_err-set_flags-clause-files g c honest)

pub returns-clause-files : goal.returns-clause-files
returns-clause-files g c = λ honest.
    let change : ℕ → ℕ = changed_flags c.args.change in
    let begun : Stored = (g.F.Folder.seen c.begin.new.self.folder).stored in
    let words = c.begin.ensures.keywords in
    let surveys = subst (λ (k : List Keyword). Surveys c.begin.new.self.survey c.begin.new.self.fresh k begun) words (c.in_ok-begin.ensures.surveys (c.set_flags.ensures.was_honest honest)) in
    let entry : SurveyEntry = c.index.result.now in
    let entries : List SurveyEntry = c.begin.new.self.survey.entries.items in
    let there : slice_get entries c.in-Some.i ≡ Some entry = found_entry entries c.deref.result.now c.in-Some.i entry c.deref.ensures.value c.in-Some.ensures.within c.index.ensures in
    let own = found_uid entries c.deref.result.now c.in-Some.i c.args.uid entry c.deref.ensures.value c.index.ensures c.in-Some.ensures.found in
    let flags : c.of-flags.result ≡ change (flags_by_name c.args.self.now.keywords entry.name) = c.of-flags.ensures ∙ ap change c.flags_of.ensures ∙ ap (λ (k : List Keyword). change (flags_by_name k entry.name)) words in
    change_done c.begin.new.self.survey c.begin.new.self.fresh c.args.self.now.keywords begun surveys c.in-Some.i entry there change c.of-flags.result c.args.uid flags own
    (g.F.Folder.seen c.args.self.now.folder).stored (g.F.Folder.seen c.set_flags.new.self.folder).stored (ap (λ f. (g.F.Folder.seen f).stored) c.in_ok-begin.ensures.folder) (c.in_ok-set_flags.ensures.effect honest entry there ∙ ap (λ (k : List Keyword). set_name (file_of entry) (name_flagged k entry.name c.of-flags.result) begun) words)

pub returns-clause-effect : goal.returns-clause-effect
returns-clause-effect g c = λ honest.
    ap (near_of c.args.self.now.fresh c.args.self.now.keywords) (returns-clause-files g c honest)
    ∙ near-flagged c.args.self.now.keywords (changed_flags c.args.change) c.args.uid (changed_flags (kept_change c.args.self.now.keywords c.args.change)) (changed_kept c.args.self.now.keywords c.args.change) c.args.self.now.fresh (g.F.Folder.seen c.args.self.now.folder).stored

pub returns-in_err-set_flags-clause-mailbox : goal.returns-in_err-set_flags-clause-mailbox
returns-in_err-set_flags-clause-mailbox g c = λ honest is.
    let change : ℕ → ℕ = changed_flags c.args.change in
    let s : Stored = (g.F.Folder.seen c.args.self.now.folder).stored in
    let begun : Stored = (g.F.Folder.seen c.begin.new.self.folder).stored in
    let words = c.begin.ensures.keywords in
    let surveys = subst (λ (k : List Keyword). Surveys c.begin.new.self.survey c.begin.new.self.fresh k begun) words (c.in_ok-begin.ensures.surveys (c.set_flags.ensures.was_honest honest)) in
    let entry : SurveyEntry = c.index.result.now in
    let entries : List SurveyEntry = c.begin.new.self.survey.entries.items in
    let there : slice_get entries c.in-Some.i ≡ Some entry = found_entry entries c.deref.result.now c.in-Some.i entry c.deref.ensures.value c.in-Some.ensures.within c.index.ensures in
    let own : entry.uid ≡ c.args.uid = found_uid entries c.deref.result.now c.in-Some.i c.args.uid entry c.deref.ensures.value c.index.ensures c.in-Some.ensures.found in
    let folder : begun ≡ s = ap (λ f. (g.F.Folder.seen f).stored) c.in_ok-begin.ensures.folder in
    let apart : AreApart (flagged_files c.args.self.now.keywords change c.args.uid s).files =
    subst (λ (t : Stored). AreApart (flagged_files c.args.self.now.keywords change c.args.uid t).files) folder
    (subst (λ (u : ℕ). AreApart (flagged_files c.args.self.now.keywords change u begun).files) own (flagged_apart c.begin.new.self.survey c.begin.new.self.fresh c.args.self.now.keywords begun surveys c.in-Some.i entry there change)) in
    mailbox_after c.args.self.now.fresh s (g.F.Folder.seen c.set_flags.new.self.folder).stored (flagged_files c.args.self.now.keywords change c.args.uid) Nothing c.from_residual-in_err-set_flags.result (returns-in_err-set_flags-clause-files g c honest) is
    (flagged_mailbox c.args.self.now.fresh c.args.self.now.keywords s change (changed_flags (kept_change c.args.self.now.keywords c.args.change)) c.args.uid (changed_kept c.args.self.now.keywords c.args.change) apart is) (λ t never. absurd never)

pub returns-in_err-set_flags-clause-untouched : goal.returns-in_err-set_flags-clause-untouched
returns-in_err-set_flags-clause-untouched g c = λ honest same.
    let change : ℕ → ℕ = changed_flags c.args.change in
    let s : Stored = (g.F.Folder.seen c.args.self.now.folder).stored in
    let begun : Stored = (g.F.Folder.seen c.begin.new.self.folder).stored in
    let words = c.begin.ensures.keywords in
    let surveys = subst (λ (k : List Keyword). Surveys c.begin.new.self.survey c.begin.new.self.fresh k begun) words (c.in_ok-begin.ensures.surveys (c.set_flags.ensures.was_honest honest)) in
    let entry : SurveyEntry = c.index.result.now in
    let entries : List SurveyEntry = c.begin.new.self.survey.entries.items in
    let there : slice_get entries c.in-Some.i ≡ Some entry = found_entry entries c.deref.result.now c.in-Some.i entry c.deref.ensures.value c.in-Some.ensures.within c.index.ensures in
    let own : entry.uid ≡ c.args.uid = found_uid entries c.deref.result.now c.in-Some.i c.args.uid entry c.deref.ensures.value c.index.ensures c.in-Some.ensures.found in
    let folder : begun ≡ s = ap (λ f. (g.F.Folder.seen f).stored) c.in_ok-begin.ensures.folder in
    let flags : c.of-flags.result ≡ change (flags_by_name c.args.self.now.keywords entry.name) = c.of-flags.ensures ∙ ap change c.flags_of.ensures ∙ ap (λ (k : List Keyword). change (flags_by_name k entry.name)) words in
    c.set_flags.ensures.untouched entry there
    (ap (λ (k : List Keyword). name_flagged k entry.name c.of-flags.result) words
    ∙ kept_name c.begin.new.self.survey c.begin.new.self.fresh c.args.self.now.keywords begun surveys c.in-Some.i entry there change c.of-flags.result c.args.uid flags own
    (subst (λ (t : Stored). flagged_files c.args.self.now.keywords change c.args.uid t ≡ t) (sym folder) same))
    ∙ ap g.F.Folder.seen c.in_ok-begin.ensures.folder

pub returns-clause-mailbox : goal.returns-clause-mailbox
returns-clause-mailbox g c = λ honest is.
    let change : ℕ → ℕ = changed_flags c.args.change in
    let s : Stored = (g.F.Folder.seen c.args.self.now.folder).stored in
    let begun : Stored = (g.F.Folder.seen c.begin.new.self.folder).stored in
    let words = c.begin.ensures.keywords in
    let surveys = subst (λ (k : List Keyword). Surveys c.begin.new.self.survey c.begin.new.self.fresh k begun) words (c.in_ok-begin.ensures.surveys (c.set_flags.ensures.was_honest honest)) in
    let entry : SurveyEntry = c.index.result.now in
    let entries : List SurveyEntry = c.begin.new.self.survey.entries.items in
    let there : slice_get entries c.in-Some.i ≡ Some entry = found_entry entries c.deref.result.now c.in-Some.i entry c.deref.ensures.value c.in-Some.ensures.within c.index.ensures in
    let own : entry.uid ≡ c.args.uid = found_uid entries c.deref.result.now c.in-Some.i c.args.uid entry c.deref.ensures.value c.index.ensures c.in-Some.ensures.found in
    let folder : begun ≡ s = ap (λ f. (g.F.Folder.seen f).stored) c.in_ok-begin.ensures.folder in
    let apart : AreApart (flagged_files c.args.self.now.keywords change c.args.uid s).files =
    subst (λ (t : Stored). AreApart (flagged_files c.args.self.now.keywords change c.args.uid t).files) folder
    (subst (λ (u : ℕ). AreApart (flagged_files c.args.self.now.keywords change u begun).files) own (flagged_apart c.begin.new.self.survey c.begin.new.self.fresh c.args.self.now.keywords begun surveys c.in-Some.i entry there change)) in
    let answer : Result (Unit {0}) NearFault = Ok tt in
    mailbox_after c.args.self.now.fresh s (g.F.Folder.seen c.set_flags.new.self.folder).stored (flagged_files c.args.self.now.keywords change c.args.uid) Nothing answer (returns-clause-files g c honest) is
    (flagged_mailbox c.args.self.now.fresh c.args.self.now.keywords s change (changed_flags (kept_change c.args.self.now.keywords c.args.change)) c.args.uid (changed_kept c.args.self.now.keywords c.args.change) apart is) (λ t never. absurd never)

pub returns-clause-untouched : goal.returns-clause-untouched
returns-clause-untouched g c = λ honest same.
    let change : ℕ → ℕ = changed_flags c.args.change in
    let s : Stored = (g.F.Folder.seen c.args.self.now.folder).stored in
    let begun : Stored = (g.F.Folder.seen c.begin.new.self.folder).stored in
    let words = c.begin.ensures.keywords in
    let surveys = subst (λ (k : List Keyword). Surveys c.begin.new.self.survey c.begin.new.self.fresh k begun) words (c.in_ok-begin.ensures.surveys (c.set_flags.ensures.was_honest honest)) in
    let entry : SurveyEntry = c.index.result.now in
    let entries : List SurveyEntry = c.begin.new.self.survey.entries.items in
    let there : slice_get entries c.in-Some.i ≡ Some entry = found_entry entries c.deref.result.now c.in-Some.i entry c.deref.ensures.value c.in-Some.ensures.within c.index.ensures in
    let own : entry.uid ≡ c.args.uid = found_uid entries c.deref.result.now c.in-Some.i c.args.uid entry c.deref.ensures.value c.index.ensures c.in-Some.ensures.found in
    let folder : begun ≡ s = ap (λ f. (g.F.Folder.seen f).stored) c.in_ok-begin.ensures.folder in
    let flags : c.of-flags.result ≡ change (flags_by_name c.args.self.now.keywords entry.name) = c.of-flags.ensures ∙ ap change c.flags_of.ensures ∙ ap (λ (k : List Keyword). change (flags_by_name k entry.name)) words in
    c.set_flags.ensures.untouched entry there
    (ap (λ (k : List Keyword). name_flagged k entry.name c.of-flags.result) words
    ∙ kept_name c.begin.new.self.survey c.begin.new.self.fresh c.args.self.now.keywords begun surveys c.in-Some.i entry there change c.of-flags.result c.args.uid flags own
    (subst (λ (t : Stored). flagged_files c.args.self.now.keywords change c.args.uid t ≡ t) (sym folder) same))
    ∙ ap g.F.Folder.seen c.in_ok-begin.ensures.folder
