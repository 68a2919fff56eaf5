use Rattle.std.proofs.Common.{subst, sym}
use Rattle.std.specs.Prelude.{IfOk}
use Rattle.std.proofs.lemmas.Result.{err_from_is_err_and}
use Rattle.device.specs.Calls.{Answers, Between, Stays}
use Rattle.maildir.specs.DiskFolders.{FolderParts, Gained, KeptWord, standing}
use Rattle.maildir.specs.Folders.{Lists, listed}
use Rattle.maildir.specs.Gains.{Adds, others}
use Rattle.device.proofs.Reporting.{Reported}
use Rattle.maildir.proofs.DiskCalls.{called, listed_err, listed_ok, names_stuck}
use Rattle.maildir.proofs.disk_folder.DiskFolderFolder.names.Goals as goal

pub returns-clause-call : goal.returns-clause-call
returns-clause-call g c =
    let of = c.report-answer.ensures in
    let now : FolderParts = c.self-2.inside.disk in
    let gained : Gained c.args.self.now now = subst (Gained c.args.self.now) (sym c.self-2.view_is) c.listed-answer.ensures.gained in
    let lists : IfOk c.listed-answer.result (λ names. KeptWord now → Lists (listed names) (standing now).stored) =
    subst (λ (f : FolderParts). IfOk c.listed-answer.result (λ names. KeptWord f → Lists (listed names) (standing f).stored)) (sym c.self-2.view_is) c.listed-answer.ensures.lists in
    let reported : Reported c.listed-answer.result c.report-answer.result now c.report-answer.new.self =
    record { answer_is = of.answer; ok = of.ok; calls = of.calls; broken = of.broken; counted = of.counted; no_less = of.no_less } in
    rw (c.note.ensures)
    (called (Between (Adds others)) (Answers (λ names. Lists (listed names))) Stays c.args.self.now now c.report-answer.new.self
    c.listed-answer.result c.report-answer.result (rw (← c.self.view_is) c.in_ok-check.ensures.whole) gained.disk
    (listed_ok c.listed-answer.result c.args.self.now now gained lists) (listed_err c.listed-answer.result c.args.self.now now gained) reported)

pub returns-in_err-check-clause-call : goal.returns-in_err-check-clause-call
returns-in_err-check-clause-call g c =
    let e = err_from_is_err_and c.from_residual.result c.from_residual.ensures.1 in
    names_stuck c.args.self.now c.from_residual.result e.0 e.1 (let same = e.2 in let stop = c.in_err-check.ensures.stopped.0 in cc) (rw (← c.self.view_is) c.in_err-check.ensures.stopped.1)
