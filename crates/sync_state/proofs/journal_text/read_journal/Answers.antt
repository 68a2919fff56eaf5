use Rattle.std.proofs.Common.{◌≡◌, ◌∙◌, ◌+◌, ℕ, List, length, sym, ap, subst, arith}
use Rattle.std.specs.Prelude.{not}
use Rattle.std.proofs.lemmas.Result.{err_from_is_err_and}
use Rattle.rules.specs.declared.plan.Step.{Step}
use Rattle.rules.specs.declared.plan.Note.{Note}
use Rattle.sync_state.specs.declared.journal.Logged.{Logged}
use Rattle.texts.specs.declared.lines.Lines.{Lines}
use Rattle.sync_state.specs.JournalText.{step_line, note_line, step_place, note_place, HasGo, JournalText}
use Rattle.sync_state.specs.JournalReading.{IsStepIn, IsNoteIn, PlanHeadRead, ReportsItem, ReportsLog, LogRead}
use Rattle.sync_state.proofs.JournalLemmas.{journal_of}
use Rattle.sync_state.proofs.JournalEnds.{head_length}
use Rattle.sync_state.proofs.JournalTails.{bad_go, stops_in_steps, stops_in_notes, stops_in_log, journal_is}
use Rattle.sync_state.proofs.journal_text.read_journal.Goals as goal

pub returns-in_err-steps-clause-refused : goal.returns-in_err-steps-clause-refused
returns-in_err-steps-clause-refused c =
    let text = c.args.text.now in
    let go : HasGo text = c.if-not-has_go.ensures in
    let t1 = c.read_head.new.lines.rest.now in
    let h = c.in_ok-head.head in
    let v = h.numbers.version in
    let fault = c.in_err-steps.field-0.0 in
    let hr = subst (λ (x : List ℕ). PlanHeadRead h x t1) c.new-lines.ensures.1 c.in_ok-head.ensures.ok in
    let reported = subst (λ (n : ℕ). ReportsItem (IsStepIn v) step_line step_place n t1 fault) c.in_ok-head.ensures.taken c.in_err-steps.ensures.refused in
    let p = err_from_is_err_and c.from_residual-in_err-steps.result c.from_residual-in_err-steps.ensures.1 in
    rw (p.1, p.2) (stops_in_steps h text t1 fault go hr reported)

pub returns-in_err-notes-clause-refused : goal.returns-in_err-notes-clause-refused
returns-in_err-notes-clause-refused c =
    let text = c.args.text.now in
    let go : HasGo text = c.if-not-has_go.ensures in
    let t1 = c.read_head.new.lines.rest.now in
    let t2 = c.read_items.new.lines.rest.now in
    let h = c.in_ok-head.head in
    let v = h.numbers.version in
    let steps = c.in_ok-steps.steps.items in
    let fault = c.in_err-notes.field-0.0 in
    let hr = subst (λ (x : List ℕ). PlanHeadRead h x t1) c.new-lines.ensures.1 c.in_ok-head.ensures.ok in
    let taken : c.read_items.new.lines.taken ≡ head_length h + length steps = c.in_ok-steps.ensures.taken ∙ ap (λ (n : ℕ). n + length steps) c.in_ok-head.ensures.taken in
    let reported = subst (λ (n : ℕ). ReportsItem (IsNoteIn v) note_line note_place n t2 fault) taken c.in_err-notes.ensures.refused in
    let p = err_from_is_err_and c.from_residual-in_err-notes.result c.from_residual-in_err-notes.ensures.1 in
    rw (p.1, p.2) (stops_in_notes h steps text t1 t2 fault go hr c.in_ok-steps.ensures.ok reported)

pub returns-in_default-clause-refused : goal.returns-in_default-clause-refused
returns-in_default-clause-refused c =
    let text = c.args.text.now in
    let go : HasGo text = c.if-not-has_go.ensures in
    let t1 = c.read_head.new.lines.rest.now in
    let t2 = c.read_items.new.lines.rest.now in
    let t3 = c.read_items-2.new.lines.rest.now in
    let h = c.in_ok-head.head in
    let v = h.numbers.version in
    let steps = c.in_ok-steps.steps.items in
    let notes = c.in_ok-notes.notes.items in
    let hr = subst (λ (x : List ℕ). PlanHeadRead h x t1) c.new-lines.ensures.1 c.in_ok-head.ensures.ok in
    let a = c.in_ok-head.ensures.taken in
    let b = c.in_ok-steps.ensures.taken in
    let d = c.in_ok-notes.ensures.taken in
    let e : c.take.new.lines.taken ≡ c.read_items-2.new.lines.taken = ap (λ (x : Lines). x.taken) c.in_default.ensures.unchanged in
    let number : c.take.new.lines.taken + 1 ≡ head_length h + length steps + length notes + 1 = omega arith in
    (go, bad_go h steps notes text t1 t2 t3 (c.take.new.lines.taken + 1) hr c.in_ok-steps.ensures.ok c.in_ok-notes.ensures.ok c.in_default.ensures.none number)

pub returns-in_err-log-clause-refused : goal.returns-in_err-log-clause-refused
returns-in_err-log-clause-refused c =
    let text = c.args.text.now in
    let go : HasGo text = c.if-not-has_go.ensures in
    let t1 = c.read_head.new.lines.rest.now in
    let t2 = c.read_items.new.lines.rest.now in
    let t3 = c.read_items-2.new.lines.rest.now in
    let t4 = c.take.new.lines.rest.now in
    let h = c.in_ok-head.head in
    let v = h.numbers.version in
    let steps = c.in_ok-steps.steps.items in
    let notes = c.in_ok-notes.notes.items in
    let fault = c.in_err-log.field-0.0 in
    let hr = subst (λ (x : List ℕ). PlanHeadRead h x t1) c.new-lines.ensures.1 c.in_ok-head.ensures.ok in
    let a = c.in_ok-head.ensures.taken in
    let b = c.in_ok-steps.ensures.taken in
    let d = c.in_ok-notes.ensures.taken in
    let e = c.in-Some.ensures.taken in
    let taken : c.take.new.lines.taken ≡ head_length h + length steps + length notes + 1 = omega arith in
    let reported = subst (λ (n : ℕ). ReportsLog steps n t4 fault) taken (subst (λ (s : List Step). ReportsLog s c.take.new.lines.taken t4 fault) c.deref.ensures.value c.in_err-log.ensures.refused) in
    let p = err_from_is_err_and c.from_residual-in_err-log.result c.from_residual-in_err-log.ensures.1 in
    rw (p.1, p.2) (stops_in_log h steps notes text t1 t2 t3 t4 fault go hr c.in_ok-steps.ensures.ok c.in_ok-notes.ensures.ok c.in-Some.ensures.some.parts reported)

pub returns-clause-read : goal.returns-clause-read
returns-clause-read c =
    let text = c.args.text.now in
    let t1 = c.read_head.new.lines.rest.now in
    let t2 = c.read_items.new.lines.rest.now in
    let t3 = c.read_items-2.new.lines.rest.now in
    let t4 = c.take.new.lines.rest.now in
    let rest = c.read_log.new.lines.rest.now in
    let h = c.in_ok-head.head in
    let v = h.numbers.version in
    let steps = c.in_ok-steps.steps.items in
    let notes = c.in_ok-notes.notes.items in
    let log = c.in_ok-log.log.items in
    let hr = subst (λ (x : List ℕ). PlanHeadRead h x t1) c.new-lines.ensures.1 c.in_ok-head.ensures.ok in
    let lr = subst (λ (s : List Step). LogRead s log t4 rest) c.deref.ensures.value c.in_ok-log.ensures.ok in
    let j = journal_is h steps notes log text t1 t2 t3 t4 rest hr c.in_ok-steps.ensures.ok c.in_ok-notes.ensures.ok c.in-Some.ensures.some.parts lr in
    let j1 = subst (λ (s : List Step). JournalText v (journal_of h s notes log) text rest) (sym c.from_vec.ensures) j in
    let j2 = subst (λ (n : List Note). JournalText v (journal_of h c.from_vec.result n log) text rest) (sym c.from_vec-2.ensures) j1 in
    let j3 = subst (λ (l : List Logged). JournalText v (journal_of h c.from_vec.result c.from_vec-2.result l) text rest) (sym c.from_vec-log.ensures) j2 in
    record { torn = rest; spelled = j3; is_torn = ap not c.is_empty.ensures }
