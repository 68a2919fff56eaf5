use Rattle.std.proofs.Common.{◌≡◌, ◌∙◌, List, true, false, sym, ap}
use Rattle.std.specs.Prelude.{not, position}
use Rattle.std.specs.Option.{is_some}
use Rattle.std.proofs.lemmas.Bool.{false≢true}
use Rattle.rules.specs.declared.plan.Step.{Step}
use Rattle.rules.specs.declared.plan.Note.{Note}
use Rattle.book.specs.Agreement.{step_agrees, note_agrees}
use Rattle.book.specs.BookLogs.{fresh}
use Rattle.book.proofs.AgreementLemmas.{bad_step, bad_note}
use Rattle.book.proofs.FreshAgreement.{step_disagrees, agrees_by_notes}
use Rattle.book.proofs.agreement.plan_agrees.Goals as goal

pub returns-then-is_some : goal.returns-then-is_some
returns-then-is_some c =
    let entries = c.args.entries.now in
    let plan = c.args.plan.now in
    let step : c.in_ok-bad_step.field-0 ≡ bad_step entries (fresh plan) = c.in_ok-bad_step.ensures ∙ ap (λ (x : List Step). position (λ s. not (step_agrees entries s)) x) c.as_slice.ensures in
    let bad : is_some c.in_ok-bad_step.field-0 ≡ true = sym c.is_some.ensures ∙ c.if-is_some.true in
    (λ a. absurd (step_disagrees entries plan c.in_ok-bad_step.field-0 step bad a), λ e. absurd (false≢true e))

pub returns : goal.returns
returns c =
    let entries = c.args.entries.now in
    let plan = c.args.plan.now in
    let step : c.in_ok-bad_step.field-0 ≡ bad_step entries (fresh plan) = c.in_ok-bad_step.ensures ∙ ap (λ (x : List Step). position (λ s. not (step_agrees entries s)) x) c.as_slice.ensures in
    let good : is_some c.in_ok-bad_step.field-0 ≡ false = sym c.is_some.ensures ∙ c.if-is_some.false in
    let note : c.bad_note.result ≡ bad_note entries (fresh plan) = c.bad_note.ensures ∙ ap (λ (x : List Note). position (λ n. not (note_agrees entries n)) x) c.as_slice-2.ensures in
    agrees_by_notes entries plan c.in_ok-bad_step.field-0 c.bad_note.result c.is_none.result step good note c.is_none.ensures
