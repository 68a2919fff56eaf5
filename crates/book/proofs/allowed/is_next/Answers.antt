use Rattle.std.proofs.Common.{◌≡◌, ◌∙◌, ◌+◌, ◌<◌, ℕ, List, length, get_or, sym, ap, arith}
use Rattle.std.proofs.lemmas.Bool.{false≢true}
use Rattle.rules.specs.declared.plan.Step.{Step}
use Rattle.sync_state.specs.declared.journal.Logged.{Logged}
use Rattle.sync_state.proofs.LogLemmas.{fits_nowhere, fits_there, fits_here}
use Rattle.book.proofs.allowed.is_next.Goals as goal

pub returns-then-count-steps : goal.returns-then-count-steps
returns-then-count-steps c =
    let j = c.args.journal.now in
    let steps = ap (λ (l : List Step). length l) c.as_slice-steps.ensures in
    let log = ap (λ (l : List Logged). length l) c.as_slice-count.ensures in
    (λ p. absurd (fits_nowhere j.plan.steps (length j.log) c.args.logged (omega (arith, steps, log, c.if-count-steps.true)) p.1), λ e. absurd (false≢true e))

pub returns-then-step-count : goal.returns-then-step-count
returns-then-step-count c =
    let log = ap (λ (l : List Logged). length l) c.as_slice-count.ensures in
    (λ p. absurd (c.if-step-count.true (p.0 ∙ ap (λ (k : ℕ). k + 1) (sym log))), λ e. absurd (false≢true e))

pub returns : goal.returns
returns c =
    let j = c.args.journal.now in
    let s = c.index-steps-count.result in
    let steps = ap (λ (l : List Step). length l) c.as_slice-steps.ensures in
    let log = ap (λ (l : List Logged). length l) c.as_slice-count.ensures in
    let below : length j.log < length j.plan.steps = omega (arith, steps, log, c.if-count-steps.false) in
    let there : s ≡ get_or j.plan.steps (length j.log) s =
    c.index-steps-count.is ∙ ap (λ (l : List Step). get_or l (length c.as_slice-count.result.now) s) c.as_slice-steps.ensures
    ∙ ap (λ (k : ℕ). get_or j.plan.steps k s) log in
    let number = c.if-step-count.false ∙ ap (λ (k : ℕ). k + 1) log in (
      λ p. c.fits_step.ensures.0 (fits_here j.plan.steps (length j.log) s c.args.logged below there p.1),
      λ e. (number, fits_there j.plan.steps (length j.log) s c.args.logged below there (c.fits_step.ensures.1 e)),
    )
