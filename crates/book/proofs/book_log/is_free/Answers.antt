use Rattle.std.proofs.Common.{◌≡◌, ◌∙◌, ◌<◌, ℕ, List, length, get_or, sym, ap, arith}
use Rattle.std.proofs.lemmas.Bool.{le-leb}
use Rattle.rules.specs.declared.plan.Step.{Step}
use Rattle.sync_state.specs.declared.journal.Logged.{Logged}
use Rattle.book.specs.Agreement.{copies_of}
use Rattle.book.specs.BookLogs.{is_free_for}
use Rattle.book.proofs.LogAgreement.{at_step_there, at_step_nowhere}
use Rattle.book.proofs.TakenLemmas.{one_copies}
use Rattle.book.proofs.book_log.is_free.Goals as goal

pub returns-then-count-steps : goal.returns-then-count-steps
returns-then-count-steps c = λ entries knows.
    let j = c.args.journal.now in
    let steps = ap (λ (l : List Step). length l) c.as_slice-steps.ensures in
    let log = ap (λ (l : List Logged). length l) c.as_slice-count.ensures in
    le-leb (length c.as_slice-steps.result.now) (length c.as_slice-count.result.now) c.if-count-steps.true
    ∙ sym (at_step_nowhere (λ s. is_free_for entries j s c.args.logged) j.plan.steps (length j.log) (omega (arith, steps, log, c.if-count-steps.true)))

pub returns-else-count-steps : goal.returns-else-count-steps
returns-else-count-steps c = λ entries knows.
    let j = c.args.journal.now in
    let s = c.index-steps-count.result in
    let steps = ap (λ (l : List Step). length l) c.as_slice-steps.ensures in
    let log = ap (λ (l : List Logged). length l) c.as_slice-count.ensures in
    let there : s ≡ get_or j.plan.steps (length j.log) s =
    c.index-steps-count.is ∙ ap (λ (l : List Step). get_or l (length c.as_slice-count.result.now) s) c.as_slice-steps.ensures
    ∙ ap (λ (k : ℕ). get_or j.plan.steps k s) log in
    let there_is : length j.log < length j.plan.steps = omega (arith, steps, log, c.if-count-steps.false) in
    c.is_free.ensures entries j.plan.steps (copies_of j.plan.steps j.log) (λ copies. knows (one_copies j.plan.steps (length j.log) s there_is there copies))
    ∙ sym (at_step_there (λ y. is_free_for entries j y c.args.logged) j.plan.steps (length j.log) s there_is there)
