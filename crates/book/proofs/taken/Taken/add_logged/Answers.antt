use Rattle.std.proofs.Common.{◌≡◌, ◌∙◌, ◌++◌, ℕ, List, length, get_or, ap, subst, sym, arith}
use Rattle.std.proofs.lemmas.List.{append-nil}
use Rattle.rules.specs.declared.plan.Step.{Step}
use Rattle.sync_state.specs.declared.journal.Logged.{Logged}
use Rattle.book.specs.Agreement.{Copy}
use Rattle.book.specs.TakenUids.{KnowsTaken}
use Rattle.book.proofs.TakenLemmas.{next_there, next_nowhere, on_ok}
use Rattle.book.proofs.taken.Taken.add_logged.Goals as goal

pub returns-then-count-steps : goal.returns-then-count-steps
returns-then-count-steps c = λ entries copies knows.
    let j = c.args.journal.now in
    let steps = ap (λ (l : List Step). length l) c.as_slice-steps.ensures in
    let log = ap (λ (l : List Logged). length l) c.as_slice-count.ensures in
    let none = next_nowhere j.plan.steps (length j.log) c.args.logged (omega (arith, steps, log, c.if-count-steps.true)) in
    subst (λ (cs : List Copy). KnowsTaken entries j.plan.steps cs c.args.self.now) (sym (ap (λ (cs : List Copy). copies ++ cs) none ∙ append-nil copies)) knows

pub returns : goal.returns
returns c =
    let j = c.args.journal.now in
    let s = c.index-steps-count.result in
    let steps = ap (λ (l : List Step). length l) c.as_slice-steps.ensures in
    let log = ap (λ (l : List Logged). length l) c.as_slice-count.ensures in
    let there : s ≡ get_or j.plan.steps (length j.log) s =
    c.index-steps-count.is ∙ ap (λ (l : List Step). get_or l (length c.as_slice-count.result.now) s) c.as_slice-steps.ensures
    ∙ ap (λ (k : ℕ). get_or j.plan.steps k s) log in
    let next = next_there j.plan.steps (length j.log) c.args.logged s (omega (arith, steps, log, c.if-count-steps.false)) there in
    on_ok c.add_copy.result (λ added entries copies knows.
    subst (λ (cs : List Copy). KnowsTaken entries j.plan.steps (copies ++ cs) c.add_copy.new.self) (sym next) (added entries j.plan.steps copies knows)) c.add_copy.ensures
