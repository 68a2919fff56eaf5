use Rattle.std.proofs.Common.{◌≡◌, List, true, subst, sym}
use Rattle.std.specs.List.{list_any}
use Rattle.rules.specs.declared.plan.Step.{Step}
use Rattle.sync_state.specs.declared.journal.Logged.{Logged}
use Rattle.book.specs.declared.book.Pending.{Pending}
use Rattle.book.specs.Agreement.{copies_of}
use Rattle.book.specs.TakenUids.{Knows, KnowsTaken, copies_one}
use Rattle.book.proofs.taken.Taken.of.Goals as goal

pub returns : goal.returns
returns c =
    let entries = c.args.entries.now in
    let plan = c.as_slice-steps.result.now in
    let log = c.as_slice.result.now in
    let steps = c.in-Planned.written.journal.plan.steps in
    let known : list_any copies_one plan ≡ true → KnowsTaken entries plan (copies_of plan log) c.add_copies.new.self =
    λ some. c.in_ok-add_copies.ensures entries plan (c.in_ok-taken.ensures some) in
    let following = subst (λ (s : List Step). list_any copies_one s ≡ true → KnowsTaken entries s (copies_of s log) c.add_copies.new.self) c.as_slice-steps.ensures known in
    subst (λ (p : Pending). Knows entries p c.add_copies.new.self) (sym c.in-Planned.is)
    (λ some. subst (λ (l : List Logged). KnowsTaken entries steps (copies_of steps l) c.add_copies.new.self) c.as_slice.ensures (following some))
