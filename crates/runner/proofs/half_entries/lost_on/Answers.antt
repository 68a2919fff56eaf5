use Rattle.std.proofs.Common.{◌≡◌, ◌∙◌, ℕ, IfOk, List, ap, subst}
use Rattle.runner.specs.HalfEntries.{lost_among, removed_on}
use Rattle.runner.proofs.HalfEntries.{lost_permuted}
use Rattle.runner.proofs.half_entries.lost_on.Goals as goal

pub returns-clause-lost : goal.returns-clause-lost
returns-clause-lost c =
    let removed = removed_on c.args.journal.now c.args.side in
    let own = c.args.own.now.items in
    let others = c.args.others.now.items in
    let es = c.args.state.now.entries in
    subst (λ (l : List ℕ). IfOk c.lost_among.result (λ lost. lost.items ≡ l))
    (ap (λ (l : List ℕ). lost_among l c.args.side own others es) c.deref.ensures.value ∙ lost_permuted removed c.in_ok-removed.removed.items c.args.side own others es c.in_ok-removed.ensures.same)
    c.lost_among.ensures.lost
