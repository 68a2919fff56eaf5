use Rattle.std.proofs.Common.{rules, ℕ}
use Rattle.maildir.proofs.SearchedLemmas.{rises_by}
use Rattle.guarded.proofs.sorted.Uids.sorted.Goals as goal

pub invariant_of-result : goal.invariant_of-result
invariant_of-result c = rises_by (λ (uid : ℕ). uid) _ c.sort_unstable_by_key.ensures.sorted (λ a r q k. search rules)
