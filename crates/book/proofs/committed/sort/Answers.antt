use Rattle.std.proofs.Common.{rules}
use Rattle.book.proofs.EntryOrderLemmas.{in_order_from_sort}
use Rattle.book.proofs.committed.sort.Goals as goal

pub returns-clause-in_order : goal.returns-clause-in_order
returns-clause-in_order c = in_order_from_sort _ c.sort_unstable_by_key.ensures.sorted (λ a r q k. search rules)
