use Rattle.std.proofs.Common.{rules}
use Rattle.book.specs.declared.changes.UidPair.{UidPair}
use Rattle.book.proofs.EntryOrderLemmas.{in_order_by}
use Rattle.book.proofs.changes.sort_pairs.Goals as goal

pub returns-clause-in_order : goal.returns-clause-in_order
returns-clause-in_order c = in_order_by (λ (p : UidPair). (p.far, p.near)) _ c.sort_unstable_by_key.ensures.sorted (λ a r q k. search rules)
