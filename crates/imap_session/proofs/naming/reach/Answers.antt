use Rattle.std.proofs.Common.{rules, leb, ltb}
use Rattle.std.proofs.lemmas.List.Sorted.{IsPartitionPoint-from_clause, IsPartitionedBy-leb, IsPartitionedBy-ltb}
use Rattle.mailcore.specs.declared.mailbox.Message.{Message}
use Rattle.imap_session.proofs.ReachLemmas.{rising_by_uid, reach_of}
use Rattle.imap_session.proofs.naming.reach.Goals as goal

pub returns-clause-named : goal.returns-clause-named
returns-clause-named c most is =
    let ms = c.args.messages.now in
    let low = c.ends_of_set-low.result.0 in
    let high = c.ends_of_set-low.result.1 in
    let start = c.partition_point-start.result in
    let stop = c.partition_point-end.result in
    let order = rising_by_uid ms c.requires in
    let below = IsPartitionPoint-from_clause (λ (m : Message). ltb m.uid low) _ _ c.partition_point-start.ensures.partitioned (IsPartitionedBy-ltb (λ (m : Message). m.uid) _ low order) (λ a r q k. search rules) in
    let above = IsPartitionPoint-from_clause (λ (m : Message). leb m.uid high) _ _ c.partition_point-end.ensures.partitioned (IsPartitionedBy-leb (λ (m : Message). m.uid) _ high order) (λ a r q k. search rules) in
    reach_of c.args.set.now c.args.top low high ms start stop c.max.result c.ends_of_set-low.ensures below.0 above.1
    (search rules) most is
