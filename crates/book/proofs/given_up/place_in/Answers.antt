use Rattle.std.proofs.Common.{◌≡◌, ◌∙◌, sym, true, false, rules, arith, Some}
use Rattle.std.specs.List.Sorted.{IsPartitionPoint}
use Rattle.std.proofs.lemmas.List.Sorted.{IsPartitionPoint-from_clause}
use Rattle.std.proofs.lemmas.Option.{MatchOption-at_some, MatchOption-at_none}
use Rattle.rules.specs.declared.entry.Entry.{Entry}
use Rattle.sync_state.specs.JournalText.{is_below}
use Rattle.sync_state.specs.Places.{place_at}
use Rattle.book.specs.Agreement.{is_pair}
use Rattle.book.specs.PlacedLists.{entry_place}
use Rattle.book.proofs.PlacedLemmas.{Rising, entries_rising, none_stands, one_stands, pair_place, parted}
use Rattle.book.proofs.given_up.place_in.Goals as goal

pub returns-else-is_pair : goal.returns-else-is_pair
returns-else-is_pair c =
    let es = c.args.entries.now in
    let k = place_at c.of_note-place.result in
    let test = is_pair (Some c.args.far) (Some c.args.near) in
    let rising : Rising entry_place es = entries_rising es c.requires in
    let p : IsPartitionPoint (λ x. is_below (entry_place x) k ≡ true) (λ x. is_below (entry_place x) k ≡ false) es c.partition_point-at.result =
    IsPartitionPoint-from_clause (λ (x : Entry). is_below (entry_place x) k) _ _ c.partition_point-at.ensures.partitioned (parted entry_place k es rising) (λ a r q f. search rules) in
    let only : (x : Entry) → test x ≡ true → entry_place x ≡ k = λ x t. pair_place (Some c.args.far) (Some c.args.near) x t ∙ sym c.of_note-place.ensures in
    let at = MatchOption-at_some _ _ c.in-Some.entry c.in-Some.is c.get.ensures.lookup.3 in
    one_stands entry_place k es c.partition_point-at.result rising p.0 p.1 test only c.in-Some.entry.now at.0 (at.1 c.in-Some.entry.now) ∙ sym c.is_pair.ensures ∙ c.if-is_pair.false

pub returns-in-None : goal.returns-in-None
returns-in-None c =
    let es = c.args.entries.now in
    let k = place_at c.of_note-place.result in
    let test = is_pair (Some c.args.far) (Some c.args.near) in
    let rising : Rising entry_place es = entries_rising es c.requires in
    let p : IsPartitionPoint (λ x. is_below (entry_place x) k ≡ true) (λ x. is_below (entry_place x) k ≡ false) es c.partition_point-at.result =
    IsPartitionPoint-from_clause (λ (x : Entry). is_below (entry_place x) k) _ _ c.partition_point-at.ensures.partitioned (parted entry_place k es rising) (λ a r q f. search rules) in
    let only : (x : Entry) → test x ≡ true → entry_place x ≡ k = λ x t. pair_place (Some c.args.far) (Some c.args.near) x t ∙ sym c.of_note-place.ensures in
    let past = MatchOption-at_none _ _ c.in-None.is c.get.ensures.lookup.3 in
    none_stands entry_place k es c.partition_point-at.result rising p.0 p.1 test only (omega arith)
