use Rattle.std.proofs.Common.{◌≡◌, ◌∙◌, sym, true, false, rules, arith}
use Rattle.std.specs.List.Sorted.{IsPartitionPoint}
use Rattle.std.proofs.lemmas.List.Sorted.{IsPartitionPoint-from_clause}
use Rattle.std.proofs.lemmas.Option.{MatchOption-at_some, MatchOption-at_none}
use Rattle.rules.specs.declared.entry.Entry.{Entry}
use Rattle.sync_state.specs.JournalText.{is_below}
use Rattle.sync_state.specs.Places.{place_at}
use Rattle.book.specs.PlacedLists.{entry_place}
use Rattle.book.proofs.PlacedLemmas.{Rising, parted, none_stands, one_stands, entries_rising}
use Rattle.book.proofs.places.entry_at.Goals as goal
use Rattle.book.proofs.places.entry_at.Goals.{After-get}

rising : (c : After-get) → Rising entry_place c.args.entries.now
rising c = entries_rising c.args.entries.now c.requires

parts : (c : After-get) → IsPartitionPoint (λ x. is_below (entry_place x) (place_at c.of_note-place.result) ≡ true) (λ x. is_below (entry_place x) (place_at c.of_note-place.result) ≡ false) c.args.entries.now c.partition_point-at.result
parts c = IsPartitionPoint-from_clause (λ (x : Entry). is_below (entry_place x) (place_at c.of_note-place.result)) _ _ c.partition_point-at.ensures.partitioned
    (parted entry_place (place_at c.of_note-place.result) c.args.entries.now (rising c)) (λ a r q f. search rules)

pub returns-in-Some : goal.returns-in-Some
returns-in-Some c = λ test only.
    let at = MatchOption-at_some _ _ c.in-Some.entry c.in-Some.is c.get.ensures.lookup.3 in
    let p = parts c.before.before in
    one_stands entry_place (place_at c.of_note-place.result) c.args.entries.now c.partition_point-at.result (rising c.before.before) p.0 p.1 test (λ x t. only x t ∙ sym c.of_note-place.ensures) c.in-Some.entry.now at.0 (at.1 c.in-Some.entry.now)

pub returns-in-None : goal.returns-in-None
returns-in-None c = λ test only.
    let p = parts c.before in
    let past = MatchOption-at_none _ _ c.in-None.is c.get.ensures.lookup.3 in
    none_stands entry_place (place_at c.of_note-place.result) c.args.entries.now c.partition_point-at.result (rising c.before) p.0 p.1 test (λ x t. only x t ∙ sym c.of_note-place.ensures) (omega arith)
