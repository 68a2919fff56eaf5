use Rattle.std.proofs.Common.{rules, arith, ◌+◌, ltb, map}
use Rattle.std.proofs.lemmas.List.Sorted.{IsPartitionPoint-from_clause, IsPartitionedBy-ltb}
use Rattle.near_box.specs.declared.survey.SurveyEntry.{SurveyEntry}
use Rattle.near_box.specs.Entries.{message_at}
use Rattle.near_box.proofs.SearchLemmas.{end_of_rest, entry_of_rest, next_known, place_of_rest, search_begins, search_ends, search_finds, search_goes_on}
use Rattle.near_box.proofs.reading.find_mark.Goals as goal

pub loop-entry-init : goal.loop-entry-init
loop-entry-init g c = record {
  was_honest = search rules;
  keeps = search rules;
  stops = search rules;
  whole = search rules;
  within = search rules;
  at = λ honest there next keywords rising within are.
      let s = (g.F.Folder.seen c.args.folder.now).stored in
      let es = c.args.entries.now in
      let first = c.partition_point-first.result in
      let below = c.begin.new.self.below in
      search_begins keywords s es c.args.mark c.args.from next first (first + 0) c.args.known.now c.begin.new.self (omega arith) c.partition_point-first.ensures.bound rising are
      (c.begin.ensures.passed next (map (message_at keywords s) es) are.passed) c.begin.ensures.reaches.1 (c.begin.ensures.other next (map (message_at keywords s) es) are.passed)
      (λ order. IsPartitionPoint-from_clause (λ (e : SurveyEntry). ltb e.uid below) _ _ c.partition_point-first.ensures.partitioned (IsPartitionedBy-ltb (λ (e : SurveyEntry). e.uid) _ below order) (λ a r q k. search rules));
}

pub loop-entry-preserved : goal.loop-entry-preserved
loop-entry-preserved g c = record {
  was_honest = search rules;
  keeps = search rules;
  stops = search rules;
  whole = search rules;
  within = search rules;
  at = λ honest there next keywords rising within are.
      let before = c.known_mark.ensures.was_honest honest in
      let s = (g.F.Folder.seen c.args.folder.now).stored in
      let t = (g.F.Folder.seen c.loop-entry.folder).stored in
      let es = c.args.entries.now in
      let first = c.partition_point-first.result in
      let i = c.loop-entry.entry-index in
      let entry = c.entry-item.result in
      let at = c.loop-entry.invariant.at before there next keywords rising within are in
      let here = place_of_rest es first i c.loop-entry-test.true in
      let is = entry_of_rest es first i entry c.entry-item.is in
      let known = next_known keywords s t es c.args.mark c.args.from next (first + i) c.loop-entry.known (record { by_uid = c.known_mark.new.known; passed = c.pass.new.self }) entry c.in_ok-found.found at here is rising there within
      (c.loop-entry.invariant.keeps before) (c.in_ok-found.ensures.mark honest) (c.in_ok-found.ensures.known honest) c.in_ok-pass.ensures.passed in
      search_goes_on keywords s es c.args.mark c.args.from next (first + i) _ c.loop-entry.known _ entry c.in_ok-found.found at (omega arith) here is rising known.0 (search rules) known.1 c.in_ok-pass.ensures.range.1;
}

pub returns-then-eq-clause-found : goal.returns-then-eq-clause-found
returns-then-eq-clause-found g c = λ honest there next keywords rising within are.
    let before = c.known_mark.ensures.was_honest honest in
    let s = (g.F.Folder.seen c.args.folder.now).stored in
    let t = (g.F.Folder.seen c.loop-entry.folder).stored in
    let es = c.args.entries.now in
    let first = c.partition_point-first.result in
    let i = c.loop-entry.entry-index in
    let entry = c.entry-item.result in
    let at = c.loop-entry.invariant.at before there next keywords rising within are in
    let here = place_of_rest es first i c.loop-entry-test.true in
    let is = entry_of_rest es first i entry c.entry-item.is in
    let known = next_known keywords s t es c.args.mark c.args.from next (first + i) c.loop-entry.known (record { by_uid = c.known_mark.new.known; passed = c.pass.new.self }) entry c.in_ok-found.found at here is rising there within
    (c.loop-entry.invariant.keeps before) (c.in_ok-found.ensures.mark honest) (c.in_ok-found.ensures.known honest) c.in_ok-pass.ensures.passed in (
      search_finds keywords s es c.args.mark c.args.from next (first + i) c.loop-entry.known entry c.in_ok-found.found at here is known.0 (search rules),
      known.1,
    )

pub returns-clause-found : goal.returns-clause-found
returns-clause-found g c = λ honest there next keywords rising within are.
    let s = (g.F.Folder.seen c.args.folder.now).stored in
    let es = c.args.entries.now in
    let first = c.partition_point-first.result in
    let at = c.loop-entry.invariant.at honest there next keywords rising within are in (
      search_ends keywords s es c.args.mark c.args.from next (first + c.loop-entry.entry-index) c.loop-entry.known at (end_of_rest es first c.loop-entry.entry-index c.loop-entry-test.false),
      at.are_known,
    )
