use Rattle.std.proofs.Common.{◌+◌, false, get_or, drop, length, ◌≤◌, arith, refl, sym, subst, ◌∙◌, drop_of_length-le}
use Rattle.std.proofs.lemmas.Grind.{common_steps}
use Rattle.channels.proofs.StreamLemmas.{IsQuiet-both, quiet_steps, stream_steps}
use Rattle.std.proofs.lemmas.Result.{err_from_is_err_and}
use Rattle.channels.specs.Asks.{ways_of}
use Rattle.channels.specs.Courses.{IsPlaceAsked}
use Rattle.channels.proofs.ChannelLemmas.{IsPlaceAsked-possible}
use Rattle.channels.proofs.OrderLemmas.{Goes-all, Goes-begun, Goes-next, Goes-none, places_next}
use Rattle.channels.proofs.AskLemmas.{GoesOver-next, both_clean}
use Rattle.channels.proofs.LendLemmas.{SettlesOver-all, SettlesOver-next}
use Rattle.channels.proofs.RunLemmas.{RunsOver-front, RunsOver-next}
use Rattle.channels.proofs.run.run_course.Goals as goal

-- what was reported of one more channel
pub loop-place-preserved : goal.loop-place-preserved
loop-place-preserved g c = record {
  stores = grind (arith, common_steps);
  asks = λ clean.
      let both = both_clean c.loop-place.verdict c.in_ok-run_place.field-0 (sym c.and-verdict.ensures ∙ clean) in
      GoesOver-next g.S.BoxLists.noted c.args.work.config.now (ways_of c.args.work.request.now c.args.course.now.cells) c.args.course.now.places.items c.deref-place-items.result.now c.loop-place.place-index (g.S.BoxLists.asked c.args.stores.now.stores.now) (g.S.BoxLists.asked c.loop-place.stores.stores.now) (g.S.BoxLists.asked c.run_place.new.stores.stores.now) c.deref-place-items.ensures.value c.loop-place-test.true (c.loop-place.invariant.asks both.0) (c.in_ok-run_place.ensures.asks both.1);
  out = grind (arith, common_steps);
  err = grind (arith, common_steps);
  quiet = IsQuiet-both _ _ _ _ _ _ c.and-verdict.ensures c.loop-place.invariant.quiet c.in_ok-run_place.ensures.quiet;
  whole = grind (arith, common_steps, stream_steps);
  asked = Goes-next g.S.BoxLists.noted (g.S.BoxLists.asked c.args.stores.now.stores.now) (g.S.BoxLists.asked c.loop-place.stores.stores.now) (g.S.BoxLists.asked c.run_place.new.stores.stores.now) (λ _. false) (IsPlaceAsked c.args.work.config.now (ways_of c.args.work.request.now c.args.course.now.cells)) c.args.course.now.places.items (drop c.loop-place.place-index c.args.course.now.places.items) (drop (c.loop-place.place-index + 1) c.args.course.now.places.items) (get_or c.deref-place-items.result.now c.loop-place.place-index 0) c.loop-place.verdict c.in_ok-run_place.field-0 c.and-verdict.result (places_next c.args.course.now.places.items c.deref-place-items.result.now c.loop-place.place-index c.deref-place-items.ensures.value c.loop-place-test.true) c.and-verdict.ensures refl c.loop-place.invariant.asked c.in_ok-run_place.ensures.asked;
  settled = λ off clean.
      let both = both_clean c.loop-place.verdict c.in_ok-run_place.field-0 (sym c.and-verdict.ensures ∙ clean) in
      SettlesOver-next g.S.BoxLists g.R.Rng.stream c.args.work.config.now (ways_of c.args.work.request.now c.args.course.now.cells) c.args.course.now.places.items
      c.deref-place-items.result.now c.loop-place.place-index c.args.stores.now.stores.now c.loop-place.stores.stores.now c.run_place.new.stores.stores.now
      c.deref-place-items.ensures.value c.loop-place-test.true (c.loop-place.invariant.settled off both.0) (c.in_ok-run_place.ensures.settled off both.1);
  runs = RunsOver-next g.S.BoxLists g.R.Rng.stream c.args.work.config.now (ways_of c.args.work.request.now c.args.course.now.cells) c.args.course.now.places.items
      c.deref-place-items.result.now c.loop-place.place-index c.args.stores.now.stores.now c.loop-place.stores.stores.now c.run_place.new.stores.stores.now
      c.deref-place-items.ensures.value c.loop-place-test.true c.loop-place.invariant.runs c.run_place.ensures.runs;
  going = grind (arith, common_steps);
}

-- nothing was asked yet
pub loop-place-init : goal.loop-place-init
loop-place-init g c = record {
  stores = refl;
  asks = λ clean. refl;
  out = refl;
  err = refl;
  quiet = grind (arith, common_steps, quiet_steps);
  whole = grind (arith, common_steps, stream_steps);
  asked = Goes-none g.S.BoxLists.noted (g.S.BoxLists.asked c.args.stores.now.stores.now) (g.S.BoxLists.asked c.args.stores.now.stores.now) (λ _. false) (IsPlaceAsked c.args.work.config.now (ways_of c.args.work.request.now c.args.course.now.cells)) c.args.course.now.places.items refl;
  settled = λ off clean. refl;
  runs = refl;
  going = grind (arith, common_steps);
}

-- a write failed in the midst of one
pub returns-in_err-run_place-clause-asked : goal.returns-in_err-run_place-clause-asked
returns-in_err-run_place-clause-asked g c =
    let p = err_from_is_err_and c.from_residual.result c.from_residual.ensures.1 in
    rw p.1 (Goes-begun g.S.BoxLists.noted (g.S.BoxLists.asked c.args.stores.now.stores.now) (g.S.BoxLists.asked c.loop-place.stores.stores.now) (g.S.BoxLists.asked c.run_place.new.stores.stores.now) (λ _. false) (IsPlaceAsked c.args.work.config.now (ways_of c.args.work.request.now c.args.course.now.cells)) c.args.course.now.places.items (drop c.loop-place.place-index c.args.course.now.places.items) (drop (c.loop-place.place-index + 1) c.args.course.now.places.items) (get_or c.deref-place-items.result.now c.loop-place.place-index 0) c.loop-place.verdict (places_next c.args.course.now.places.items c.deref-place-items.result.now c.loop-place.place-index c.deref-place-items.ensures.value c.loop-place-test.true)
    (IsPlaceAsked-possible c.args.work.config.now (ways_of c.args.work.request.now c.args.course.now.cells)) c.loop-place.invariant.asked c.in_err-run_place.ensures.asked)

-- all were asked for
pub returns-clause-asked : goal.returns-clause-asked
returns-clause-asked g c =
    let all : length c.args.course.now.places.items ≤ c.loop-place.place-index = subst (λ xs. length xs ≤ c.loop-place.place-index) c.deref-place-items.ensures.value c.loop-place-test.false in
    Goes-all g.S.BoxLists.noted (g.S.BoxLists.asked c.args.stores.now.stores.now) (g.S.BoxLists.asked c.loop-place.stores.stores.now) (λ _. false) (IsPlaceAsked c.args.work.config.now (ways_of c.args.work.request.now c.args.course.now.cells)) c.args.course.now.places.items (drop c.loop-place.place-index c.args.course.now.places.items) c.loop-place.verdict
    (drop_of_length-le c.args.course.now.places.items all) c.loop-place.invariant.asked

-- each is settled
pub returns-clause-settled : goal.returns-clause-settled
returns-clause-settled g c = λ off clean.
    let all : length c.args.course.now.places.items ≤ c.loop-place.place-index = subst (λ xs. length xs ≤ c.loop-place.place-index) c.deref-place-items.ensures.value c.loop-place-test.false in
    SettlesOver-all g.S.BoxLists g.R.Rng.stream c.args.work.config.now (ways_of c.args.work.request.now c.args.course.now.cells) c.args.course.now.places.items
    c.loop-place.place-index c.args.stores.now.stores.now c.loop-place.stores.stores.now all (c.loop-place.invariant.settled off clean)

-- whatever was reported, each of their mailboxes was run once at most
pub returns-clause-runs : goal.returns-clause-runs
returns-clause-runs g c =
    RunsOver-front g.S.BoxLists g.R.Rng.stream c.args.work.config.now (ways_of c.args.work.request.now c.args.course.now.cells) c.loop-place.place-index
    c.args.course.now.places.items c.args.stores.now.stores.now c.loop-place.stores.stores.now c.loop-place.invariant.runs

pub returns-in_err-run_place-clause-runs : goal.returns-in_err-run_place-clause-runs
returns-in_err-run_place-clause-runs g c =
    RunsOver-front g.S.BoxLists g.R.Rng.stream c.args.work.config.now (ways_of c.args.work.request.now c.args.course.now.cells) (c.loop-place.place-index + 1)
    c.args.course.now.places.items c.args.stores.now.stores.now c.run_place.new.stores.stores.now
    (RunsOver-next g.S.BoxLists g.R.Rng.stream c.args.work.config.now (ways_of c.args.work.request.now c.args.course.now.cells) c.args.course.now.places.items
    c.deref-place-items.result.now c.loop-place.place-index c.args.stores.now.stores.now c.loop-place.stores.stores.now c.run_place.new.stores.stores.now
    c.deref-place-items.ensures.value c.loop-place-test.true c.loop-place.invariant.runs c.run_place.ensures.runs)
