use Rattle.std.proofs.Common.{◌≡◌, ◌+◌, drop, arith, refl, sym, ◌∙◌, drop_of_length-le}
use Rattle.std.proofs.lemmas.Grind.{common_steps}
use Rattle.channels.proofs.StreamLemmas.{IsQuiet-both, quiet_steps, stream_steps}
use Rattle.std.proofs.lemmas.Result.{err_from_is_err_and}
use Rattle.channels.specs.Asked.{joined_of}
use Rattle.channels.specs.declared.verdict.Verdict.TheVariants.{Over}
use Rattle.channels.specs.Courses.{Begun, IsNamedAsked, is_over}
use Rattle.channels.proofs.ChannelLemmas.{Goes-named, IsNamedAsked-possible}
use Rattle.channels.proofs.OrderLemmas.{Goes-all, Goes-begun, Goes-next, Goes-none, Goes-stops, drop_next, is_over-last, is_over-not}
use Rattle.channels.proofs.AskLemmas.{boxes_asked-next, both_clean}
use Rattle.channels.proofs.LendLemmas.{Lends-all, Lends-begun, Lends-next}
use Rattle.channels.specs.Runs.{MayRunNamed}
use Rattle.channels.specs.Settlings.{IsNamedSettled}
use Rattle.channels.proofs.RunLemmas.{Lends-front}
use Rattle.channels.proofs.settling.settle_boxes.Goals as goal

-- what was reported of one more mailbox
pub loop-name-preserved : goal.loop-name-preserved
loop-name-preserved g c = let over : c.and-verdict.result ≡ Over → ⊥ = grind (arith, common_steps) in record {
  stores = grind (arith, common_steps);
  asks = λ clean.
      let both = both_clean c.loop-name.verdict c.in_ok-settle_box.field-0 (sym c.and-verdict.ensures ∙ clean) in
      boxes_asked-next g.S.BoxLists.noted c.args.work.options.now (joined_of c.args.work.of) c.args.found.now.far.items c.args.found.now.near.items c.args.boxes.now c.loop-name.name-index c.name-item.result c.absent-absent.result (g.S.BoxLists.asked c.args.stores.now.stores.now) (g.S.BoxLists.asked c.loop-name.stores.stores.now) (g.S.BoxLists.asked c.settle_box.new.stores.stores.now) c.loop-name-test.true c.name-item.is c.absent-absent.ensures (c.loop-name.invariant.asks both.0) (c.in_ok-settle_box.ensures.asks both.1);
  out = grind (arith, common_steps);
  err = grind (arith, common_steps);
  quiet = IsQuiet-both _ _ _ _ _ _ c.and-verdict.ensures c.loop-name.invariant.quiet c.in_ok-settle_box.ensures.quiet;
  whole = grind (arith, common_steps, stream_steps);
  asked = Goes-next g.S.BoxLists.noted (g.S.BoxLists.asked c.args.stores.now.stores.now) (g.S.BoxLists.asked c.loop-name.stores.stores.now) (g.S.BoxLists.asked c.settle_box.new.stores.stores.now) is_over (IsNamedAsked c.args.work.options.now (joined_of c.args.work.of) c.args.found.now.far.items c.args.found.now.near.items) c.args.boxes.now (drop c.loop-name.name-index c.args.boxes.now) (drop (c.loop-name.name-index + 1) c.args.boxes.now) c.name-item.result c.loop-name.verdict c.in_ok-settle_box.field-0 c.and-verdict.result (drop_next c.args.boxes.now c.loop-name.name-index c.name-item.result c.name-item.result c.loop-name-test.true c.name-item.is) c.and-verdict.ensures
      (is_over-not c.loop-name.verdict c.in_ok-settle_box.field-0 c.and-verdict.result c.and-verdict.ensures over) c.loop-name.invariant.asked
      (Goes-named g.S.BoxLists.noted c.args.work.options.now (joined_of c.args.work.of) c.args.found.now.far.items c.args.found.now.near.items c.name-item.result c.absent-absent.result (g.S.BoxLists.asked c.loop-name.stores.stores.now) (g.S.BoxLists.asked c.settle_box.new.stores.stores.now) (λ is_such. is_such c.in_ok-settle_box.field-0) c.absent-absent.ensures c.in_ok-settle_box.ensures.asked);
  settled = λ clean.
      let both = both_clean c.loop-name.verdict c.in_ok-settle_box.field-0 (sym c.and-verdict.ensures ∙ clean) in
      Lends-next (IsNamedSettled g.S.BoxLists.opening g.R.Rng.stream c.args.work.options.now (joined_of c.args.work.of)) c.args.boxes.now c.loop-name.name-index
      c.name-item.result c.loop-name-test.true c.name-item.is (c.loop-name.invariant.settled both.0) (c.in_ok-settle_box.ensures.settled both.1);
  runs = Lends-next (MayRunNamed g.S.BoxLists.opening g.R.Rng.stream c.args.work.options.now (joined_of c.args.work.of)) c.args.boxes.now c.loop-name.name-index
      c.name-item.result c.loop-name-test.true c.name-item.is c.loop-name.invariant.runs c.settle_box.ensures.runs;
  goes_on = over;
  going = grind (arith, common_steps);
}

-- nothing was asked yet
pub loop-name-init : goal.loop-name-init
loop-name-init g c = record {
  stores = refl;
  asks = λ clean. refl;
  out = refl;
  err = refl;
  quiet = grind (arith, common_steps, quiet_steps);
  whole = grind (arith, common_steps, stream_steps);
  asked = Goes-none g.S.BoxLists.noted (g.S.BoxLists.asked c.args.stores.now.stores.now) (g.S.BoxLists.asked c.args.stores.now.stores.now) is_over (IsNamedAsked c.args.work.options.now (joined_of c.args.work.of) c.args.found.now.far.items c.args.found.now.near.items) c.args.boxes.now refl;
  settled = λ clean. Lends-begun g.S.BoxLists.honest g.S.BoxLists.lent (IsNamedSettled g.S.BoxLists.opening g.R.Rng.stream c.args.work.options.now (joined_of c.args.work.of))
      c.args.stores.now.stores.now c.args.stores.now.stores.now refl;
  runs = Lends-begun g.S.BoxLists.honest g.S.BoxLists.lent (MayRunNamed g.S.BoxLists.opening g.R.Rng.stream c.args.work.options.now (joined_of c.args.work.of))
      c.args.stores.now.stores.now c.args.stores.now.stores.now refl;
  goes_on = grind (arith, common_steps);
  going = grind (arith, common_steps);
}

-- a write failed in the midst of one
pub returns-in_err-settle_box-clause-asked : goal.returns-in_err-settle_box-clause-asked
returns-in_err-settle_box-clause-asked g c =
    let p = err_from_is_err_and c.from_residual.result c.from_residual.ensures.1 in
    rw p.1 (Goes-begun g.S.BoxLists.noted (g.S.BoxLists.asked c.args.stores.now.stores.now) (g.S.BoxLists.asked c.loop-name.stores.stores.now) (g.S.BoxLists.asked c.settle_box.new.stores.stores.now) is_over (IsNamedAsked c.args.work.options.now (joined_of c.args.work.of) c.args.found.now.far.items c.args.found.now.near.items) c.args.boxes.now (drop c.loop-name.name-index c.args.boxes.now) (drop (c.loop-name.name-index + 1) c.args.boxes.now) c.name-item.result c.loop-name.verdict (drop_next c.args.boxes.now c.loop-name.name-index c.name-item.result c.name-item.result c.loop-name-test.true c.name-item.is)
    (IsNamedAsked-possible c.args.work.options.now (joined_of c.args.work.of) c.args.found.now.far.items c.args.found.now.near.items) c.loop-name.invariant.asked
    (Goes-named g.S.BoxLists.noted c.args.work.options.now (joined_of c.args.work.of) c.args.found.now.far.items c.args.found.now.near.items c.name-item.result c.absent-absent.result (g.S.BoxLists.asked c.loop-name.stores.stores.now) (g.S.BoxLists.asked c.settle_box.new.stores.stores.now) Begun c.absent-absent.ensures c.in_err-settle_box.ensures.asked))

-- a store does not open
pub returns-then-eq-clause-asked : goal.returns-then-eq-clause-asked
returns-then-eq-clause-asked g c =
    let over : c.and-verdict.result ≡ Over = grind (arith, common_steps) in
    Goes-stops g.S.BoxLists.noted (g.S.BoxLists.asked c.args.stores.now.stores.now) (g.S.BoxLists.asked c.loop-name.stores.stores.now) (g.S.BoxLists.asked c.settle_box.new.stores.stores.now) is_over (IsNamedAsked c.args.work.options.now (joined_of c.args.work.of) c.args.found.now.far.items c.args.found.now.near.items) c.args.boxes.now (drop c.loop-name.name-index c.args.boxes.now) (drop (c.loop-name.name-index + 1) c.args.boxes.now) c.name-item.result c.loop-name.verdict c.in_ok-settle_box.field-0 c.and-verdict.result (drop_next c.args.boxes.now c.loop-name.name-index c.name-item.result c.name-item.result c.loop-name-test.true c.name-item.is) c.and-verdict.ensures
    (is_over-last c.loop-name.verdict c.in_ok-settle_box.field-0 c.and-verdict.result c.and-verdict.ensures c.loop-name.invariant.goes_on over) c.loop-name.invariant.asked
    (Goes-named g.S.BoxLists.noted c.args.work.options.now (joined_of c.args.work.of) c.args.found.now.far.items c.args.found.now.near.items c.name-item.result c.absent-absent.result (g.S.BoxLists.asked c.loop-name.stores.stores.now) (g.S.BoxLists.asked c.settle_box.new.stores.stores.now) (λ is_such. is_such c.in_ok-settle_box.field-0) c.absent-absent.ensures c.in_ok-settle_box.ensures.asked)

-- all were asked for
pub returns-clause-asked : goal.returns-clause-asked
returns-clause-asked g c =
    Goes-all g.S.BoxLists.noted (g.S.BoxLists.asked c.args.stores.now.stores.now) (g.S.BoxLists.asked c.loop-name.stores.stores.now) is_over (IsNamedAsked c.args.work.options.now (joined_of c.args.work.of) c.args.found.now.far.items c.args.found.now.near.items) c.args.boxes.now (drop c.loop-name.name-index c.args.boxes.now) c.loop-name.verdict
    (drop_of_length-le c.args.boxes.now c.loop-name-test.false) c.loop-name.invariant.asked

-- each is settled
pub returns-clause-settled : goal.returns-clause-settled
returns-clause-settled g c = λ clean.
    Lends-all (IsNamedSettled g.S.BoxLists.opening g.R.Rng.stream c.args.work.options.now (joined_of c.args.work.of)) c.args.boxes.now c.loop-name.name-index
    c.loop-name-test.false (c.loop-name.invariant.settled clean)

-- whatever was reported, each was run once at most
pub returns-clause-runs : goal.returns-clause-runs
returns-clause-runs g c =
    Lends-front g.S.BoxLists.opening g.R.Rng.stream c.args.work.options.now (joined_of c.args.work.of) c.args.boxes.now c.loop-name.name-index
    c.loop-name.invariant.runs

pub returns-then-eq-clause-runs : goal.returns-then-eq-clause-runs
returns-then-eq-clause-runs g c =
    Lends-front g.S.BoxLists.opening g.R.Rng.stream c.args.work.options.now (joined_of c.args.work.of) c.args.boxes.now (c.loop-name.name-index + 1)
    (Lends-next (MayRunNamed g.S.BoxLists.opening g.R.Rng.stream c.args.work.options.now (joined_of c.args.work.of)) c.args.boxes.now c.loop-name.name-index
    c.name-item.result c.loop-name-test.true c.name-item.is c.loop-name.invariant.runs c.settle_box.ensures.runs)

pub returns-in_err-settle_box-clause-runs : goal.returns-in_err-settle_box-clause-runs
returns-in_err-settle_box-clause-runs g c =
    Lends-front g.S.BoxLists.opening g.R.Rng.stream c.args.work.options.now (joined_of c.args.work.of) c.args.boxes.now (c.loop-name.name-index + 1)
    (Lends-next (MayRunNamed g.S.BoxLists.opening g.R.Rng.stream c.args.work.options.now (joined_of c.args.work.of)) c.args.boxes.now c.loop-name.name-index
    c.name-item.result c.loop-name-test.true c.name-item.is c.loop-name.invariant.runs c.settle_box.ensures.runs)
