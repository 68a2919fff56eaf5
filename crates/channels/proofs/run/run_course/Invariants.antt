use Rattle.std.specs.Prelude.{◌≡◌, false, take, drop}
use Rattle.channels.specs.declared.verdict.Verdict.TheVariants.{Clean}
use Rattle.channels.specs.Asks.{GoesOver, ways_of}
use Rattle.channels.specs.Courses.{Goes, IsPlaceAsked}
use Rattle.channels.specs.Streams.{Extends, IsQuiet}
use Rattle.channels.specs.Runs.{RunsOver}
use Rattle.channels.specs.Settlings.{SettlesOver}
use Rattle.channels.proofs.OrderLemmas.{Ahead}
use Rattle.channels.proofs.run.run_course.Given as goal

abbrev pub invariant-loop-place : goal.invariant-loop-place
invariant-loop-place g l = record {
  stores : l.stores.stores.ghost_name ≡ l.initial.stores.stores.ghost_name;
  asks : l.verdict ≡ Clean → GoesOver g.S.BoxLists.noted l.work.config.now (ways_of l.work.request.now l.course.cells) (take l.place-index l.course.places.items) (g.S.BoxLists.asked l.initial.stores.stores.now) (g.S.BoxLists.asked l.stores.stores.now);
  out : l.stores.out.ghost_name ≡ l.initial.stores.out.ghost_name;
  err : l.stores.err.ghost_name ≡ l.initial.stores.err.ghost_name;
  quiet : IsQuiet (g.E.Write.contents l.initial.stores.err.now) (g.E.Write.contents l.stores.err.now) l.verdict;
  whole : Extends (g.O.Write.contents l.initial.stores.out.now) (g.O.Write.contents l.stores.out.now);
  asked : Goes g.S.BoxLists.noted (g.S.BoxLists.asked l.initial.stores.stores.now) (g.S.BoxLists.asked l.stores.stores.now) (Ahead (λ _. false) (IsPlaceAsked l.work.config.now (ways_of l.work.request.now l.course.cells)) l.course.places.items (drop l.place-index l.course.places.items) l.verdict);
  settled : l.work.request.now.lists ≡ false → l.verdict ≡ Clean → SettlesOver g.S.BoxLists g.R.Rng.stream l.work.config.now (ways_of l.work.request.now l.course.cells) (take l.place-index l.course.places.items) l.initial.stores.stores.now l.stores.stores.now;
  runs : RunsOver g.S.BoxLists g.R.Rng.stream l.work.config.now (ways_of l.work.request.now l.course.cells) (take l.place-index l.course.places.items) l.initial.stores.stores.now l.stores.stores.now;
  going : l.stores.write_failed ≡ false;
}
