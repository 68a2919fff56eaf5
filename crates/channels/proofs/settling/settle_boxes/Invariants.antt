use Rattle.std.specs.Prelude.{◌≡◌, false, take, drop}
use Rattle.channels.specs.Asked.{joined_of}
use Rattle.channels.specs.Asks.{AsksIfClean, boxes_asked}
use Rattle.channels.specs.Courses.{Goes, IsNamedAsked, is_over}
use Rattle.channels.specs.declared.verdict.Verdict.TheVariants.{Clean, Over}
use Rattle.channels.specs.Streams.{Extends, IsQuiet}
use Rattle.channels.specs.Lendings.{Lends}
use Rattle.channels.specs.Runs.{MayRunNamed}
use Rattle.channels.specs.Settlings.{InTurn, IsNamedSettled}
use Rattle.channels.proofs.OrderLemmas.{Ahead}
use Rattle.channels.proofs.settling.settle_boxes.Given as goal

abbrev pub invariant-loop-name : goal.invariant-loop-name
invariant-loop-name g l = record {
  stores : l.stores.stores.ghost_name ≡ l.initial.stores.stores.ghost_name;
  asks : AsksIfClean g.S.BoxLists.noted (g.S.BoxLists.asked l.initial.stores.stores.now) (g.S.BoxLists.asked l.stores.stores.now) (boxes_asked l.work.options.now (joined_of l.work.of) l.found.far.items l.found.near.items (take l.name-index l.boxes)) l.verdict;
  out : l.stores.out.ghost_name ≡ l.initial.stores.out.ghost_name;
  err : l.stores.err.ghost_name ≡ l.initial.stores.err.ghost_name;
  quiet : IsQuiet (g.E.Write.contents l.initial.stores.err.now) (g.E.Write.contents l.stores.err.now) l.verdict;
  whole : Extends (g.O.Write.contents l.initial.stores.out.now) (g.O.Write.contents l.stores.out.now);
  asked : Goes g.S.BoxLists.noted (g.S.BoxLists.asked l.initial.stores.stores.now) (g.S.BoxLists.asked l.stores.stores.now) (Ahead is_over (IsNamedAsked l.work.options.now (joined_of l.work.of) l.found.far.items l.found.near.items) l.boxes (drop l.name-index l.boxes) l.verdict);
  settled : l.verdict ≡ Clean → Lends g.S.BoxLists.honest g.S.BoxLists.lent l.initial.stores.stores.now l.stores.stores.now (InTurn (IsNamedSettled g.S.BoxLists.opening g.R.Rng.stream l.work.options.now (joined_of l.work.of)) (take l.name-index l.boxes));
  runs : Lends g.S.BoxLists.honest g.S.BoxLists.lent l.initial.stores.stores.now l.stores.stores.now (InTurn (MayRunNamed g.S.BoxLists.opening g.R.Rng.stream l.work.options.now (joined_of l.work.of)) (take l.name-index l.boxes));
  goes_on : l.verdict ≡ Over → ⊥;
  going : l.stores.write_failed ≡ false;
}
