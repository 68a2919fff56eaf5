use Rattle.std.specs.Prelude.{◌≡◌, false}
use Rattle.channels.specs.Lendings.{LendsNone}
use Rattle.channels.proofs.settling.report_paths.Given as goal

abbrev pub invariant-loop-path : goal.invariant-loop-path
invariant-loop-path g l = record {
  next : (goal.iterator-loop-path g).can_next l.path-iterator;
  ends : (goal.iterator-loop-path g).is_finite l.path-iterator;
  stores : l.stores.stores.ghost_name ≡ l.initial.stores.stores.ghost_name;
  asked : g.S.BoxLists.asked l.stores.stores.now ≡ g.S.BoxLists.asked l.initial.stores.stores.now;
  lent : LendsNone g.S.BoxLists.honest g.S.BoxLists.lent l.initial.stores.stores.now l.stores.stores.now;
  out : l.stores.out ≡ l.initial.stores.out;
  err : l.stores.err.ghost_name ≡ l.initial.stores.err.ghost_name;
  going : l.stores.write_failed ≡ false;
}
