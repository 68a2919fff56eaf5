use Rattle.std.specs.Prelude.{◌≡◌, false}
use Rattle.channels.specs.Lendings.{LendsNone}
use Rattle.channels.specs.Streams.{HasNotices}
use Rattle.channels.proofs.run_stores.RunStores.report_notices.Given as goal

-- nothing but notices was written
abbrev pub invariant-loop-notice : goal.invariant-loop-notice
invariant-loop-notice g l = record {
  next : (goal.iterator-loop-notice g).can_next l.notice-iterator;
  ends : (goal.iterator-loop-notice g).is_finite l.notice-iterator;
  stores : l.self.stores.ghost_name ≡ l.initial.self.stores.ghost_name;
  asked : g.S.BoxLists.asked l.self.stores.now ≡ g.S.BoxLists.asked l.initial.self.stores.now;
  lent : LendsNone g.S.BoxLists.honest g.S.BoxLists.lent l.initial.self.stores.now l.self.stores.now;
  out : l.self.out ≡ l.initial.self.out;
  err : l.self.err.ghost_name ≡ l.initial.self.err.ghost_name;
  notices : HasNotices (g.E.Write.contents l.initial.self.err.now) (g.E.Write.contents l.self.err.now);
  going : l.self.write_failed ≡ false;
}
