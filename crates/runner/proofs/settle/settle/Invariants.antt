use Rattle.std.proofs.Common.{◌≡◌, ◌≤◌, ◌-◌, ◌+◌, ◌^◌, None, true}
use Rattle.book.specs.declared.book.Pending.{Pending}
use Rattle.book.specs.Books.{Holds}
use Rattle.rules.specs.declared.state.SyncState.{SyncState}
use Rattle.runner.specs.Asking.{Asks, nothing}
use Rattle.runner.specs.Answers.{Inputs, Moves}
use Rattle.runner.specs.Attempts.{AtOpening, IsReached, AttemptStart, MetStops}
use Rattle.runner.specs.Parts.{ReportsMore}
use Rattle.runner.specs.Validities.{IsKept}
use Rattle.runner.proofs.Reopening.{Attempted}
use Rattle.runner.proofs.settle.settle.Given as goal

abbrev pub ghost-attempt : goal.ghost-attempt
ghost-attempt g a = g.opening

abbrev pub invariant-loop-tried : goal.invariant-loop-tried
invariant-loop-tried g l =
    let start = g.O.Outside.seen l.fn.outside in
    let now = g.O.Outside.seen l.outside in
    let alone = g.O.Outside.alone in
    record {
      was_honest : g.O.Outside.honest l.outside → g.O.Outside.honest l.fn.outside;
      keywords : g.O.Outside.keywords l.outside ≡ g.O.Outside.keywords l.fn.outside;
      asked : Asks g.O.Outside.noted nothing (g.O.Outside.asked l.fn.outside) (g.O.Outside.asked l.outside);
      moved : Moves (g.R.Rng.stream l.fn.rng) (g.R.Rng.stream l.rng);
      stops : MetStops l.tried start now;
      reported : ReportsMore start now;
      appends : start.appends ≤ now.appends;
      reopened : Attempted g.opening (g.O.Outside.honest l.outside × Inputs g.opening l.options (g.R.Rng.stream l.fn.rng) × AtOpening g.opening start.device) (l.tried - 1) start now;
      first : l.tried ≡ 0 → now ≡ start;
      unfixed : l.tried ≡ 0 → l.run ≡ None;
      reached : g.O.Outside.honest l.outside → IsReached l.run now.device.files;
      undrawn : l.tried ≡ 0 → g.R.Rng.stream l.rng ≡ g.R.Rng.stream l.fn.rng;
      stuck : l.tried ≤ 1 → start.is_broken ≡ true → now ≡ start;
      left : g.O.Outside.honest l.outside → Inputs g.opening l.options (g.R.Rng.stream l.fn.rng) → AtOpening g.opening start.device → AttemptStart g.opening l.options (g.R.Rng.stream l.rng) l.run now.device;
      greatest : g.O.Outside.honest l.outside → (s : SyncState) (p : Pending) → Holds start.device.files s p → s.run + 1 ≡ 2 ^ 64 → (l.run ≡ None) × IsKept alone start.device now.device;
    }
