use Rattle.std.proofs.Common.{subst}
use Rattle.book.specs.declared.book.Pending.{Pending}
use Rattle.book.specs.Agreement.{copies_of}
use Rattle.book.specs.TakenUids.{Knows}
use Rattle.book.proofs.TakenLemmas.{more_known, on_ok}
use Rattle.book.proofs.taken.Taken.add_next.Goals as goal

pub returns-in-Planned : goal.returns-in-Planned
returns-in-Planned c =
    let w = c.in-Planned.written in
    on_ok c.add_logged.result (λ added entries knows.
    more_known entries c.args.pending.now w c.args.logged c.add_logged.new.self c.in-Planned.is
    (λ some. added entries (copies_of w.journal.plan.steps w.journal.log) (subst (λ (p : Pending). Knows entries p c.args.self.now) c.in-Planned.is knows some))) c.add_logged.ensures
