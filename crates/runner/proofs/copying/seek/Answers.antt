use Rattle.std.proofs.Common.{true}
use Rattle.runner.proofs.PartCalls.{from_box, left_step, line_of_box, passed_call}
use Rattle.runner.proofs.Stages.{ready_arrives, ready_held, ready_underway, sought_reported}
use Rattle.runner.proofs.Finding.{seek_reported}
use Rattle.runner.proofs.copying.seek.Goals as goal

pub returns-in-Ok-clause-part : goal.returns-in-Ok-clause-part
returns-in-Ok-clause-part g c =
    let opened = g.O.Outside.opened c.args.outside.now in
    passed_call _ _ _ _ _ _ _ _ _ _ _ c.in-Ok.ensures.call
    (λ m at a own. rw own.0 (sought_reported g.opening opened c.args.direction c.args.mark c.requires.1.1 _ m a at c.in-Ok.found (rw (c.first_uid-from.ensures, c.target-side.ensures) at own.1)))

pub returns-in-Err-clause-part : goal.returns-in-Err-clause-part
returns-in-Err-clause-part g c =
    let opened = g.O.Outside.opened c.args.outside.now in
    rw c.step_fault.ensures (left_step _ _ _ _ _ _ _ _ _ _ c.args.number opened _ c.in-Err.ensures.call (line_of_box _)
    (λ m at a own. rw own (ready_held g.opening opened true m (ready_arrives g.opening opened true _ m a at)))
    (λ m at a own reported. (from_box c.in-Err.fault reported, rw own (ready_underway g.opening opened true m (ready_arrives g.opening opened true _ m a at)))))

pub find_mark-requires : goal.find_mark-requires
find_mark-requires g c = record { is_open = c.requires.1.0.boxes c.target-side.result }

pub returns-in-Ok-clause-found : goal.returns-in-Ok-clause-found
returns-in-Ok-clause-found g c = λ honest k.
    let w = c.in-Ok.ensures.call in
    let acts = w.acts in
    let e = acts.effect honest in
    seek_reported g.opening (g.O.Outside.opened c.args.outside.now) c.args.direction c.args.mark c.requires.1.1 _ e.mid e.before k c.in-Ok.found (rw (c.first_uid-from.ensures, c.target-side.ensures) at (e.following).1)
