use Rattle.runner.proofs.PartCalls.{from_box, left_step, line_of_box, passed_call}
use Rattle.runner.proofs.Stages.{copied_arrives, copied_held, copied_underway, copy_reported}
use Rattle.runner.specs.Going.{FoundCopy}
use Rattle.std.proofs.Common.{sym, subst}
use Rattle.outside.specs.Devices.{Device}
use Rattle.runner.proofs.copying.find_copy.Goals as goal

pub returns-in-Ok-clause-part : goal.returns-in-Ok-clause-part
returns-in-Ok-clause-part g c =
    let opened = g.O.Outside.opened c.args.outside.now in
    passed_call _ _ _ _ _ _ _ _ _ _ _ c.in-Ok.ensures.call
    (λ m at a own. subst (λ (d : Device). FoundCopy g.opening opened c.in-Ok.copy d) (sym own.0) (copy_reported g.opening opened c.args.direction c.args.mark c.requires.1.1 _ m a at c.in-Ok.copy (rw (c.first_uid-from.ensures, c.target-side.ensures) at own.1)))

pub returns-in-Err-clause-part : goal.returns-in-Err-clause-part
returns-in-Err-clause-part g c =
    let opened = g.O.Outside.opened c.args.outside.now in
    rw c.step_fault.ensures (left_step _ _ _ _ _ _ _ _ _ _ c.args.number opened _ c.in-Err.ensures.call (line_of_box _)
    (λ m at a own. rw own (copied_held g.opening opened m (copied_arrives g.opening opened _ m a at)))
    (λ m at a own reported. (from_box c.in-Err.fault reported, rw own (copied_underway g.opening opened m (copied_arrives g.opening opened _ m a at)))))

pub find_mark-requires : goal.find_mark-requires
find_mark-requires g c = record { is_open = c.requires.1.0.boxes c.target-side.result }
