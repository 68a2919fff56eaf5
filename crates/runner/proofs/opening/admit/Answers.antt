use Rattle.std.proofs.Common.{true, false}
use Rattle.run_states.specs.Conditions.{Underway}
use Rattle.runner.proofs.PartCalls.{from_opening, left_call, line_of_opening, opening_unrefused, passed_call}
use Rattle.runner.proofs.Begun.{admitted_all, admitted_part, clear_arrives, clear_underway}
use Rattle.runner.proofs.Stages.{left_by}
use Rattle.runner.proofs.Validities.{admitted_validities}
use Rattle.runner.proofs.opening.admit.Goals as goal

pub returns-in-Ok-clause-part : goal.returns-in-Ok-clause-part
returns-in-Ok-clause-part g c =
    let s1 = g.O.Outside.seen c.admit.new.self in
    rw c.admit.ensures.opened (passed_call _ _ _ _ _ _ _ _ _ _ _ c.in-Ok.ensures.call (λ m at a own. admitted_all g.opening _ _ m s1.device a at own))

pub returns-in-Err-clause-part : goal.returns-in-Err-clause-part
returns-in-Err-clause-part g c =
    let opened = g.O.Outside.opened c.args.outside.now in
    let s1 = g.O.Outside.seen c.admit.new.self in
    rw c.call_fault.ensures (left_call _ _ _ _ _ _ _ _ _ _ _ (opening_unrefused _) c.in-Err.ensures.call (line_of_opening _) (λ m at a own reported. (
      from_opening c.in-Err.fault reported,
      left_by (Underway g.opening) _ _ c.in-Err.fault m s1.device own
          (clear_underway g.opening opened false m (clear_arrives g.opening opened false _ m a at))
          (λ k. clear_underway g.opening opened false s1.device (admitted_part g.opening opened _ m s1.device a at k))
          (λ x t. clear_underway g.opening opened true s1.device (admitted_all g.opening opened _ m s1.device a at t)),
    )))

pub returns-in-Ok-clause-validities : goal.returns-in-Ok-clause-validities
returns-in-Ok-clause-validities g c = λ honest. let w = c.in-Ok.ensures.call in let acts = w.acts in let e = acts.effect honest in admitted_validities g.O.Outside.ours g.O.Outside.alone _ _ e.mid _ e.before e.following
