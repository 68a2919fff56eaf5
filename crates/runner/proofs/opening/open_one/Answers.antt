use Rattle.std.proofs.Common.{refl, sym, ◌∙◌}
use Rattle.run_states.proofs.Arrived.{underway_arrives}
use Rattle.runner.specs.Before.{ReadUnderway}
use Rattle.runner.proofs.PartCalls.{from_opening, left_call, left_here, line_of_opening, opening_unrefused, passed_call}
use Rattle.runner.proofs.Readings.{known_arrives, opened_known}
use Rattle.runner.proofs.Validities.{any_as, any_read, other_as, other_read, same_as, same_read}
use Rattle.runner.proofs.Finding.{same_read as copies_read}
use Rattle.runner.proofs.opening.open_one.Goals as goal

pub returns-then-before-validity-clause-part : goal.returns-then-before-validity-clause-part
returns-then-before-validity-clause-part g c =
    let s1 = g.O.Outside.seen c.open_box.new.self in
    passed_call _ _ _ _ _ _ _ _ _ _ _ c.in-Ok.ensures.call (λ m at a own. opened_known g.opening c.args.side c.in-Ok.validity (g.O.Outside.opened c.args.outside.now) _ _ m s1.device c.in-Ok.ensures.opened at a own.0)

pub returns-in-None-clause-part : goal.returns-in-None-clause-part
returns-in-None-clause-part g c =
    let s1 = g.O.Outside.seen c.open_box.new.self in
    passed_call _ _ _ _ _ _ _ _ _ _ _ c.in-Ok.ensures.call (λ m at a own. opened_known g.opening c.args.side c.in-Ok.validity (g.O.Outside.opened c.args.outside.now) _ _ m s1.device c.in-Ok.ensures.opened at a own.0)

pub returns-else-before-validity-clause-part : goal.returns-else-before-validity-clause-part
returns-else-before-validity-clause-part g c =
    let opened = g.O.Outside.opened c.args.outside.now in
    left_here _ _ (ReadUnderway g.opening opened) _ _ _ _ _ (passed_call _ _ _ _ _ _ _ _ _ _ _ c.in-Ok.ensures.call (λ m at a own. rw own.0 (known_arrives g.opening opened _ m a at))) ((refl, λ honest. let w = c.in-Ok.ensures.call in let acts = w.acts in let e = acts.effect honest in other_read g.O.Outside.ours g.O.Outside.alone opened c.args.side _ e.mid _ c.in-Some.before c.in-Ok.validity (sym c.recorded_validity-recorded.ensures ∙ c.in-Some.is) e.before e.following.0 e.following.1 c.if-before-validity.false), record { validity = c.in-Ok.validity; opened = c.in-Ok.ensures.opened; compared = other_as _ c.in-Some.before c.in-Ok.validity (sym c.recorded_validity-recorded.ensures ∙ c.in-Some.is) c.if-before-validity.false }) (λ k. k.underway)

pub returns-in-Err-clause-part : goal.returns-in-Err-clause-part
returns-in-Err-clause-part g c =
    rw c.call_fault.ensures (left_call _ _ _ _ _ _ _ _ _ _ _ (opening_unrefused _) c.in-Err.ensures.call (line_of_opening _) (λ m at a own reported. (from_opening c.in-Err.fault reported, rw own (underway_arrives g.opening _ m a at.underway))))

pub returns-then-before-validity-clause-kept : goal.returns-then-before-validity-clause-kept
returns-then-before-validity-clause-kept g c = λ honest. let w = c.in-Ok.ensures.call in let acts = w.acts in let e = acts.effect honest in same_read g.O.Outside.ours g.O.Outside.alone (g.O.Outside.opened c.args.outside.now) c.args.side _ e.mid _ c.in-Some.before c.in-Ok.validity (sym c.recorded_validity-recorded.ensures ∙ c.in-Some.is) e.before e.following.0 e.following.1 c.if-before-validity.true

pub returns-in-None-clause-kept : goal.returns-in-None-clause-kept
returns-in-None-clause-kept g c = λ honest. let w = c.in-Ok.ensures.call in let acts = w.acts in let e = acts.effect honest in any_read g.O.Outside.ours g.O.Outside.alone (g.O.Outside.opened c.args.outside.now) c.args.side _ e.mid _ (sym c.recorded_validity-recorded.ensures ∙ c.in-None.is) e.before e.following.0

pub returns-then-before-validity-clause-same : goal.returns-then-before-validity-clause-same
returns-then-before-validity-clause-same g c = λ honest. let w = c.in-Ok.ensures.call in let acts = w.acts in let e = acts.effect honest in copies_read g.O.Outside.ours g.O.Outside.alone _ e.mid _ e.before (e.following).0

pub returns-in-None-clause-same : goal.returns-in-None-clause-same
returns-in-None-clause-same g c = λ honest. let w = c.in-Ok.ensures.call in let acts = w.acts in let e = acts.effect honest in copies_read g.O.Outside.ours g.O.Outside.alone _ e.mid _ e.before (e.following).0

pub returns-then-before-validity-clause-opened : goal.returns-then-before-validity-clause-opened
returns-then-before-validity-clause-opened g c = record { validity = c.in-Ok.validity; opened = c.in-Ok.ensures.opened; compared = same_as _ c.in-Some.before c.in-Ok.validity (sym c.recorded_validity-recorded.ensures ∙ c.in-Some.is) c.if-before-validity.true }

pub returns-in-None-clause-opened : goal.returns-in-None-clause-opened
returns-in-None-clause-opened g c = record { validity = c.in-Ok.validity; opened = c.in-Ok.ensures.opened; compared = any_as _ c.in-Ok.validity (sym c.recorded_validity-recorded.ensures ∙ c.in-None.is) }
