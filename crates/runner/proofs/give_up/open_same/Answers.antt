use Rattle.std.proofs.Common.{◌∙◌, refl, sym}
use Rattle.runner.specs.GivingUp.{Nowhere}
use Rattle.runner.proofs.KeptBoxes.{all_read}
use Rattle.runner.proofs.PartCalls.{left_call, left_here, line_of_opening, opening_unrefused, passed_call}
use Rattle.runner.proofs.Readings.{plan_read}
use Rattle.runner.proofs.Validities.{any_as, any_read, other_as, other_read, same_as, same_read}
use Rattle.runner.proofs.give_up.open_same.Goals as goal

pub recorded_validity-recorded-requires : goal.recorded_validity-recorded-requires
recorded_validity-recorded-requires g c = record { read = plan_read (g.O.Outside.opened c.args.outside.now) c.requires.plan }

pub returns-then-before-validity-clause-same : goal.returns-then-before-validity-clause-same
returns-then-before-validity-clause-same g c = λ honest. let w = c.in-Ok.ensures.call in let acts = w.acts in let e = acts.effect honest in
    same_read g.O.Outside.ours g.O.Outside.alone (g.O.Outside.opened c.args.outside.now) c.args.side _ e.mid _ c.in-Some.before c.in-Ok.validity (sym c.recorded_validity-recorded.ensures ∙ c.in-Some.is) e.before e.following.0 e.following.1 c.if-before-validity.true

pub returns-in-None-clause-same : goal.returns-in-None-clause-same
returns-in-None-clause-same g c = λ honest. let w = c.in-Ok.ensures.call in let acts = w.acts in let e = acts.effect honest in
    any_read g.O.Outside.ours g.O.Outside.alone (g.O.Outside.opened c.args.outside.now) c.args.side _ e.mid _ (sym c.recorded_validity-recorded.ensures ∙ c.in-None.is) e.before e.following.0

pub returns-then-before-validity-clause-kept : goal.returns-then-before-validity-clause-kept
returns-then-before-validity-clause-kept g c = λ honest. let w = c.in-Ok.ensures.call in let acts = w.acts in let e = acts.effect honest in all_read g.O.Outside.ours g.O.Outside.alone _ e.mid _ e.before e.following.0

pub returns-else-before-validity-clause-kept : goal.returns-else-before-validity-clause-kept
returns-else-before-validity-clause-kept g c = λ honest. let w = c.in-Ok.ensures.call in let acts = w.acts in let e = acts.effect honest in all_read g.O.Outside.ours g.O.Outside.alone _ e.mid _ e.before e.following.0

pub returns-in-None-clause-kept : goal.returns-in-None-clause-kept
returns-in-None-clause-kept g c = λ honest. let w = c.in-Ok.ensures.call in let acts = w.acts in let e = acts.effect honest in all_read g.O.Outside.ours g.O.Outside.alone _ e.mid _ e.before e.following.0

pub returns-in-Err-clause-kept : goal.returns-in-Err-clause-kept
returns-in-Err-clause-kept g c = λ honest. let w = c.in-Err.ensures.call in let acts = w.acts in let l = acts.left honest in all_read g.O.Outside.ours g.O.Outside.alone _ l.mid _ l.before l.following

pub returns-then-before-validity-clause-counted : goal.returns-then-before-validity-clause-counted
returns-then-before-validity-clause-counted g c = passed_call _ _ _ _ _ _ _ _ _ _ _ c.in-Ok.ensures.call (λ m at a own. at)

pub returns-in-None-clause-counted : goal.returns-in-None-clause-counted
returns-in-None-clause-counted g c = passed_call _ _ _ _ _ _ _ _ _ _ _ c.in-Ok.ensures.call (λ m at a own. at)

pub returns-else-before-validity-clause-counted : goal.returns-else-before-validity-clause-counted
returns-else-before-validity-clause-counted g c =
    let opened = g.O.Outside.opened c.args.outside.now in
    left_here _ _ Nowhere _ _ _ _ _ (passed_call _ _ _ _ _ _ _ _ _ _ _ c.in-Ok.ensures.call (λ m at a own. at))
    ((refl, λ honest. let w = c.in-Ok.ensures.call in let acts = w.acts in let e = acts.effect honest in other_read g.O.Outside.ours g.O.Outside.alone opened c.args.side _ e.mid _ c.in-Some.before c.in-Ok.validity (sym c.recorded_validity-recorded.ensures ∙ c.in-Some.is) e.before e.following.0 e.following.1 c.if-before-validity.false), record { validity = c.in-Ok.validity; opened = c.in-Ok.ensures.opened; compared = other_as _ c.in-Some.before c.in-Ok.validity (sym c.recorded_validity-recorded.ensures ∙ c.in-Some.is) c.if-before-validity.false })
    (λ k. absurd k)

pub returns-in-Err-clause-counted : goal.returns-in-Err-clause-counted
returns-in-Err-clause-counted g c = rw c.call_fault.ensures (left_call _ _ _ _ _ _ _ _ _ _ _ (opening_unrefused _) c.in-Err.ensures.call (line_of_opening _) (λ m at a own reported. absurd at))

pub returns-then-before-validity-clause-opened : goal.returns-then-before-validity-clause-opened
returns-then-before-validity-clause-opened g c = record { validity = c.in-Ok.validity; opened = c.in-Ok.ensures.opened; compared = same_as _ c.in-Some.before c.in-Ok.validity (sym c.recorded_validity-recorded.ensures ∙ c.in-Some.is) c.if-before-validity.true }

pub returns-in-None-clause-opened : goal.returns-in-None-clause-opened
returns-in-None-clause-opened g c = record { validity = c.in-Ok.validity; opened = c.in-Ok.ensures.opened; compared = any_as _ c.in-Ok.validity (sym c.recorded_validity-recorded.ensures ∙ c.in-None.is) }
