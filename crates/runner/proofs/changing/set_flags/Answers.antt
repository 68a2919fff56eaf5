use Rattle.std.proofs.Common.{◌≡◌, ◌==◌, ◌∙◌, ℕ, not, Bool, true, refl, ap, sym, subst}
use Rattle.std.proofs.lemmas.Bool.{both_ways}
use Rattle.mailcore.specs.Sides.{target}
use Rattle.rules.specs.declared.plan.Step.TheVariants as step
use Rattle.law_outcome.specs.Steps.{changed_uid}
use Rattle.run_states.specs.Conditions.{Underway}
use Rattle.runner.specs.Going.{DuringStep, sets_some}
use Rattle.runner.proofs.PartCalls.{from_box, left_step, line_of_box, passed_call, passed_none}
use Rattle.runner.proofs.Stages.{begun_underway, left_by, ready_arrives, ready_held, ready_named, ready_underway, set_called, set_none}
use Rattle.runner.proofs.Within.{set_whole}
use Rattle.runner.proofs.Asking.{calls_none, calls_set}
use Rattle.runner.proofs.changing.set_flags.Goals as goal

pub add_flags-requires : goal.add_flags-requires
add_flags-requires g c = record { is_open = c.requires.1.0.boxes c.target-side.result }

pub returns-in-Ok-clause-part : goal.returns-in-Ok-clause-part
returns-in-Ok-clause-part g c =
    let opened = g.O.Outside.opened c.args.outside.now in
    let f = c.args.flags.now in
    let s1 = g.O.Outside.seen c.add_flags.new.self in
    passed_call _ _ _ _ _ _ _ _ _ _ _ c.in-Ok.ensures.call
    (λ m at a own. let w = set_whole g.opening opened _ c.requires.1.1.1.1 f.direction f.far f.near f.set f.cleared c.requires.1.1.0 _ at in set_called g.opening opened f.direction f.far f.near f.set f.cleared c.requires.1.1.0 (sets_some f.set) _ m s1.device a at (rw (c.target-side.ensures, c.changed_uid-uid.ensures, w) at own))

pub returns-in-Err-clause-part : goal.returns-in-Err-clause-part
returns-in-Err-clause-part g c =
    let opened = g.O.Outside.opened c.args.outside.now in
    let f = c.args.flags.now in
    let s1 = g.O.Outside.seen c.add_flags.new.self in
    rw c.step_fault.ensures (left_step _ _ _ _ _ _ _ _ _ _ c.args.number opened _ c.in-Err.ensures.call (line_of_box _)
    (λ m at a own. rw own (ready_held g.opening opened true m (ready_arrives g.opening opened true _ m a at)))
    (λ m at a own reported. let w = set_whole g.opening opened _ c.requires.1.1.1.1 f.direction f.far f.near f.set f.cleared c.requires.1.1.0 _ at in (
      from_box c.in-Err.fault reported,
      left_by (Underway g.opening) _ _ c.in-Err.fault m s1.device own
          (ready_underway g.opening opened true m (ready_arrives g.opening opened true _ m a at))
          (λ part. ready_underway g.opening opened true s1.device (ready_named g.opening opened (step.Flags f.direction f.far f.near f.set f.cleared) (target f.direction) (changed_uid f.direction f.far f.near) c.requires.1.1.0 refl _ m s1.device a at (rw (c.target-side.ensures, c.changed_uid-uid.ensures) at part)))
          (λ x does. begun_underway g.opening opened true s1.device (set_called g.opening opened f.direction f.far f.near f.set f.cleared c.requires.1.1.0 true _ m s1.device a at (rw (c.target-side.ensures, c.changed_uid-uid.ensures, w) at does))),
    )))

pub returns-then-is_empty-clause-part : goal.returns-then-is_empty-clause-part
returns-then-is_empty-clause-part g c =
    let opened = g.O.Outside.opened c.args.outside.now in
    let f = c.args.flags.now in
    let s0 = g.O.Outside.seen c.args.outside.now in
    let none : (f.set == 0) ≡ true = sym c.is_empty.ensures ∙ c.if-is_empty.true in
    passed_none _ _ _ _ c.requires.1.1.1.0 (λ at. subst (λ (b : Bool). DuringStep g.opening opened b s0.device) (sym (ap not none)) (set_none g.opening opened f.direction f.far f.near f.set f.cleared c.requires.1.1.0 _ at))

pub returns-in-Ok-clause-idle : goal.returns-in-Ok-clause-idle
returns-in-Ok-clause-idle g c = λ e. absurd (both_ways (c.args.flags.now.set == 0) (sym c.is_empty.ensures ∙ c.if-is_empty.false) (ap (λ (x : ℕ). x == 0) e))

pub returns-in-Err-clause-idle : goal.returns-in-Err-clause-idle
returns-in-Err-clause-idle g c = λ e. absurd (both_ways (c.args.flags.now.set == 0) (sym c.is_empty.ensures ∙ c.if-is_empty.false) (ap (λ (x : ℕ). x == 0) e))

pub returns-then-is_empty-clause-asked : goal.returns-then-is_empty-clause-asked
returns-then-is_empty-clause-asked g c = calls_none g.O.Outside.noted _ _ _ refl

pub returns-in-Ok-clause-asked : goal.returns-in-Ok-clause-asked
returns-in-Ok-clause-asked g c = let f = c.args.flags.now in calls_set g.O.Outside.noted f.direction f.far f.near f.set f.cleared c.target-side.result c.changed_uid-uid.result _ _ c.target-side.ensures c.changed_uid-uid.ensures c.add_flags.ensures.asked

pub returns-in-Err-clause-asked : goal.returns-in-Err-clause-asked
returns-in-Err-clause-asked g c = let f = c.args.flags.now in calls_set g.O.Outside.noted f.direction f.far f.near f.set f.cleared c.target-side.result c.changed_uid-uid.result _ _ c.target-side.ensures c.changed_uid-uid.ensures c.add_flags.ensures.asked
