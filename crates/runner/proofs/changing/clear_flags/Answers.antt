use Rattle.std.proofs.Common.{◌≡◌, ◌==◌, ◌∙◌, ℕ, true, refl, ap, sym}
use Rattle.std.proofs.lemmas.Bool.{both_ways, eqb-true}
use Rattle.mailcore.specs.Sides.{target}
use Rattle.rules.specs.declared.plan.Step.TheVariants as step
use Rattle.law_outcome.specs.Steps.{changed_uid}
use Rattle.sync_state.specs.declared.journal.Logged.TheVariants.{Done}
use Rattle.run_states.specs.Conditions.{Underway}
use Rattle.runner.specs.Going.{sets_some}
use Rattle.runner.proofs.PartCalls.{from_box, left_step, line_of_box, passed_call, passed_none}
use Rattle.runner.proofs.Stages.{begun_arrives, begun_held, begun_named, begun_underway, clear_called, done_underway, left_by}
use Rattle.runner.proofs.Wholes.{sets_none}
use Rattle.runner.proofs.SomeFlags.{clear_last}
use Rattle.runner.proofs.Within.{cleared_whole}
use Rattle.runner.proofs.Asking.{calls_cleared, calls_none}
use Rattle.runner.proofs.changing.clear_flags.Goals as goal

pub returns-then-is_empty-clause-part : goal.returns-then-is_empty-clause-part
returns-then-is_empty-clause-part g c =
    let opened = g.O.Outside.opened c.args.outside.now in
    let f = c.args.flags.now in
    let s0 = g.O.Outside.seen c.args.outside.now in
    let none : (f.cleared == 0) ≡ true = sym c.is_empty.ensures ∙ c.if-is_empty.true in
    passed_none _ _ _ _ c.requires.1.1.1.0 (λ at. clear_last g.opening opened f.direction f.far f.near f.set f.cleared c.requires.1.1.0 (eqb-true f.cleared 0 none) _ at)

pub remove_flags-requires : goal.remove_flags-requires
remove_flags-requires g c = record { is_open = c.requires.1.0.boxes c.target-side.result }

pub returns-in-Ok-clause-part : goal.returns-in-Ok-clause-part
returns-in-Ok-clause-part g c =
    let opened = g.O.Outside.opened c.args.outside.now in
    let f = c.args.flags.now in
    let s1 = g.O.Outside.seen c.remove_flags.new.self in
    passed_call _ _ _ _ _ _ _ _ _ _ _ c.in-Ok.ensures.call
    (λ m at a own. let w = cleared_whole g.opening opened _ c.requires.1.1.1.1 f.direction f.far f.near f.set f.cleared c.requires.1.1.0 _ _ at in clear_called g.opening opened f.direction f.far f.near f.set f.cleared c.requires.1.1.0 (sets_some f.set) (sets_none f.set) _ m s1.device a at (rw (c.target-side.ensures, c.changed_uid-uid.ensures, w) at own))

pub returns-in-Err-clause-part : goal.returns-in-Err-clause-part
returns-in-Err-clause-part g c =
    let opened = g.O.Outside.opened c.args.outside.now in
    let f = c.args.flags.now in
    let made = sets_some f.set in
    let s1 = g.O.Outside.seen c.remove_flags.new.self in
    rw c.step_fault.ensures (left_step _ _ _ _ _ _ _ _ _ _ c.args.number opened _ c.in-Err.ensures.call (line_of_box _)
    (λ m at a own. rw own (begun_held g.opening opened made m (begun_arrives g.opening opened made _ m a at)))
    (λ m at a own reported. let w = cleared_whole g.opening opened _ c.requires.1.1.1.1 f.direction f.far f.near f.set f.cleared c.requires.1.1.0 _ _ at in (
      from_box c.in-Err.fault reported,
      left_by (Underway g.opening) _ _ c.in-Err.fault m s1.device own
          (begun_underway g.opening opened made m (begun_arrives g.opening opened made _ m a at))
          (λ part. begun_underway g.opening opened made s1.device (begun_named g.opening opened (step.Flags f.direction f.far f.near f.set f.cleared) (target f.direction) (changed_uid f.direction f.far f.near) c.requires.1.1.0 refl made _ m s1.device a at (rw (c.target-side.ensures, c.changed_uid-uid.ensures) at part)))
          (λ x does. done_underway g.opening opened Done s1.device (clear_called g.opening opened f.direction f.far f.near f.set f.cleared c.requires.1.1.0 made (sets_none f.set) _ m s1.device a at (rw (c.target-side.ensures, c.changed_uid-uid.ensures, w) at does))),
    )))

pub returns-in-Ok-clause-idle : goal.returns-in-Ok-clause-idle
returns-in-Ok-clause-idle g c = λ e. absurd (both_ways (c.args.flags.now.cleared == 0) (sym c.is_empty.ensures ∙ c.if-is_empty.false) (ap (λ (x : ℕ). x == 0) e))

pub returns-in-Err-clause-idle : goal.returns-in-Err-clause-idle
returns-in-Err-clause-idle g c = λ e. absurd (both_ways (c.args.flags.now.cleared == 0) (sym c.is_empty.ensures ∙ c.if-is_empty.false) (ap (λ (x : ℕ). x == 0) e))

pub returns-then-is_empty-clause-asked : goal.returns-then-is_empty-clause-asked
returns-then-is_empty-clause-asked g c = calls_none g.O.Outside.noted _ _ _ refl

pub returns-in-Ok-clause-asked : goal.returns-in-Ok-clause-asked
returns-in-Ok-clause-asked g c = let f = c.args.flags.now in calls_cleared g.O.Outside.noted f.direction f.far f.near f.set f.cleared c.target-side.result c.changed_uid-uid.result _ _ c.target-side.ensures c.changed_uid-uid.ensures c.remove_flags.ensures.asked

pub returns-in-Err-clause-asked : goal.returns-in-Err-clause-asked
returns-in-Err-clause-asked g c = let f = c.args.flags.now in calls_cleared g.O.Outside.noted f.direction f.far f.near f.set f.cleared c.target-side.result c.changed_uid-uid.result _ _ c.target-side.ensures c.changed_uid-uid.ensures c.remove_flags.ensures.asked
