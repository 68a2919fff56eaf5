use Rattle.std.proofs.Common.{refl, true}
use Rattle.mailcore.specs.KeywordNames.{kept}
use Rattle.mailcore.specs.Sides.{target}
use Rattle.law_outcome.specs.Steps.{changed_uid}
use Rattle.rules.specs.declared.plan.Step.TheVariants as step
use Rattle.sync_state.specs.declared.journal.Logged.TheVariants.{Done}
use Rattle.run_states.specs.Conditions.{Underway}
use Rattle.runner.proofs.PartCalls.{from_box, left_step, line_of_box, passed_call}
use Rattle.runner.proofs.Stages.{done_underway, left_by, ready_arrives, ready_held, ready_named, ready_underway, whole_made}
use Rattle.runner.proofs.Wholes.{marked}
use Rattle.runner.proofs.Within.{deleted_whole}
use Rattle.runner.proofs.Asking.{calls_gone}
use Rattle.runner.proofs.changing.mark_deleted.Goals as goal

pub add_flags-requires : goal.add_flags-requires
add_flags-requires g c = record { is_open = c.requires.1.0.boxes c.target-side.result }

pub returns-in-Ok-clause-part : goal.returns-in-Ok-clause-part
returns-in-Ok-clause-part g c =
    let opened = g.O.Outside.opened c.args.outside.now in
    let d = c.args.direction in
    let far = c.args.far in
    let near = c.args.near in
    let s1 = g.O.Outside.seen c.add_flags.new.self in
    passed_call _ _ _ _ _ _ _ _ _ _ _ c.in-Ok.ensures.call
    (λ m at a own. whole_made g.opening opened (step.Gone d far near) c.requires.1.1 refl _ m s1.device a at (marked d far near (kept (g.O.Outside.keywords c.args.outside.now) c.only.result) m s1.device (deleted_whole _ c.only.result c.only.ensures) (rw (c.target-side.ensures, c.changed_uid-uid.ensures) at own)))

pub returns-in-Err-clause-part : goal.returns-in-Err-clause-part
returns-in-Err-clause-part g c =
    let opened = g.O.Outside.opened c.args.outside.now in
    let d = c.args.direction in
    let far = c.args.far in
    let near = c.args.near in
    let s1 = g.O.Outside.seen c.add_flags.new.self in
    rw c.step_fault.ensures (left_step _ _ _ _ _ _ _ _ _ _ c.args.number opened _ c.in-Err.ensures.call (line_of_box _)
    (λ m at a own. rw own (ready_held g.opening opened true m (ready_arrives g.opening opened true _ m a at)))
    (λ m at a own reported. (
      from_box c.in-Err.fault reported,
      left_by (Underway g.opening) _ _ c.in-Err.fault m s1.device own
          (ready_underway g.opening opened true m (ready_arrives g.opening opened true _ m a at))
          (λ part. ready_underway g.opening opened true s1.device (ready_named g.opening opened (step.Gone d far near) (target d) (changed_uid d far near) c.requires.1.1 refl _ m s1.device a at (rw (c.target-side.ensures, c.changed_uid-uid.ensures) at part)))
          (λ x does. done_underway g.opening opened Done s1.device (whole_made g.opening opened (step.Gone d far near) c.requires.1.1 refl _ m s1.device a at (marked d far near (kept (g.O.Outside.keywords c.args.outside.now) c.only.result) m s1.device (deleted_whole _ c.only.result c.only.ensures) (rw (c.target-side.ensures, c.changed_uid-uid.ensures) at does)))),
    )))

pub returns-in-Ok-clause-asked : goal.returns-in-Ok-clause-asked
returns-in-Ok-clause-asked g c = calls_gone g.O.Outside.noted c.args.direction c.args.far c.args.near c.target-side.result c.changed_uid-uid.result c.only.result _ _ c.target-side.ensures c.changed_uid-uid.ensures c.only.ensures c.add_flags.ensures.asked

pub returns-in-Err-clause-asked : goal.returns-in-Err-clause-asked
returns-in-Err-clause-asked g c = calls_gone g.O.Outside.noted c.args.direction c.args.far c.args.near c.target-side.result c.changed_uid-uid.result c.only.result _ _ c.target-side.ensures c.changed_uid-uid.ensures c.only.ensures c.add_flags.ensures.asked
