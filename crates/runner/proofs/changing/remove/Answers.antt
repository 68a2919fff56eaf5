use Rattle.std.proofs.Common.{true, refl}
use Rattle.mailcore.specs.declared.side.Side.TheVariants.{Far}
use Rattle.rules.specs.declared.plan.Step.TheVariants as step
use Rattle.sync_state.specs.declared.journal.Logged.TheVariants.{Done}
use Rattle.run_states.specs.Conditions.{Underway}
use Rattle.runner.proofs.PartCalls.{from_box, left_step, line_of_box, passed_call}
use Rattle.runner.proofs.Stages.{done_underway, expunge_made, left_by, ready_arrives, ready_held, ready_named, ready_underway}
use Rattle.runner.proofs.Asking.{calls_removed}
use Rattle.runner.proofs.changing.remove.Goals as goal

pub expunge-requires : goal.expunge-requires
expunge-requires g c = record { far_open = c.requires.1.0.boxes Far; is_open = c.requires.1.0.boxes c.args.side }

pub returns-in-Ok-clause-part : goal.returns-in-Ok-clause-part
returns-in-Ok-clause-part g c =
    let opened = g.O.Outside.opened c.args.outside.now in
    let side = c.args.side in
    let uid = c.args.uid in
    let s1 = g.O.Outside.seen c.expunge.new.self in
    passed_call _ _ _ _ _ _ _ _ _ _ _ c.in-Ok.ensures.call
    (λ m at a own. expunge_made g.opening opened side uid c.requires.1.1 _ m s1.device a at own)

pub returns-in-Err-clause-part : goal.returns-in-Err-clause-part
returns-in-Err-clause-part g c =
    let opened = g.O.Outside.opened c.args.outside.now in
    let side = c.args.side in
    let uid = c.args.uid in
    let s1 = g.O.Outside.seen c.expunge.new.self in
    rw c.step_fault.ensures (left_step _ _ _ _ _ _ _ _ _ _ c.args.number opened _ c.in-Err.ensures.call (line_of_box _)
    (λ m at a own. rw own (ready_held g.opening opened true m (ready_arrives g.opening opened true _ m a at)))
    (λ m at a own reported. (
      from_box c.in-Err.fault reported,
      left_by (Underway g.opening) _ _ c.in-Err.fault m s1.device own
          (ready_underway g.opening opened true m (ready_arrives g.opening opened true _ m a at))
          (λ part. ready_underway g.opening opened true s1.device (ready_named g.opening opened (step.Expunge side uid) side uid c.requires.1.1 refl _ m s1.device a at part))
          (λ x does. done_underway g.opening opened Done s1.device (expunge_made g.opening opened side uid c.requires.1.1 _ m s1.device a at does)),
    )))

pub returns-in-Ok-clause-asked : goal.returns-in-Ok-clause-asked
returns-in-Ok-clause-asked g c = calls_removed g.O.Outside.noted c.args.side c.args.uid _ _ c.expunge.ensures.asked

pub returns-in-Err-clause-asked : goal.returns-in-Err-clause-asked
returns-in-Err-clause-asked g c = calls_removed g.O.Outside.noted c.args.side c.args.uid _ _ c.expunge.ensures.asked
