use Rattle.std.proofs.Common.{refl}
use Rattle.rules.specs.Scene.{scene}
use Rattle.planner.proofs.Theorem.{by_value, exactly, rising, apart, carrying, in_turn}
use Rattle.planner.proofs.Agreeing.{agreeing}
use Rattle.planner.proofs.plan.plan.Goals as goal

pub returns-clause-exact : goal.returns-clause-exact
returns-clause-exact c =
    let s = scene c.args.far.now c.args.near.now c.args.state.now c.args.options.now in
    by_value _ _ _ (exactly s s refl c.args.marks.now _ _ c.as_slice-entries.ensures.pairs c.requires refl refl) c.plan_in.ensures.plan

pub returns-clause-once : goal.returns-clause-once
returns-clause-once c =
    let s = scene c.args.far.now c.args.near.now c.args.state.now c.args.options.now in
    by_value _ _ _ (apart _ (rising s c.args.marks.now _ _ c.as_slice-far.ensures.rising c.as_slice-near.ensures.rising c.as_slice-entries.ensures.pairs refl refl)) c.plan_in.ensures.plan

pub returns-clause-in_order : goal.returns-clause-in_order
returns-clause-in_order c =
    let s = scene c.args.far.now c.args.near.now c.args.state.now c.args.options.now in
    by_value _ _ _ (rising s c.args.marks.now _ _ c.as_slice-far.ensures.rising c.as_slice-near.ensures.rising c.as_slice-entries.ensures.pairs refl refl) c.plan_in.ensures.plan

pub returns-clause-flags : goal.returns-clause-flags
returns-clause-flags c =
    let s = scene c.args.far.now c.args.near.now c.args.state.now c.args.options.now in
    by_value _ _ _ (carrying s s refl c.args.marks.now _ c.as_slice-far.ensures.rising c.as_slice-near.ensures.rising refl) c.plan_in.ensures.plan

pub returns-clause-given : goal.returns-clause-given
returns-clause-given c =
    let s = scene c.args.far.now c.args.near.now c.args.state.now c.args.options.now in
    by_value _ _ _ (in_turn s s refl c.args.marks.now _ c.requires refl) c.plan_in.ensures.plan

pub returns-clause-written : goal.returns-clause-written
returns-clause-written c = by_value _ _ _ (refl, refl) c.plan_in.ensures.plan

pub returns-clause-run : goal.returns-clause-run
returns-clause-run c = by_value _ _ _ refl c.plan_in.ensures.plan

pub returns-clause-sides : goal.returns-clause-sides
returns-clause-sides c = by_value _ _ _ (refl, refl) c.plan_in.ensures.plan

pub returns-clause-keywords : goal.returns-clause-keywords
returns-clause-keywords c = by_value _ _ _ refl c.plan_in.ensures.plan

pub returns-clause-agrees : goal.returns-clause-agrees
returns-clause-agrees c =
    let s = scene c.args.far.now c.args.near.now c.args.state.now c.args.options.now in
    by_value _ _ _ (agreeing s s refl c.args.marks.now _ refl refl) c.plan_in.ensures.plan
