use Rattle.std.proofs.Common.{◌≡◌, refl, sym, ◌∙◌}
use Rattle.std.proofs.lemmas.Result.{err_from_is_err_and}
use Rattle.planner.specs.Listed.{marks_of}
use Rattle.runner.specs.Answers.{AreDrawn}
use Rattle.runner.proofs.PlanFacts.{drawn_in, in_range, plan_run, planned_by, repeats_in, same_state, takes_plan}
use Rattle.runner.proofs.Validities.{side_reported}
use Rattle.runner.proofs.planning.make_plan.Goals as goal

pub returns-in-Ok-clause-takes : goal.returns-in-Ok-clause-takes
returns-in-Ok-clause-takes g c =
    let s = c.state-state.result.now in
    let both = c.args.both.now in
    let e = c.in-Ok.ensures in
    takes_plan (g.O.Outside.opened c.args.outside.now) s c.in-Ok.plan c.state-state.ensures.state c.requires.journal (e.has_text (in_range both.far both.near s c.requires.far_numbers c.requires.near_numbers c.state-state.ensures.sound)) e.run c.requires.room e.agrees

pub returns-in-Ok-clause-drawn : goal.returns-in-Ok-clause-drawn
returns-in-Ok-clause-drawn g c =
    let s = c.state-state.result.now in
    let both = c.args.both.now in
    let e = c.in-Ok.ensures in
    let given : c.in_ok-marks.marks.items ≡ marks_of c.in-Ok.plan.steps = sym (e.given ∙ c.deref.ensures.value) in
    let drawn : AreDrawn (g.R.Rng.stream c.args.rng.now) both.far both.near s c.args.options.now (marks_of c.in-Ok.plan.steps) = rw (sym given) c.in_ok-marks.ensures.drawn in
    drawn_in (g.O.Outside.opened c.args.outside.now) s _ both.far both.near _ c.in-Ok.plan.steps c.state-state.ensures.state drawn
    (record { plan = c.in-Ok.plan; steps_are = refl; exact = e.exact; once = e.once; in_order = e.in_order; flags = e.flags })

pub returns-in-Ok-clause-plan : goal.returns-in-Ok-clause-plan
returns-in-Ok-clause-plan g c = λ w order is shown mine.
    let s = c.state-state.result.now in
    let both = c.args.both.now in
    let e = c.in-Ok.ensures in
    let opened = g.O.Outside.opened c.args.outside.now in
    let given : c.in_ok-marks.marks.items ≡ marks_of c.in-Ok.plan.steps = sym (e.given ∙ c.deref.ensures.value) in
    let drawn : AreDrawn (g.R.Rng.stream c.args.rng.now) both.far both.near s c.args.options.now (marks_of c.in-Ok.plan.steps) = rw (sym given) c.in_ok-marks.ensures.drawn in
    planned_by g.O.Outside.ours w s c.args.options.now both.far both.near (same_state opened s w.state c.state-state.ensures.state is) shown c.in-Ok.plan _ drawn mine
    (plan_run opened s c.in-Ok.plan c.state-state.ensures.state e.run c.requires.room) e.sides.0 e.sides.1 (rw (e.given) e.written.0) e.written.1 e.keywords

pub returns-in_err-marks-clause-repeats : goal.returns-in_err-marks-clause-repeats
returns-in_err-marks-clause-repeats g c =
    let e = err_from_is_err_and c.from_residual.result c.from_residual.ensures.1 in
    let both = c.args.both.now in
    rw (e.1, e.2) (λ is. repeats_in (g.O.Outside.opened c.args.outside.now) c.state-state.result.now _ both.far both.near _ c.state-state.ensures.state (c.in_err-marks.ensures.repeats is))

pub returns-clause-changed : goal.returns-clause-changed
returns-clause-changed g c = λ side is.
    let both = c.args.both.now in
    let reported = c.in-Err-ValidityChanged.side in
    let one = c.in-Err-ValidityChanged.ensures.changed reported in
    side_reported (g.O.Outside.opened c.args.outside.now) c.state-state.result.now both.far both.near reported side is c.state-state.ensures.state (one.0 (rw c.in-Err-ValidityChanged.field-0-is refl))
