use Rattle.std.proofs.Common.{◌≡◌, false, is_some, ap, sym, ◌∙◌, arith, subst}
use Rattle.std.proofs.lemmas.Grind.{common_steps}
use Rattle.std.proofs.lemmas.Result.{err_from_is_err_and}
use Rattle.channels.specs.Scope.{uncovered}
use Rattle.channels.specs.Asked.{Outcome, outcome_of_state, place_of}
use Rattle.channels.specs.Courses.{Makes}
use Rattle.channels.specs.Outcomes.{outcome_of}
use Rattle.channels.proofs.CourseLemmas.{Makes-near, Makes-no_far, Makes-old, Makes-uncovered, OnOk-makings}
use Rattle.channels.proofs.settling.make_absent.Goals as goal

-- a side that Create does not cover
pub returns-in-Some-clause-asked : goal.returns-in-Some-clause-asked
returns-in-Some-clause-asked g c =
    subst (λ (outcome : Outcome). Makes g.S.BoxLists.noted (place_of c.args.place) c.args.absent outcome (g.S.BoxLists.asked c.args.stores.now.stores.now)
    (g.S.BoxLists.asked c.absence.new.stores.stores.now)) (sym c.absence.ensures.ends)
    (Makes-uncovered g.S.BoxLists.noted (place_of c.args.place) c.args.absent (g.S.BoxLists.asked c.args.stores.now.stores.now) (g.S.BoxLists.asked c.absence.new.stores.stores.now)
    (ap is_some (sym c.uncovered.ensures ∙ c.in-Some.is)) (outcome_of_state c.absence.ensures.asked.answer) c.absence.ensures.asked.grown)

-- no new one
pub returns-in_err-find_new-clause-asked : goal.returns-in_err-find_new-clause-asked
returns-in_err-find_new-clause-asked g c =
    let p = err_from_is_err_and c.from_residual.result c.from_residual.ensures.1 in
    let covered : is_some (uncovered c.args.absent c.args.place.of.channel.now.create) ≡ false = grind (arith, common_steps) in
    rw (p.1, p.2) (Makes-old g.S.BoxLists.noted (place_of c.args.place) c.args.absent c.in_err-find_new.field-0.0 (g.S.BoxLists.asked c.args.stores.now.stores.now)
    (g.S.BoxLists.asked c.find_new.new.stores.stores.now) covered c.in_err-find_new.ensures.asked)

-- the far side is not made
pub returns-in_err-make_side-clause-asked : goal.returns-in_err-make_side-clause-asked
returns-in_err-make_side-clause-asked g c =
    let p = err_from_is_err_and c.from_residual-in_err-make_side.result c.from_residual-in_err-make_side.ensures.1 in
    let covered : is_some (uncovered c.args.absent c.args.place.of.channel.now.create) ≡ false = grind (arith, common_steps) in
    rw (p.1, p.2) (Makes-no_far g.S.BoxLists.noted (place_of c.args.place) c.args.absent c.in_err-make_side.field-0.0 (g.S.BoxLists.asked c.args.stores.now.stores.now)
    (g.S.BoxLists.asked c.find_new.new.stores.stores.now) (g.S.BoxLists.asked c.make_side.new.stores.stores.now) covered
    c.in_ok-find_new.ensures.asked c.in_err-make_side.ensures.asked)

-- the near side is made, or not
pub returns-clause-asked : goal.returns-clause-asked
returns-clause-asked g c =
    let covered : is_some (uncovered c.args.absent c.args.place.of.channel.now.create) ≡ false = grind (arith, common_steps) in
    Makes-near g.S.BoxLists.noted (place_of c.args.place) c.args.absent (outcome_of c.make_side-2.result) (g.S.BoxLists.asked c.args.stores.now.stores.now)
    (g.S.BoxLists.asked c.find_new.new.stores.stores.now) (g.S.BoxLists.asked c.make_side.new.stores.stores.now)
    (g.S.BoxLists.asked c.make_side-2.new.stores.stores.now) covered
    c.in_ok-find_new.ensures.asked c.in_ok-make_side.ensures.asked c.make_side-2.ensures.asked

pub returns-clause-asks : goal.returns-clause-asks
returns-clause-asks g c =
    OnOk-makings g.S.BoxLists.noted (place_of c.args.place) c.args.absent (g.S.BoxLists.asked c.args.stores.now.stores.now)
    (g.S.BoxLists.asked c.find_new.new.stores.stores.now) (g.S.BoxLists.asked c.make_side.new.stores.stores.now)
    (g.S.BoxLists.asked c.make_side-2.new.stores.stores.now) c.make_side-2.result
    c.in_ok-find_new.ensures.asked c.in_ok-make_side.ensures.asked c.make_side-2.ensures.asked
