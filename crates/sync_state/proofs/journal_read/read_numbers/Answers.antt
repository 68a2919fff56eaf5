use Rattle.std.proofs.Common.{[], ◌∷◌, sym, subst}
use Rattle.rules.specs.declared.plan.PlanSide.{PlanSide}
use Rattle.sync_state.specs.declared.words.Positive.{Positive}
use Rattle.sync_state.specs.declared.words.Highest.{Highest}
use Rattle.sync_state.specs.StateText.{run_line}
use Rattle.sync_state.specs.JournalText.{journal_title, plan_far_line, plan_near_line}
use Rattle.sync_state.specs.JournalReading.{NumbersRead}
use Rattle.sync_state.proofs.LineLemmas.{one_line, line_more}
use Rattle.sync_state.proofs.JournalLemmas.{bad_title, bad_run, bad_far, bad_near}
use Rattle.sync_state.proofs.journal_read.read_numbers.Goals as goal

abbrev side_of : Positive × (Highest × Positive) → PlanSide
side_of f = record { validity = f.0.0; highest = f.1.0.0; next = f.1.1.0 }

pub returns-in_default-clause-refused : goal.returns-in_default-clause-refused
returns-in_default-clause-refused c = bad_title c.args.lines.now.rest.now c.in_default.ensures.none

pub returns-in_default-take-clause-refused : goal.returns-in_default-take-clause-refused
returns-in_default-take-clause-refused c =
    let v = c.in-Some.version in
    let text = c.args.lines.now.rest.now in
    let l1 = one_line (journal_title v) text c.take.new.lines.rest.now c.in-Some.ensures.some.one_line c.in-Some.ensures.some.parts in
    bad_run v text c.take.new.lines.rest.now l1 c.in_default-take.ensures.none

pub returns-in_default-take-2-clause-refused : goal.returns-in_default-take-2-clause-refused
returns-in_default-take-2-clause-refused c =
    let v = c.in-Some.version in
    let text = c.args.lines.now.rest.now in
    let l1 = one_line (journal_title v) text c.take.new.lines.rest.now c.in-Some.ensures.some.one_line c.in-Some.ensures.some.parts in
    let run = c.in-Some-take.ensures.some in
    let l2 = line_more (journal_title v ∷ []) (run_line c.in-Some-take.run'.0) text c.take.new.lines.rest.now c.take-2.new.lines.rest.now l1 run.one_line run.parts in
    bad_far v text c.take-2.new.lines.rest.now c.in-Some-take.run' run.fitting l2 c.in_default-take-2.ensures.none

pub returns-in_default-take-3-clause-refused : goal.returns-in_default-take-3-clause-refused
returns-in_default-take-3-clause-refused c =
    let v = c.in-Some.version in
    let text = c.args.lines.now.rest.now in
    let l1 = one_line (journal_title v) text c.take.new.lines.rest.now c.in-Some.ensures.some.one_line c.in-Some.ensures.some.parts in
    let run = c.in-Some-take.ensures.some in
    let l2 = line_more (journal_title v ∷ []) (run_line c.in-Some-take.run'.0) text c.take.new.lines.rest.now c.take-2.new.lines.rest.now l1 run.one_line run.parts in
    let far = c.in-Some-take-2.ensures.some in
    let f = side_of c.in-Some-take-2.far in
    let l3 = line_more (journal_title v ∷ run_line c.in-Some-take.run'.0 ∷ []) (plan_far_line f) text c.take-2.new.lines.rest.now c.take-3.new.lines.rest.now l2 far.one_line far.parts in
    bad_near v text c.take-3.new.lines.rest.now c.in-Some-take.run' f run.fitting (record { validity = far.fitting.0; highest = far.fitting.1.0; next = far.fitting.1.1 }) l3 c.in_default-take-3.ensures.none

pub returns-clause-ok : goal.returns-clause-ok
returns-clause-ok c =
    let v = c.in-Some.version in
    let text = c.args.lines.now.rest.now in
    let l1 = one_line (journal_title v) text c.take.new.lines.rest.now c.in-Some.ensures.some.one_line c.in-Some.ensures.some.parts in
    let run = c.in-Some-take.ensures.some in
    let l2 = line_more (journal_title v ∷ []) (run_line c.in-Some-take.run'.0) text c.take.new.lines.rest.now c.take-2.new.lines.rest.now l1 run.one_line run.parts in
    let far = c.in-Some-take-2.ensures.some in
    let f = side_of c.in-Some-take-2.far in
    let l3 = line_more (journal_title v ∷ run_line c.in-Some-take.run'.0 ∷ []) (plan_far_line f) text c.take-2.new.lines.rest.now c.take-3.new.lines.rest.now l2 far.one_line far.parts in
    let near = c.in-Some-take-3.ensures.some in
    let n = side_of c.in-Some-take-3.near in
    let l4 = line_more (journal_title v ∷ run_line c.in-Some-take.run'.0 ∷ plan_far_line f ∷ []) (plan_near_line n) text c.take-3.new.lines.rest.now c.take-4.new.lines.rest.now l3 near.one_line near.parts in
    let rest = c.take-4.new.lines.rest.now in
    let here : NumbersRead (record { version = v; run = c.in-Some-take.run'; far = f; near = n }) text rest = record {
      fits = record {
        run = run.fitting;
        far = record { validity = far.fitting.0; highest = far.fitting.1.0; next = far.fitting.1.1 };
        near = record { validity = near.fitting.0; highest = near.fitting.1.0; next = near.fitting.1.1 };
      };
      lines = l4;
    } in
    subst (λ (x : PlanSide). NumbersRead (record { version = v; run = c.in-Some-take.run'; far = x; near = c.plan_side-2.result }) text rest) (sym c.plan_side.ensures)
    (subst (λ (x : PlanSide). NumbersRead (record { version = v; run = c.in-Some-take.run'; far = f; near = x }) text rest) (sym c.plan_side-2.ensures) here)
