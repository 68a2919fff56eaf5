use Rattle.std.proofs.Common.{[], ◌∷◌}
use Rattle.sync_state.specs.StateText.{state_title, run_line, far_line, near_line}
use Rattle.sync_state.proofs.LineLemmas.{one_line, line_more}
use Rattle.sync_state.proofs.StateLemmas.{bad_title, bad_run, bad_far, bad_near}
use Rattle.sync_state.proofs.state_text.read_head.Goals as goal

pub returns-in_default-clause-refused : goal.returns-in_default-clause-refused
returns-in_default-clause-refused c = bad_title c.args.lines.now.rest.now (c.in_default.ensures.none)

pub returns-in_default-take-clause-refused : goal.returns-in_default-take-clause-refused
returns-in_default-take-clause-refused c =
    let text = c.args.lines.now.rest.now in
    let l1 = one_line (state_title c.in-Some.version) text c.take.new.lines.rest.now c.in-Some.ensures.some.one_line c.in-Some.ensures.some.parts in
    bad_run c.in-Some.version text c.take.new.lines.rest.now l1 c.in_default-take.ensures.none

pub returns-in_default-take-2-clause-refused : goal.returns-in_default-take-2-clause-refused
returns-in_default-take-2-clause-refused c =
    let text = c.args.lines.now.rest.now in
    let l1 = one_line (state_title c.in-Some.version) text c.take.new.lines.rest.now c.in-Some.ensures.some.one_line c.in-Some.ensures.some.parts in
    let run = c.in-Some-take.ensures.some in
    let l2 = line_more (state_title c.in-Some.version ∷ []) (run_line c.in-Some-take.run'.0) text c.take.new.lines.rest.now c.take-2.new.lines.rest.now l1 run.one_line run.parts in
    bad_far c.in-Some.version text c.take-2.new.lines.rest.now c.in-Some-take.run' run.fitting l2 c.in_default-take-2.ensures.none

pub returns-in_default-take-3-clause-refused : goal.returns-in_default-take-3-clause-refused
returns-in_default-take-3-clause-refused c =
    let text = c.args.lines.now.rest.now in
    let l1 = one_line (state_title c.in-Some.version) text c.take.new.lines.rest.now c.in-Some.ensures.some.one_line c.in-Some.ensures.some.parts in
    let run = c.in-Some-take.ensures.some in
    let l2 = line_more (state_title c.in-Some.version ∷ []) (run_line c.in-Some-take.run'.0) text c.take.new.lines.rest.now c.take-2.new.lines.rest.now l1 run.one_line run.parts in
    let far = c.in-Some-take-2.ensures.some in
    let f = c.in-Some-take-2.far in
    let l3 = line_more (state_title c.in-Some.version ∷ run_line c.in-Some-take.run'.0 ∷ []) (far_line f.0.0 f.1.0) text c.take-2.new.lines.rest.now c.take-3.new.lines.rest.now l2 far.one_line far.parts in
    bad_near c.in-Some.version text c.take-3.new.lines.rest.now c.in-Some-take.run' f run.fitting far.fitting l3 c.in_default-take-3.ensures.none

pub returns-clause-ok : goal.returns-clause-ok
returns-clause-ok c =
    let text = c.args.lines.now.rest.now in
    let l1 = one_line (state_title c.in-Some.version) text c.take.new.lines.rest.now c.in-Some.ensures.some.one_line c.in-Some.ensures.some.parts in
    let run = c.in-Some-take.ensures.some in
    let l2 = line_more (state_title c.in-Some.version ∷ []) (run_line c.in-Some-take.run'.0) text c.take.new.lines.rest.now c.take-2.new.lines.rest.now l1 run.one_line run.parts in
    let far = c.in-Some-take-2.ensures.some in
    let f = c.in-Some-take-2.far in
    let l3 = line_more (state_title c.in-Some.version ∷ run_line c.in-Some-take.run'.0 ∷ []) (far_line f.0.0 f.1.0) text c.take-2.new.lines.rest.now c.take-3.new.lines.rest.now l2 far.one_line far.parts in
    let near = c.in-Some-take-3.ensures.some in
    let n = c.in-Some-take-3.near in
    let l4 = line_more (state_title c.in-Some.version ∷ run_line c.in-Some-take.run'.0 ∷ far_line f.0.0 f.1.0 ∷ []) (near_line n.0.0 n.1.0) text c.take-3.new.lines.rest.now c.take-4.new.lines.rest.now l3 near.one_line near.parts in
    record {
      fits = record { run = run.fitting; far_validity = far.fitting.0; max_pulled = far.fitting.1; near_validity = near.fitting.0; max_pushed = near.fitting.1 };
      lines = l4;
    }
