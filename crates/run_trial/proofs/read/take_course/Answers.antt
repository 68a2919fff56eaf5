use Rattle.std.proofs.Common.{◌∙◌, arith}
use Rattle.std.specs.Prelude.{codes}
use Rattle.run_trial.proofs.CourseLemmas.{line_lacks, lines_more, rest_after, say_more}
use Rattle.run_trial.proofs.read.take_course.Goals as goal

pub loop-line-preserved : goal.loop-line-preserved
loop-line-preserved c =
    let so_far = c.loop-line.invariant in
    let before = so_far.taken.0 in
    let are = so_far.taken.1 in
    let whole = so_far.taken.2 in
    let line = c.in-Some.ensures.line in
    let text = c.in-Some.line.text.now in
    record {
      count = omega (arith, so_far.count, c.take_if.ensures.count);
      tries = c.add_line.ensures.tries ∙ so_far.tries;
      taken = (_, lines_more before text are, rest_after _ before _ text _ whole line, say_more before text _ _ _ so_far.taken.3 (c.in_ok-add_line.ensures.adds));
      journal = λ lacks. c.add_line.ensures.journal (line_lacks (codes "journal ") _ before _ text _ lacks are whole line) ∙ so_far.journal lacks;
      arrivals = λ lacks. c.add_line.ensures.arrivals (line_lacks (codes "arrive ") _ before _ text _ lacks are whole line) ∙ so_far.arrivals lacks;
      acts = λ flags removals. c.add_line.ensures.acts (line_lacks (codes "flag ") _ before _ text _ flags are whole line)
          (line_lacks (codes "remove ") _ before _ text _ removals are whole line) ∙ so_far.acts flags removals;
    }
