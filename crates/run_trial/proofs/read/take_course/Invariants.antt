use Rattle.std.proofs.Common.{◌≡◌, ◌≤◌, ◌++◌, ℕ, List, length}
use Rattle.std.specs.Prelude.{codes}
use Rattle.texts.specs.Lines.{line_count}
use Rattle.run_trial.specs.CourseLines.{AllSay, said_in}
use Rattle.run_trial.specs.Courses.{AreLines, LacksLine}
use Rattle.run_trial.proofs.read.take_course.Given as goal

abbrev pub invariant-loop-line : goal.invariant-loop-line
invariant-loop-line l = record {
  count : line_count l.lines ≤ line_count l.fn.lines;
  tries : l.course.tries ≡ l.fn.course.tries;
  taken : (before : List ℕ) × AreLines before × (l.fn.lines.rest.now ≡ before ++ l.lines.rest.now) × AllSay before (said_in l.fn.course) (said_in l.course);
  journal : LacksLine (codes "journal ") l.fn.lines.rest.now → l.course.journal ≡ l.fn.course.journal;
  arrivals : LacksLine (codes "arrive ") l.fn.lines.rest.now → l.course.arrivals ≡ l.fn.course.arrivals;
  acts : LacksLine (codes "flag ") l.fn.lines.rest.now → LacksLine (codes "remove ") l.fn.lines.rest.now → l.course.acts ≡ l.fn.course.acts;
}

abbrev pub decreases-loop-line : goal.decreases-loop-line
decreases-loop-line l = length l.lines.rest.now
