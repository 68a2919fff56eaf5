use Rattle.std.proofs.Common.{rules, inr}
use Rattle.run_trial.specs.CourseLines.{said_in}
use Rattle.run_trial.proofs.ActLemmas.{flag_line_adds, remove_line_adds}
use Rattle.run_trial.proofs.CourseLemmas.{arrival_adds}
use Rattle.run_trial.proofs.read.add_line.Goals as goal

pub returns-in-Some-strip_prefix-clause-adds : goal.returns-in-Some-strip_prefix-clause-adds
returns-in-Some-strip_prefix-clause-adds c =
    arrival_adds c.args.line.text.now c.in-Some-strip_prefix.text.now c.args.course.now.arrivals c.add.new.self (said_in c.args.course.now) c.add.result (search rules) (search rules) c.add.ensures.adds

-- what other clients do
pub returns-in-Some-strip_prefix-3-clause-adds : goal.returns-in-Some-strip_prefix-3-clause-adds
returns-in-Some-strip_prefix-3-clause-adds c =
    flag_line_adds c.args.line.text.now c.in-Some-strip_prefix-3.text.now c.args.course.now.acts c.add_flags.new.self (said_in c.args.course.now) c.add_flags.result (search rules) (search rules) c.add_flags.ensures.adds

pub returns-in-Some-strip_prefix-4-clause-adds : goal.returns-in-Some-strip_prefix-4-clause-adds
returns-in-Some-strip_prefix-4-clause-adds c =
    remove_line_adds c.args.line.text.now c.in-Some-strip_prefix-4.text.now c.args.course.now.acts c.add_removal.new.self (said_in c.args.course.now) c.add_removal.result (search rules) (search rules) c.add_removal.ensures.adds

pub returns-in_ok-push-in-Some-stop_of-clause-adds : goal.returns-in_ok-push-in-Some-stop_of-clause-adds
returns-in_ok-push-in-Some-stop_of-clause-adds c =
    inr (inr (inr (inr (inr (record { stop = c.in-Some-stop_of.stop; says = c.in-Some-stop_of.ensures; now = c.in_ok-push-in-Some-stop_of.ensures (said_in c.args.course.now) })))))
