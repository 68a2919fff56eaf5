use Rattle.std.proofs.Common.{◌≤◌, ◌<◌, length, min, take, rules}
use Rattle.book.specs.Agreement.{copies_of}
use Rattle.book.proofs.TakenLemmas.{all_copies_known, no_copy_known, one_copy_known}
use Rattle.book.proofs.taken.Taken.add_copies.Goals as goal

pub loop-i-init : goal.loop-i-init
loop-i-init c = λ entries plan knows. no_copy_known entries plan c.args.steps.now c.args.log.now c.args.self.now knows

pub loop-i-preserved : goal.loop-i-preserved
loop-i-preserved c = λ entries plan knows.
    let steps = c.args.steps.now in
    let log = c.args.log.now in
    let i = c.loop-i.i in
    let in_steps : i < length steps = search rules in
    let in_log : i < length log = search rules in
    one_copy_known entries plan steps log i c.index-steps-i.result c.index-log-i.result c.add_copy.new.self in_steps in_log c.index-steps-i.is c.index-log-i.is
    (c.in_ok-add_copy.ensures entries plan (copies_of steps (take i log)) (c.loop-i.invariant entries plan knows))

pub returns : goal.returns
returns c = λ entries plan knows.
    let steps = c.args.steps.now in
    let log = c.args.log.now in
    let past : min (length steps) (length log) ≤ c.loop-i.i = search rules in
    all_copies_known entries plan steps log c.loop-i.i c.loop-i.self past (c.loop-i.invariant entries plan knows)
