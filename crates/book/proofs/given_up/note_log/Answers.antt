use Rattle.std.proofs.Common.{◌≡◌, ◌<◌, ◌≤◌, length, rules}
use Rattle.book.proofs.GivenUpSteps.{notes_next, notes_past}
use Rattle.book.proofs.given_up.note_log.Goals as goal

pub loop-i-preserved : goal.loop-i-preserved
loop-i-preserved c =
    let steps = c.args.steps.now in
    let log = c.args.log.now in
    let i = c.loop-i.i in
    let in_steps : i < length steps = search rules in
    let in_log : i < length log = search rules in
    notes_next steps log i c.index-steps-i.result c.args.list.now.items c.loop-i.list.items c.note_step.new.list.items in_steps in_log c.index-steps-i.is c.loop-i.invariant c.note_step.ensures

pub returns-else-count-steps : goal.returns-else-count-steps
returns-else-count-steps c =
    let steps = c.args.steps.now in
    let past : length steps ≤ c.loop-i.i = search rules in
    notes_past steps c.args.log.now c.loop-i.i c.args.list.now.items c.loop-i.list.items past c.loop-i.invariant
