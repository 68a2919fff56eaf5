use Rattle.std.proofs.Common.{true, false}
use Rattle.book.specs.BookLogs.{begun}
use Rattle.outside.specs.Opened.{turned}
use Rattle.run_states.specs.Conditions.{Underway}
use Rattle.runner.specs.Before.{world_shown}
use Rattle.run_states.specs.Openings.{once_listed}
use Rattle.run_states.proofs.Growth.{underway_any}
use Rattle.runner.proofs.PartCalls.{book_unrefused, from_book, left_call, line_of_book, passed_call}
use Rattle.runner.proofs.Begun.{clear_underway, half_written, made_arrives, plan_written}
use Rattle.runner.proofs.Stages.{left_by, ready_underway}
use Rattle.runner.proofs.opening.write_plan.Goals as goal

pub returns-in-Ok-clause-part : goal.returns-in-Ok-clause-part
returns-in-Ok-clause-part g c =
    let s1 = g.O.Outside.seen c.begin.new.self in
    rw c.in-Ok.ensures.opened (passed_call _ _ _ _ _ _ _ _ _ _ _ c.in-Ok.ensures.call (λ m at a own. plan_written g.opening _ c.args.plan _ m s1.device a at own))

pub returns-in-Err-clause-part : goal.returns-in-Err-clause-part
returns-in-Err-clause-part g c =
    let opened = g.O.Outside.opened c.args.outside.now in
    let plan = c.args.plan in
    let s1 = g.O.Outside.seen c.begin.new.self in
    rw c.call_fault.ensures (left_call _ _ _ _ _ _ _ _ _ _ _ (book_unrefused _) c.in-Err.ensures.call (line_of_book _) (λ m at a own reported. (
      from_book c.in-Err.fault reported,
      left_by (Underway g.opening) _ _ c.in-Err.fault m s1.device own
          (let p = made_arrives g.opening opened plan _ m a at in clear_underway g.opening opened true m p.clear)
          (half_written g.opening opened plan _ m s1.device a at)
          (λ x t. underway_any g.opening (world_shown (turned (λ _. begun plan) opened)) s1.device (let p = made_arrives g.opening opened plan _ m a at in p.clear.unlisted) (ready_underway (once_listed g.opening (world_shown (turned (λ _. begun plan) opened))) (turned (λ _. begun plan) opened) false s1.device (plan_written g.opening opened plan _ m s1.device a at t))),
    )))
