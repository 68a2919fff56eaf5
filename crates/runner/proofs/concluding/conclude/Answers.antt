use Rattle.std.proofs.Common.{refl}
use Rattle.run_states.specs.Conditions.{Underway}
use Rattle.runner.specs.Going.{BeforeStep, log_at, plan_at}
use Rattle.runner.specs.Parts.{Passed}
use Rattle.runner.specs.Results.{EndsBy}
use Rattle.runner.proofs.Passes.{end_underway, ended_at, half_ended_at}
use Rattle.runner.proofs.PartCalls.{book_unrefused, from_book, left_call, line_of_book, passed_call}
use Rattle.runner.proofs.Stages.{left_by, ready_arrives, ready_underway}
use Rattle.runner.proofs.Reported.{ends_by}
use Rattle.runner.proofs.concluding.conclude.Goals as goal

pub returns-in-Ok-clause-part : goal.returns-in-Ok-clause-part
returns-in-Ok-clause-part g c =
    let s1 = g.O.Outside.seen c.commit.new.self in
    passed_call _ _ _ _ _ _ _ _ _ _ _ c.in-Ok.ensures.call (λ m at a own. ended_at g.opening (g.O.Outside.opened c.args.outside.now) c.args.is_resumed _ m s1.device c.requires.1.0 c.requires.1.1.1 a at own)

pub returns-in-Err-clause-part : goal.returns-in-Err-clause-part
returns-in-Err-clause-part g c =
    let opened = g.O.Outside.opened c.args.outside.now in
    let seek = c.args.is_resumed in
    let s1 = g.O.Outside.seen c.commit.new.self in
    rw c.call_fault.ensures (left_call _ _ _ _ _ _ _ _ _ _ _ (book_unrefused _) c.in-Err.ensures.call (line_of_book _) (λ m at a own reported. (
      from_book c.in-Err.fault reported,
      left_by (Underway g.opening) _ _ c.in-Err.fault m s1.device own
          (ready_underway g.opening opened seek m (ready_arrives g.opening opened seek _ m a at))
          (half_ended_at g.opening opened seek _ m s1.device c.requires.1.0 c.requires.1.1.1 a at)
          (λ x t. end_underway g.opening s1.device (ended_at g.opening opened seek _ m s1.device c.requires.1.0 c.requires.1.1.1 a at t)),
    )))

pub returns-in-Ok-clause-concluded : goal.returns-in-Ok-clause-concluded
returns-in-Ok-clause-concluded g c =
    let opened = g.O.Outside.opened c.args.outside.now in
    let seek = c.args.is_resumed in
    let s0 = g.O.Outside.seen c.args.outside.now in
    let s1 = g.O.Outside.seen c.commit.new.self in
    let p : Passed (g.O.Outside.honest c.commit.new.self) (BeforeStep g.opening opened seek) (EndsBy g.opening (plan_at opened) (log_at opened)) 0 s0 s1 =
    passed_call _ _ _ _ _ _ _ _ _ _ _ c.in-Ok.ensures.call (λ m at a own. ends_by g.opening opened seek _ m s1.device c.requires.1.0 c.requires.1.1.1 a at own) in
    record { committed = c.in-Ok.ensures.opened; held = c.in-Ok.ensures.held refl; ends = p.reaches }
