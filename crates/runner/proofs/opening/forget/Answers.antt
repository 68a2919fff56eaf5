use Rattle.std.proofs.Common.{◌≡◌, Option, Some, None, true, false, is_some, arith}
use Rattle.std.proofs.lemmas.Grind.{common_steps}
use Rattle.run_states.specs.Conditions.{Underway}
use Rattle.run_states.proofs.Arrived.{underway_arrives}
use Rattle.outside.specs.Devices.{Device}
use Rattle.outside.specs.Opened.{Opened}
use Rattle.runner.specs.Before.{HasNoPlan, HasPlan, IsEmptied}
use Rattle.runner.proofs.PartCalls.{book_unrefused, from_book, left_call, line_of_book, passed_call, passed_none}
use Rattle.runner.proofs.Readings.{forgot, forgot_held, half_forgot, has_none, has_plan, never_both, none_of, none_taken, some_of, stores_kept}
use Rattle.runner.proofs.Stages.{left_by}
use Rattle.runner.proofs.Validities.{missing_here}
use Rattle.runner.proofs.opening.forget.Goals as goal

-- a plan is pending
planned_emptied : (opened : Option Opened) (d : Device) → HasPlan opened → IsEmptied opened d
planned_emptied None d h = h
planned_emptied (Some o) d h = λ idle. absurd (never_both (Some o) h idle)

pub discard-requires : goal.discard-requires
discard-requires g c =
    let opened = g.O.Outside.opened c.args.outside.now in
    let i : is_some c.pending.result ≡ false = grind (arith, common_steps) in
    record { takes = none_taken opened (has_none opened c.requires.1.0 (none_of _ c.pending.result _ c.pending.ensures i)) }

pub returns-in-Ok-clause-part : goal.returns-in-Ok-clause-part
returns-in-Ok-clause-part g c =
    let s1 = g.O.Outside.seen c.discard.new.self in
    let opened = g.O.Outside.opened c.args.outside.now in
    let i : is_some c.pending.result ≡ false = grind (arith, common_steps) in
    let none : HasNoPlan opened = has_none opened c.requires.1.0 (none_of _ c.pending.result _ c.pending.ensures i) in
    rw c.in-Ok.ensures.opened (passed_call _ _ _ _ _ _ _ _ _ _ _ c.in-Ok.ensures.call (λ m at a own. forgot g.opening opened _ m s1.device none a at own))

pub returns-in-Err-clause-part : goal.returns-in-Err-clause-part
returns-in-Err-clause-part g c =
    let s1 = g.O.Outside.seen c.discard.new.self in
    let opened = g.O.Outside.opened c.args.outside.now in
    let i : is_some c.pending.result ≡ false = grind (arith, common_steps) in
    let none : HasNoPlan opened = has_none opened c.requires.1.0 (none_of _ c.pending.result _ c.pending.ensures i) in
    rw c.call_fault.ensures (left_call _ _ _ _ _ _ _ _ _ _ _ (book_unrefused _) c.in-Err.ensures.call (line_of_book _) (λ m at a own reported. (
      from_book c.in-Err.fault reported,
      left_by (Underway g.opening) _ _ c.in-Err.fault m s1.device own
          (underway_arrives g.opening _ m a at.underway)
          (half_forgot g.opening opened _ m s1.device none a at)
          (λ x t. let k = forgot g.opening opened _ m s1.device none a at t in k.underway),
    )))

pub returns-then-is_some-clause-part : goal.returns-then-is_some-clause-part
returns-then-is_some-clause-part g c = passed_none _ _ _ _ c.requires.1.1 (λ k. k)

pub returns-in-Ok-clause-stores : goal.returns-in-Ok-clause-stores
returns-in-Ok-clause-stores g c = λ honest. let w = c.in-Ok.ensures.call in let acts = w.acts in let e = acts.effect honest in stores_kept g.opening _ _ e.mid _ c.requires.1.0 e.before e.following

pub returns-then-is_some-clause-gone : goal.returns-then-is_some-clause-gone
returns-then-is_some-clause-gone g c = λ none.
    let opened = g.O.Outside.opened c.args.outside.now in
    let i : is_some c.pending.result ≡ true = grind (arith, common_steps) in
    let j = some_of _ c.pending.result _ c.pending.ensures i in
    absurd (never_both opened (has_plan opened j.0 j.1) none)

pub returns-in-Ok-clause-gone : goal.returns-in-Ok-clause-gone
returns-in-Ok-clause-gone g c = λ none. rw c.in-Ok.ensures.opened (missing_here (g.O.Outside.opened c.args.outside.now) none)

pub returns-then-is_some-clause-emptied : goal.returns-then-is_some-clause-emptied
returns-then-is_some-clause-emptied g c = λ honest held.
    let opened = g.O.Outside.opened c.args.outside.now in
    let i : is_some c.pending.result ≡ true = grind (arith, common_steps) in
    let j = some_of _ c.pending.result _ c.pending.ensures i in
    planned_emptied opened _ (has_plan opened j.0 j.1)

pub returns-in-Ok-clause-emptied : goal.returns-in-Ok-clause-emptied
returns-in-Ok-clause-emptied g c = λ honest held.
    let w = c.in-Ok.ensures.call in
    let acts = w.acts in
    let e = acts.effect honest in
    forgot_held g.opening (g.O.Outside.opened c.args.outside.now) (g.O.Outside.seen c.args.outside.now).device e.mid (g.O.Outside.seen c.discard.new.self).device c.requires.1.0 e.before held e.following
