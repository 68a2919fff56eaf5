use Rattle.std.proofs.Common.{None, false, refl, rules, arith}
use Rattle.std.proofs.lemmas.Result.{err_from_is_err_and}
use Rattle.mailcore.specs.declared.side.Side.TheVariants.{Far, Near}
use Rattle.mailcore.specs.KeywordNames.{kept}
use Rattle.runner.specs.Going.{AfterCopy, CopiesUnder}
use Rattle.runner.proofs.StepParts.{step_left_after}
use Rattle.runner.proofs.PartCalls.{from_box, left_lost, left_step, line_of_box, passed_after, passed_call}
use Rattle.runner.proofs.Sourced.{made_fit, void_absent, void_unfit}
use Rattle.runner.proofs.Stages.{carry_left, carry_reported, carry_unreported, never_absent, never_unfit, ready_arrives, ready_held}
use Rattle.runner.proofs.Within.{copy_whole}
use Rattle.runner.proofs.Asking.{comes_then, copied, looked}
use Rattle.runner.proofs.copying.copy.Goals as goal

pub carry-requires-clause-far_open : goal.carry-requires-clause-far_open
carry-requires-clause-far_open g c = c.requires.1.0.boxes Far

pub carry-requires-clause-near_open : goal.carry-requires-clause-near_open
carry-requires-clause-near_open g c = c.requires.1.0.boxes Near

pub find_copy-requires : goal.find_copy-requires
find_copy-requires g c κs within =
    let next : CopiesUnder (g.O.Outside.opened c.args.outside.now) c.args.direction c.args.mark = record { uid = c.args.uid; flags = c.args.flags; is = c.requires.1.1.0 } in
    (search rules, rw c.carry.ensures.opened (c.requires.1.0, next))

pub returns-in-Err-clause-part : goal.returns-in-Err-clause-part
returns-in-Err-clause-part g c =
    let opened = g.O.Outside.opened c.args.outside.now in
    let s1 = g.O.Outside.seen c.carry.new.self in
    rw c.step_fault.ensures (left_step _ _ _ _ _ _ _ _ _ _ c.args.number opened _ c.in-Err.ensures.call (line_of_box _)
    (λ m at a own. rw own (ready_held g.opening opened false m (ready_arrives g.opening opened false _ m a at)))
    (λ m at a own reported. let w = copy_whole g.opening opened _ c.requires.1.1.1 c.args.direction c.args.uid c.args.flags c.args.mark c.requires.1.1.0 _ at in (from_box c.in-Err.fault reported, carry_left g.opening opened c.args.direction c.args.uid c.args.flags c.args.mark c.requires.1.1.0 c.in-Err.fault _ m s1.device a at (rw w at own))))

pub returns-in-Absent-clause-part : goal.returns-in-Absent-clause-part
returns-in-Absent-clause-part g c =
    let opened = g.O.Outside.opened c.args.outside.now in
    let s1 = g.O.Outside.seen c.carry.new.self in
    passed_call _ _ _ _ _ _ _ _ _ _ _ (rw c.in-Absent.is at c.in-Ok.ensures.call)
    (λ m at a own. absurd (never_absent g.opening opened c.args.direction c.args.uid c.args.flags c.args.mark c.requires.1.1.0 _ m s1.device a at own))

pub returns-in-Unfit-clause-part : goal.returns-in-Unfit-clause-part
returns-in-Unfit-clause-part g c =
    let opened = g.O.Outside.opened c.args.outside.now in
    let s1 = g.O.Outside.seen c.carry.new.self in
    passed_call _ _ _ _ _ _ _ _ _ _ _ (rw c.in-Unfit.is at c.in-Ok.ensures.call)
    (λ m at a own. absurd (never_unfit g.opening opened c.args.direction c.args.uid c.args.flags c.args.mark c.requires.1.1.0 _ m s1.device a at own))

pub returns-in-Some-clause-part : goal.returns-in-Some-clause-part
returns-in-Some-clause-part g c =
    let opened = g.O.Outside.opened c.args.outside.now in
    let s1 = g.O.Outside.seen c.carry.new.self in
    passed_call _ _ _ _ _ _ _ _ _ _ _ (rw (c.in-Made.is, c.in-Some.is) at c.in-Ok.ensures.call)
    (λ m at a own. let w = copy_whole g.opening opened _ c.requires.1.1.1 c.args.direction c.args.uid c.args.flags c.args.mark c.requires.1.1.0 _ at in carry_reported g.opening opened c.args.direction c.args.uid c.args.flags c.args.mark c.requires.1.1.0 c.in-Some.copy _ m s1.device a at (rw w at own))

pub returns-in_err-copy-in-None-clause-part : goal.returns-in_err-copy-in-None-clause-part
returns-in_err-copy-in-None-clause-part g c =
    let opened = g.O.Outside.opened c.args.outside.now in
    let s1 = g.O.Outside.seen c.carry.new.self in
    let e = err_from_is_err_and c.from_residual.result c.from_residual.ensures.1 in
    let rest = rw c.carry.ensures.opened at c.in_err-copy-in-None.ensures.part in
    rw (e.1, e.2) (step_left_after _ opened _ _ _ (AfterCopy g.opening opened) _ 1 _ _ s1 _ c.in_err-copy-in-None.ensures.was_honest
    (passed_call _ _ _ _ _ _ _ _ _ _ _ (rw (c.in-Made.is, c.in-None.is) at c.in-Ok.ensures.call)
    (λ m at a own. let w = copy_whole g.opening opened _ c.requires.1.1.1 c.args.direction c.args.uid c.args.flags c.args.mark c.requires.1.1.0 _ at in carry_unreported g.opening opened c.args.direction c.args.uid c.args.flags c.args.mark c.requires.1.1.0 None _ m s1.device a at (rw w at own)))
    rest)

pub returns-in-Some-2-clause-part : goal.returns-in-Some-2-clause-part
returns-in-Some-2-clause-part g c =
    let opened = g.O.Outside.opened c.args.outside.now in
    let s1 = g.O.Outside.seen c.carry.new.self in
    let rest = rw (c.carry.ensures.opened, c.in-Some-2.is) at c.in_ok-copy-in-None.ensures.part in
    passed_after _ _ _ (AfterCopy g.opening opened) _ 1 0 _ s1 _ c.in_ok-copy-in-None.ensures.was_honest
    (passed_call _ _ _ _ _ _ _ _ _ _ _ (rw (c.in-Made.is, c.in-None.is) at c.in-Ok.ensures.call)
    (λ m at a own. let w = copy_whole g.opening opened _ c.requires.1.1.1 c.args.direction c.args.uid c.args.flags c.args.mark c.requires.1.1.0 _ at in carry_unreported g.opening opened c.args.direction c.args.uid c.args.flags c.args.mark c.requires.1.1.0 None _ m s1.device a at (rw w at own)))
    rest

pub returns-in-None-2-clause-part : goal.returns-in-None-2-clause-part
returns-in-None-2-clause-part g c =
    let opened = g.O.Outside.opened c.args.outside.now in
    let s0 = g.O.Outside.seen c.args.outside.now in
    let s1 = g.O.Outside.seen c.carry.new.self in
    let s2 = g.O.Outside.seen c.find_copy.new.outside in
    let rest = rw (c.carry.ensures.opened, c.in-None-2.is) at c.in_ok-copy-in-None.ensures.part in
    left_lost _ _ _ 1 s0 s2 (omega arith)
    (passed_after _ _ _ (AfterCopy g.opening opened) _ 1 0 _ s1 _ c.in_ok-copy-in-None.ensures.was_honest
    (passed_call _ _ _ _ _ _ _ _ _ _ _ (rw (c.in-Made.is, c.in-None.is) at c.in-Ok.ensures.call)
    (λ m at a own. let w = copy_whole g.opening opened _ c.requires.1.1.1 c.args.direction c.args.uid c.args.flags c.args.mark c.requires.1.1.0 _ at in carry_unreported g.opening opened c.args.direction c.args.uid c.args.flags c.args.mark c.requires.1.1.0 None _ m s1.device a at (rw w at own)))
    rest)
    Far 3 (λ more. record { far = refl; protocol = refl; copied = more })

pub returns-in-Absent-clause-source : goal.returns-in-Absent-clause-source
returns-in-Absent-clause-source g c = void_absent _ g.O.Outside.ours g.O.Outside.alone c.args.direction c.args.uid (kept (g.O.Outside.keywords c.args.outside.now) c.args.flags) c.args.mark _ _ (rw c.in-Absent.is at c.in-Ok.ensures.call)

pub returns-in-Unfit-clause-source : goal.returns-in-Unfit-clause-source
returns-in-Unfit-clause-source g c = void_unfit _ g.O.Outside.ours g.O.Outside.alone c.args.direction c.args.uid (kept (g.O.Outside.keywords c.args.outside.now) c.args.flags) c.args.mark _ _ (rw c.in-Unfit.is at c.in-Ok.ensures.call)

pub returns-in-Some-clause-source : goal.returns-in-Some-clause-source
returns-in-Some-clause-source g c =
    made_fit _ g.O.Outside.ours g.O.Outside.alone c.args.direction c.args.uid (kept (g.O.Outside.keywords c.args.outside.now) c.args.flags) c.args.mark _ _ _ c.in-Some.copy (rw c.in-Made.is at c.in-Ok.ensures.call)

pub returns-in-Some-2-clause-source : goal.returns-in-Some-2-clause-source
returns-in-Some-2-clause-source g c = λ h.
    made_fit _ g.O.Outside.ours g.O.Outside.alone c.args.direction c.args.uid (kept (g.O.Outside.keywords c.args.outside.now) c.args.flags) c.args.mark _ _ _ c.in-Some-2.copy (rw c.in-Made.is at c.in-Ok.ensures.call) (c.in_ok-copy-in-None.ensures.was_honest h)

pub returns-in-Err-clause-asked : goal.returns-in-Err-clause-asked
returns-in-Err-clause-asked g c left = (_, copied g.O.Outside.noted (g.O.Outside.opened c.args.outside.now) c.args.direction c.args.uid c.args.flags c.args.mark left _ _ c.requires.1.1.0 c.carry.ensures.asked, tt)

pub returns-in-Absent-clause-asked : goal.returns-in-Absent-clause-asked
returns-in-Absent-clause-asked g c left = (_, copied g.O.Outside.noted (g.O.Outside.opened c.args.outside.now) c.args.direction c.args.uid c.args.flags c.args.mark left _ _ c.requires.1.1.0 c.carry.ensures.asked, refl)

pub returns-in-Unfit-clause-asked : goal.returns-in-Unfit-clause-asked
returns-in-Unfit-clause-asked g c left = (_, copied g.O.Outside.noted (g.O.Outside.opened c.args.outside.now) c.args.direction c.args.uid c.args.flags c.args.mark left _ _ c.requires.1.1.0 c.carry.ensures.asked, refl)

pub returns-in-Some-clause-asked : goal.returns-in-Some-clause-asked
returns-in-Some-clause-asked g c left = (_, copied g.O.Outside.noted (g.O.Outside.opened c.args.outside.now) c.args.direction c.args.uid c.args.flags c.args.mark left _ _ c.requires.1.1.0 c.carry.ensures.asked, refl)

pub returns-in_err-copy-in-None-clause-asked : goal.returns-in_err-copy-in-None-clause-asked
returns-in_err-copy-in-None-clause-asked g c left =
    let e = err_from_is_err_and c.from_residual.result c.from_residual.ensures.1 in
    rw c.in_err-copy-in-None.ensures.asked (_, copied g.O.Outside.noted (g.O.Outside.opened c.args.outside.now) c.args.direction c.args.uid c.args.flags c.args.mark left _ _ c.requires.1.1.0 c.carry.ensures.asked, rw e.1 tt)

pub returns-in-Some-2-clause-asked : goal.returns-in-Some-2-clause-asked
returns-in-Some-2-clause-asked g c left = (
  _,
  comes_then g.O.Outside.noted _ _ _ _ _ _ (copied g.O.Outside.noted (g.O.Outside.opened c.args.outside.now) c.args.direction c.args.uid c.args.flags c.args.mark left _ _ c.requires.1.1.0 c.carry.ensures.asked)
      (looked g.O.Outside.noted _ _ _ _ _ _ _ c.in_ok-copy-in-None.ensures.asked),
  refl,
)

pub returns-in-None-2-clause-asked : goal.returns-in-None-2-clause-asked
returns-in-None-2-clause-asked g c left = (
  _,
  comes_then g.O.Outside.noted _ _ _ _ _ _ (copied g.O.Outside.noted (g.O.Outside.opened c.args.outside.now) c.args.direction c.args.uid c.args.flags c.args.mark left _ _ c.requires.1.1.0 c.carry.ensures.asked)
      (looked g.O.Outside.noted _ _ _ _ _ _ _ c.in_ok-copy-in-None.ensures.asked),
  tt,
)
