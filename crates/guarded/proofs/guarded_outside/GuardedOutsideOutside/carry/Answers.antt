use Rattle.std.proofs.Common.{◌≡◌, arith, rules, tests}
use Rattle.mailcore.specs.KeywordNames.{kept}
use Rattle.outside.specs.declared.outside.Carried.TheVariants.{Absent}
use Rattle.std.proofs.lemmas.Result.{err_from_is_err_and}
use Rattle.guarded.proofs.Again.{asked_again, not_listed, stops_again, stops_ask}
use Rattle.guarded.proofs.Asking.{let_on_first, refused_first}
use Rattle.guarded.proofs.guarded_outside.GuardedOutsideOutside.carry.Goals as goal

pub returns-then-not-may_change-clause-call : goal.returns-then-not-may_change-clause-call
returns-then-not-may_change-clause-call g c =
    stops_ask _ g.O.Outside.ours g.O.Outside.alone c.args.direction c.args.uid (kept (g.O.Outside.keywords c.args.self.now.outside) c.args.flags) c.args.mark _ _ _ c.stop_refused.ensures.fault c.stop_refused.ensures.stopped

pub returns-in_err-listing-clause-call : goal.returns-in_err-listing-clause-call
returns-in_err-listing-clause-call g c =
    let p = err_from_is_err_and c.from_residual-in_err-listing.result c.from_residual-in_err-listing.ensures.1 in
    rw (p.1, p.2) (not_listed _ _ g.O.Outside.ours g.O.Outside.alone c.args.direction c.args.uid (kept (g.O.Outside.keywords c.args.self.now.outside) c.args.flags) c.args.mark _ _ _ _ _
    c.in_ok-carried.ensures.call c.in-Absent-Pull.is-0 c.in_err-listing.ensures.was_honest c.in_err-listing.ensures.call)

pub returns-in_err-carried-2-clause-call : goal.returns-in_err-carried-2-clause-call
returns-in_err-carried-2-clause-call g c =
    let p = err_from_is_err_and c.from_residual-in_err-carried-2.result c.from_residual-in_err-carried-2.ensures.1 in
    rw (p.1, p.2) (asked_again _ _ _ g.O.Outside.ours g.O.Outside.alone c.args.direction c.args.uid (kept (g.O.Outside.keywords c.args.self.now.outside) c.args.flags) c.args.mark _ _ _ _ _ _ _
    c.in_ok-carried.ensures.call c.in-Absent-Pull.is-0 c.in_ok-listing.ensures.was_honest c.in_ok-listing.ensures.call
    c.in_err-carried-2.ensures.was_honest (rw (c.in_ok-listing.ensures.keywords, c.in_ok-carried.ensures.keywords) at c.in_err-carried-2.ensures.call))

pub returns-clause-call : goal.returns-clause-call
returns-clause-call g c =
    asked_again _ _ _ g.O.Outside.ours g.O.Outside.alone c.args.direction c.args.uid (kept (g.O.Outside.keywords c.args.self.now.outside) c.args.flags) c.args.mark _ _ _ _ _ _ _
    c.in_ok-carried.ensures.call c.in-Absent-Pull.is-0 c.in_ok-listing.ensures.was_honest c.in_ok-listing.ensures.call
    c.in_ok-carried-2.ensures.was_honest (rw (c.in_ok-listing.ensures.keywords, c.in_ok-carried.ensures.keywords) at c.in_ok-carried-2.ensures.call)

pub returns-then-is_listed-clause-call : goal.returns-then-is_listed-clause-call
returns-then-is_listed-clause-call g c =
    let is_absent : c.in_ok-carried-2.carried ≡ Absent = grind (arith, c.eq.ensures, c.if-eq.true) in
    stops_again _ _ _ _ g.O.Outside.ours g.O.Outside.alone c.args.direction c.args.uid (kept (g.O.Outside.keywords c.args.self.now.outside) c.args.flags) c.args.mark _ _ _ _ _ _ _ _ _
    c.in_ok-carried.ensures.call c.in-Absent-Pull.is-0 c.in_ok-listing.ensures.was_honest c.in_ok-listing.ensures.call
    c.in_ok-carried-2.ensures.was_honest (rw (c.in_ok-listing.ensures.keywords, c.in_ok-carried.ensures.keywords) at c.in_ok-carried-2.ensures.call) is_absent
    c.stop_refused-then-is_listed.ensures.was_honest c.stop_refused-then-is_listed.ensures.fault c.stop_refused-then-is_listed.ensures.stopped

pub returns-then-not-may_change-clause-asked : goal.returns-then-not-may_change-clause-asked
returns-then-not-may_change-clause-asked g c =
    refused_first g.G.Guard.asked g.G.Guard.goes_on _ _ c.may_change.new.self _ _ c.may_change.ensures.asked c.stop_refused.ensures.stopped

pub returns-in_err-carried-clause-asked : goal.returns-in_err-carried-clause-asked
returns-in_err-carried-clause-asked g c = let_on_first g.G.Guard.asked g.G.Guard.goes_on _ _ c.may_change.new.self _ _ _ c.may_change.ensures.asked (search (rules, tests))

pub returns-in_default-clause-asked : goal.returns-in_default-clause-asked
returns-in_default-clause-asked g c = let_on_first g.G.Guard.asked g.G.Guard.goes_on _ _ c.may_change.new.self _ _ _ c.may_change.ensures.asked (search (rules, tests))

pub returns-in_err-listing-clause-asked : goal.returns-in_err-listing-clause-asked
returns-in_err-listing-clause-asked g c = let_on_first g.G.Guard.asked g.G.Guard.goes_on _ _ c.may_change.new.self _ _ _ c.may_change.ensures.asked (search (rules, tests))

pub returns-in_err-carried-2-clause-asked : goal.returns-in_err-carried-2-clause-asked
returns-in_err-carried-2-clause-asked g c = let_on_first g.G.Guard.asked g.G.Guard.goes_on _ _ c.may_change.new.self _ _ _ c.may_change.ensures.asked (search (rules, tests))

pub returns-then-is_listed-clause-asked : goal.returns-then-is_listed-clause-asked
returns-then-is_listed-clause-asked g c = let_on_first g.G.Guard.asked g.G.Guard.goes_on _ _ c.may_change.new.self _ _ _ c.may_change.ensures.asked (search (rules, tests))

pub returns-clause-asked : goal.returns-clause-asked
returns-clause-asked g c = let_on_first g.G.Guard.asked g.G.Guard.goes_on _ _ c.may_change.new.self _ _ _ c.may_change.ensures.asked (search (rules, tests))
