use Rattle.std.proofs.lemmas.Result.{err_from_is_err_and}
use Rattle.channels.specs.Asked.{place_of}
use Rattle.channels.specs.Courses.{IsBoxAsked}
use Rattle.channels.proofs.CourseLemmas.{Begun-all, Goes-same}
use Rattle.channels.proofs.StreamLemmas.{IsQuiet-following}
use Rattle.channels.proofs.LendLemmas.{Lends-then}
use Rattle.channels.proofs.settling.settle_box.Goals as goal

-- what was reported, and notices after it
pub returns-clause-quiet : goal.returns-clause-quiet
returns-clause-quiet g c = IsQuiet-following _ _ _ _ c.in_ok-verdict.ensures.quiet c.in_ok-report_notices.ensures.notices

-- a write failed, and then nothing was asked
pub returns-in_err-verdict-clause-asked : goal.returns-in_err-verdict-clause-asked
returns-in_err-verdict-clause-asked g c =
    let p = err_from_is_err_and c.from_residual.result c.from_residual.ensures.1 in
    rw p.1 c.in_err-verdict.ensures.asked

pub returns-in_err-report_notices-clause-asked : goal.returns-in_err-report_notices-clause-asked
returns-in_err-report_notices-clause-asked g c =
    let p = err_from_is_err_and c.from_residual-in_err-report_notices.result c.from_residual-in_err-report_notices.ensures.1 in
    rw p.1 (Begun-all g.S.BoxLists.noted (g.S.BoxLists.asked c.args.stores.now.stores.now) (g.S.BoxLists.asked c.make_and_run.new.stores.stores.now)
    (g.S.BoxLists.asked c.report_notices.new.self.stores.now) (IsBoxAsked c.args.work.options.now (place_of c.args.place) c.args.absent) c.in_ok-verdict.verdict
    c.report_notices.ensures.asks.1 c.in_ok-verdict.ensures.asked)

pub returns-clause-asked : goal.returns-clause-asked
returns-clause-asked g c =
    Goes-same g.S.BoxLists.noted (g.S.BoxLists.asked c.args.stores.now.stores.now) (g.S.BoxLists.asked c.make_and_run.new.stores.stores.now)
    (g.S.BoxLists.asked c.report_notices.new.self.stores.now) (IsBoxAsked c.args.work.options.now (place_of c.args.place) c.args.absent c.in_ok-verdict.verdict)
    c.report_notices.ensures.asks.1 c.in_ok-verdict.ensures.asked

-- without a fault it is settled
pub returns-clause-settled : goal.returns-clause-settled
returns-clause-settled g c = λ clean. Lends-then (c.in_ok-verdict.ensures.settled clean) c.report_notices.ensures.lent

-- whatever was reported, it was run once at most
pub returns-in_err-report_notices-clause-runs : goal.returns-in_err-report_notices-clause-runs
returns-in_err-report_notices-clause-runs g c = Lends-then c.make_and_run.ensures.runs c.report_notices.ensures.lent

pub returns-clause-runs : goal.returns-clause-runs
returns-clause-runs g c = Lends-then c.make_and_run.ensures.runs c.report_notices.ensures.lent
