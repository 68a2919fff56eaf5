use Rattle.std.proofs.Common.{◌≡◌, Err, arith, ◌∙◌, inl}
use Rattle.std.proofs.lemmas.Grind.{common_steps}
use Rattle.channels.proofs.StreamLemmas.{HasNotices-from, IfOk-before}
use Rattle.std.proofs.lemmas.Result.{err_from_is_err_and}
use Rattle.channels.specs.Asked.{joined_of}
use Rattle.channels.specs.Courses.{IsFoundAsked, SoFar}
use Rattle.channels.proofs.ChannelLemmas.{Begun-possible, IsFoundAsked-possible, SoFar-listed, SoFar-unlisted}
use Rattle.channels.proofs.LendLemmas.{IfClean-channel, LendsNone-both, never_clean}
use Rattle.channels.proofs.RunLemmas.{RunsChannel-listed}
use Rattle.channels.proofs.settling.settle_channel.Goals as goal

-- what the stores reported of the listing, and then the mailboxes
pub returns-in_ok-report_notices-in-Ok-clause-quiet : goal.returns-in_ok-report_notices-in-Ok-clause-quiet
returns-in_ok-report_notices-in-Ok-clause-quiet g c =
    let same : g.E.Write.contents c.of.new.stores.err.now ≡ g.E.Write.contents c.args.stores.now.err.now = grind (arith, common_steps) in
    IfOk-before _ _ _ c.settle_found.result (HasNotices-from _ _ _ same c.in_ok-report_notices-in-Ok.ensures.notices) c.settle_found.ensures.quiet

-- a write failed after the lists
pub returns-in_err-report_notices-in-Ok-clause-asked : goal.returns-in_err-report_notices-in-Ok-clause-asked
returns-in_err-report_notices-in-Ok-clause-asked g c =
    let p = err_from_is_err_and c.from_residual.result c.from_residual.ensures.1 in
    rw p.1 (SoFar-listed g.S.BoxLists.noted (joined_of c.args.work.of) (λ fars nears. IsFoundAsked c.args.work.options.now (joined_of c.args.work.of) fars nears c.args.work.of.channel.now.boxes)
    c.in-Ok.found.far.items c.in-Ok.found.near.items (g.S.BoxLists.asked c.args.stores.now.stores.now) (g.S.BoxLists.asked c.of.new.stores.stores.now)
    (g.S.BoxLists.asked c.report_notices.new.self.stores.now) (Err p.0) c.in-Ok.ensures.asks
    (Begun-possible g.S.BoxLists.noted (g.S.BoxLists.asked c.of.new.stores.stores.now) (g.S.BoxLists.asked c.report_notices.new.self.stores.now)
    (IsFoundAsked c.args.work.options.now (joined_of c.args.work.of) c.in-Ok.found.far.items c.in-Ok.found.near.items c.args.work.of.channel.now.boxes)
    c.report_notices.ensures.asks.1
    (IsFoundAsked-possible c.args.work.options.now (joined_of c.args.work.of) c.in-Ok.found.far.items c.in-Ok.found.near.items c.args.work.of.channel.now.boxes)))

-- the mailboxes were asked for
pub returns-in_ok-report_notices-in-Ok-clause-asked : goal.returns-in_ok-report_notices-in-Ok-clause-asked
returns-in_ok-report_notices-in-Ok-clause-asked g c =
    SoFar-listed g.S.BoxLists.noted (joined_of c.args.work.of) (λ fars nears. IsFoundAsked c.args.work.options.now (joined_of c.args.work.of) fars nears c.args.work.of.channel.now.boxes)
    c.in-Ok.found.far.items c.in-Ok.found.near.items (g.S.BoxLists.asked c.args.stores.now.stores.now) (g.S.BoxLists.asked c.report_notices.new.self.stores.now)
    (g.S.BoxLists.asked c.settle_found.new.stores.stores.now) c.settle_found.result (c.report_notices.ensures.asks.1 ∙ c.in-Ok.ensures.asks) c.settle_found.ensures.asked

-- a store was not listed
pub returns-in-Err-clause-asked : goal.returns-in-Err-clause-asked
returns-in-Err-clause-asked g c =
    SoFar-unlisted g.S.BoxLists.noted (joined_of c.args.work.of) (λ fars nears. IsFoundAsked c.args.work.options.now (joined_of c.args.work.of) fars nears c.args.work.of.channel.now.boxes)
    (g.S.BoxLists.asked c.args.stores.now.stores.now) (g.S.BoxLists.asked c.of.new.stores.stores.now) (g.S.BoxLists.asked c.report_unlisted.new.self.stores.now)
    c.report_unlisted.result c.report_unlisted.ensures.asks.1 c.report_unlisted.ensures.over c.in-Err.ensures.unlisted

-- without a fault they are settled
pub returns-in_ok-report_notices-in-Ok-clause-settled : goal.returns-in_ok-report_notices-in-Ok-clause-settled
returns-in_ok-report_notices-in-Ok-clause-settled g c =
    IfClean-channel g.S.BoxLists g.R.Rng.stream c.args.work.options.now (joined_of c.args.work.of) c.in-Ok.found.far.items c.in-Ok.found.near.items
    c.args.stores.now.stores.now c.report_notices.new.self.stores.now c.settle_found.new.stores.stores.now c.settle_found.result
    (LendsNone-both c.in-Ok.ensures.lent c.report_notices.ensures.lent) (c.report_notices.ensures.asks.1 ∙ c.in-Ok.ensures.asks) c.settle_found.ensures.asks
    c.settle_found.ensures.settled

pub returns-in-Err-clause-settled : goal.returns-in-Err-clause-settled
returns-in-Err-clause-settled g c = never_clean _ c.report_unlisted.result c.report_unlisted.ensures.reported

-- whatever was reported, each was run once at most
pub returns-in_ok-report_notices-in-Ok-clause-runs : goal.returns-in_ok-report_notices-in-Ok-clause-runs
returns-in_ok-report_notices-in-Ok-clause-runs g c =
    RunsChannel-listed g.S.BoxLists g.R.Rng.stream c.args.work.options.now (joined_of c.args.work.of) c.in-Ok.found.far.items c.in-Ok.found.near.items
    c.args.stores.now.stores.now c.report_notices.new.self.stores.now c.settle_found.new.stores.stores.now
    (SoFar c.settle_found.result (IsFoundAsked c.args.work.options.now (joined_of c.args.work.of) c.in-Ok.found.far.items c.in-Ok.found.near.items
    c.args.work.of.channel.now.boxes))
    (LendsNone-both c.in-Ok.ensures.lent c.report_notices.ensures.lent) (c.report_notices.ensures.asks.1 ∙ c.in-Ok.ensures.asks) c.settle_found.ensures.asked
    c.settle_found.ensures.runs

pub returns-in_err-report_notices-in-Ok-clause-runs : goal.returns-in_err-report_notices-in-Ok-clause-runs
returns-in_err-report_notices-in-Ok-clause-runs g c = inl (LendsNone-both c.in-Ok.ensures.lent c.report_notices.ensures.lent)

pub returns-in-Err-clause-runs : goal.returns-in-Err-clause-runs
returns-in-Err-clause-runs g c = inl (LendsNone-both c.in-Err.ensures.lent c.report_unlisted.ensures.lent)
