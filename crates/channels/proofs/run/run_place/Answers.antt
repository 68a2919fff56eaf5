use Rattle.std.proofs.Common.{◌≡◌, true, false, arith, inl, sym, ◌∙◌}
use Rattle.std.proofs.lemmas.Grind.{common_steps}
use Rattle.channels.specs.Asked.{joined_of}
use Rattle.channels.specs.Asks.{ways_of}
use Rattle.channels.proofs.AskLemmas.{IfOk-listed, IfOk-settled}
use Rattle.channels.proofs.ChannelLemmas.{SoFar-place_listed, SoFar-place_settled, SoFar-place_unsettled, SoFar-unjoined}
use Rattle.channels.proofs.LendLemmas.{IfClean-place, LendsNone-same}
use Rattle.channels.proofs.RunLemmas.{RunsAt-channel}
use Rattle.channels.proofs.run.run_place.Goals as goal

-- the channel was listed
pub returns-then-work-clause-asks : goal.returns-then-work-clause-asks
returns-then-work-clause-asks g c =
    IfOk-listed g.S.BoxLists.noted c.args.work.config.now (ways_of c.args.work.request.now c.args.cells) c.args.place (joined_of c.in-Some.of)
    (g.S.BoxLists.asked c.args.stores.now.stores.now) (g.S.BoxLists.asked c.list_channel.new.stores.stores.now) c.list_channel.result
    c.in-Some.ensures c.if-work.true c.list_channel.ensures.asks

-- it was run, with its options
pub returns-in-Ok-clause-asks : goal.returns-in-Ok-clause-asks
returns-in-Ok-clause-asks g c =
    IfOk-settled g.S.BoxLists.noted c.args.work.config.now (ways_of c.args.work.request.now c.args.cells) c.args.place (joined_of c.in-Some.of)
    c.in-Ok.options (g.S.BoxLists.asked c.args.stores.now.stores.now) (g.S.BoxLists.asked c.settle_channel.new.stores.stores.now)
    c.settle_channel.result c.in-Some.ensures c.if-work.false c.in-Ok.ensures c.settle_channel.ensures.asks

pub returns-then-work-clause-asked : goal.returns-then-work-clause-asked
returns-then-work-clause-asked g c =
    SoFar-place_listed g.S.BoxLists.noted c.args.work.config.now (ways_of c.args.work.request.now c.args.cells) c.args.place (joined_of c.in-Some.of)
    (g.S.BoxLists.asked c.args.stores.now.stores.now) (g.S.BoxLists.asked c.list_channel.new.stores.stores.now) c.list_channel.result
    c.in-Some.ensures c.if-work.true c.list_channel.ensures.asked

pub returns-in-Ok-clause-asked : goal.returns-in-Ok-clause-asked
returns-in-Ok-clause-asked g c =
    SoFar-place_settled g.S.BoxLists.noted c.args.work.config.now (ways_of c.args.work.request.now c.args.cells) c.args.place (joined_of c.in-Some.of)
    c.in-Ok.options (g.S.BoxLists.asked c.args.stores.now.stores.now) (g.S.BoxLists.asked c.settle_channel.new.stores.stores.now)
    c.settle_channel.result c.in-Some.ensures c.if-work.false c.in-Ok.ensures c.settle_channel.ensures.asked

-- there is no memory for its options
pub returns-in-Err-clause-asked : goal.returns-in-Err-clause-asked
returns-in-Err-clause-asked g c =
    SoFar-place_unsettled g.S.BoxLists.noted c.args.work.config.now (ways_of c.args.work.request.now c.args.cells) c.args.place (joined_of c.in-Some.of)
    (g.S.BoxLists.asked c.args.stores.now.stores.now) (g.S.BoxLists.asked c.print_list.new.self.stores.now) c.print_list.result
    c.in-Some.ensures c.if-work.false c.print_list.ensures.asks.1 c.print_list.ensures.over

-- there is no such channel
pub returns-in_default-clause-asked : goal.returns-in_default-clause-asked
returns-in_default-clause-asked g c =
    SoFar-unjoined g.S.BoxLists.noted c.args.work.config.now (ways_of c.args.work.request.now c.args.cells) c.args.place
    (g.S.BoxLists.asked c.args.stores.now.stores.now) (g.S.BoxLists.asked c.print_no_channel.new.self.stores.now) c.print_no_channel.result
    c.in_default.ensures (grind (arith, common_steps)) c.print_no_channel.ensures.over

-- of a channel that is listed it is not said
pub returns-then-work-clause-settled : goal.returns-then-work-clause-settled
returns-then-work-clause-settled g c = λ off. let both : true ≡ false = sym c.if-work.true ∙ off in absurd (cc)

-- one that is run is settled, under its options
pub returns-in-Ok-clause-settled : goal.returns-in-Ok-clause-settled
returns-in-Ok-clause-settled g c = λ off.
    IfClean-place g.S.BoxLists g.R.Rng.stream c.args.work.config.now (ways_of c.args.work.request.now c.args.cells) c.args.place (joined_of c.in-Some.of)
    c.in-Ok.options c.args.stores.now.stores.now c.settle_channel.new.stores.stores.now c.settle_channel.result c.in-Some.ensures c.in-Ok.ensures
    c.settle_channel.ensures.settled

-- its mailboxes were run, with its options
pub returns-in-Ok-clause-runs : goal.returns-in-Ok-clause-runs
returns-in-Ok-clause-runs g c =
    RunsAt-channel g.S.BoxLists g.R.Rng.stream c.args.work.config.now (ways_of c.args.work.request.now c.args.cells) c.args.place (joined_of c.in-Some.of)
    c.in-Ok.options c.args.stores.now.stores.now c.settle_channel.new.stores.stores.now c.in-Some.ensures c.if-work.false c.in-Ok.ensures
    c.settle_channel.ensures.runs

-- or none was
pub returns-in-Err-clause-runs : goal.returns-in-Err-clause-runs
returns-in-Err-clause-runs g c = inl c.print_list.ensures.lent

pub returns-then-work-clause-runs : goal.returns-then-work-clause-runs
returns-then-work-clause-runs g c = inl c.list_channel.ensures.lent

pub returns-in_default-clause-runs : goal.returns-in_default-clause-runs
returns-in_default-clause-runs g c =
    let same : c.print_no_channel.new.self.stores.now ≡ c.args.stores.now.stores.now = grind (arith, common_steps) in
    inl (LendsNone-same _ _ _ _ same)
