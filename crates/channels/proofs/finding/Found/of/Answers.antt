use Rattle.std.proofs.lemmas.Result.{err_from_is_err_and}
use Rattle.channels.specs.Asked.{joined_of}
use Rattle.channels.proofs.ChannelLemmas.{Goes-no_far, Goes-no_near}
use Rattle.channels.proofs.finding.Found.of.Goals as goal

-- the far store was not listed
pub returns-in_err-far-clause-unlisted : goal.returns-in_err-far-clause-unlisted
returns-in_err-far-clause-unlisted g c =
    let p = err_from_is_err_and c.from_residual.result c.from_residual.ensures.1 in
    rw p.1 (Goes-no_far g.S.BoxLists.noted (joined_of c.args.of) (g.S.BoxLists.asked c.args.stores.now.stores.now)
    (g.S.BoxLists.asked c.far_boxes.new.self.stores.now) c.in_err-far.ensures.asks.1)

-- the near store was not
pub returns-in_err-near-clause-unlisted : goal.returns-in_err-near-clause-unlisted
returns-in_err-near-clause-unlisted g c =
    let p = err_from_is_err_and c.from_residual-in_err-near.result c.from_residual-in_err-near.ensures.1 in
    rw p.1 (Goes-no_near g.S.BoxLists.noted (joined_of c.args.of) c.in_ok-far.far.items (g.S.BoxLists.asked c.args.stores.now.stores.now)
    (g.S.BoxLists.asked c.far_boxes.new.self.stores.now) (g.S.BoxLists.asked c.near_boxes.new.self.stores.now)
    c.in_ok-far.ensures.asks.1 c.in_err-near.ensures.asks.1)
