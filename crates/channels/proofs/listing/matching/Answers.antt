use Rattle.std.proofs.lemmas.Result.{err_from_is_err_and}
use Rattle.channels.specs.Asked.{joined_of}
use Rattle.channels.specs.Courses.{IsListedAlone, listing_verdict}
use Rattle.channels.proofs.ChannelLemmas.{Goes-alone, Goes-unlisted, listing_verdict-faulty}
use Rattle.channels.proofs.listing.matching.Goals as goal

-- a store was not listed
pub returns-in_err-found-clause-listed : goal.returns-in_err-found-clause-listed
returns-in_err-found-clause-listed g c =
    let p = err_from_is_err_and c.from_residual.result c.from_residual.ensures.1 in
    rw p.1 (Goes-unlisted g.S.BoxLists.noted (joined_of c.args.of) IsListedAlone (g.S.BoxLists.asked c.args.stores.now.stores.now)
    (g.S.BoxLists.asked c.of.new.stores.stores.now) c.in_err-found.ensures.unlisted)

-- both were
pub returns-clause-listed : goal.returns-clause-listed
returns-clause-listed g c =
    Goes-alone g.S.BoxLists.noted (joined_of c.args.of) c.in_ok-found.found.far.items c.in_ok-found.found.near.items (listing_verdict c.matching.result)
    (g.S.BoxLists.asked c.args.stores.now.stores.now) (g.S.BoxLists.asked c.of.new.stores.stores.now) c.in_ok-found.ensures.asks
    (listing_verdict-faulty c.matching.result)
