use Rattle.std.proofs.Common.{◌≡◌, arith, refl}
use Rattle.std.proofs.lemmas.Grind.{common_steps}
use Rattle.std.proofs.lemmas.Result.{err_from_is_err_and}
use Rattle.channels.specs.Asked.{joined_of}
use Rattle.channels.specs.declared.verdict.Verdict.TheVariants.{Clean, Over}
use Rattle.channels.specs.Courses.{IsListAsked}
use Rattle.channels.proofs.ChannelLemmas.{Goes-pair_listed, SoFar-lists}
use Rattle.channels.proofs.CourseLemmas.{Begun-all}
use Rattle.channels.proofs.listing.list_channel.Goals as goal

-- of a channel without patterns nothing is asked
pub returns-in_err-print_box-in-Pair-clause-asked : goal.returns-in_err-print_box-in-Pair-clause-asked
returns-in_err-print_box-in-Pair-clause-asked g c =
    let p = err_from_is_err_and c.from_residual.result c.from_residual.ensures.1 in
    let same : g.S.BoxLists.asked c.print_box.new.self.stores.now ≡ g.S.BoxLists.asked c.args.stores.now.stores.now = grind (arith, common_steps) in
    rw p.1 (Begun-all g.S.BoxLists.noted (g.S.BoxLists.asked c.args.stores.now.stores.now) (g.S.BoxLists.asked c.args.stores.now.stores.now)
    (g.S.BoxLists.asked c.print_box.new.self.stores.now) (IsListAsked (joined_of c.args.of) c.args.of.channel.now.boxes) Clean same
    (Goes-pair_listed g.S.BoxLists.noted (joined_of c.args.of) c.args.of.channel.now.boxes c.in-Pair.far c.in-Pair.near
    (g.S.BoxLists.asked c.args.stores.now.stores.now) (g.S.BoxLists.asked c.args.stores.now.stores.now) c.in-Pair.is refl))

pub returns-in_ok-print_box-in-Pair-clause-asked : goal.returns-in_ok-print_box-in-Pair-clause-asked
returns-in_ok-print_box-in-Pair-clause-asked g c =
    let same : g.S.BoxLists.asked c.print_box.new.self.stores.now ≡ g.S.BoxLists.asked c.args.stores.now.stores.now = grind (arith, common_steps) in
    Goes-pair_listed g.S.BoxLists.noted (joined_of c.args.of) c.args.of.channel.now.boxes c.in-Pair.far c.in-Pair.near
    (g.S.BoxLists.asked c.args.stores.now.stores.now) (g.S.BoxLists.asked c.print_box.new.self.stores.now) c.in-Pair.is same

-- its stores were listed, and it was reported what they have
pub returns-in-Ok-clause-asked : goal.returns-in-Ok-clause-asked
returns-in-Ok-clause-asked g c =
    SoFar-lists g.S.BoxLists.noted (joined_of c.args.of) c.args.of.channel.now.boxes c.in-Matching.patterns (g.S.BoxLists.asked c.args.stores.now.stores.now)
    (g.S.BoxLists.asked c.matching.new.stores.stores.now) (g.S.BoxLists.asked c.list_boxes.new.stores.stores.now) Clean c.list_boxes.result c.in-Matching.is
    c.list_boxes.ensures.asks.1 c.list_boxes.ensures.clean c.in-Ok.ensures.listed

-- or why not
pub returns-in-Err-clause-asked : goal.returns-in-Err-clause-asked
returns-in-Err-clause-asked g c =
    SoFar-lists g.S.BoxLists.noted (joined_of c.args.of) c.args.of.channel.now.boxes c.in-Matching.patterns (g.S.BoxLists.asked c.args.stores.now.stores.now)
    (g.S.BoxLists.asked c.matching.new.stores.stores.now) (g.S.BoxLists.asked c.report_unlisted.new.self.stores.now) Over c.report_unlisted.result c.in-Matching.is
    c.report_unlisted.ensures.asks.1 c.report_unlisted.ensures.over c.in-Err.ensures.listed
