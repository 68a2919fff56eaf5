use Rattle.mailcore.specs.declared.side.Side.TheVariants.{Near}
use Rattle.mailcore.specs.Spared.{spares}
use Rattle.near_box.proofs.NearLemmas.{shows_all}
use Rattle.near_box.proofs.RangeLemmas.{items_sparing_none, messages_good}
use Rattle.near_box.proofs.near_box.NearBox.list.Goals as goal

pub returns-clause-shows : goal.returns-clause-shows
returns-clause-shows g c = λ honest.
    let s = (g.F.Folder.seen c.args.self.now.folder).stored in
    shows_all (spares c.none.result) c.args.self.now.fresh c.args.self.now.keywords s c.list_sparing.result
    (items_sparing_none Near (spares c.none.result) c.none.ensures _ (messages_good c.args.self.now.fresh c.args.self.now.keywords s)) (c.list_sparing.ensures.shows honest)
