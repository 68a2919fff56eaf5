use Rattle.std.proofs.Common.{◌∙◌, refl}
use Rattle.mailcore.specs.Visitors.{others_but}
use Rattle.maildir.specs.MemFolders.{seen_of}
use Rattle.maildir.proofs.AddedLemmas.{alone_more, alone_none}
use Rattle.maildir.proofs.visited_folder.VisitedFolder.take_in.Goals as goal

pub loop-arrival-init : goal.loop-arrival-init
loop-arrival-init g c = record { adds = alone_none (others_but g.O.Others.ours) (seen_of c.args.self.now.folder); broken = refl; synced = refl }

pub loop-arrival-preserved : goal.loop-arrival-preserved
loop-arrival-preserved g c = record {
  adds = alone_more (others_but g.O.Others.ours) (seen_of c.args.self.now.folder) (seen_of c.loop-arrival.self.folder) (seen_of c.add.new.self.folder) c.loop-arrival.invariant.adds c.add.ensures.adds;
  broken = c.add.ensures.broken ∙ c.loop-arrival.invariant.broken;
  synced = c.add.ensures.synced ∙ c.loop-arrival.invariant.synced;
}

pub returns-in_err-add-clause-adds : goal.returns-in_err-add-clause-adds
returns-in_err-add-clause-adds g c =
    alone_more (others_but g.O.Others.ours) (seen_of c.args.self.now.folder) (seen_of c.loop-arrival.self.folder) (seen_of c.add.new.self.folder) c.loop-arrival.invariant.adds c.add.ensures.adds
