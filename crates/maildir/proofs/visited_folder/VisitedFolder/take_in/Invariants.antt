use Rattle.std.proofs.Common.{◌≡◌}
use Rattle.maildir.specs.MemFolders.{seen_of}
use Rattle.mailcore.specs.Visitors.{others_but}
use Rattle.maildir.specs.VisitedFolders.{AddsAlone}
use Rattle.maildir.proofs.visited_folder.VisitedFolder.take_in.Given as goal

abbrev pub invariant-loop-arrival : goal.invariant-loop-arrival
invariant-loop-arrival g l = record {
  adds : AddsAlone (others_but g.O.Others.ours) (seen_of l.fn.self.folder) (seen_of l.self.folder);
  broken : l.self.is_broken ≡ l.fn.self.is_broken;
  synced : l.self.folder.is_synced ≡ l.fn.self.folder.is_synced;
}
