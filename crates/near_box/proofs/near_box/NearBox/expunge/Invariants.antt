use Rattle.std.proofs.Common.{◌≡◌, false, take}
use Rattle.near_box.specs.NearEffects.{without_uids}
use Rattle.near_box.specs.Surveys.{Surveys}
use Rattle.near_box.proofs.near_box.NearBox.expunge.Given as goal

abbrev pub invariant-loop-uid : goal.invariant-loop-uid
invariant-loop-uid g l = record {
  begun : l.self.is_ready ≡ false;
  fresh : l.self.fresh ≡ l.initial.self.fresh;
  keywords : l.self.keywords ≡ l.initial.self.keywords;
  missed : l.self.missed ≡ l.initial.self.missed;
  stops : (g.F.Folder.seen l.self.folder).stops ≡ (g.F.Folder.seen l.initial.self.folder).stops;
  whole : (g.F.Folder.seen l.initial.self.folder).is_broken ≡ false → (g.F.Folder.seen l.self.folder).is_broken ≡ false;
  was_honest : g.F.Folder.honest l.self.folder → g.F.Folder.honest l.initial.self.folder;
  surveys : g.F.Folder.honest l.self.folder → Surveys l.self.survey l.self.fresh l.self.keywords (g.F.Folder.seen l.self.folder).stored;
  removed : g.F.Folder.honest l.self.folder → (g.F.Folder.seen l.self.folder).stored
      ≡ without_uids (take l.uid-index l.uids) (g.F.Folder.seen l.initial.self.folder).stored;
  untouched : g.F.Folder.honest l.self.folder → without_uids l.uids (g.F.Folder.seen l.initial.self.folder).stored ≡ (g.F.Folder.seen l.initial.self.folder).stored
      → g.F.Folder.seen l.self.folder ≡ g.F.Folder.seen l.initial.self.folder;
}
