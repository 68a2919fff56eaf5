use Rattle.std.proofs.Common.{◌≡◌, ◌+◌, false, map, take}
use Rattle.near_box.specs.Entries.{AreRising, AreSpared, AreThereUnless, count_asked, item_at}
use Rattle.mailcore.specs.Spared.{spares}
use Rattle.near_box.proofs.reading.listed.Given as goal

abbrev pub invariant-loop-entry : goal.invariant-loop-entry
invariant-loop-entry g l = record {
  was_honest : g.F.Folder.honest l.folder → g.F.Folder.honest l.initial.folder;
  keeps : g.F.Folder.honest l.folder → (g.F.Folder.seen l.folder).stored ≡ (g.F.Folder.seen l.initial.folder).stored;
  stops : (g.F.Folder.seen l.folder).stops ≡ (g.F.Folder.seen l.initial.folder).stops;
  whole : (g.F.Folder.seen l.initial.folder).is_broken ≡ false → (g.F.Folder.seen l.folder).is_broken ≡ false;
  shown : g.F.Folder.honest l.folder → AreRising l.entries → AreThereUnless (spares l.spared) l.entries (g.F.Folder.seen l.initial.folder).stored
      → l.items ≡ map (item_at l.keywords (spares l.spared) (g.F.Folder.seen l.initial.folder).stored) (take l.entry-index l.entries);
  counted : g.F.Folder.honest l.folder → g.F.Folder.reads l.folder ≡ g.F.Folder.reads l.initial.folder + count_asked (spares l.spared) (take l.entry-index l.entries);
  untouched : AreSpared (spares l.spared) l.entries → l.folder ≡ l.initial.folder;
}
