use Rattle.std.proofs.Common.{◌≡◌, ◌+◌, ◌++◌, [], true, false, take, length}
use Rattle.near_box.specs.NearEffects.{admitted_all, set_aside_all}
use Rattle.near_box.specs.Surveys.{entries_from}
use Rattle.near_box.proofs.near_box.NearBox.give_uids.Given as goal

abbrev pub invariant-loop-file : goal.invariant-loop-file
invariant-loop-file g l = record {
  items : l.file-items ≡ l.fn.self.survey.waiting.items;
  begun : l.self.is_ready ≡ false;
  fresh : l.self.fresh ≡ l.fn.self.fresh;
  keywords : l.self.keywords ≡ l.fn.self.keywords;
  missed : l.self.missed ≡ l.fn.self.missed;
  count : l.count ≡ length l.file-items;
  number : l.number ≡ l.fn.self.survey.meta.next + l.file-index;
  meta : l.self.survey.meta ≡ l.initial.self.survey.meta;
  has_meta : l.self.survey.has_meta ≡ true;
  marks : l.self.survey.marks ≡ l.fn.self.survey.marks;
  waiting : l.self.survey.waiting.items ≡ [];
  entries : l.self.survey.entries.items ≡ l.fn.self.survey.entries.items ++ entries_from l.fn.self.survey.meta.next (take l.file-index l.file-items);
  stops : (g.F.Folder.seen l.self.folder).stops ≡ (g.F.Folder.seen l.fn.self.folder).stops;
  whole : (g.F.Folder.seen l.fn.self.folder).is_broken ≡ false → (g.F.Folder.seen l.self.folder).is_broken ≡ false;
  was_honest : g.F.Folder.honest l.self.folder → g.F.Folder.honest l.fn.self.folder;
  admitted : g.F.Folder.honest l.self.folder → (g.F.Folder.seen l.self.folder).stored
      ≡ admitted_all (take l.file-index l.file-items) l.fn.self.survey.meta.next (set_aside_all l.file-items l.fn.self.survey.meta (g.F.Folder.seen l.fn.self.folder).stored);
}
