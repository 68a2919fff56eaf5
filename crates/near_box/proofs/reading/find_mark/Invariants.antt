use Rattle.std.proofs.Common.{◌≡◌, ◌<◌, ℕ, ◌+◌, ◌≤◌, length, All, false, List, map}
use Rattle.mailcore.specs.declared.keywords.Keyword.{Keyword}
use Rattle.near_box.specs.Entries.{AreRising, AreThere, message_at}
use Rattle.near_box.specs.KnownMarks.{AreKnown}
use Rattle.near_box.proofs.SearchLemmas.{IsAt}
use Rattle.near_box.proofs.reading.find_mark.Given as goal

abbrev pub invariant-loop-entry : goal.invariant-loop-entry
invariant-loop-entry g l = record {
  was_honest : g.F.Folder.honest l.folder → g.F.Folder.honest l.initial.folder;
  keeps : g.F.Folder.honest l.folder → (g.F.Folder.seen l.folder).stored ≡ (g.F.Folder.seen l.initial.folder).stored;
  stops : (g.F.Folder.seen l.folder).stops ≡ (g.F.Folder.seen l.initial.folder).stops;
  whole : (g.F.Folder.seen l.initial.folder).is_broken ≡ false → (g.F.Folder.seen l.folder).is_broken ≡ false;
  within : l.first ≤ length l.entries;
  at : g.F.Folder.honest l.folder → AreThere l.entries (g.F.Folder.seen l.initial.folder).stored → (next : ℕ) (keywords : List Keyword) → AreRising l.entries → All (λ e. e.uid < next) l.entries
      → AreKnown next (map (message_at keywords (g.F.Folder.seen l.initial.folder).stored) l.entries) l.fn.known
      → IsAt keywords (g.F.Folder.seen l.initial.folder).stored l.entries l.mark l.from next (l.first + l.entry-index) l.known;
}
