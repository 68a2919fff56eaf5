use Rattle.std.proofs.Common.{◌≡◌, ◌++◌, ℕ, List, []}
use Rattle.mailcore.specs.CopyPieces.{text_left}
use Rattle.maildir.specs.DiskEvents.{Standing, with_copied}
use Rattle.maildir.specs.DiskFolders.{KeptWord, standing}
use Rattle.maildir.proofs.disk_folder.write_pieces.Given as goal

abbrev pub invariant-loop-piece : goal.invariant-loop-piece
invariant-loop-piece g l = record {
  can_next : (goal.iterator-loop-piece g).can_next l.piece-iterator;
  is_finite : (goal.iterator-loop-piece g).is_finite l.piece-iterator;
  disk : l.disk.disk ≡ l.initial.disk.disk;
  was_honest : KeptWord l.disk → KeptWord l.initial.disk;
  grew : (given : List ℕ) × ((given ++ text_left l.piece-iterator ≡ text_left l.copy)
      × ((s : Standing) → standing l.initial.disk ≡ with_copied [] s → standing l.disk ≡ with_copied given s));
}
