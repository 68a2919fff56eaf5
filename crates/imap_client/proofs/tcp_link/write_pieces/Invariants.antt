use Rattle.std.proofs.Common.{◌≡◌, ◌++◌, ℕ, List}
use Rattle.mailcore.specs.CopyPieces.{text_left}
use Rattle.imap_client.specs.LineRecords.{Hands}
use Rattle.imap_client.proofs.tcp_link.write_pieces.Given as goal

abbrev pub invariant-loop-piece : goal.invariant-loop-piece
invariant-loop-piece g l = record {
  can_next : (goal.iterator-loop-piece g).can_next l.piece-iterator;
  is_finite : (goal.iterator-loop-piece g).is_finite l.piece-iterator;
  hands : (given : List ℕ) × ((given ++ text_left l.piece-iterator ≡ text_left l.copy) × Hands given l.initial.calls l.calls);
}
