use Rattle.std.proofs.Common.{◌≡◌, ◌+◌, ◌-◌, ◌^◌, ◌<◌, length, min}
use Rattle.mailcore.specs.CopyPieces.{text_left}
use Rattle.mailcore.proofs.copy_pieces.CopyPieces.text_len.Given as goal

abbrev pub invariant-loop-piece : goal.invariant-loop-piece
invariant-loop-piece l = record {
  can_next : (goal.iterator-loop-piece).can_next l.piece-iterator;
  is_finite : (goal.iterator-loop-piece).is_finite l.piece-iterator;
  small : l.len < 2 ^ 64;
  rest : min (l.len + length (text_left l.piece-iterator)) (2 ^ 64 - 1) ≡ min (length (text_left l.self)) (2 ^ 64 - 1);
}
