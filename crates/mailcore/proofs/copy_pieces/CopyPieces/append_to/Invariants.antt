use Rattle.std.proofs.Common.{◌≡◌, ◌++◌}
use Rattle.mailcore.specs.CopyPieces.{text_left}
use Rattle.mailcore.proofs.copy_pieces.CopyPieces.append_to.Given as goal

abbrev pub invariant-loop-piece : goal.invariant-loop-piece
invariant-loop-piece l = record {
  can_next : (goal.iterator-loop-piece).can_next l.piece-iterator;
  is_finite : (goal.iterator-loop-piece).is_finite l.piece-iterator;
  rest : l.out.items ++ text_left l.piece-iterator ≡ l.fn.out.items ++ text_left l.self;
}
