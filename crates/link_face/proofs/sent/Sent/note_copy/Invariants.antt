use Rattle.std.proofs.Common.{◌≡◌, ◌++◌}
use Rattle.mailcore.specs.CopyPieces.{text_left}
use Rattle.wire_reader.specs.Spelling.{crlf}
use Rattle.wire_reader.specs.Scanning.{scanned}
use Rattle.link_face.proofs.sent.Sent.note_copy.Given as goal

abbrev pub invariant-loop-piece : goal.invariant-loop-piece
invariant-loop-piece l = record {
  can_next : (goal.iterator-loop-piece).can_next l.piece-iterator;
  is_finite : (goal.iterator-loop-piece).is_finite l.piece-iterator;
  rest : scanned l.self.scanner (text_left l.piece-iterator ++ crlf) ≡ scanned l.fn.self.scanner (text_left l.copy ++ crlf);
}
