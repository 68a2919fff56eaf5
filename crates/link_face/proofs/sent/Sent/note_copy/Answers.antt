use Rattle.std.proofs.Common.{◌≡◌, ◌++◌, ◌∙◌, ap, sym, append_assoc, List, ℕ}
use Rattle.mailcore.specs.CopyPieces.{join, text_left}
use Rattle.wire_reader.specs.Spelling.{crlf}
use Rattle.wire_reader.specs.Scanning.{scanned}
use Rattle.wire_reader.specs.declared.scanner.Scanner.{Scanner}
use Rattle.wire_reader.proofs.Scanned.{scanned-append}
use Rattle.link_face.proofs.sent.Sent.note_copy.Goals as goal

pub loop-piece-preserved : goal.loop-piece-preserved
loop-piece-preserved c =
    let s = c.loop-piece.self.scanner in
    let piece = c.in-Some.piece.now in
    let left : List ℕ = text_left c.next.new.self in
    let here : text_left c.loop-piece.piece-iterator ≡ piece ++ left = ap join c.in-Some.ensures.steps in
    record {
      can_next = tt;
      is_finite = tt;
      rest =
          ap (λ (t : Scanner). scanned t (left ++ crlf)) c.note.ensures
          ∙ sym (scanned-append s piece (left ++ crlf))
          ∙ ap (λ (l : List ℕ). scanned s l) (sym (append_assoc piece left crlf) ∙ ap (λ (l : List ℕ). l ++ crlf) (sym here))
          ∙ c.loop-piece.invariant.rest;
    }
