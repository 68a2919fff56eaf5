use Rattle.std.proofs.Common.{◌≡◌, ◌∙◌, ◌++◌, ℕ, List, [], ap, sym}
use Rattle.mailcore.specs.declared.copy_pieces.CopyPieces.{CopyPieces}
use Rattle.mailcore.specs.CopyPieces.{join, text_left}
use Rattle.imap_client.proofs.Recorded.{hands_none, on_err, some_piece}
use Rattle.imap_client.proofs.tcp_link.write_pieces.Goals as goal

pub loop-piece-init : goal.loop-piece-init
loop-piece-init g c = record {
  can_next = tt;
  is_finite = tt;
  hands = ([], (ap (λ (p : CopyPieces). text_left p) c.into_iter-piece-iterator.ensures.into_iter_gives, hands_none c.args.calls.now));
}

pub returns-in_err-write-clause-err : goal.returns-in_err-write-clause-err
returns-in_err-write-clause-err g c =
    let i = c.loop-piece.invariant.hands in
    let piece = c.in-Some.piece.now in
    let left = text_left c.next.new.self in
    let here : text_left c.loop-piece.piece-iterator ≡ piece ++ left = ap join c.in-Some.ensures.steps in
    on_err c.from_residual.result
    (some_piece i.0 piece left (text_left c.args.copy) c.args.calls.now c.loop-piece.calls c.write.new.calls
    (ap (λ (l : List ℕ). i.0 ++ l) (sym here) ∙ i.1.0) i.1.1 c.in_err-write.ensures.err)
