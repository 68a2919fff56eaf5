use Rattle.std.proofs.Common.{◌≡◌, ◌+◌, ◌-◌, ◌<◌, ◌^◌, ap, length, min, ℕ, List, [], arith}
use Rattle.mailcore.specs.CopyPieces.{join, text_left}
use Rattle.mailcore.proofs.copy_pieces.CopyPieces.text_len.Goals as goal

counted : (len rest whole : ℕ) → len < 2 ^ 64 → rest ≡ 0 → min (len + rest) (2 ^ 64 - 1) ≡ min whole (2 ^ 64 - 1) → len ≡ min whole (2 ^ 64 - 1)
counted len rest whole small none e = omega (arith, small, none, e)

pub returns : goal.returns
returns c =
    let it = c.loop-piece.piece-iterator in
    let none : length (text_left it) ≡ 0 = ap (λ (pieces : List (List ℕ)). length (join pieces)) c.in-None.ensures.steps.0 in
    counted c.loop-piece.len (length (text_left it)) (length (text_left c.args.self)) c.loop-piece.invariant.small none c.loop-piece.invariant.rest
