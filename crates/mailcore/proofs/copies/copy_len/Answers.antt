use Rattle.std.proofs.Common.{ap, ◌∙◌, ◌+◌, ◌-◌, ◌^◌, ℕ, List, sym, length, min, arith}
use Rattle.mailcore.proofs.PieceLemmas.{text_length}
use Rattle.mailcore.proofs.copies.copy_len.Goals as goal

pub returns : goal.returns
returns c = λ mark is.
    let long = text_length mark c.args.message.now c.args.end is in
    let ends = ap (λ (l : List ℕ). length l) c.line_end_bytes.ensures in
    c.saturating_add.ensures ∙ ap (λ (n : ℕ). min n (2 ^ 64 - 1)) (omega (arith, long, ends, c.content_len.ensures))
