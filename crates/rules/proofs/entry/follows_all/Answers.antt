use Rattle.std.proofs.Common.{sym, ◌∙◌}
use Rattle.rules.proofs.EntryEnds.{follow_as_free, follow_none}
use Rattle.rules.proofs.entry.follows_all.Goals as goal

pub returns-then-is_above_last : goal.returns-then-is_above_last
returns-then-is_above_last c =
    let e = c.args.entry.now in
    let es = c.args.entries.now in
    c.is_free.ensures ∙ follow_as_free e es c.requires.pairs (sym c.is_above_last.ensures.last ∙ c.if-is_above_last.true) c.is_above_last.ensures.positive

pub returns-else-is_above_last : goal.returns-else-is_above_last
returns-else-is_above_last c = c.if-is_above_last.false ∙ follow_none c.args.entry.now c.args.entries.now (sym c.is_above_last.ensures.last ∙ c.if-is_above_last.false)
