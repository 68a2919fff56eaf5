use Rattle.std.proofs.Common.{sym, ◌∙◌}
use Rattle.link_face.proofs.TokenLemmas.{name_ends, name_more}
use Rattle.link_face.proofs.row.name_length.Goals as goal

pub returns-then-ends_name : goal.returns-then-ends_name
returns-then-ends_name c = name_ends c.args.bytes.now c.loop-i.i c.loop-i.is_section _ c.loop-i.invariant (sym c.ends_name.ensures ∙ c.if-ends_name.true)

pub loop-i-preserved : goal.loop-i-preserved
loop-i-preserved c =
    name_more c.args.bytes.now c.loop-i.i c.loop-i.is_section c.is_in_section-is_section.result c.loop-i-test.true c.loop-i.invariant (sym c.ends_name.ensures ∙ c.if-ends_name.false) c.is_in_section-is_section.ensures
