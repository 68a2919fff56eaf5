use Rattle.std.proofs.Common.{sym, ◌∙◌}
use Rattle.link_face.proofs.TokenLemmas.{quoted_ends, quoted_more}
use Rattle.link_face.proofs.token.quote_place.Goals as goal

pub returns-then-ends_quoted : goal.returns-then-ends_quoted
returns-then-ends_quoted c = quoted_ends c.args.bytes.now c.loop-i.i c.loop-i.after_slash _ c.loop-i.invariant (sym c.ends_quoted.ensures ∙ c.if-ends_quoted.true)

pub loop-i-preserved : goal.loop-i-preserved
loop-i-preserved c =
    quoted_more c.args.bytes.now c.loop-i.i c.loop-i.after_slash c.is_slash-after_slash.result c.loop-i-test.true c.loop-i.invariant (sym c.ends_quoted.ensures ∙ c.if-ends_quoted.false) c.is_slash-after_slash.ensures
