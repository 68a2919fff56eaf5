use Rattle.std.proofs.Common.{Bool, subst}
use Rattle.sync_state.proofs.KeywordReading.{ReadSoFar, one_more_read}
use Rattle.sync_state.proofs.keyword_lines.read_keywords.Goals as goal

pub loop-goes_on-preserved : goal.loop-goes_on-preserved
loop-goes_on-preserved c =
    let before = subst (λ (b : Bool). ReadSoFar c.args.version b c.loop-goes_on.keywords c.args.lines.now c.loop-goes_on.lines) c.loop-goes_on-test.true c.loop-goes_on.invariant in
    one_more_read c.args.version c.in_ok-goes_on.goes_on c.loop-goes_on.keywords c.take_keyword.new.keywords c.args.lines.now c.loop-goes_on.lines c.take_keyword.new.lines before c.in_ok-goes_on.ensures
