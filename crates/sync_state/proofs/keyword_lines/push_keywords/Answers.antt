use Rattle.sync_state.specs.JournalText.{keyword_line}
use Rattle.sync_state.proofs.LineLemmas.{next_written}
use Rattle.sync_state.proofs.keyword_lines.push_keywords.Goals as goal

pub loop-keyword-preserved : goal.loop-keyword-preserved
loop-keyword-preserved c =
    next_written keyword_line c.args.keywords.now c.loop-keyword.keyword-index c.keyword-item.result c.args.text.now.items c.loop-keyword.text.items c.push_keyword.new.text.items
    c.loop-keyword-test.true c.keyword-item.is c.loop-keyword.invariant c.in_ok-push_keyword.ensures
