use Rattle.sync_state.proofs.LogLemmas.{log_written}
use Rattle.sync_state.proofs.journal_text.push_log.Goals as goal

pub loop-i-preserved : goal.loop-i-preserved
loop-i-preserved c =
    log_written c.args.log.now c.loop-i.i c.index-log-i.result c.args.text.now.items c.loop-i.text.items c.push_logged.new.text.items
    c.loop-i-test.true c.index-log-i.is c.loop-i.invariant c.in_ok-push_logged.ensures
