use Rattle.std.proofs.Common.{◌∙◌, List, ◌++◌, ap}
use Rattle.sync_state.specs.declared.journal.Logged.{Logged}
use Rattle.sync_state.specs.Lines.{lines_text}
use Rattle.sync_state.specs.JournalText.{plan_lines, log_lines}
use Rattle.sync_state.proofs.LineLemmas.{lines_added}
use Rattle.sync_state.proofs.journal_text.write_journal_in.Goals as goal

pub returns-clause-spelled : goal.returns-clause-spelled
returns-clause-spelled c =
    let j = c.args.journal.now in
    let log = c.in_ok-push_log.ensures ∙ ap (λ (x : List Logged). c.in_ok-text.text.items ++ lines_text (log_lines 1 x)) c.as_slice.ensures in
    lines_added (plan_lines c.args.version j.plan) (log_lines 1 j.log) _ _ c.in_ok-text.ensures.spelled log
