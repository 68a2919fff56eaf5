use Rattle.std.proofs.Common.{◌≡◌, ◌++◌, map, take}
use Rattle.sync_state.specs.Lines.{lines_text}
use Rattle.sync_state.specs.JournalText.{keyword_line}
use Rattle.sync_state.proofs.keyword_lines.push_keywords.Given as goal

abbrev pub invariant-loop-keyword : goal.invariant-loop-keyword
invariant-loop-keyword l = l.text.items ≡ l.initial.text.items ++ lines_text (map keyword_line (take l.keyword-index l.keywords))
