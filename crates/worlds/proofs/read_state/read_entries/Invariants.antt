use Rattle.std.proofs.Common.{◌≡◌, ◌≤◌, ◌++◌, length}
use Rattle.std.specs.List.{flat_map}
use Rattle.texts.specs.Lines.{line_count}
use Rattle.worlds.specs.WorldText.{entry_line}
use Rattle.worlds.proofs.read_state.read_entries.Given as goal

abbrev pub invariant-loop-line : goal.invariant-loop-line
invariant-loop-line l = record {
  text : l.fn.lines.rest.now ≡ flat_map entry_line l.entries ++ l.lines.rest.now;
  count : line_count l.lines ≤ line_count l.fn.lines;
}

abbrev pub decreases-loop-line : goal.decreases-loop-line
decreases-loop-line l = length l.lines.rest.now
