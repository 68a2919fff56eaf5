use Rattle.std.proofs.Common.{◌≡◌, ◌+◌, length}
use Rattle.std.specs.List.{flat_map}
use Rattle.mailcore.specs.Content.{line_bytes, content_lines}
use Rattle.mailcore.specs.ContentLines.{content_lines_left}
use Rattle.mailcore.proofs.content.content_len.Given as goal

abbrev pub invariant-loop-line : goal.invariant-loop-line
invariant-loop-line l = record {
  can_next : (goal.iterator-loop-line).can_next l.line-iterator;
  is_finite : (goal.iterator-loop-line).is_finite l.line-iterator;
  rest : l.len + length (flat_map (line_bytes l.fn.end) (content_lines_left l.line-iterator)) ≡ length (flat_map (line_bytes l.fn.end) (content_lines l.message));
}
