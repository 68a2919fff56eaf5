use Rattle.std.proofs.Common.{◌≡◌, ◌++◌}
use Rattle.std.specs.List.{flat_map}
use Rattle.mailcore.specs.Content.{line_bytes, content_lines}
use Rattle.mailcore.specs.ContentLines.{content_lines_left}
use Rattle.mailcore.proofs.content.append_content.Given as goal

abbrev pub invariant-loop-line : goal.invariant-loop-line
invariant-loop-line l = record {
  can_next : (goal.iterator-loop-line).can_next l.line-iterator;
  is_finite : (goal.iterator-loop-line).is_finite l.line-iterator;
  rest : l.out.items ++ flat_map (line_bytes l.end) (content_lines_left l.line-iterator) ≡ l.fn.out.items ++ flat_map (line_bytes l.end) (content_lines l.message);
}
