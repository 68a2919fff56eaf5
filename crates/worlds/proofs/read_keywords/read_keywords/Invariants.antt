use Rattle.std.proofs.Common.{◌≡◌, ◌+◌, ◌≤◌, length}
use Rattle.mailcore.specs.KeywordNames.{IsMap}
use Rattle.worlds.specs.Keywords.{keyword_lines}
use Rattle.texts.specs.Lines.{line_count}
use Rattle.worlds.proofs.read_keywords.read_keywords.Given as goal

abbrev pub invariant-loop-line : goal.invariant-loop-line
invariant-loop-line l = record {
  is_map : IsMap l.keywords;
  given : l.fn.lines.rest.now ≡ keyword_lines l.keywords l.lines.rest.now;
  taken : l.lines.taken ≡ l.fn.lines.taken + length l.keywords;
  count : line_count l.lines ≤ line_count l.fn.lines;
}

abbrev pub decreases-loop-line : goal.decreases-loop-line
decreases-loop-line l = length l.lines.rest.now
