use Rattle.std.proofs.Common.{◌≤◌, length}
use Rattle.texts.specs.Lines.{line_count}
use Rattle.worlds.specs.ListedWorlds.{ListsFiles}
use Rattle.worlds.specs.Worlds.{AreListedNamed}
use Rattle.worlds.proofs.listed.admit_waiting.Given as goal

abbrev pub invariant-loop-line : goal.invariant-loop-line
invariant-loop-line l = record {
  text : ListsFiles l.fn.lines.rest.now l.lines.rest.now l.fn.near l.near;
  named : AreListedNamed l.keywords l.fn.near.items → AreListedNamed l.keywords l.near.items;
  count : line_count l.lines ≤ line_count l.fn.lines;
}

abbrev pub decreases-loop-line : goal.decreases-loop-line
decreases-loop-line l = length l.lines.rest.now
