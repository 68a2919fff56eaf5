use Rattle.std.proofs.Common.{◌≡◌, ◌≤◌, ◌++◌, ◌∷◌, [], length}
use Rattle.texts.specs.Lines.{line_count}
use Rattle.worlds.specs.WorldText.{message_word}
use Rattle.worlds.specs.Worlds.{AreListedNamed}
use Rattle.worlds.proofs.ListedLemmas.{ListsSoFar}
use Rattle.worlds.proofs.listed.read_listing.Given as goal

abbrev pub invariant-loop-line : goal.invariant-loop-line
invariant-loop-line l = record {
  start : l.message_start ≡ message_word l.fn.side ++ 32 ∷ [];
  text : ListsSoFar l.fn.side l.validity l.next l.fn.lines.rest.now l.lines.rest.now l.items;
  named : AreListedNamed l.keywords l.items;
  count : line_count l.lines ≤ line_count l.fn.lines;
}

abbrev pub decreases-loop-line : goal.decreases-loop-line
decreases-loop-line l = length l.lines.rest.now
