use Rattle.std.proofs.Common.{◌≡◌, ◌≤◌, ◌++◌, [], length, map}
use Rattle.std.specs.List.{flat_map}
use Rattle.texts.specs.Lines.{line_count}
use Rattle.worlds.specs.declared.world.Waiting.TheVariants.{Kept}
use Rattle.worlds.specs.WorldText.{waiting_line}
use Rattle.worlds.specs.Worlds.{AreNamed, waiting_of}
use Rattle.worlds.proofs.read_mailbox.read_waiting.Given as goal

abbrev pub invariant-loop-line : goal.invariant-loop-line
invariant-loop-line l = record {
  text : l.fn.waiting ≡ Kept → (l.fn.lines.rest.now ≡ flat_map waiting_line (map waiting_of l.kept.items) ++ l.lines.rest.now) × (l.near ≡ l.fn.near);
  named : AreNamed l.keywords l.fn.near.messages [] → AreNamed l.keywords l.near.messages (map waiting_of l.kept.items);
  count : line_count l.lines ≤ line_count l.fn.lines;
}

abbrev pub decreases-loop-line : goal.decreases-loop-line
decreases-loop-line l = length l.lines.rest.now
