use Rattle.std.proofs.Common.{◌≡◌, ◌≤◌, ◌++◌, ◌∷◌, [], length}
use Rattle.texts.specs.Lines.{line_count}
use Rattle.worlds.specs.WorldText.{mailbox_text, message_word}
use Rattle.worlds.specs.Worlds.{AreNamed, store_of}
use Rattle.worlds.proofs.read_mailbox.read_mailbox.Given as goal

abbrev pub invariant-loop-line : goal.invariant-loop-line
invariant-loop-line l = record {
  start : l.message_start ≡ message_word l.fn.side ++ 32 ∷ [];
  text : l.fn.lines.rest.now ≡ mailbox_text l.fn.side (store_of l.mailbox) ++ l.lines.rest.now;
  named : AreNamed l.keywords l.mailbox.messages [];
  count : line_count l.lines ≤ line_count l.fn.lines;
}

abbrev pub decreases-loop-line : goal.decreases-loop-line
decreases-loop-line l = length l.lines.rest.now
