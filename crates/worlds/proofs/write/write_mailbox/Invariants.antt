use Rattle.std.proofs.Common.{◌≡◌, ◌++◌, ◌∷◌, [], take, string_bytes}
use Rattle.std.specs.Prelude.{decimal}
use Rattle.std.specs.List.{flat_map}
use Rattle.mailcore.specs.Words.{side_word}
use Rattle.worlds.specs.WorldText.{line_of, message_line, message_word}
use Rattle.worlds.proofs.write.write_mailbox.Given as goal

abbrev pub invariant-loop-message : goal.invariant-loop-message
invariant-loop-message l = record {
  items : l.message-items ≡ l.fn.mailbox.messages.now;
  letter : l.letter ∷ [] ≡ message_word l.fn.side;
  written : string_bytes l.text ≡ string_bytes l.fn.text
      ++ (line_of (side_word l.fn.side ∷ decimal l.fn.mailbox.validity ∷ decimal l.fn.mailbox.next ∷ []) ++ flat_map (message_line l.fn.side) (take l.message-index l.message-items));
}
