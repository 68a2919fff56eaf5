use Rattle.std.proofs.Common.{◌≡◌, ◌+◌, take}
use Rattle.imap_session.specs.NamedMessages.{named_in}
use Rattle.imap_session.specs.MessageCommands.{removed}
use Rattle.imap_session.specs.Boxes.{store_of}
use Rattle.imap_server.specs.Writing.{Wrote}
use Rattle.imap_server.proofs.ExpungeLemmas.{left}
use Rattle.imap_server.proofs.message_commands.say_removed.Given as goal

-- those before the place were reported
abbrev pub invariant-loop-index : goal.invariant-loop-index
invariant-loop-index l = record {
  place : l.place ≡ 1 + left (named_in (store_of l.mailbox) l.set) (take l.index l.messages);
  wrote : Wrote (removed (named_in (store_of l.mailbox) l.set) 1 (take l.index l.messages)) l.initial.out.items l.out.items;
}
