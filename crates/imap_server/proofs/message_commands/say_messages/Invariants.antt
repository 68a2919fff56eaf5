use Rattle.std.proofs.Common.{take}
use Rattle.imap_session.specs.NamedMessages.{named_in}
use Rattle.imap_session.specs.MessageCommands.{fetched}
use Rattle.imap_session.specs.Boxes.{store_of}
use Rattle.imap_server.specs.Writing.{Wrote}
use Rattle.imap_server.proofs.message_commands.say_messages.Given as goal

-- those before the place were reported
abbrev pub invariant-loop-index : goal.invariant-loop-index
invariant-loop-index l = Wrote (fetched l.keywords (named_in (store_of l.mailbox) l.set) l.items 1 (take l.index l.messages)) l.initial.out.items l.out.items
