use Rattle.std.proofs.Common.{sym, subst}
use Rattle.imap_commands.specs.Messages.{IsMessage}
use Rattle.imap_commands.proofs.MessageParts.{message_read}
use Rattle.imap_commands.proofs.message.read_message.Goals as goal

pub invariant_of-result : goal.invariant_of-result
invariant_of-result c =
    subst IsMessage (sym c.in_ok-octets-2.ensures.items)
    (message_read c.args.bytes.now c.in_ok-octets.octets.now c.in_ok-octets.rest.now c.in_ok-octets.ensures)
