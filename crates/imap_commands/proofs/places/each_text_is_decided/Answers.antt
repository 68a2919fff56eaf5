use Rattle.wire_reader.proofs.PlaceLaws.{decided_law}
use Rattle.imap_commands.proofs.CommandParts.{command_part}
use Rattle.imap_commands.proofs.places.each_text_is_decided.Goals as goal

pub returns : goal.returns
returns c = decided_law command_part
