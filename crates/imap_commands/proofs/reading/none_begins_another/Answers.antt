use Rattle.wire_reader.proofs.Lines.{line_law}
use Rattle.imap_commands.proofs.CommandParts.{command_part}
use Rattle.imap_commands.proofs.reading.none_begins_another.Goals as goal

pub returns : goal.returns
returns c = line_law command_part
