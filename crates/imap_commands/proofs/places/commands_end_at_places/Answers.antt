use Rattle.wire_reader.proofs.PlaceLaws.{end_law}
use Rattle.imap_commands.proofs.CommandParts.{command_part}
use Rattle.imap_commands.proofs.CommandFeeds.{command_feed}
use Rattle.imap_commands.proofs.places.commands_end_at_places.Goals as goal

pub returns : goal.returns
returns c = end_law command_part command_feed
