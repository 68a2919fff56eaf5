use Rattle.imap_commands.proofs.CommandsFit.{command_few}
use Rattle.imap_commands.proofs.writing.written_commands_fit.Goals as goal

pub returns : goal.returns
returns c = command_few
