use Rattle.imap_commands.proofs.MessageWaits.{appends_wait}
use Rattle.imap_commands.proofs.writing.append_waits_for_its_message.Goals as goal

pub returns : goal.returns
returns c = appends_wait
