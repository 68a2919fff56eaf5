use Rattle.wire_tokens.proofs.AppendLemmas.{written_as}
use Rattle.imap_commands.proofs.WrittenCommands.{written_spelled}
use Rattle.imap_commands.proofs.CommandsFit.{command_few}
use Rattle.imap_commands.proofs.writing.write_command.Goals as goal

pub returns-else-is_err-clause-ok : goal.returns-else-is_err-clause-ok
returns-else-is_err-clause-ok c = written_as (written_spelled c.args.command.now) _ _ c.append_command-written.result c.append_command-written.ensures.ok

pub returns-else-is_err-clause-fits : goal.returns-else-is_err-clause-fits
returns-else-is_err-clause-fits c =
    written_as (λ t h. record { written = h; fits = command_few c.args.command.now t h }) _ _ c.append_command-written.result c.append_command-written.ensures.ok
