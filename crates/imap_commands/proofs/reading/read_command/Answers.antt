use Rattle.std.proofs.Common.{sym}
use Rattle.std.proofs.lemmas.List.{length-take-le}
use Rattle.wire_reader.proofs.Lines.{line_takes, line_waits}
use Rattle.wire_reader.proofs.Decisive.{end_within, line_kept, line_passed}
use Rattle.imap_commands.proofs.CommandParts.{command_part}
use Rattle.imap_commands.proofs.reading.read_command.Goals as goal

pub slice_bounds-command-end : goal.slice_bounds-command-end
slice_bounds-command-end c = sym (length-take-le c.in-Err.end c.args.bytes.now (end_within c.answered.result c.args.bytes.now c.in-Err.end c.in-Err.ensures))

pub returns-in-Ok-clause-answers : goal.returns-in-Ok-clause-answers
returns-in-Ok-clause-answers c = line_kept c.answered.result c.args.bytes.now command_part (λ x. x) c.command.result _ c.command.ensures c.answered.ensures c.in-Ok.ensures

pub returns-in-Ok-clause-takes : goal.returns-in-Ok-clause-takes
returns-in-Ok-clause-takes c = line_takes command_part (λ x. x) c.args.bytes.now _ (returns-in-Ok-clause-answers c)

pub returns-in-Ok-clause-waits : goal.returns-in-Ok-clause-waits
returns-in-Ok-clause-waits c = line_waits command_part (λ x. x) c.args.bytes.now _ (returns-in-Ok-clause-answers c)

pub returns-in-Err-clause-answers : goal.returns-in-Err-clause-answers
returns-in-Err-clause-answers c = line_passed c.answered.result c.args.bytes.now command_part (λ x. x) c.command-in-Err.result c.in-Err.end _ _ c.in-Err.ensures c.command-in-Err.ensures c.answered-in-Err.ensures c.within.ensures

pub returns-in-Err-clause-takes : goal.returns-in-Err-clause-takes
returns-in-Err-clause-takes c = line_takes command_part (λ x. x) c.args.bytes.now _ (returns-in-Err-clause-answers c)

pub returns-in-Err-clause-waits : goal.returns-in-Err-clause-waits
returns-in-Err-clause-waits c = line_waits command_part (λ x. x) c.args.bytes.now _ (returns-in-Err-clause-answers c)
