use Rattle.std.proofs.Common.{map, take}
use Rattle.imap_session.specs.Answering.{listed}
use Rattle.imap_server.specs.Writing.{Wrote}
use Rattle.imap_server.proofs.list_command.say_names.Given as goal

abbrev pub invariant-loop-name : goal.invariant-loop-name
invariant-loop-name l = Wrote (map listed (map (λ n. n.now) (take l.name-index l.names))) l.initial.out.items l.out.items
