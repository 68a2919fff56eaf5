use Rattle.std.proofs.Common.{◌≡◌, ◌++◌, take, drop, map}
use Rattle.wire_tokens.specs.Sets.{names}
use Rattle.imap_session.specs.NamedMessages.{greatest}
use Rattle.imap_session.specs.Changing.{given}
use Rattle.imap_session.proofs.changing.give_flags.Given as goal

abbrev pub invariant-loop-index : goal.invariant-loop-index
invariant-loop-index l =
    l.list ≡ map (given (names (greatest l.initial.list) l.set) l.mode l.flags) (take l.index l.initial.list) ++ drop l.index l.initial.list
