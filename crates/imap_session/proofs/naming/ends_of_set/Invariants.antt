use Rattle.std.proofs.Common.{take}
use Rattle.imap_session.specs.Naming.{AreBetween}
use Rattle.imap_session.proofs.naming.ends_of_set.Given as goal

-- so it is with the items so far
abbrev pub invariant-loop-item : goal.invariant-loop-item
invariant-loop-item l = AreBetween l.top l.low l.high (take l.item-index l.set)
