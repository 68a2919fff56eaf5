use Rattle.std.proofs.Common.{All, take}
use Rattle.mailcore.specs.Ranges.{AreInRange}
use Rattle.wire_strings.specs.Literals.{IsLiteral}
use Rattle.imap_server.proofs.served.are_sent.Given as goal

abbrev pub invariant-loop-message : goal.invariant-loop-message
invariant-loop-message l = All (λ m. IsLiteral m.bytes) (take l.message-index l.messages) × AreInRange (take l.message-index l.messages)
