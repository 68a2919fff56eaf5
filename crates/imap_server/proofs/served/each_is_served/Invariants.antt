use Rattle.std.proofs.Common.{All, take}
use Rattle.imap_session.specs.Boxes.{far_of, IsServed}
use Rattle.imap_server.proofs.served.each_is_served.Given as goal

abbrev pub invariant-loop-mailbox : goal.invariant-loop-mailbox
invariant-loop-mailbox l = All (λ m. IsServed (far_of m)) (take l.mailbox-index l.mailboxes)
