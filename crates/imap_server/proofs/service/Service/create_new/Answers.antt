use Rattle.std.specs.Prelude.{is_ok}
use Rattle.imap_server.proofs.PlaceLemmas.{served_pushed}
use Rattle.imap_server.proofs.service.Service.create_new.Goals as goal

pub invariant_of-self-in-Some : goal.invariant_of-self-in-Some
invariant_of-self-in-Some c =
    served_pushed (is_ok c.push.result) c.self.inside.mailboxes.items c.push.new.self.items c.in_ok-mailbox-in-Some.mailbox c.push.ensures.items c.self.invariant c.in_ok-mailbox-in-Some.ensures.served
