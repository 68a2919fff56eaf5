use Rattle.imap_session.specs.Boxes.{far_of}
use Rattle.imap_server.proofs.ExpungeLemmas.{expunge_answered}
use Rattle.imap_server.proofs.service.Service.expunge.Goals as goal

pub returns-in_ok-say_done-in-Some-clause-ok : goal.returns-in_ok-say_done-in-Some-clause-ok
returns-in_ok-say_done-in-Some-clause-ok c =
    expunge_answered c.args.self.now c.expunge_at.new.self c.args.tag c.args.set.now (far_of c.mailbox.result.now) c.in-Some.place c.args.out.now.items c.say_removed.new.out.items c.say_done.new.out.items
    c.in-Some.ensures c.mailbox.ensures.there c.in_ok-say_removed-in-Some.ensures c.in_ok-say_done-in-Some.ensures c.expunge_at.ensures
