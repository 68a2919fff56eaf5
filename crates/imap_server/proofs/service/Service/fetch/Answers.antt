use Rattle.std.proofs.Common.{◌∙◌, ap}
use Rattle.imap_session.specs.Servers.{Server}
use Rattle.imap_session.specs.Boxes.{far_of}
use Rattle.imap_server.proofs.FetchLemmas.{fetch_answered}
use Rattle.imap_server.proofs.service.Service.fetch.Goals as goal

pub returns-in_ok-say_done-in-Some : goal.returns-in_ok-say_done-in-Some
returns-in_ok-say_done-in-Some c =
    fetch_answered c.args.self.now c.self.inside.keywords c.args.tag c.args.set.now c.args.items (far_of c.mailbox.result.now) c.args.out.now.items c.say_messages.new.out.items c.say_done.new.out.items
    (ap (λ (v : Server). v.keywords) c.self.view_is) (c.in-Some.ensures.found ∙ c.mailbox.ensures.there) c.in_ok-say_messages-in-Some.ensures c.in_ok-say_done-in-Some.ensures
