use Rattle.std.proofs.Common.{◌∙◌, refl}
use Rattle.imap_session.specs.Arrivals.{NoUid}
use Rattle.imap_session.specs.Boxes.{far_of}
use Rattle.imap_server.proofs.PlaceLemmas.{last_uid}
use Rattle.imap_server.proofs.service.Service.arrive.Goals as goal

pub returns-in-None-clause-ok : goal.returns-in-None-clause-ok
returns-in-None-clause-ok c =
    let m = c.mailbox.result.now in
    (refl, NoUid (far_of m) (c.in-Some.ensures.found ∙ c.mailbox.ensures.there) (last_uid m.next c.mailbox.ensures.served.range.next.below c.mailbox.ensures.served.range.next.positive c.in-None.ensures))
