use Rattle.std.proofs.lemmas.List.Elements.{All-map}
use Rattle.imap_session.specs.Boxes.{far_of, IsServed}
use Rattle.imap_server.proofs.ServedLemmas.{all_unmap}
use Rattle.imap_server.proofs.served.are_served.Goals as goal

-- src/served.rt:14:1
pub returns : goal.returns
returns c =
    (λ yes. All-map IsServed far_of c.args.mailboxes.now (c.each_is_served.ensures.0 yes), λ all. c.each_is_served.ensures.1 (all_unmap IsServed far_of c.args.mailboxes.now all))
