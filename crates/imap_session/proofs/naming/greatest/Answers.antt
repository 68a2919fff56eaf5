use Rattle.imap_session.proofs.NamingLemmas.{top_of_last}
use Rattle.imap_session.proofs.naming.greatest.Goals as goal

pub returns-in-len1-up : goal.returns-in-len1-up
returns-in-len1-up c =
    top_of_last c.args.messages.now c.last-item.result c.get.result c.in-len1-up.len_at_least c.last-item.is c.get.ensures.number c.get.ensures.positive c.get.ensures.below_last
