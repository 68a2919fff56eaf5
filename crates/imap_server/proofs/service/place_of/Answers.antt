use Rattle.imap_server.proofs.PlaceLemmas.{place_of}
use Rattle.imap_server.proofs.service.place_of.Goals as goal

pub returns : goal.returns
returns c = place_of c.args.name.now c.args.mailboxes.now c.first_named.result c.first_named.ensures
