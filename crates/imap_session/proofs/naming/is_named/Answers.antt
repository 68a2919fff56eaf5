use Rattle.imap_session.proofs.NamingLemmas.{named_by}
use Rattle.imap_session.proofs.naming.is_named.Goals as goal

pub returns : goal.returns
returns c = named_by c.args.set.now c.args.top c.args.uid c.new.result c.names.result c.new.ensures c.names.ensures.test
