use Rattle.imap_session.specs.Ends.{ends_of}
use Rattle.imap_session.proofs.Asked.{asked, go_heard}
use Rattle.imap_session.proofs.exchanges.front_is_asked.Goals as goal

pub returns : goal.returns
returns x c from rest n old mid heard new reply h some asking idle s hears =
    go_heard from (ends_of old heard) (ends_of mid heard) new reply idle.reads_on (asked c from rest n old mid heard h some asking idle s) hears
