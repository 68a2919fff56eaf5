use Rattle.imap_session.specs.Ends.{ends_of}
use Rattle.imap_session.proofs.Sent.{sent}
use Rattle.imap_session.proofs.Ended.{done_of}
use Rattle.imap_session.proofs.exchanges.answered_is_done.Goals as goal

pub returns : goal.returns
returns x c from rest tag old mid heard new replies h plain at s hears a =
    done_of c tag (ends_of old heard) (ends_of mid heard) new replies at.reads_on (sent c from rest old mid heard h plain at s) hears a
