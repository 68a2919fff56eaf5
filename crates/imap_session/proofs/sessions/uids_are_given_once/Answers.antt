use Rattle.imap_session.specs.Servers.{is_logged_in}
use Rattle.imap_session.proofs.GoingOn.{serve_goes_on}
use Rattle.imap_session.proofs.Giving.{appends_give}
use Rattle.imap_session.proofs.sessions.uids_are_given_once.Goals as goal

pub returns : goal.returns
returns c = record {
  kept = serve_goes_on;
  given = λ old new tag name message flags validity uid replies step says. appends_give old tag name message flags validity uid new (is_logged_in old.condition) replies step says;
}
