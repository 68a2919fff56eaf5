use Rattle.imap_session.proofs.ShortReplies.{short_fits, does_short}
use Rattle.imap_session.proofs.sessions.replies_fit.Goals as goal

pub returns-clause-short : goal.returns-clause-short
returns-clause-short c = does_short

pub returns-clause-fit : goal.returns-clause-fit
returns-clause-fit c = short_fits
