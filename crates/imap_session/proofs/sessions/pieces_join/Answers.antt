use Rattle.imap_session.proofs.Joins.{feeds-join}
use Rattle.imap_session.proofs.sessions.pieces_join.Goals as goal

pub returns : goal.returns
returns c = feeds-join
