use Rattle.imap_session.proofs.Visiting.{nobody_visits, visits_follow, visits_reported, arrival_visits}
use Rattle.imap_session.proofs.sessions.visits_follow.Goals as goal

pub returns : goal.returns
returns c = record { nobody = nobody_visits; follow = visits_follow; reported = visits_reported; arrival = arrival_visits }
