use Rattle.imap_session.proofs.Bodies.{fetch_same, store_keeps}
use Rattle.imap_session.proofs.sessions.bodies_stay.Goals as goal

pub returns : goal.returns
returns c = record { fetch = fetch_same; store = store_keeps }
