use Rattle.imap_session.proofs.Opening.{new_end_is_empty, kept_is_unread}
use Rattle.imap_session.proofs.sessions.new_connections_are_empty.Goals as goal

pub returns : goal.returns
returns c = record { empty = new_end_is_empty; known = kept_is_unread }
