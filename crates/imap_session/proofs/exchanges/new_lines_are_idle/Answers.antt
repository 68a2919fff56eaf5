use Rattle.imap_session.proofs.Greeted.{greeted}
use Rattle.imap_session.proofs.exchanges.new_lines_are_idle.Goals as goal

pub returns : goal.returns
returns c = greeted
