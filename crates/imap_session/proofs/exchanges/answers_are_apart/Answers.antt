use Rattle.imap_session.proofs.AnswersApart.{answer_apart}
use Rattle.imap_session.proofs.exchanges.answers_are_apart.Goals as goal

pub returns : goal.returns
returns c = answer_apart
