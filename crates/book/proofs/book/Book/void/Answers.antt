use Rattle.book.proofs.LoggedLemmas.{void_is_not_refused}
use Rattle.book.proofs.book.Book.void.Goals as goal

pub log-requires-clause-free : goal.log-requires-clause-free
log-requires-clause-free g c = λ ready. void_is_not_refused c.args.self.now.state.entries c.args.self.now.pending
