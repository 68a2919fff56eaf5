use Rattle.book.proofs.HeldBooks.{held_open}
use Rattle.book.proofs.laws.held_books_open.Goals as goal

pub returns : goal.returns
returns c = held_open
