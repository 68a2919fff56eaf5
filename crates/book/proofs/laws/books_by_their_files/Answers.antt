use Rattle.book.proofs.KnownBooks.{book_known}
use Rattle.book.proofs.laws.books_by_their_files.Goals as goal

pub returns : goal.returns
returns c = book_known
