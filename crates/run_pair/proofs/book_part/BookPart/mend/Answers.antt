use Rattle.std.proofs.Common.{false}
use Rattle.book.specs.Books.{mended}
use Rattle.book.specs.Books.{Turns, TurnsHalf}
use Rattle.book.specs.Standings.{standing}
use Rattle.run_pair.specs.BookParts.{kept_of}
use Rattle.run_pair.specs.Kept.{OfKept}
use Rattle.run_pair.proofs.BookPartLemmas.{of_kept, part_of}
use Rattle.run_pair.proofs.book_part.BookPart.mend.Goals as goal

pub returns-clause-part : goal.returns-clause-part
returns-clause-part g c =
    let p = c.args.self.now in
    let b = c.mend in
    let read = c.requires.read in
    part_of (g.S.Shelf.honest b.new.self.shelf) (OfKept (λ p. Turns p (mended p)) (kept_of p)) (OfKept (λ p. TurnsHalf p p) (kept_of p)) p.book.pending (mended p.book.pending) p.book.pending false (standing p.book) (standing b.new.self)
    b.result c.reported_by.result c.reported_by.ensures
    (λ t. of_kept (λ p. Turns p (mended p)) p.is_open p.book.state p.book.pending _ _ read t) (λ t. of_kept (λ p. TurnsHalf p p) p.is_open p.book.state p.book.pending _ _ read t)
    b.ensures.leaves b.ensures.ends
