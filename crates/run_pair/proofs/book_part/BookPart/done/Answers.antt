use Rattle.book.specs.BookLogs.{as_done, is_refused, logged_more}
use Rattle.book.specs.Books.{torn}
use Rattle.book.specs.Books.{Turns, TurnsHalf}
use Rattle.book.specs.Standings.{standing}
use Rattle.run_pair.specs.BookParts.{kept_of}
use Rattle.run_pair.specs.Kept.{OfKept}
use Rattle.run_pair.proofs.BookPartLemmas.{of_kept, part_of, read_to_log}
use Rattle.run_pair.proofs.book_part.BookPart.done.Goals as goal

pub returns-clause-part : goal.returns-clause-part
returns-clause-part g c =
    let p = c.args.self.now in
    let b = c.done in
    let read = (read_to_log p.is_open p.book.state p.book.pending c.args.step (as_done c.args.copy) c.requires.takes) in
    part_of (g.S.Shelf.honest b.new.self.shelf) (OfKept (λ p. Turns p (logged_more p (as_done c.args.copy))) (kept_of p)) (OfKept (λ p. TurnsHalf p (torn p)) (kept_of p)) p.book.pending (logged_more p.book.pending (as_done c.args.copy)) (torn p.book.pending) (is_refused p.book.state.entries p.book.pending (as_done c.args.copy)) (standing p.book) (standing b.new.self)
    b.result c.reported_by.result c.reported_by.ensures
    (λ t. of_kept (λ p. Turns p (logged_more p (as_done c.args.copy))) p.is_open p.book.state p.book.pending _ _ read t) (λ t. of_kept (λ p. TurnsHalf p (torn p)) p.is_open p.book.state p.book.pending _ _ read t)
    b.ensures.leaves b.ensures.ends
