use Rattle.std.proofs.Common.{false}
use Rattle.book.specs.declared.book.Pending.TheVariants.{Missing, Useless}
use Rattle.book.specs.BookLogs.{begun}
use Rattle.book.specs.Books.{Turns, TurnsHalf}
use Rattle.book.specs.Standings.{standing}
use Rattle.run_pair.specs.BookParts.{kept_of}
use Rattle.run_pair.specs.Kept.{OfKept}
use Rattle.run_pair.proofs.BookPartLemmas.{of_kept, part_of, read_to_plan}
use Rattle.run_pair.proofs.book_part.BookPart.begin.Goals as goal

pub returns-clause-part : goal.returns-clause-part
returns-clause-part g c =
    let p = c.args.self.now in
    let b = c.begin in
    let read = (read_to_plan p.is_open p.book.state p.book.pending c.args.plan c.requires.takes) in
    part_of (g.S.Shelf.honest b.new.self.shelf) (OfKept (λ _. Turns Missing (begun c.args.plan)) (kept_of p)) (OfKept (λ _. TurnsHalf Missing Useless) (kept_of p)) Missing (begun c.args.plan) Useless false (standing p.book) (standing b.new.self)
    b.result c.reported_by.result c.reported_by.ensures
    (λ t. of_kept (λ _. Turns Missing (begun c.args.plan)) p.is_open p.book.state p.book.pending _ _ read t) (λ t. of_kept (λ _. TurnsHalf Missing Useless) p.is_open p.book.state p.book.pending _ _ read t)
    b.ensures.leaves b.ensures.ends
