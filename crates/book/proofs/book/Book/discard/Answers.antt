use Rattle.std.proofs.Common.{◌≡◌, true, None, rules}
use Rattle.std.proofs.lemmas.Result.{err_from_is_err_and}
use Rattle.book.specs.declared.book.Pending.TheVariants.{Missing}
use Rattle.book.proofs.BookLemmas.{journal_put, journal_put_or_not}
use Rattle.book.proofs.TurnLemmas.{turned, turned_or_half}
use Rattle.book.proofs.book.Book.discard.Goals as goal

pub returns-in_err-remove-clause-leaves : goal.returns-in_err-remove-clause-leaves
returns-in_err-remove-clause-leaves g c = λ honest.
    let e = err_from_is_err_and c.from_residual.result c.from_residual.ensures.1 in
    let book = c.args.self.now in
    let ready : book.is_ready ≡ true = search rules in
    let old = (g.S.Shelf.seen book.shelf).stored in
    let new = (g.S.Shelf.seen c.remove.new.self).stored in
    rw (e.1) (turned_or_half old new book.state book.pending Missing Missing (book.holds ready (c.remove.ensures.was_honest honest))
    (journal_put_or_not None old new book.state book.pending Missing Missing (c.in_err-remove.ensures.call.left honest) (λ _. tt) (book.holds ready (c.remove.ensures.was_honest honest))))

pub invariant_of-self-2 : goal.invariant_of-self-2
invariant_of-self-2 g c =
    let book = c.args.self.now in
    let ready : book.is_ready ≡ true = search rules in
    record {
      sound = book.sound;
      is_whole = λ _. c.in_ok-remove.ensures.call.is_whole;
      holds = λ _ honest. journal_put None (g.S.Shelf.seen book.shelf).stored (g.S.Shelf.seen c.remove.new.self).stored book.state book.pending Missing
          (c.in_ok-remove.ensures.call.effect honest) (λ _. tt) (book.holds ready (c.remove.ensures.was_honest honest));
      fits = tt;
      knows = λ _. tt;
    }

pub returns-clause-leaves : goal.returns-clause-leaves
returns-clause-leaves g c = λ honest.
    let book = c.args.self.now in
    let ready : book.is_ready ≡ true = search rules in
    let old = (g.S.Shelf.seen book.shelf).stored in
    let new = (g.S.Shelf.seen c.remove.new.self).stored in
    turned old new book.state book.pending Missing (book.holds ready (c.remove.ensures.was_honest honest))
    (journal_put None old new book.state book.pending Missing (c.in_ok-remove.ensures.call.effect honest) (λ _. tt) (book.holds ready (c.remove.ensures.was_honest honest)))
