use Rattle.std.proofs.Common.{◌≡◌, ◌∙◌, true, false, Some, sym, subst, rules}
use Rattle.std.proofs.lemmas.Result.{err_from_is_err_and}
use Rattle.book.specs.declared.book.Pending.{Pending}
use Rattle.book.specs.Books.{Holds, Fits, mended}
use Rattle.book.proofs.BookLemmas.{journal_put, journal_put_or_not, pending_mended, mended_fits, already_mended, none_to_mend}
use Rattle.book.specs.TakenUids.{Knows}
use Rattle.book.proofs.TakenLemmas.{mended_known}
use Rattle.book.proofs.TurnLemmas.{turned, turned_or_half}
use Rattle.book.proofs.book.Book.mend.Goals as goal

pub returns-in_default-clause-mended : goal.returns-in_default-clause-mended
returns-in_default-clause-mended g c = none_to_mend c.args.self.now.pending c.in_default.not-Planned

pub returns-then-not-written-clause-mended : goal.returns-then-not-written-clause-mended
returns-then-not-written-clause-mended g c =
    let torn : c.in-Planned.written.is_torn ≡ false = search rules in
    already_mended c.args.self.now.pending c.in-Planned.written c.in-Planned.is torn

pub returns-in_err-replace-clause-leaves : goal.returns-in_err-replace-clause-leaves
returns-in_err-replace-clause-leaves g c = λ honest.
    let e = err_from_is_err_and c.from_residual-in_err-replace.result c.from_residual-in_err-replace.ensures.1 in
    let book = c.args.self.now in
    let ready : book.is_ready ≡ true = search rules in
    let old = (g.S.Shelf.seen book.shelf).stored in
    let new = (g.S.Shelf.seen c.replace.new.self).stored in
    let text = c.deref.ensures.value ∙ c.in_ok-text.ensures.spelled in
    rw (e.1) (turned_or_half old new book.state book.pending (mended book.pending) book.pending (book.holds ready (c.replace.ensures.was_honest honest))
    (journal_put_or_not (Some c.deref.result.now) old new book.state book.pending (mended book.pending) book.pending
    (c.in_err-replace.ensures.call.left honest)
    (pending_mended book.state old.journal book.pending c.in-Planned.written c.deref.result.now c.in-Planned.is text)
    (book.holds ready (c.replace.ensures.was_honest honest))))

pub invariant_of-self-2 : goal.invariant_of-self-2
invariant_of-self-2 g c =
    let book = c.args.self.now in
    let ready : book.is_ready ≡ true = search rules in
    let text = c.deref.ensures.value ∙ c.in_ok-text.ensures.spelled in
    let new = (g.S.Shelf.seen c.replace.new.self).stored in
    record {
      sound = book.sound;
      is_whole = λ _. c.in_ok-replace.ensures.call.is_whole;
      holds = λ _ honest. subst (λ (q : Pending). Holds new book.state q) (sym c.mend_pending.ensures)
          (journal_put (Some c.deref.result.now) (g.S.Shelf.seen book.shelf).stored new book.state book.pending (mended book.pending)
          (c.in_ok-replace.ensures.call.effect honest)
          (pending_mended book.state (g.S.Shelf.seen book.shelf).stored.journal book.pending c.in-Planned.written c.deref.result.now c.in-Planned.is text)
          (book.holds ready (c.replace.ensures.was_honest honest)));
      knows = λ _. subst (λ (q : Pending). Knows book.state.entries q book.taken) (sym c.mend_pending.ensures) (mended_known book.state.entries book.pending book.taken (book.knows ready));
      fits = subst (λ (q : Pending). Fits book.state q) (sym c.mend_pending.ensures) (mended_fits book.state book.pending book.fits);
    }

pub returns-clause-leaves : goal.returns-clause-leaves
returns-clause-leaves g c = λ honest.
    let book = c.args.self.now in
    let ready : book.is_ready ≡ true = search rules in
    let old = (g.S.Shelf.seen book.shelf).stored in
    let new = (g.S.Shelf.seen c.replace.new.self).stored in
    let text = c.deref.ensures.value ∙ c.in_ok-text.ensures.spelled in
    turned old new book.state book.pending (mended book.pending) (book.holds ready (c.replace.ensures.was_honest honest))
    (journal_put (Some c.deref.result.now) old new book.state book.pending (mended book.pending) (c.in_ok-replace.ensures.call.effect honest)
    (pending_mended book.state old.journal book.pending c.in-Planned.written c.deref.result.now c.in-Planned.is text) (book.holds ready (c.replace.ensures.was_honest honest)))
