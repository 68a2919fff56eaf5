use Rattle.std.proofs.Common.{◌≡◌, ◌∙◌, inl, true, sym, subst, rules}
use Rattle.std.proofs.lemmas.Result.{err_from_is_err_and}
use Rattle.book.specs.declared.book.Pending.{Pending}
use Rattle.book.specs.Books.{Holds, Fits, torn}
use Rattle.book.specs.BookLogs.{logged_more}
use Rattle.book.proofs.BookLemmas.{journal_put}
use Rattle.book.proofs.LoggedLemmas.{logged_or_not, more_after, more_fits}
use Rattle.book.specs.TakenUids.{Knows}
use Rattle.book.proofs.TurnLemmas.{turned, turned_or_half}
use Rattle.book.proofs.book.Book.log.Goals as goal

pub returns-in_err-append-clause-leaves : goal.returns-in_err-append-clause-leaves
returns-in_err-append-clause-leaves g c = λ honest.
    let e = err_from_is_err_and c.from_residual-in_err-append.result c.from_residual-in_err-append.ensures.1 in
    let book = c.args.self.now in
    let ready : book.is_ready ≡ true = search rules in
    let old = (g.S.Shelf.seen book.shelf).stored in
    let new = (g.S.Shelf.seen c.append.new.self).stored in
    rw (e.1) (turned_or_half old new book.state book.pending (logged_more book.pending c.args.logged) (torn book.pending) (book.holds ready (c.append.ensures.was_honest honest))
    (logged_or_not old new book.state book.pending c.args.step c.args.logged c.deref.result.now
    (c.in_err-append.ensures.call.left honest) c.requires.next (c.requires.free ready) c.ranges.step.fits (c.deref.ensures.value ∙ c.in_ok-line.ensures) (book.holds ready (c.append.ensures.was_honest honest))))

pub returns-in_err-add_next-clause-leaves : goal.returns-in_err-add_next-clause-leaves
returns-in_err-add_next-clause-leaves g c = λ honest.
    let e = err_from_is_err_and c.from_residual-in_err-add_next.result c.from_residual-in_err-add_next.ensures.1 in
    let book = c.args.self.now in
    let ready : book.is_ready ≡ true = search rules in
    let old = (g.S.Shelf.seen book.shelf).stored in
    let new = (g.S.Shelf.seen c.append.new.self).stored in
    rw (e.1) (inl (turned old new book.state book.pending (logged_more book.pending c.args.logged) (book.holds ready (c.append.ensures.was_honest honest))
    (journal_put _ old new book.state book.pending (logged_more book.pending c.args.logged) (c.in_ok-append.ensures.call.effect honest)
    (more_after book.state old.journal book.pending c.args.step c.args.logged c.deref.result.now c.requires.next (c.requires.free ready) c.ranges.step.fits (c.deref.ensures.value ∙ c.in_ok-line.ensures))
    (book.holds ready (c.append.ensures.was_honest honest)))))

pub returns-in_err-log_pending-clause-leaves : goal.returns-in_err-log_pending-clause-leaves
returns-in_err-log_pending-clause-leaves g c = λ honest.
    let e = err_from_is_err_and c.from_residual-in_err-log_pending.result c.from_residual-in_err-log_pending.ensures.1 in
    let book = c.args.self.now in
    let ready : book.is_ready ≡ true = search rules in
    let old = (g.S.Shelf.seen book.shelf).stored in
    let new = (g.S.Shelf.seen c.append.new.self).stored in
    rw (e.1) (inl (turned old new book.state book.pending (logged_more book.pending c.args.logged) (book.holds ready (c.append.ensures.was_honest honest))
    (journal_put _ old new book.state book.pending (logged_more book.pending c.args.logged) (c.in_ok-append.ensures.call.effect honest)
    (more_after book.state old.journal book.pending c.args.step c.args.logged c.deref.result.now c.requires.next (c.requires.free ready) c.ranges.step.fits (c.deref.ensures.value ∙ c.in_ok-line.ensures))
    (book.holds ready (c.append.ensures.was_honest honest)))))

pub invariant_of-self-2 : goal.invariant_of-self-2
invariant_of-self-2 g c =
    let book = c.args.self.now in
    let ready : book.is_ready ≡ true = search rules in
    let old = (g.S.Shelf.seen book.shelf).stored in
    let new = (g.S.Shelf.seen c.append.new.self).stored in
    record {
      sound = book.sound;
      is_whole = λ _. c.in_ok-append.ensures.call.is_whole;
      holds = λ _ honest. subst (λ (p : Pending). Holds new book.state p) (sym c.in_ok-log_pending.ensures.ok)
          (journal_put _ old new book.state book.pending (logged_more book.pending c.args.logged) (c.in_ok-append.ensures.call.effect honest)
          (more_after book.state old.journal book.pending c.args.step c.args.logged c.deref.result.now c.requires.next (c.requires.free ready) c.ranges.step.fits (c.deref.ensures.value ∙ c.in_ok-line.ensures))
          (book.holds ready (c.append.ensures.was_honest honest)));
      knows = λ _. subst (λ (p : Pending). Knows book.state.entries p c.add_next.new.self) (sym c.in_ok-log_pending.ensures.ok) (c.in_ok-add_next.ensures book.state.entries (book.knows ready));
      fits = subst (λ (p : Pending). Fits book.state p) (sym c.in_ok-log_pending.ensures.ok)
          (more_fits book.state book.pending c.args.step c.args.logged c.requires.next (c.requires.free ready) book.fits);
    }

pub returns-clause-leaves : goal.returns-clause-leaves
returns-clause-leaves g c = λ honest.
    let book = c.args.self.now in
    let ready : book.is_ready ≡ true = search rules in
    let old = (g.S.Shelf.seen book.shelf).stored in
    let new = (g.S.Shelf.seen c.append.new.self).stored in
    turned old new book.state book.pending (logged_more book.pending c.args.logged) (book.holds ready (c.append.ensures.was_honest honest))
    (journal_put _ old new book.state book.pending (logged_more book.pending c.args.logged) (c.in_ok-append.ensures.call.effect honest)
    (more_after book.state old.journal book.pending c.args.step c.args.logged c.deref.result.now c.requires.next (c.requires.free ready) c.ranges.step.fits (c.deref.ensures.value ∙ c.in_ok-line.ensures))
    (book.holds ready (c.append.ensures.was_honest honest)))
