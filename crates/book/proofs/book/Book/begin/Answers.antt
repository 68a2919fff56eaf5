use Rattle.std.proofs.Common.{◌≡◌, ◌∙◌, true, false, List, [], ap, sym, subst, rules}
use Rattle.std.specs.List.{list_any}
use Rattle.std.proofs.lemmas.Result.{err_from_is_err_and}
use Rattle.book.specs.declared.book.Pending.{Pending}
use Rattle.book.specs.declared.book.Pending.TheVariants.{Missing, Useless, Planned}
use Rattle.sync_state.specs.declared.version.Version.TheVariants.{Two}
use Rattle.sync_state.specs.declared.journal.Logged.{Logged}
use Rattle.book.specs.Books.{Holds, Fits}
use Rattle.rules.specs.declared.entry.Entry.{Entry}
use Rattle.book.specs.BookLogs.{begun}
use Rattle.rules.specs.declared.plan.Step.{Step}
use Rattle.book.specs.Agreement.{Copy, copies_of}
use Rattle.book.specs.TakenUids.{KnowsTaken, copies_one}
use Rattle.book.proofs.AgreementLemmas.{no_copies}
use Rattle.book.proofs.BookLemmas.{journal_put}
use Rattle.book.proofs.BeginLemmas.{plan_after_nothing, begun_or_not, begun_fits}
use Rattle.book.proofs.TurnLemmas.{turned, turned_or_half}
use Rattle.book.proofs.book.Book.begin.Goals as goal

pub returns-in_err-append-clause-leaves : goal.returns-in_err-append-clause-leaves
returns-in_err-append-clause-leaves g c = λ honest.
    let e = err_from_is_err_and c.from_residual-in_err-append.result c.from_residual-in_err-append.ensures.1 in
    let book = c.args.self.now in
    let ready : book.is_ready ≡ true = search rules in
    let old = (g.S.Shelf.seen book.shelf).stored in
    let new = (g.S.Shelf.seen c.append.new.self).stored in
    let text = c.deref.ensures.value ∙ c.in_ok-text.ensures.spelled in
    let held : Holds old book.state Missing = subst (λ (p : Pending). Holds old book.state p) c.requires.missing (book.holds ready (c.append.ensures.was_honest honest)) in
    rw (e.1) (turned_or_half old new book.state Missing (begun c.args.plan) Useless held
    (begun_or_not old new book.state c.args.plan c.deref.result.now
    (c.in_err-append.ensures.call.left honest) c.requires.has_text c.requires.next c.requires.agrees text held))

pub invariant_of-self-2 : goal.invariant_of-self-2
invariant_of-self-2 g c =
    let book = c.args.self.now in
    let old = (g.S.Shelf.seen book.shelf).stored in
    let new = (g.S.Shelf.seen c.append.new.self).stored in
    let plan = c.args.plan in
    let ready : book.is_ready ≡ true = search rules in
    let text = c.deref.ensures.value ∙ c.in_ok-text.ensures.spelled in
    let now : Planned (record { version = Two; journal = record { plan = plan; log = c.from_vec-log.result }; is_torn = false }) ≡ begun plan =
    ap (λ (l : List Logged). Planned (record { version = Two; journal = record { plan = plan; log = l }; is_torn = false })) (c.from_vec-log.ensures ∙ c.new.ensures.items) in
    record {
      sound = book.sound;
      is_whole = λ _. c.in_ok-append.ensures.call.is_whole;
      holds = λ _ honest.
          let held : Holds old book.state Missing = subst (λ (p : Pending). Holds old book.state p) c.requires.missing (book.holds ready (c.append.ensures.was_honest honest)) in
          subst (λ (p : Pending). Holds new book.state p) (sym now)
          (journal_put _ old new book.state Missing (begun plan) (c.in_ok-append.ensures.call.effect honest)
          (plan_after_nothing book.state old.journal plan c.deref.result.now c.requires.has_text c.requires.next c.requires.agrees text) held);
      knows = λ _ some.
          let some_as_read = subst (λ (s : List Step). list_any copies_one s ≡ true) (sym c.as_slice.ensures) some in
          let entries = subst (λ (es : List Entry). KnowsTaken es c.as_slice.result.now [] c.in_ok-taken.taken) c.as_slice-entries.ensures.all (c.in_ok-taken.ensures some_as_read) in
          let steps = subst (λ (s : List Step). KnowsTaken book.state.entries s [] c.in_ok-taken.taken) c.as_slice.ensures entries in
          subst (λ (cs : List Copy). KnowsTaken book.state.entries plan.steps cs c.in_ok-taken.taken)
          (sym (ap (λ (l : List Logged). copies_of plan.steps l) (c.from_vec-log.ensures ∙ c.new.ensures.items) ∙ no_copies plan.steps)) steps;
      fits = subst (λ (p : Pending). Fits book.state p) (sym now) (begun_fits book.state plan c.requires.has_text c.requires.next c.requires.agrees);
    }

pub returns-clause-leaves : goal.returns-clause-leaves
returns-clause-leaves g c = λ honest.
    let book = c.args.self.now in
    let ready : book.is_ready ≡ true = search rules in
    let old = (g.S.Shelf.seen book.shelf).stored in
    let new = (g.S.Shelf.seen c.append.new.self).stored in
    let plan = c.args.plan in
    let text = c.deref.ensures.value ∙ c.in_ok-text.ensures.spelled in
    let held : Holds old book.state Missing = subst (λ (p : Pending). Holds old book.state p) c.requires.missing (book.holds ready (c.append.ensures.was_honest honest)) in
    turned old new book.state Missing (begun plan) held
    (journal_put _ old new book.state Missing (begun plan) (c.in_ok-append.ensures.call.effect honest)
    (plan_after_nothing book.state old.journal plan c.deref.result.now c.requires.has_text c.requires.next c.requires.agrees text) held)
