use Rattle.std.proofs.Common.{◌≡◌, ◌∙◌, true, sym, subst, rules}
use Rattle.std.proofs.lemmas.Result.{err_from_is_err_and}
use Rattle.book.specs.declared.book.Pending.{Pending}
use Rattle.book.specs.declared.book.Pending.TheVariants.{Useless, Planned}
use Rattle.sync_state.specs.declared.version.Version.TheVariants.{Two}
use Rattle.sync_state.specs.StateText.{IsStateText}
use Rattle.book.specs.Books.{Holds}
use Rattle.book.specs.GivingUp.{LeavesGivingUp, HoldsGivenUp}
use Rattle.book.proofs.CommitLemmas.{file_put, file_stays, state_put, journal_removed}
use Rattle.book.proofs.GiveUpLemmas.{given_up_half, given_up_to, left_put_or_not, left_removed_or_not, sound_highest}
use Rattle.book.proofs.TurnLemmas.{sound_entries}
use Rattle.book.proofs.book.Book.give_up.Goals as goal

pub given_up-requires-clause-entries : goal.given_up-requires-clause-entries
given_up-requires-clause-entries g c = sound_entries c.args.self.now.state c.args.self.now.sound

pub given_up-requires-clause-highest : goal.given_up-requires-clause-highest
given_up-requires-clause-highest g c = sound_highest c.args.self.now.state c.args.self.now.sound

pub returns-in_err-replace-clause-leaves : goal.returns-in_err-replace-clause-leaves
returns-in_err-replace-clause-leaves g c = λ honest.
    let e = err_from_is_err_and c.from_residual-in_err-replace.result c.from_residual-in_err-replace.ensures.1 in
    let book = c.args.self.now in
    let ready : book.is_ready ≡ true = search rules in
    let old = (g.S.Shelf.seen book.shelf).stored in
    let new = (g.S.Shelf.seen c.replace.new.self).stored in
    let w = c.in-Planned.written in
    let spelled : IsStateText Two c.in_ok-state.state c.deref.result.now = record { fits = c.in_ok-state.ensures.has_text; spelled = c.deref.ensures.value ∙ c.in_ok-text.ensures.spelled } in
    let held : Holds old book.state (Planned w) = subst (λ (p : Pending). Holds old book.state p) c.in-Planned.is (book.holds ready (c.replace.ensures.was_honest honest)) in
    rw (e.1) (given_up_half c.args.lost.now old new book.state book.pending (book.holds ready (c.replace.ensures.was_honest honest))
    (subst (λ (p : Pending). LeavesGivingUp c.args.lost.now p book.state new) (sym c.in-Planned.is)
    (left_put_or_not c.args.lost.now c.deref.result.now old new book.state c.in_ok-state.state w (c.in_err-replace.ensures.call.left honest) spelled c.in_ok-state.ensures.gives_up held)))

pub returns-in_err-remove-clause-leaves : goal.returns-in_err-remove-clause-leaves
returns-in_err-remove-clause-leaves g c = λ honest.
    let then = c.remove.ensures.was_honest honest in
    let e = err_from_is_err_and c.from_residual-in_err-remove.result c.from_residual-in_err-remove.ensures.1 in
    let book = c.args.self.now in
    let ready : book.is_ready ≡ true = search rules in
    let old = (g.S.Shelf.seen book.shelf).stored in
    let mid = (g.S.Shelf.seen c.replace.new.self).stored in
    let new = (g.S.Shelf.seen c.remove.new.self).stored in
    let w = c.in-Planned.written in
    let spelled : IsStateText Two c.in_ok-state.state c.deref.result.now = record { fits = c.in_ok-state.ensures.has_text; spelled = c.deref.ensures.value ∙ c.in_ok-text.ensures.spelled } in
    let held : Holds old book.state (Planned w) = subst (λ (p : Pending). Holds old book.state p) c.in-Planned.is (book.holds ready (c.replace.ensures.was_honest then)) in
    let put : Holds mid c.in_ok-state.state _ = state_put c.deref.result.now old mid book.state c.in_ok-state.state w (c.in_ok-replace.ensures.call.effect then) spelled c.in_ok-state.ensures.gives_up.run held in
    rw (e.1) (given_up_half c.args.lost.now old new book.state book.pending (book.holds ready (c.replace.ensures.was_honest then))
    (subst (λ (p : Pending). LeavesGivingUp c.args.lost.now p book.state new) (sym c.in-Planned.is)
    (left_removed_or_not c.args.lost.now mid new book.state c.in_ok-state.state w (c.in_err-remove.ensures.call.left honest) c.in_ok-state.ensures.gives_up
    (file_put c.deref.result.now old mid c.in_ok-state.state (c.in_ok-replace.ensures.call.effect then) spelled) put)))

pub returns-clause-leaves : goal.returns-clause-leaves
returns-clause-leaves g c = λ honest.
    let then = c.remove.ensures.was_honest honest in
    let book = c.args.self.now in
    let ready : book.is_ready ≡ true = search rules in
    let old = (g.S.Shelf.seen book.shelf).stored in
    let mid = (g.S.Shelf.seen c.replace.new.self).stored in
    let new = (g.S.Shelf.seen c.remove.new.self).stored in
    let w = c.in-Planned.written in
    let spelled : IsStateText Two c.in_ok-state.state c.deref.result.now = record { fits = c.in_ok-state.ensures.has_text; spelled = c.deref.ensures.value ∙ c.in_ok-text.ensures.spelled } in
    let held : Holds old book.state (Planned w) = subst (λ (p : Pending). Holds old book.state p) c.in-Planned.is (book.holds ready (c.replace.ensures.was_honest then)) in
    let put : Holds mid c.in_ok-state.state Useless = state_put c.deref.result.now old mid book.state c.in_ok-state.state w (c.in_ok-replace.ensures.call.effect then) spelled c.in_ok-state.ensures.gives_up.run held in
    let made : HoldsGivenUp c.args.lost.now (Planned w) book.state new = record {
      state = c.in_ok-state.state;
      left = c.in_ok-state.ensures.gives_up;
      written = file_stays mid new c.in_ok-state.state (c.in_ok-remove.ensures.call.effect honest)
          (file_put c.deref.result.now old mid c.in_ok-state.state (c.in_ok-replace.ensures.call.effect then) spelled);
      held = journal_removed mid new c.in_ok-state.state (c.in_ok-remove.ensures.call.effect honest) put;
    } in
    given_up_to c.args.lost.now old new book.state book.pending (book.holds ready (c.replace.ensures.was_honest then))
    (subst (λ (p : Pending). HoldsGivenUp c.args.lost.now p book.state new) (sym c.in-Planned.is) made)

pub invariant_of-self-2-clause-knows : goal.invariant_of-self-2-clause-knows
invariant_of-self-2-clause-knows g c = λ _. tt
