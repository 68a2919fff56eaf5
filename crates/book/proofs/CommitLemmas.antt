-- What the files hold once the state's file has changed.
use Rattle.std.proofs.Common.{◌≡◌, ◌⊎◌, inl, inr, ℕ, List, Option, Some, None, sym, subst, arith}
use Rattle.std.proofs.Math.Logic.{∥∥₁_map}
use Rattle.rules.specs.declared.state.SyncState.{SyncState}
use Rattle.sync_state.specs.declared.journal.WrittenJournal.{WrittenJournal}
use Rattle.book.specs.declared.shelf.ShelfFile.TheVariants.{State, Journal}
use Rattle.book.specs.declared.book.Pending.TheVariants.{Missing, Useless, Planned}
use Rattle.sync_state.specs.declared.version.Version.TheVariants.{Two}
use Rattle.sync_state.specs.StateText.{IsStateText}
use Rattle.book.specs.Shelves.{Files, Puts, with_file}
use Rattle.book.specs.Books.{Held, Holds, HoldsJournal, HoldsStateIn}
use Rattle.book.specs.Committed.{Commits}
use Rattle.book.specs.Commits.{LeavesCommit}
use Rattle.book.proofs.BookLemmas.{same_files, journal_put}

-- the journal is of a run that was made
useless_now : (before after : SyncState) (file : Option (List ℕ)) (w : WrittenJournal) → after.run ≡ w.journal.plan.run → HoldsJournal before file (Planned w)
    → HoldsJournal after file Useless
useless_now before after None w same h = absurd h
useless_now before after (Some text) w same h = record { old = λ _. (w, h.is_next.written_is, omega (arith, same)) }

pub state_put : (text : List ℕ) (old new : Files) (before after : SyncState) (w : WrittenJournal) → Puts State (Some text) old new → IsStateText Two after text
    → after.run ≡ w.journal.plan.run → Holds old before (Planned w) → Holds new after Useless
state_put text old new before after w puts spelled same h =
    ∥∥₁_map h (λ held.
    let here : Held (with_file State (Some text) old) after Useless = record { state_file = record { version = Two; is_text = spelled }; journal_file = useless_now before after old.journal w same held.journal_file } in
    subst (λ (f : Files). Held f after Useless) (sym puts) here)

pub file_put : (text : List ℕ) (old new : Files) (after : SyncState) → Puts State (Some text) old new → IsStateText Two after text → HoldsStateIn Two new.state after
file_put text old new after puts spelled =
    subst (λ (f : Files). HoldsStateIn Two f.state after) (sym puts) spelled

-- the state's file stays as the journal goes
pub file_stays : (old new : Files) (after : SyncState) → Puts Journal None old new → HoldsStateIn Two old.state after → HoldsStateIn Two new.state after
file_stays old new after puts written = subst (λ (f : Files). HoldsStateIn Two f.state after) (sym puts) written

pub state_put_or_not : (text : List ℕ) (old new : Files) (before after : SyncState) (w : WrittenJournal) → (new ≡ old) ⊎ (Puts State (Some text) old new ⊎ ⊥) → IsStateText Two after text
    → Commits w.journal before after → Holds old before (Planned w) → LeavesCommit (Planned w) before new
state_put_or_not text old new before after w (inl same) spelled made h = inl (same_files old new before (Planned w) same h)
state_put_or_not text old new before after w (inr (inl puts)) spelled made h =
    inr (record { state = after; made = made; written = file_put text old new after puts spelled; held = inl (state_put text old new before after w puts spelled made.run h) })
state_put_or_not text old new before after w (inr (inr none)) spelled made h = absurd none

pub journal_removed : (old new : Files) (state : SyncState) → Puts Journal None old new → Holds old state Useless → Holds new state Missing
journal_removed old new state puts h = journal_put None old new state Useless Missing puts (λ _. tt) h

pub journal_removed_or_not : (old new : Files) (before after : SyncState) (w : WrittenJournal) → (new ≡ old) ⊎ (Puts Journal None old new ⊎ ⊥)
    → Commits w.journal before after → HoldsStateIn Two old.state after → Holds old after Useless → LeavesCommit (Planned w) before new
journal_removed_or_not old new before after w (inl same) made written h = inr (record {
  state = after;
  made = made;
  written = subst (λ (f : Files). HoldsStateIn Two f.state after) (sym same) written;
  held = inl (same_files old new after Useless same h);
})
journal_removed_or_not old new before after w (inr (inl puts)) made written h = inr (record {
  state = after;
  made = made;
  written = file_stays old new after puts written;
  held = inr (journal_removed old new after puts h);
})
journal_removed_or_not old new before after w (inr (inr none)) made written h = absurd none
