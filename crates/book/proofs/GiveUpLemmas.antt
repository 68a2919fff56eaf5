-- What the files hold once a plan is given up, in part or whole.
use Rattle.std.proofs.Common.{◌≡◌, ◌⊎◌, inl, inr, ℕ, List, Some, None, sym, subst, arith}
use Rattle.std.proofs.lemmas.Bool.{cases_lt}
use Rattle.rules.specs.declared.state.SyncState.{SyncState}
use Rattle.rules.specs.Opening.{IsFirst}
use Rattle.sync_state.specs.declared.journal.WrittenJournal.{WrittenJournal}
use Rattle.sync_state.specs.declared.version.Version.TheVariants.{Two}
use Rattle.sync_state.specs.StateText.{IsHighest, IsStateText}
use Rattle.book.specs.declared.book.Pending.{Pending}
use Rattle.book.specs.declared.book.Pending.TheVariants.{Useless, Planned}
use Rattle.book.specs.declared.shelf.ShelfFile.TheVariants.{State, Journal}
use Rattle.book.specs.Shelves.{Files, Puts}
use Rattle.book.specs.Books.{Holds, HoldsStateIn, IsSound}
use Rattle.book.specs.GivingUp.{GivesUp, GivesUpHalf, GivesUpTo, HoldsGivenUp, LeavesGivingUp}
use Rattle.book.specs.LostSides.{Lost}
use Rattle.book.proofs.BookLemmas.{same_files}
use Rattle.book.proofs.CommitLemmas.{file_put, file_stays, journal_removed, state_put}
use Rattle.book.proofs.TurnLemmas.{same_state}

pub left_put_or_not : (lost : Lost) (text : List ℕ) (old new : Files) (before after : SyncState) (w : WrittenJournal) → (new ≡ old) ⊎ (Puts State (Some text) old new ⊎ ⊥) → IsStateText Two after text
    → GivesUp w.journal lost before after → Holds old before (Planned w) → LeavesGivingUp lost (Planned w) before new
left_put_or_not lost text old new before after w (inl same) spelled left h = inl (same_files old new before (Planned w) same h)
left_put_or_not lost text old new before after w (inr (inl puts)) spelled left h =
    inr (record { state = after; left = left; written = file_put text old new after puts spelled; held = inl (state_put text old new before after w puts spelled left.run h) })
left_put_or_not lost text old new before after w (inr (inr none)) spelled left h = absurd none

pub left_removed_or_not : (lost : Lost) (old new : Files) (before after : SyncState) (w : WrittenJournal) → (new ≡ old) ⊎ (Puts Journal None old new ⊎ ⊥)
    → GivesUp w.journal lost before after → HoldsStateIn Two old.state after → Holds old after Useless → LeavesGivingUp lost (Planned w) before new
left_removed_or_not lost old new before after w (inl same) left written h = inr (record {
  state = after;
  left = left;
  written = subst (λ (f : Files). HoldsStateIn Two f.state after) (sym same) written;
  held = inl (same_files old new after Useless same h);
})
left_removed_or_not lost old new before after w (inr (inl puts)) left written h = inr (record {
  state = after;
  left = left;
  written = file_stays old new after puts written;
  held = inr (journal_removed old new after puts h);
})
left_removed_or_not lost old new before after w (inr (inr none)) left written h = absurd none

pub given_up_to : (lost : Lost) (old new : Files) (state : SyncState) (p : Pending) → Holds old state p → HoldsGivenUp lost p state new → GivesUpTo lost p old new
given_up_to lost old new state p found made = λ s held. subst (λ (x : SyncState). HoldsGivenUp lost p x new) (same_state old state s p found held) made

pub given_up_half : (lost : Lost) (old new : Files) (state : SyncState) (p : Pending) → Holds old state p → LeavesGivingUp lost p state new → GivesUpHalf lost p old new
given_up_half lost old new state p found left = λ s held. subst (λ (x : SyncState). LeavesGivingUp lost p x new) (same_state old state s p found held) left

-- the highest UIDs of a state that a book has
first_highest : (s : SyncState) → IsFirst s → IsHighest s.max_pulled × IsHighest s.max_pushed
first_highest s first = (omega (arith, first.max_pulled), omega (arith, first.max_pushed))

pub sound_highest : (s : SyncState) → IsSound s → IsHighest s.max_pulled × IsHighest s.max_pushed
sound_highest s sound = elim (cases_lt 0 s.run) [
  | inl made ↦ ((sound.made made).max_pulled, (sound.made made).max_pushed)
  | inr none ↦ first_highest s (sound.none (omega (arith, none)))
]
