-- From the book that a call found and the one that it left to what it does with whatever book the files hold.
use Rattle.std.proofs.Common.{◌≡◌, ◌⊎◌, inl, inr, List, sym, subst, arith}
use Rattle.std.specs.Prelude.{All}
use Rattle.std.proofs.lemmas.Bool.{cases_lt}
use Rattle.std.proofs.lemmas.List.Elements.{All-nil}
use Rattle.rules.specs.declared.entry.Entry.{Entry}
use Rattle.rules.specs.declared.state.SyncState.{SyncState}
use Rattle.book.specs.declared.book.Pending.{Pending}
use Rattle.sync_state.specs.declared.version.Version.TheVariants.{Two}
use Rattle.sync_state.specs.StateText.{IsEntry}
use Rattle.book.specs.Shelves.{Files}
use Rattle.book.specs.Books.{Holds, Turns, TurnsHalf, IsSound}
use Rattle.rules.specs.Opening.{IsFirst}
use Rattle.book.specs.Commits.{LeavesCommit, HoldsMade, CommitsTo, CommitsHalf}
use Rattle.book.proofs.KnownBooks.{book_known}

-- the book that the files hold is the one that was found
pub same_state : (old : Files) (state s : SyncState) (p : Pending) → Holds old state p → Holds old s p → state ≡ s
same_state old state s p found held = (book_known old state s p p found held).0

pub turned : (old new : Files) (state : SyncState) (p q : Pending) → Holds old state p → Holds new state q → Turns p q old new
turned old new state p q found left = λ s held. subst (λ (x : SyncState). Holds new x q) (same_state old state s p found held) left

pub half_turned : (old new : Files) (state : SyncState) (p r : Pending) → Holds old state p → Holds new state p ⊎ Holds new state r → TurnsHalf p r old new
half_turned old new state p r found left = λ s held. subst (λ (x : SyncState). Holds new x p ⊎ Holds new x r) (same_state old state s p found held) left

pub turned_or_half : (old new : Files) (state : SyncState) (p q r : Pending) → Holds old state p → Holds new state p ⊎ (Holds new state q ⊎ Holds new state r)
    → Turns p q old new ⊎ TurnsHalf p r old new
turned_or_half old new state p q r found (inl same) = inr (half_turned old new state p r found (inl same))
turned_or_half old new state p q r found (inr (inl done)) = inl (turned old new state p q found done)
turned_or_half old new state p q r found (inr (inr part)) = inr (half_turned old new state p r found (inr part))

-- ---- commits

pub committed_to : (old new : Files) (state : SyncState) (p : Pending) → Holds old state p → HoldsMade p state new → CommitsTo p old new
committed_to old new state p found made = λ s held. subst (λ (x : SyncState). HoldsMade p x new) (same_state old state s p found held) made

pub committed_half : (old new : Files) (state : SyncState) (p : Pending) → Holds old state p → LeavesCommit p state new → CommitsHalf p old new
committed_half old new state p found left = λ s held. subst (λ (x : SyncState). LeavesCommit p x new) (same_state old state s p found held) left

-- ---- the entries of a state that a book has

first_entries : (s : SyncState) → IsFirst s → All (IsEntry Two) s.entries
first_entries s first = subst (λ (e : List Entry). All (IsEntry Two) e) (sym first.entries) (All-nil (IsEntry Two))

pub sound_entries : (s : SyncState) → IsSound s → All (IsEntry Two) s.entries
sound_entries s sound = elim (cases_lt 0 s.run) [
  | inl made ↦ (sound.made made).entries
  | inr none ↦ first_entries s (sound.none (omega (arith, none)))
]
