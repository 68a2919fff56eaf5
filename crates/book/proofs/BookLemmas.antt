-- What the files hold once the journal's file has changed.
use Rattle.std.proofs.Common.{◌≡◌, ◌≢◌, ◌⊎◌, inl, inr, ℕ, Bool, false, List, [], Option, Some, None, refl, sym, ap, subst}
use Rattle.std.proofs.Math.Logic.{∥∥₁_map}
use Rattle.std.proofs.lemmas.List.{append-nil}
use Rattle.std.proofs.lemmas.List.Elements.{All-nil}
use Rattle.rules.specs.declared.state.SyncState.{SyncState}
use Rattle.sync_state.specs.declared.journal.WrittenJournal.{WrittenJournal}
use Rattle.book.specs.declared.shelf.ShelfFile.TheVariants.{Journal}
use Rattle.book.specs.declared.book.Pending.{Pending}
use Rattle.book.specs.declared.book.Pending.TheVariants.{Missing, Useless, Planned}
use Rattle.sync_state.specs.Lines.{lines_text}
use Rattle.sync_state.specs.JournalText.{journal_lines}
use Rattle.sync_state.specs.JournalReading.{IsWritten}
use Rattle.book.specs.Shelves.{Files, Puts, with_file}
use Rattle.book.specs.Books.{Held, Holds, HoldsJournal, Fits, mended}

pub same_files : (old new : Files) (state : SyncState) (p : Pending) → new ≡ old → Holds old state p → Holds new state p
same_files old new state p same h = subst (λ (f : Files). Holds f state p) (sym same) h

pub journal_put : (bytes : Option (List ℕ)) (old new : Files) (state : SyncState) (p q : Pending) → Puts Journal bytes old new
    → (HoldsJournal state old.journal p → HoldsJournal state bytes q) → Holds old state p → Holds new state q
journal_put bytes old new state p q puts turns h =
    ∥∥₁_map h (λ held.
    let here : Held (with_file Journal bytes old) state q = record { state_file = held.state_file; journal_file = turns held.journal_file } in
    subst (λ (f : Files). Held f state q) (sym puts) here)

-- a call that puts a journal stopped
pub journal_put_or_not : (bytes : Option (List ℕ)) (old new : Files) (state : SyncState) (p q r : Pending) → (new ≡ old) ⊎ (Puts Journal bytes old new ⊎ ⊥)
    → (HoldsJournal state old.journal p → HoldsJournal state bytes q) → Holds old state p → Holds new state p ⊎ (Holds new state q ⊎ Holds new state r)
journal_put_or_not bytes old new state p q r (inl same) turns h = inl (same_files old new state p same h)
journal_put_or_not bytes old new state p q r (inr (inl puts)) turns h = inr (inl (journal_put bytes old new state p q puts turns h))
journal_put_or_not bytes old new state p q r (inr (inr none)) turns h = absurd none

-- ---- the torn line is taken off

whole_is_written : (w : WrittenJournal) (text : List ℕ) → IsWritten w text → IsWritten (record w { is_torn = false }) (lines_text (journal_lines w.version w.journal))
whole_is_written w text is = record {
  torn = [];
  spelled = record {
    fits = is.spelled.fits;
    words = is.spelled.words;
    lines = record { parts = sym (append-nil (lines_text (journal_lines w.version w.journal))); whole = is.spelled.lines.whole };
    no_line = All-nil _;
  };
  is_torn = refl;
}

planned_mended : (state : SyncState) (file : Option (List ℕ)) (w : WrittenJournal) → HoldsJournal state file (Planned w)
    → HoldsJournal state (Some (lines_text (journal_lines w.version w.journal))) (mended (Planned w))
planned_mended state None w h = absurd h
planned_mended state (Some text) w h = record { is_next = record { written_is = whole_is_written w text h.is_next.written_is; next = h.is_next.next }; agrees = h.agrees }

pub pending_mended : (state : SyncState) (file : Option (List ℕ)) (p : Pending) (w : WrittenJournal) (text : List ℕ) → p ≡ Planned w → text ≡ lines_text (journal_lines w.version w.journal)
    → HoldsJournal state file p → HoldsJournal state (Some text) (mended p)
pending_mended state file p w text is spelled h =
    let Q : Pending → Type 0 = λ q. HoldsJournal state file q in
    let T : List ℕ → Type 0 = λ t. HoldsJournal state (Some t) (mended (Planned w)) in
    let R : Pending → Type 0 = λ q. HoldsJournal state (Some text) (mended q) in
    subst R (sym is) (subst T (sym spelled) (planned_mended state file w (subst Q is h)))

pub mended_fits : (state : SyncState) (p : Pending) → Fits state p → Fits state (mended p)
mended_fits state Missing f = f
mended_fits state Useless f = f
mended_fits state (Planned w) f = f

-- nothing to take off
pub already_mended : (p : Pending) (w : WrittenJournal) → p ≡ Planned w → w.is_torn ≡ false → p ≡ mended p
already_mended p w is e =
    let R : Pending → Type 0 = λ q. q ≡ mended q in
    subst R (sym is) (ap (λ (b : Bool). Planned (record w { is_torn = b })) e)

pub none_to_mend : (p : Pending) → ((w : WrittenJournal) → p ≢ Planned w) → p ≡ mended p
none_to_mend Missing h = refl
none_to_mend Useless h = refl
none_to_mend (Planned w) h = absurd (h w refl)

-- ---- a journal that was read

pub holding_fits : (state : SyncState) (file : Option (List ℕ)) (p : Pending) → HoldsJournal state file p → Fits state p
holding_fits state file Missing h = tt
holding_fits state file Useless h = tt
holding_fits state None (Planned w) h = absurd h
holding_fits state (Some text) (Planned w) h = record { has_text = h.is_next.written_is.spelled.fits; next = h.is_next.next; agrees = h.agrees }
