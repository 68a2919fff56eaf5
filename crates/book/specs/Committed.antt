-- The state that a finished journal makes of the one before.
use Rattle.std.specs.Prelude.{ℕ, ◌≡◌, Bool, false, not, List, [], ◌∷◌, ◌++◌, map, filter, Some, None, if◌then◌else◌}
use Rattle.std.specs.List.{list_any}
use Rattle.std.specs.List.Sorted.{IsPermutation}
use Rattle.mailcore.specs.declared.side.Direction.{Direction}
use Rattle.mailcore.specs.declared.side.Direction.TheVariants.{Pull, Push}
use Rattle.rules.specs.declared.entry.Entry.{Entry}
use Rattle.rules.specs.declared.state.SyncState.{SyncState}
use Rattle.rules.specs.declared.plan.Step.{Step}
use Rattle.rules.specs.declared.plan.Step.TheVariants as step
use Rattle.rules.specs.declared.plan.Note.{Note}
use Rattle.rules.specs.declared.plan.Note.TheVariants as note
use Rattle.rules.specs.Entries.{has_a_side}
use Rattle.sync_state.specs.declared.journal.Logged.{Logged}
use Rattle.sync_state.specs.declared.journal.Logged.TheVariants.{Copied}
use Rattle.sync_state.specs.declared.journal.Journal.{Journal}
use Rattle.book.specs.Agreement.{is_pair}

abbrev pub drops : Entry → Note → Bool
drops e (note.Record far near flags) = false
drops e (note.Drop far near) = is_pair far near e

-- the flags recorded from now on: those of the note that records the entry, or what was recorded
abbrev pub recorded : Entry → List Note → ℕ
recorded e [] = e.flags
recorded e (note.Record far near flags ∷ notes) = if is_pair (Some far) (Some near) e then flags else recorded e notes
recorded e (note.Drop far near ∷ notes) = recorded e notes

-- the source of the entry has vanished
abbrev pub says_gone : Direction → Entry → Step → Bool
says_gone Pull e (step.Gone Pull far near) = is_pair (Some far) (Some near) e
says_gone Push e (step.Gone Push far near) = is_pair (Some far) (Some near) e
says_gone d e s = false

abbrev pub is_gone : List Step → Direction → Entry → Bool
is_gone steps d e = list_any (says_gone d e) steps

abbrev pub entry_after : Journal → Entry → Entry
entry_after j e = record {
  far = if is_gone j.plan.steps Pull e then None else e.far;
  near = if is_gone j.plan.steps Push e then None else e.near;
  flags = recorded e j.plan.notes;
}

-- the entries that are not dropped, as they are from now on; one without a side is none
abbrev pub kept_entries : Journal → List Entry → List Entry
kept_entries j entries = filter has_a_side (map (entry_after j) (filter (λ e. not (list_any (drops e) j.plan.notes)) entries))

-- the entry of a copy
abbrev pub entry_of_copy : Step → Logged → List Entry
entry_of_copy (step.New Pull uid flags mark) (Copied copy) = record { far = Some uid; near = Some copy; flags = flags } ∷ []
entry_of_copy (step.New Push uid flags mark) (Copied copy) = record { far = Some copy; near = Some uid; flags = flags } ∷ []
entry_of_copy s logged = []

abbrev pub entries_of_copies : List Step → List Logged → List Entry
entries_of_copies [] log = []
entries_of_copies (s ∷ steps) [] = []
entries_of_copies (s ∷ steps) (logged ∷ log) = entry_of_copy s logged ++ entries_of_copies steps log

-- the state once the journal is finished: its entries stand in order, as those of each state do
pub record Commits (j : Journal) (old new : SyncState) : Type 0 where
  pub run : new.run ≡ j.plan.run
  pub far_validity : new.far_validity ≡ j.plan.far.validity
  pub near_validity : new.near_validity ≡ j.plan.near.validity
  pub max_pulled : new.max_pulled ≡ j.plan.far.highest
  pub max_pushed : new.max_pushed ≡ j.plan.near.highest
  pub entries : IsPermutation (kept_entries j old.entries ++ entries_of_copies j.plan.steps j.log) new.entries
