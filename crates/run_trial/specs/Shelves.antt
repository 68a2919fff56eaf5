-- The shelf of a trial.
use Rattle.std.specs.Prelude.{ℕ, ◌==◌, if◌then◌else◌, List, Option, None, Some}
use Rattle.rules.specs.declared.state.SyncState.{SyncState}
use Rattle.sync_state.specs.declared.version.Version.TheVariants.{Two}
use Rattle.sync_state.specs.Lines.{lines_text}
use Rattle.sync_state.specs.StateText.{state_lines}
use Rattle.book.specs.Shelves.{Files}

-- a state has a file after the first run
abbrev pub state_file : SyncState → Option (List ℕ)
state_file s = if s.run == 0 then None else Some (lines_text (state_lines Two s))

-- with this state, and this journal
abbrev pub shelf_of : SyncState → Option (List ℕ) → Files
shelf_of s journal = record { state = state_file s; journal = journal }
