-- The devices of a trial hold its world, in laws that the functions of `src/laws.rt` show.
use Rattle.std.specs.Prelude.{◌≡◌, ◌⊎◌, ◌+◌, ◌++◌, ◌<◌, ◌≤◌, ◌^◌, ℕ, Bool, List, [], length, None}
use Rattle.mailcore.specs.declared.keywords.Keyword.{Keyword}
use Rattle.mailcore.specs.Ranges.{IsInRange}
use Rattle.mailcore.specs.Stores.{IsStore, Store, Waiting}
use Rattle.rules.specs.Opening.{IsOpening}
use Rattle.rules.specs.World.{World}
use Rattle.book.specs.declared.book.Pending.TheVariants.{Missing}
use Rattle.book.specs.Books.{Holds}
use Rattle.near_box.specs.Mailboxes.{near_of}
use Rattle.maildir.specs.Gains.{nobody}
use Rattle.rules.specs.declared.state.SyncState.{SyncState}
use Rattle.worlds.specs.WorldText.{text_from_far}
use Rattle.book.specs.declared.book.Pending.{Pending}
use Rattle.outside.specs.Calls.{Seen}
use Rattle.outside.specs.Devices.{Device}
use Rattle.runner.specs.declared.fault.RunFault.{RunFault}
use Rattle.run_states.specs.Conditions.{IsOver, Underway}
use Rattle.run_states.specs.Openings.{Opening, world_at}
use Rattle.run_trial.specs.Folders.{folder_of}
use Rattle.run_trial.specs.Memory.{Interrupted, LeavesOpening}
use Rattle.run_trial.specs.Openings.{StandsAt}
use Rattle.run_trial.specs.Printed.{Prints}
use Rattle.run_trial.specs.Shelves.{shelf_of}
use Rattle.run_trial.specs.Worlds.{AreNamed, FitsWords}

-- the folder holds its mailbox: up to 10 ^ 20 files have names of their own, in their order
abbrev pub FolderHolds : Type 0
FolderHolds =
    (fresh : ℕ) (keywords : List Keyword) (near : Store) (waiting : List Waiting) → IsStore near → IsInRange near → AreNamed keywords near.messages waiting
    → length near.messages + length waiting ≤ 10 ^ 20 → near_of fresh keywords (folder_of keywords near waiting) ≡ record { store = near; waiting = waiting }

-- the shelf holds the state of a world that a run may begin with
abbrev pub ShelfHolds : Type 0
ShelfHolds = (w : World) → IsOpening w → FitsWords w → Holds (shelf_of w.state None) w.state Missing

-- Devices on which a run is underway that began with no message named stand at its opening in another run, whose outside has named none yet; or the
-- run is over.
abbrev pub StandAgain : Type 0
StandAgain =
    (ours : List ℕ → Bool) (alone : Bool) (opening : Opening ours alone) (d : Device) → opening.named ≡ [] → opening.world.state.run + 1 < 2 ^ 64
    → Underway opening d → StandsAt opening opening.called (record d { named = [] }) ⊎ IsOver opening d

-- A run began at this opening, with no message named, and a number comes after that of its state. If it ended with a fault, it was interrupted: another
-- run finds what it left, once what calls have named is forgotten.
abbrev pub FaultsInterrupt : Type 0
FaultsInterrupt =
    (opening : Opening nobody.ours nobody.alone) (d : Device) (fault : RunFault) (seen : Seen) → opening.named ≡ [] → opening.world.state.run + 1 < 2 ^ 64
    → LeavesOpening opening d fault seen → Interrupted opening opening.called seen.device (record seen.device { named = [] })

-- A device holds one world: its text is that of any state that the device's files hold, whatever its journal.
abbrev pub PrintedIsHeld : Type 0
PrintedIsHeld =
    (d : Device) (old new : List ℕ) (state : SyncState) (pending : Pending) → Prints d old new → Holds d.files state pending → new ≡ old ++ text_from_far (world_at d state)
