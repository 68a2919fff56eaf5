-- How a device goes on. The state's run never falls, while one lasts neither its plan nor a step that is logged is lost, and each message
-- that no call names stays.
use Rattle.std.specs.Prelude.{◌≡◌, ◌⊎◌, ◌<◌, ℕ, List, ◌++◌}
use Rattle.device.specs.Calls.{Effect}
use Rattle.rules.specs.declared.state.SyncState.{SyncState}
use Rattle.sync_state.specs.declared.journal.Journal.{Journal}
use Rattle.sync_state.specs.declared.journal.Logged.{Logged}
use Rattle.book.specs.declared.book.Pending.{Pending}
use Rattle.book.specs.declared.book.Pending.TheVariants.{Missing, Useless, Planned}
use Rattle.book.specs.Books.{Holds}
use Rattle.book.specs.Shelves.{Files}
use Rattle.outside.specs.Devices.{Device}
use Rattle.outside.specs.Sparing.{Spares}

-- the same plan, and steps that are logged after the ones that were
pub record Continues (old new : Journal) : Type 0 where
  pub plan : new.plan ≡ old.plan
  pub since : List Logged
  pub log : new.log ≡ old.log ++ since

abbrev pub ContinuesIn : Journal → Pending → Type 0
ContinuesIn journal Missing = ⊥
ContinuesIn journal Useless = ⊥
ContinuesIn journal (Planned written) = Continues journal written.journal

-- a plan that was pending is pending still
abbrev pub KeepsPlan : (old new : Pending) → Type 0
KeepsPlan Missing new = Unit {0}
KeepsPlan Useless new = Unit {0}
KeepsPlan (Planned written) new = ContinuesIn written.journal new

-- the same state, with a plan that goes on, or the state of a later run
abbrev pub GoesOnTo : SyncState → Pending → SyncState → Pending → Type 0
GoesOnTo s p t q = ((t ≡ s) × KeepsPlan p q) ⊎ (s.run < t.run)

-- the files hold what it goes on to
pub record HoldsNext (s : SyncState) (p : Pending) (files : Files) : Type 0 where
  pub state : SyncState
  pub pending : Pending
  pub held : Holds files state pending
  pub goes_on : GoesOnTo s p state pending

-- whatever the files held, they hold what it goes on to
abbrev pub FilesGoOn : Effect Files
FilesGoOn old new = (s : SyncState) (p : Pending) → Holds old s p → HoldsNext s p new

-- what the files hold goes on, and each message that calls did not name since stands where it stood
pub record GoesOn (d d' : Device) : Type 0 where
  pub files : FilesGoOn d.files d'.files
  pub spares : Spares d d'
