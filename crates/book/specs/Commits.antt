-- What a commit asks for, and what the files hold if it stops.
use Rattle.std.specs.Prelude.{◌≡◌, ◌⊎◌, length, Result, Ok, Err}
use Rattle.device.specs.Calls.{Effect}
use Rattle.rules.specs.declared.state.SyncState.{SyncState}
use Rattle.sync_state.specs.declared.fault.BookFault.{BookFault}
use Rattle.sync_state.specs.declared.version.Version.TheVariants.{Two}
use Rattle.book.specs.declared.book.Pending.{Pending}
use Rattle.book.specs.declared.book.Pending.TheVariants.{Missing, Useless, Planned}
use Rattle.book.specs.Shelves.{Files}
use Rattle.book.specs.Books.{Holds, HoldsStateIn}
use Rattle.book.specs.Committed.{Commits}

-- each step of the plan that is pending is logged
abbrev pub IsFinished : Pending → Type 0
IsFinished Missing = ⊥
IsFinished Useless = ⊥
IsFinished (Planned written) = length written.journal.log ≡ length written.journal.plan.steps

-- the journal that is pending makes this state of the one before
abbrev pub Makes : Pending → (old new : SyncState) → Type 0
Makes Missing old new = ⊥
Makes Useless old new = ⊥
Makes (Planned written) old new = Commits written.journal old new

-- the files hold the committed state, in the second version, and the journal, which is useless now, or none
pub record HoldsCommitted (pending : Pending) (old : SyncState) (files : Files) : Type 0 where
  pub state : SyncState
  pub made : Makes pending old state
  pub written : HoldsStateIn Two files.state state
  pub held : Holds files state Useless ⊎ Holds files state Missing

-- a commit that stopped leaves the files as they were, or the committed state
abbrev pub LeavesCommit : Pending → (old : SyncState) → Files → Type 0
LeavesCommit pending old files = Holds files old pending ⊎ HoldsCommitted pending old files

-- the files hold the committed state, in the second version, and no journal
pub record HoldsMade (pending : Pending) (old : SyncState) (files : Files) : Type 0 where
  pub state : SyncState
  pub made : Makes pending old state
  pub written : HoldsStateIn Two files.state state
  pub held : Holds files state Missing

-- the journal is committed, whatever the state before
abbrev pub CommitsTo : Pending → Effect Files
CommitsTo pending old new = (s : SyncState) → Holds old s pending → HoldsMade pending s new

-- the journal is still there, or committed and useless, or committed and removed
abbrev pub CommitsHalf : Pending → Effect Files
CommitsHalf pending old new = (s : SyncState) → Holds old s pending → LeavesCommit pending s new

-- a commit has committed the journal if it succeeds; else it may have, in part or whole
abbrev pub LeavesMade : {T : Type 0} → Pending → (old new : Files) → Result T BookFault → Type 0
LeavesMade pending old new (Ok answer) = CommitsTo pending old new
LeavesMade pending old new (Err fault) = CommitsHalf pending old new
