-- What becomes of messages that others added while a run was at work, in a law that a function of `src/lib.rt` shows.
use Rattle.std.specs.Prelude.{◌≡◌, ◌≢◌, ◌<◌, ℕ, Bool, true, false, ◌&&◌, List, ◌++◌, All, Contains}
use Rattle.mailcore.specs.declared.mailbox.Message.{Message}
use Rattle.mailcore.specs.declared.side.Direction.{Direction}
use Rattle.mailcore.specs.declared.side.Side.{Side}
use Rattle.mailcore.specs.Content.{fit}
use Rattle.mailcore.specs.FlagSet.{DELETED, has}
use Rattle.mailcore.specs.Sides.{source}
use Rattle.mailcore.specs.Stores.{IsStore}
use Rattle.rules.specs.declared.options.Options.{Options}
use Rattle.rules.specs.declared.state.SyncState.{SyncState}
use Rattle.rules.specs.Admission.{admitted}
use Rattle.rules.specs.Called.{called}
use Rattle.rules.specs.Entries.{uid_of}
use Rattle.rules.specs.Opening.{taken_over}
use Rattle.rules.specs.Options.{covers, goes}
use Rattle.rules.specs.Propagation.{New}
use Rattle.rules.specs.World.{World, IsInOrder, store, scene_of}
use Rattle.law_outcome.specs.OwnLaws.{is_own}
use Rattle.outside.specs.Devices.{Device, Named, box}
use Rattle.outside.specs.GoingOn.{GoesOn}
use Rattle.outside.specs.Sparing.{AreOthers}
use Rattle.run_states.specs.Conditions.{IsOver}
use Rattle.run_states.specs.Openings.{Opening, Unplanned, world_at}

-- the world that the next plan is made on: what waits has its UIDs
abbrev pub next_world : Device → SyncState → World
next_world d state = admitted (world_at d state)

-- a message of it that is none of the run's: its UID is not below the one that was next when the plan was made, and it bears none of its marks
pub record IsOthers (w : World) (marks : List (List ℕ)) (side : Side) (next : World) (m : Message) : Type 0 where
  pub is_there : Contains (store next side).messages m
  pub is_no_own : is_own w marks side m.uid m.bytes ≡ false

-- it is left to the next run: its UID is above the highest one taken over on its side, and no entry names it
pub record IsLeft (side : Side) (uid : ℕ) (state : SyncState) : Type 0 where
  pub above : taken_over side state < uid
  pub unnamed : All (λ e. uid_of side e ≢ uid) state.entries

-- the UIDs of both mailboxes rise and are below the next ones
abbrev pub HasOrder : Device → Type 0
HasOrder d = (side : Side) → IsStore (box d side)

-- each message that others added, on a device on which the run is over, is left
abbrev pub OthersLeft : {ours : List ℕ → Bool} {alone : Bool} → Opening ours alone → Device → Type 0
OthersLeft opening d =
    (over : IsOver opening d) (side : Side) (m : Message) →
    IsOthers over.world over.holds.marks side (next_world d over.holds.state) m → IsLeft side m.uid over.holds.state

-- A run that has no plan yet began with mailboxes in order, and a device goes on so. Of the state whose text the files hold the entries are
-- pairs.
abbrev pub BegunHasOrder : Type 0
BegunHasOrder = (ours : List ℕ → Bool) (alone : Bool) (opening : Opening ours alone) (d : Device) → Unplanned opening d → HasOrder d

abbrev pub OverIsInOrder : Type 0
OverIsInOrder =
    (ours : List ℕ → Bool) (alone : Bool) (opening : Opening ours alone) (d d' : Device) → HasOrder d → GoesOn d d' →
    (over : IsOver opening d') → IsInOrder (world_at d' over.holds.state)

-- so after a run that is over each message that others added is left
abbrev pub OthersAreLeft : Type 0
OthersAreLeft = (ours : List ℕ → Bool) (alone : Bool) (opening : Opening ours alone) (d d' : Device) → HasOrder d → GoesOn d d' → OthersLeft opening d'

-- what calls have named since the opening stands in the steps that the rules call for, and those name no message that others added after the
-- listings
abbrev pub OthersAreSpared : Type 0
OthersAreSpared =
    (ours : List ℕ → Bool) (alone : Bool) (opening : Opening ours alone) (d : Device) (over : IsOver opening d) (side : Side) (m : Message) →
    is_own over.world over.holds.marks side m.uid m.bytes ≡ false → AreOthers over.holds.alike.named.since side m.uid

-- So each that stood on a device while the run was at work, by when calls had named some messages since the opening, stands there once it is
-- over, with its flags and bytes under its UID. How a device goes on each call says, each attempt, and all of them.
abbrev pub OthersStay : Type 0
OthersStay =
    (ours : List ℕ → Bool) (alone : Bool) (opening : Opening ours alone) (d d' : Device) (named : List Named) → d.named ≡ named ++ opening.named → GoesOn d d' → (over : IsOver opening d') (side : Side) (m : Message) →
    Contains (box d side).messages m → is_own over.world over.holds.marks side m.uid m.bytes ≡ false → Contains (box d' side).messages m

-- and the next plan copies each that is fit, where its direction copies new messages, unless it is marked as deleted and Expunge covers its side
abbrev pub OthersAreCopiedNext : Type 0
OthersAreCopiedNext =
    (ours : List ℕ → Bool) (alone : Bool) (opening : Opening ours alone) (d d' : Device) → HasOrder d → GoesOn d d' →
    (over : IsOver opening d') (options : Options) (direction : Direction) (m : Message) →
    IsOthers over.world over.holds.marks (source direction) (next_world d' over.holds.state) m →
    goes options.cells.new direction ≡ true → fit (source direction) m.bytes ≡ true →
    (has m.flags DELETED && covers options.expunge (source direction)) ≡ false →
    called (scene_of (next_world d' over.holds.state) options) (New direction m.uid) ≡ true
