-- What a run begins with, and what becomes of it before there is a plan.
use Rattle.std.specs.Prelude.{◌≡◌, ◌≤◌, ℕ, Bool, true, List, [], ◌++◌, Contains, IsPermutation, length, Option, None, Some}
use Rattle.mailcore.specs.declared.side.Side.{Side}
use Rattle.mailcore.specs.declared.mailbox.Message.{Message}
use Rattle.mailcore.specs.Rise.{Rise}
use Rattle.mailcore.specs.Stores.{Waiting}
use Rattle.rules.specs.declared.options.Options.{Options}
use Rattle.rules.specs.declared.state.SyncState.{SyncState}
use Rattle.rules.specs.Admission.{numbered_under}
use Rattle.rules.specs.World.{World, IsInOrder, NamesBelow, store}
use Rattle.book.specs.declared.book.Pending.{Pending}
use Rattle.book.specs.declared.book.Pending.TheVariants.{Missing, Useless, Planned}
use Rattle.book.specs.Books.{Holds}
use Rattle.law_outcome.specs.Keywords.{IsWithinWorld}
use Rattle.outside.specs.Devices.{Device, Named}

-- The setting of a run: which marks nobody else writes (`ours`), whether nobody else adds messages (`alone`), the world that the run is made on,
-- the options of its plan, those of the call, the messages that calls had named before it, and the world that both listings showed, once they
-- are made.
pub record Opening (ours : List ℕ → Bool) (alone : Bool) : Type 0 where
  pub world : World
  pub options : Options
  pub called : Options
  pub named : List Named
  pub listed : Option World

-- the same setting, in which both listings have shown this world
abbrev pub once_listed : {ours : List ℕ → Bool} {alone : Bool} → Opening ours alone → World → Opening ours alone
once_listed opening w = record opening { listed = Some w }

-- both mailboxes of a device as a world, with this state
abbrev pub world_at : Device → SyncState → World
world_at d state = record { far = d.far; near = d.near.store; waiting = d.near.waiting; state = state }

-- the world of a far listing on one device, under the next UID that it reported, and of a near one later
abbrev pub listed_world : SyncState → (next : ℕ) → (d m : Device) → World
listed_world s next d m = record { far = record d.far { next = next }; near = m.near.store; waiting = m.near.waiting; state = s }

-- A world since: others have added messages to it, and some of its waiting files, of which others have added more, are messages under
-- rising UIDs. Where nobody adds any, the far mailbox is as it was, and those are the first of its waiting files.
pub record Grows (alone : Bool) (w now : World) : Type 0 where
  pub in_order : IsInOrder now
  pub state : now.state ≡ w.state
  pub validity : (side : Side) → (store now side).validity ≡ (store w side).validity
  pub far_next : w.far.next ≤ now.far.next
  pub far_added : List Message
  pub far : now.far.messages ≡ w.far.messages ++ far_added
  pub uids : List ℕ
  pub rise : Rise w.near.next uids now.near.next
  pub arrived : List Waiting
  pub named : List Waiting
  pub gathered : IsPermutation (w.waiting ++ arrived) (named ++ now.waiting)
  pub each : length uids ≡ length named
  pub near : now.near.messages ≡ w.near.messages ++ numbered_under uids named
  pub nobody : alone ≡ true → (now.far ≡ w.far) × (named ++ now.waiting ≡ w.waiting)

-- there is no plan of the run after this state: no journal, or one without a plan or of a run that was made
abbrev pub IsIdle : Pending → Type 0
IsIdle Missing = Unit {0}
IsIdle Useless = Unit {0}
IsIdle (Planned written) = ⊥

-- The state is the opening's, and there is no plan. The options of the plan will be those of the call. No call has named a message since, and
-- no world was listed.
pub record Unplanned {ours : List ℕ → Bool} {alone : Bool} (opening : Opening ours alone) (d : Device) : Type 0 where
  pub pending : Pending
  pub idle : IsIdle pending
  pub files : Holds d.files opening.world.state pending
  pub chosen : opening.called ≡ opening.options
  pub below : NamesBelow opening.world
  pub grows : Grows alone opening.world (world_at d opening.world.state)
  pub named : d.named ≡ opening.named
  pub unlisted : opening.listed ≡ None

-- So much is so of some world since the opening, that of both listings on which the plan was made, where that is known: each flag that is
-- listed has a name, and each file that waited at the opening has its UID. Where nobody adds any files, all have.
pub record Since {ours : List ℕ → Bool} {alone : Bool} (opening : Opening ours alone) (P : World → Type 0) : Type 0 where
  pub world : World
  pub listed : (w : World) → opening.listed ≡ Some w → world ≡ w
  pub grows : Grows alone opening.world world
  pub waited : (f : Waiting) → Contains opening.world.waiting f → Contains grows.named f
  pub admitted : alone ≡ true → world.waiting ≡ []
  pub below : NamesBelow world
  pub within : IsWithinWorld opening.options.keywords world
  pub holds : P world
