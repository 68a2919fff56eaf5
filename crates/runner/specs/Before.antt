-- What is so before the steps of a plan: the shelf was read, the journal is cleared away, both mailboxes are listed, the plan is made.
use Rattle.std.specs.Prelude.{◌≡◌, ◌||◌, ◌==◌, nat_le, ℕ, Bool, true, Contains, List, [], ◌∷◌, Option, None, Some}
use Rattle.std.specs.List.{list_any}
use Rattle.mailcore.specs.declared.side.Side.TheVariants.{Far, Near}
use Rattle.mailcore.specs.declared.listing.Listing.{Listing}
use Rattle.mailcore.specs.Operations.{Shows, ShowsSparing}
use Rattle.mailcore.specs.Stores.{Waiting}
use Rattle.rules.specs.declared.entry.Entry.{Entry}
use Rattle.rules.specs.declared.plan.Plan.{Plan}
use Rattle.rules.specs.declared.state.SyncState.{SyncState}
use Rattle.rules.specs.Entries.{uid_of}
use Rattle.rules.specs.World.{World, NamesBelow}
use Rattle.book.specs.Books.{Holds, IsPlanned as HasPlanned}
use Rattle.book.specs.declared.book.Pending.TheVariants.{Missing}
use Rattle.outside.specs.MailboxOperations.{ListsWithin}
use Rattle.outside.specs.BoxCalls.{ListsFar}
use Rattle.outside.specs.Devices.{Device}
use Rattle.outside.specs.Opened.{IsHeld, Opened, listed_of, shown_far, state_of}
use Rattle.run_states.specs.Conditions.{IsPending, Underway}
use Rattle.run_states.specs.Moments.{Listed}
use Rattle.run_states.specs.Openings.{Grows, IsIdle, Opening, Since, Unplanned, once_listed, world_at}
use Rattle.run_states.specs.Plans.{IsPlanned}

-- a plan of the next run is pending
abbrev pub HasPlan : Option Opened → Type 0
HasPlan None = ⊥
HasPlan (Some o) = HasPlanned o.pending

-- none is
abbrev pub HasNoPlan : Option Opened → Type 0
HasNoPlan None = ⊥
HasNoPlan (Some o) = IsIdle o.pending

-- there is no journal
abbrev pub HasNoJournal : Option Opened → Type 0
HasNoJournal None = ⊥
HasNoJournal (Some o) = o.pending ≡ Missing

-- where no plan was pending, the files hold what was read of the state, and no journal
abbrev pub IsEmptied : Option Opened → Device → Type 0
IsEmptied None d = ⊥
IsEmptied (Some o) d = IsIdle o.pending → Holds d.files o.state Missing

-- the files hold what was read
pub record ReadUnderway {ours : List ℕ → Bool} {alone : Bool} (opening : Opening ours alone) (opened : Option Opened) (d : Device) : Type 0 where
  pub underway : Underway opening d
  pub held : IsHeld opened d

-- there is a plan, which will be resumed
pub record Resumed {ours : List ℕ → Bool} {alone : Bool} (opening : Opening ours alone) (opened : Option Opened) (d : Device) : Type 0 where
  pub pending : IsPending opening d
  pub held : IsHeld opened d

-- there is none
pub record HasNone {ours : List ℕ → Bool} {alone : Bool} (opening : Opening ours alone) (opened : Option Opened) (d : Device) : Type 0 where
  pub unplanned : Unplanned opening d
  pub held : IsHeld opened d

-- there is no journal, no call has named a message, and no world was listed; once the waiting files are admitted, each that waited at the opening has its UID,
-- and none waits where nobody adds any
pub record IsClear {ours : List ℕ → Bool} {alone : Bool} (opening : Opening ours alone) (opened : Option Opened) (is_admitted : Bool) (d : Device) : Type 0 where
  pub state : state_of opened ≡ Some opening.world.state
  pub files : Holds d.files opening.world.state Missing
  pub chosen : opening.called ≡ opening.options
  pub below : NamesBelow opening.world
  pub grows : Grows alone opening.world (world_at d opening.world.state)
  pub named : d.named ≡ opening.named
  pub unlisted : opening.listed ≡ None
  pub waited : is_admitted ≡ true → (f : Waiting) → Contains opening.world.waiting f → Contains grows.named f
  pub admitted : is_admitted ≡ true → alone ≡ true → d.near.waiting ≡ []

-- ---- the listings

-- two stores of which nothing is known
abbrev pub nothing_shown : World
nothing_shown = record { far = record { validity = 0; next = 0; messages = [] }; near = record { validity = 0; next = 0; messages = [] }; waiting = []; state = record { run = 0; far_validity = 0; near_validity = 0; max_pulled = 0; max_pushed = 0; entries = [] } }

-- the world that the two last listings have shown, of the far mailbox and then of the near one, beside this state
abbrev pub shown_by : SyncState → (listed : List Device) → World
shown_by s [] = nothing_shown
shown_by s (d ∷ []) = nothing_shown
shown_by s (near ∷ far ∷ earlier) = record { far = far.far; near = near.near.store; waiting = near.near.waiting; state = s }

-- beside the state that was read
abbrev pub world_shown : Option Opened → World
world_shown None = nothing_shown
world_shown (Some o) = shown_by o.state o.listed

-- both mailboxes of a world are those that the two last listings have shown
pub record IsShown (opened : Option Opened) (w : World) : Type 0 where
  pub far : Device
  pub near : Device
  pub earlier : List Device
  pub last : listed_of opened ≡ near ∷ far ∷ earlier
  pub far_is : w.far ≡ far.far
  pub near_is : w.near ≡ near.near.store

-- the far mailbox was listed, and by no later listing; each flag has its name
pub record FarListed {ours : List ℕ → Bool} {alone : Bool} (opening : Opening ours alone) (opened : Option Opened) (far : Listing) (d : Device) : Type 0 where
  pub clear : IsClear opening opened true d
  pub lists : ListsFar alone opening.world.far.next far d
  pub within : ListsWithin opening.options.keywords far
  pub earlier : List Device
  pub last : listed_of opened ≡ shown_far far.next d ∷ earlier

-- spared are those near messages that cannot be new: each is not above the highest one that was pushed, or an entry names it
abbrev pub AreOld : (pushed : ℕ) → List Entry → (spared : ℕ → Bool) → Type 0
AreOld pushed entries spared = (uid : ℕ) → spared uid ≡ (nat_le uid pushed || list_any (λ e. uid_of Near e == uid) entries)

-- the same, by what was read of the state
abbrev pub SparesOld : Option Opened → (spared : ℕ → Bool) → Type 0
SparesOld opened spared = (s : SyncState) → state_of opened ≡ Some s → AreOld s.max_pushed s.entries spared

-- both listings are those of this world, but that near messages which cannot be new are said to be fit, and no others
pub record AreShown (w : World) (far near : Listing) : Type 0 where
  pub far_is : Shows Far w.far far
  pub spared : ℕ → Bool
  pub old : AreOld w.state.max_pushed w.state.entries spared
  pub near_is : ShowsSparing Near spared w.near near

pub record BothListed {ours : List ℕ → Bool} {alone : Bool} (opening : Opening ours alone) (opened : Option Opened) (far near : Listing) (d : Device) : Type 0 where
  pub clear : IsClear opening opened true d
  pub since : Since (once_listed opening (world_shown opened)) (λ w. AreShown w far near × Listed ours alone opening.named w d)

-- the plan of that world is made
pub record IsMade {ours : List ℕ → Bool} {alone : Bool} (opening : Opening ours alone) (opened : Option Opened) (plan : Plan) (d : Device) : Type 0 where
  pub clear : IsClear opening opened true d
  pub since : Since (once_listed opening (world_shown opened)) (λ w. IsPlanned ours w opening.options plan × Listed ours alone opening.named w d)
