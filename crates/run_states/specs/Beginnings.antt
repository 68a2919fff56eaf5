-- A run that begins with the world that a device holds, in a law that a function of `src/lib.rt` shows.
use Rattle.std.specs.Prelude.{◌≡◌, ◌<◌, ◌+◌, ◌^◌, ℕ, Bool, List, [], None}
use Rattle.rules.specs.declared.options.Options.{Options}
use Rattle.rules.specs.declared.state.SyncState.{SyncState}
use Rattle.rules.specs.Opening.{IsOpening}
use Rattle.rules.specs.World.{World}
use Rattle.book.specs.declared.book.Pending.TheVariants.{Missing}
use Rattle.book.specs.Books.{Holds}
use Rattle.outside.specs.Arrivals.{Arrives}
use Rattle.outside.specs.Devices.{Device}
use Rattle.run_states.specs.Openings.{Opening, Unplanned, world_at}

-- both mailboxes and the state are the world's, there is no journal, and no call has named a message yet
pub record HoldsWorld (w : World) (d : Device) : Type 0 where
  pub world : world_at d w.state ≡ w
  pub files : Holds d.files w.state Missing
  pub unnamed : d.named ≡ []

-- the device holds a world that a run may begin with, and a number comes after that of its state
pub record Begins (w : World) (d : Device) : Type 0 where
  pub held : HoldsWorld w d
  pub sound : IsOpening w
  pub room : w.state.run + 1 < 2 ^ 64

-- the opening of a run that begins with this world: the options of the call are those of its plan
abbrev pub opening_of : (ours : List ℕ → Bool) (alone : Bool) → World → Options → Opening ours alone
opening_of ours alone w options = record { world = w; options = options; called = options; named = []; listed = None }

-- such a run has no plan yet
abbrev pub WorldIsUnplanned : Type 0
WorldIsUnplanned =
    (ours : List ℕ → Bool) (alone : Bool) (w : World) (options : Options) (d : Device) →
    HoldsWorld w d → IsOpening w → Unplanned (opening_of ours alone w options) d

-- whatever others add to a world that a run may begin with, one may begin with it still
abbrev pub OthersKeepOpening : Type 0
OthersKeepOpening =
    (ours : List ℕ → Bool) (alone : Bool) (state : SyncState) (d m : Device) → Arrives ours alone d m → IsOpening (world_at d state) → IsOpening (world_at m state)
