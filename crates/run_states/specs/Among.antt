-- What a run leaves where others add messages, in a law that a function of `src/lib.rt` shows.
use Rattle.std.specs.Prelude.{ℕ, Bool, List, []}
use Rattle.rules.specs.Alike.{Alike}
use Rattle.rules.specs.AlikeBy.{AreCopyMarks}
use Rattle.rules.specs.World.{World}
use Rattle.rules.specs.WorldAfter.{outcome}
use Rattle.law_outcome.specs.AlikeLaws.{own_world}
use Rattle.outside.specs.Devices.{Device}
use Rattle.run_states.specs.Conditions.{IsOver}
use Rattle.run_states.specs.Openings.{Opening, world_at}

-- a world as both listings show it: a file that waits is not listed
abbrev pub listed : World → World
listed w = record w { waiting = [] }

-- Without the messages and files that others added after the listings, what a run that is over has left is alike to the outcome of the world that
-- was listed, up to the UIDs given and the marks of copies.
abbrev pub DoneIsAlikeAmong : Type 0
DoneIsAlikeAmong =
    (ours : List ℕ → Bool) (alone : Bool) (opening : Opening ours alone) (d : Device) (over : IsOver opening d) (marks : List (List ℕ)) →
    (let w : World = listed over.world in
    AreCopyMarks w opening.options marks →
    Alike w (outcome w opening.options marks) (own_world over.world over.holds.marks (world_at d over.holds.state)))
