-- A run that begins after a plan was given up, in a law that a function of `src/lib.rt` shows.
use Rattle.std.specs.Prelude.{◌≡◌, ◌<◌, ◌+◌, All}
use Rattle.mailcore.specs.declared.side.Side.{Side}
use Rattle.rules.specs.declared.state.SyncState.{SyncState}
use Rattle.rules.specs.Entries.{uid_of}
use Rattle.rules.specs.Opening.{IsOpening}
use Rattle.sync_state.specs.declared.journal.Journal.{Journal}
use Rattle.sync_state.specs.declared.version.Version.TheVariants.{Two}
use Rattle.sync_state.specs.StateText.{HasText}
use Rattle.book.specs.Committed.{entries_of_copies}
use Rattle.book.specs.GivingUp.{GivesUp}
use Rattle.book.specs.LostSides.{Lost}
use Rattle.outside.specs.Devices.{Device, box}
use Rattle.run_states.specs.Openings.{world_at}

-- A plan of the run after this state, over mailboxes with which a run might begin: they have the UIDVALIDITYs of the plan, and the UIDs of
-- its logged copies were given, as were those of their sources.
pub record IsPlanOver (j : Journal) (s : SyncState) (d : Device) : Type 0 where
  pub sound : IsOpening (world_at d s)
  pub run : j.plan.run ≡ s.run + 1
  pub far_validity : j.plan.far.validity ≡ d.far.validity
  pub near_validity : j.plan.near.validity ≡ d.near.store.validity
  pub given : All (λ e. (side : Side) → uid_of side e < (box d side).next) (entries_of_copies j.plan.steps j.log)

-- where such a plan is given up, a run may begin with the mailboxes as they are and the state that is left
abbrev pub GivenUpIsOpening : Type 0
GivenUpIsOpening =
    (j : Journal) (lost : Lost) (s t : SyncState) (d : Device) → IsPlanOver j s d → GivesUp j lost s t → HasText Two t → IsOpening (world_at d t)
