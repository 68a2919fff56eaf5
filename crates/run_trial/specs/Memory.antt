-- What a run of a trial leaves in memory, where every mark is its own and nobody else adds messages, and with what another one begins.
use Rattle.std.specs.Prelude.{◌≡◌, ◌+◌, ◌<◌, ◌^◌, []}
use Rattle.maildir.specs.Gains.{nobody}
use Rattle.rules.specs.declared.options.Options.{Options}
use Rattle.rules.specs.Opening.{IsOpening}
use Rattle.rules.specs.World.{World}
use Rattle.outside.specs.Calls.{Seen}
use Rattle.outside.specs.Devices.{Device}
use Rattle.run_pair.specs.Tallies.{seen_with, untouched}
use Rattle.run_states.specs.Conditions.{IsOver, Underway}
use Rattle.run_states.specs.Endings.{IsDone}
use Rattle.run_states.specs.Openings.{Opening}
use Rattle.run_states.specs.Beginnings.{opening_of}
use Rattle.runner.specs.declared.fault.RunFault.{RunFault}
use Rattle.runner.specs.Faults.{LeavesRun}

-- The run with this opening is over. If a run may begin with the world of the opening, all is alike to the outcome of that world.
pub record EndsRun (opening : Opening nobody.ours nobody.alone) (d : Device) : Type 0 where
  pub over : IsOver opening d
  pub done : IsOpening opening.world → IsDone opening.world opening.options d

-- the run with this opening, which was made over this device, is underway still
abbrev pub LeavesOpening : Opening nobody.ours nobody.alone → Device → RunFault → Seen → Type 0
LeavesOpening opening d fault new = LeavesRun (Underway opening) fault (seen_with d untouched) new

-- the run that began with this world, on this device, is underway still
abbrev pub LeavesWorld : World → Options → Device → RunFault → Seen → Type 0
LeavesWorld w options d fault new = LeavesOpening (opening_of nobody.ours nobody.alone w options) d fault new

-- A run was interrupted that began at this opening, before any call had named a message. It is underway on a device, of which so much stands: what
-- calls have named is forgotten.
pub record Interrupted (opening : Opening nobody.ours nobody.alone) (options : Options) (left stands : Device) : Type 0 where
  pub called : opening.called ≡ options
  pub unnamed : opening.named ≡ []
  pub room : opening.world.state.run + 1 < 2 ^ 64
  pub underway : Underway opening left
  pub forgotten : stands ≡ record left { named = [] }
