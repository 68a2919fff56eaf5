-- A run to which others add messages: what they add, and what it leaves of a world.
use Rattle.std.specs.Prelude.{◌≡◌, ℕ, Bool, false, List}
use Rattle.mailcore.specs.declared.side.Side.TheVariants.{Near}
use Rattle.mem_link.specs.declared.command.CommandName.{CommandName}
use Rattle.mem_link.specs.declared.command.CommandName.TheVariants as link
use Rattle.mem_link.specs.declared.arrivals.Arrival.{Arrival}
use Rattle.book.specs.declared.mem_shelf.MemShelf.{MemShelf}
use Rattle.book.specs.MemShelves.{files_of}
use Rattle.rules.specs.declared.options.Options.{Options}
use Rattle.rules.specs.declared.state.SyncState.{SyncState}
use Rattle.rules.specs.World.{World}
use Rattle.outside.specs.BoxArrivals.{Arrives}
use Rattle.outside.specs.Calls.{Seen}
use Rattle.outside.specs.Devices.{Device}
use Rattle.run_pair.specs.Tallies.{seen_with, untouched}
use Rattle.run_states.specs.Conditions.{IsOver, Underway}
use Rattle.run_states.specs.Beginnings.{opening_of}
use Rattle.run_states.specs.Others.{OthersLeft}
use Rattle.runner.specs.declared.fault.RunFault.{RunFault}
use Rattle.runner.specs.Faults.{LeavesRun}
use Rattle.run_trial.specs.declared.arrival.FarArrival.{FarArrival}
use Rattle.run_trial.specs.declared.stop.StopCommand.{StopCommand}
use Rattle.run_trial.specs.declared.stop.StopCommand.TheVariants as trial
use Rattle.run_trial.specs.declared.setting.TrialSetting.{TrialSetting}

-- ---- what comes

-- a command by the name that a link has for it
abbrev pub name_of : StopCommand → CommandName
name_of trial.Capability = link.Capability
name_of trial.Login = link.Login
name_of trial.Enable = link.Enable
name_of trial.Select = link.Select
name_of trial.Fetch = link.Fetch
name_of trial.Store = link.Store
name_of trial.Expunge = link.Expunge
name_of trial.Append = link.Append

-- a message that a line of a trial adds comes before the command that the line names
abbrev pub arrival_of : FarArrival → Arrival
arrival_of a = record { at = record { name = name_of a.command; number = a.number }; flags = a.flags; bytes = a.bytes }

-- the shelf and the state of a setting
abbrev pub AreKept : TrialSetting → MemShelf → SyncState → Type 0
AreKept setting shelf state = (files_of shelf ≡ files_of setting.shelf) × (state ≡ setting.state)

-- ---- what it leaves

-- the run that began with this world is over, whatever others added under none of these marks
abbrev pub IsOverAmong : (ours : List ℕ → Bool) → World → Options → Device → Type 0
IsOverAmong ours w options d = IsOver (opening_of ours false w options) d

-- once it is over, each message that others added after the listings is left to the next run
abbrev pub OthersLeftAmong : (ours : List ℕ → Bool) → World → Options → Device → Type 0
OthersLeftAmong ours w options d = OthersLeft (opening_of ours false w options) d

-- the run that began with this world, on this device, is underway still
abbrev pub LeavesAmong : (ours : List ℕ → Bool) → World → Options → Device → RunFault → Seen → Type 0
LeavesAmong ours w options d fault new = LeavesRun (Underway (opening_of ours false w options)) fault (seen_with d untouched) new

-- A device holds what a run has left, and the files that others had still to add.
pub record HoldsAll (ours : List ℕ → Bool) (left held : Device) : Type 0 where
  pub far : held.far ≡ left.far
  pub near : Arrives Near ours false left.near held.near
  pub files : held.files ≡ left.files
