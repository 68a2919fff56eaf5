-- Several attempts at one run: where it may stand between them, where the last one began, and what is answered and counted.
use Rattle.std.specs.Prelude.{◌≡◌, ◌⊎◌, ◌<◌, ◌≤◌, ◌+◌, ◌-◌, ◌^◌, ◌==◌, ◌++◌, if◌then◌else◌, ℕ, Bool, false, All, List, [], ◌∷◌, length, Option, None, Some, Result, IsErrAnd}
use Rattle.rand_core.specs.Stream.{Stream}
use Rattle.mailcore.specs.declared.side.Side.{Side}
use Rattle.rules.specs.declared.options.Options.{Options}
use Rattle.rules.specs.declared.state.SyncState.{SyncState}
use Rattle.rules.specs.Outcome.{count_new}
use Rattle.rules.specs.World.{scene_of}
use Rattle.book.specs.declared.book.Pending.{Pending}
use Rattle.book.specs.Books.{Holds}
use Rattle.book.specs.Shelves.{Files}
use Rattle.outside.specs.Calls.{Seen}
use Rattle.outside.specs.Devices.{Device}
use Rattle.outside.specs.GoingOn.{GoesOn}
use Rattle.run_states.specs.Conditions.{IsPending, Underway}
use Rattle.run_states.specs.Openings.{Opening, Since, Unplanned}
use Rattle.runner.specs.declared.fault.RunFault.{RunFault}
use Rattle.runner.specs.declared.fault.RunFault.TheVariants as run
use Rattle.runner.specs.declared.pass.Pass.{Pass}
use Rattle.runner.specs.Answers.{Answers, Inputs, Moves, RepeatsFor, RunsBy, as_read}
use Rattle.outside.specs.Opened.{Opened}
use Rattle.runner.specs.Before.{IsShown}
use Rattle.runner.specs.Validities.{HasChanged, IsKept}

-- ---- where a run stands between two attempts

-- an opening: the run after its state has not been finished, and its number is not beyond the greatest
pub record AtOpening {ours : List ℕ → Bool} {alone : Bool} (opening : Opening ours alone) (d : Device) : Type 0 where
  pub room : opening.world.state.run + 1 < 2 ^ 64
  pub open_run : Unplanned opening d ⊎ IsPending opening d

-- so much is so where this began at an opening, on an outside that has behaved as specified, under the options of the call and marks that
-- nobody else writes
abbrev pub FromOpening : (honest : Type 0) → {ours : List ℕ → Bool} {alone : Bool} → Opening ours alone → Options → Stream → (start : Device) → Type 0 → Type 0
FromOpening honest {ours} {alone} opening options stream start P = honest → Inputs opening options stream → AtOpening opening start → P

-- where `settle` may stand between two attempts: its run is fixed once a reading was not stopped
abbrev pub AttemptAt : {ours : List ℕ → Bool} {alone : Bool} → Opening ours alone → (fixed : Option ℕ) → Device → Type 0
AttemptAt {ours} {alone} opening None d = AtOpening opening d
AttemptAt {ours} {alone} opening (Some run) d = (run ≡ opening.world.state.run + 1) × Underway opening d

pub record AttemptStart {ours : List ℕ → Bool} {alone : Bool} (opening : Opening ours alone) (options : Options) (stream : Stream) (fixed : Option ℕ) (d : Device) : Type 0 where
  pub asked : Inputs opening options stream
  pub tried : AttemptAt opening fixed d

-- ---- the device goes on

-- the files hold a state that this run is not beyond
pub record HasReached (run : ℕ) (files : Files) : Type 0 where
  pub state : SyncState
  pub pending : Pending
  pub held : Holds files state pending
  pub next : run ≤ state.run + 1

-- the same of the run, once it is fixed
abbrev pub IsReached : (fixed : Option ℕ) → Files → Type 0
IsReached None files = Unit {0}
IsReached (Some run) files = HasReached run files

-- it has gone on from the first of several devices to the next one, and so on to this one; those between are given, the last first
abbrev pub GoesOnOver : (since : List Device) → (start now : Device) → Type 0
GoesOnOver [] start now = GoesOn start now
GoesOnOver (d ∷ since) start now = GoesOnOver since start d × GoesOn d now

-- ---- the last attempt

-- the device on which the last of several attempts began: as it was when the outside was opened again the last time since, or else the
-- first
abbrev pub began_on : (since : List Device) → (start : Device) → Device
began_on [] start = start
began_on (d ∷ since) start = d

-- the outside was opened again so many times, each time with one of these devices, the last time first
pub record Reopens (times : ℕ) (old new : Seen) : Type 0 where
  pub since : List Device
  pub now : new.reopened ≡ since ++ old.reopened
  pub as_many : length since ≡ times

-- Where an attempt began that came after so many others. After each of those the outside was opened again, and not otherwise, with the run
-- underway. The first one began where `settle` was called, and each other where the outside was opened for it. From one to the next, and
-- from the last to its end, no plan and no logged step was lost, and each message that no call named stayed. The generator has moved by
-- whole pairs.
pub record LastAttempt {ours : List ℕ → Bool} {alone : Bool} (opening : Opening ours alone) (earlier : ℕ) (old new : Seen) (stream : Stream) : Type 0 where
  pub reopens : Reopens earlier old new
  pub each : All (Underway opening) reopens.since
  pub underway : Underway opening (began_on reopens.since old.device)
  pub goes_on : GoesOnOver reopens.since old.device new.device
  pub drawn : Stream
  pub undrawn : earlier ≡ 0 → drawn ≡ stream
  pub moved : Moves stream drawn

-- what an attempt at this run answered that found this device, by the files that it found
pub record AnswersAt (run : ℕ) (options : Options) (pass : Pass) (d : Device) (stream : Stream) : Type 0 where
  pub answers : (s : SyncState) (p : Pending) → Holds d.files s p → Answers run s p pass
  pub runs : (s : SyncState) (p : Pending) → Holds d.files s p → RunsBy (as_read s p) options stream pass

-- The last attempt, one of so many, found that this side's UIDVALIDITY had changed, and has changed nothing itself.
pub record ChangedLast {ours : List ℕ → Bool} {alone : Bool} (opening : Opening ours alone) (tries : ℕ) (side : Side) (old new : Seen) (stream : Stream) : Type 0 where
  pub earlier : ℕ
  pub few : earlier < tries
  pub began : LastAttempt opening earlier old new stream
  pub changed : (s : SyncState) (p : Pending) → Holds (began_on began.reopens.since old.device).files s p → HasChanged (as_read s p) side (began_on began.reopens.since old.device)
  pub kept : IsKept alone (began_on began.reopens.since old.device) new.device

-- The last attempt, one of so many, has changed nothing itself.
pub record KeptLast {ours : List ℕ → Bool} {alone : Bool} (opening : Opening ours alone) (tries : ℕ) (old new : Seen) (stream : Stream) : Type 0 where
  pub earlier : ℕ
  pub few : earlier < tries
  pub began : LastAttempt opening earlier old new stream
  pub kept : IsKept alone (began_on began.reopens.since old.device) new.device

-- in an attempt marks repeat: so many draws do from where the generator stood then, which was between these two, before there is a mark for
-- each new message of the world that the two last listings have shown
pub record HaveRepeated (honest : Type 0) {ours : List ℕ → Bool} {alone : Bool} (opening : Opening ours alone) (now : Option Opened) (options : Options) (stream after : Stream) (start : Device) : Type 0 where
  pub drawn : Stream
  pub moved : Moves stream drawn
  pub on : Moves drawn after
  pub count : ℕ
  pub repeats : RepeatsFor drawn count
  pub wanted : FromOpening honest opening options stream start (Since opening (λ w. IsShown now w × (count ≡ count_new (scene_of w options))))

-- ---- the greatest number

-- no run comes after that of the greatest number: line 2 of the state says so, unless it was not read
abbrev pub ReportsNoNext : RunFault → Type 0
ReportsNoNext run.Stopped = Unit {0}
ReportsNoNext (run.Refused step) = ⊥
ReportsNoNext (run.ValidityChanged side) = ⊥
ReportsNoNext (run.BadState line) = line ≡ 2
ReportsNoNext (run.BadJournal line) = ⊥
ReportsNoNext (run.StoreFault side number) = ⊥
ReportsNoNext run.MarksRepeat = ⊥
ReportsNoNext run.NoMemory = Unit {0}
ReportsNoNext run.KeywordsChanged = ⊥

-- so it is reported where the state's run has it, and nothing has changed then
abbrev pub HasNoNext : {T : Type 0} → (honest : Type 0) → (alone : Bool) → (d d' : Device) → Result T RunFault → Type 0
HasNoNext honest alone d d' result = honest → (s : SyncState) (p : Pending) → Holds d.files s p → s.run + 1 ≡ 2 ^ 64 → IsErrAnd result ReportsNoNext × IsKept alone d d'

-- ---- attempts that met a stop

-- as an attempt finds the outside: each but the first finds it opened again
abbrev pub found_by : (earlier : ℕ) → Seen → Seen
found_by earlier seen = record seen { is_broken = if earlier == 0 then seen.is_broken else false; reopened = if earlier == 0 then seen.reopened else seen.device ∷ seen.reopened }

-- an outside that had failed before costs the first attempt
abbrev pub failed_before : Seen → ℕ
failed_before seen = if seen.is_broken then 1 else 0

-- in each of so many attempts a call stopped, but in the first where the outside had failed before, and no other call did
abbrev pub MetStops : (attempts : ℕ) → (old new : Seen) → Type 0
MetStops attempts old new = new.stops ≡ old.stops + (attempts - failed_before old)

-- Each attempt before the last, of which there may be so many, met a stop, and the last met none. The outside was opened again for each but
-- the first.
pub record MetBefore (tries : ℕ) (old new : Seen) : Type 0 where
  pub earlier : ℕ
  pub few : earlier < tries
  pub least : failed_before old ≤ earlier
  pub met : MetStops earlier old new
  pub reopens : Reopens earlier old new
