-- What several attempts at one run answer, leave and count.
use Rattle.std.specs.Prelude.{◌≡◌, ◌≤◌, ◌+◌, ◌-◌, ℕ, All, Bool, true, List, [], ◌∷◌, ◌++◌, Option, Result, Ok, Err}
use Rattle.rand_core.specs.Stream.{Stream}
use Rattle.mailcore.specs.declared.side.Side.{Side}
use Rattle.rules.specs.declared.options.Options.{Options}
use Rattle.rules.specs.declared.state.SyncState.{SyncState}
use Rattle.rules.specs.Opening.{IsOpening}
use Rattle.book.specs.declared.book.Pending.{Pending}
use Rattle.book.specs.Books.{Holds}
use Rattle.outside.specs.Calls.{Seen}
use Rattle.outside.specs.Devices.{Device}
use Rattle.outside.specs.Opened.{IsRead, Opened}
use Rattle.run_states.specs.Conditions.{IsOver, Underway}
use Rattle.run_states.specs.Endings.{IsDone}
use Rattle.run_states.specs.Openings.{Opening}
use Rattle.runner.specs.declared.fault.RunFault.{RunFault}
use Rattle.runner.specs.declared.fault.RunFault.TheVariants as run
use Rattle.runner.specs.declared.pass.Settled.{Settled}
use Rattle.runner.specs.Answers.{as_read, made_in}
use Rattle.runner.specs.Attempts.{AnswersAt, LastAttempt, ChangedLast, HaveRepeated, KeptLast, MetBefore, MetStops, Reopens, began_on, failed_before}
use Rattle.runner.specs.ChangedMaps.{HoldsOtherMap}
use Rattle.runner.specs.Faults.{IsCaused, IsNextOf, LeavesRun, Reasons, RefusedAt, ReportsLastRun, ReportsUnread, because, or_beyond, or_greatest, or_keywords, or_refused, or_unread}
use Rattle.runner.specs.Finding.{FindsAt}
use Rattle.runner.specs.Maps.{HasOtherMapIn}
use Rattle.runner.specs.Naming.{NamesAt, OthersStand}
use Rattle.runner.specs.Results.{Report}
use Rattle.runner.specs.Validities.{AnswersChanged}

-- An answer. The run is over; where nobody else adds messages, both mailboxes and the state are alike to the outcome that the rules name
-- for the opening. What is reported is what the last attempt answered: by the files of the device on which it began, the run was made
-- already, or a plan of it was pending, or none was. The steps reported are those of the plan of the world that the run is over for: all of
-- them, or the last where the plan was pending, each new message with the UID of a copy; the messages that were skipped are those of the
-- listed world. A copy that is reported as found stood on its side when the last attempt began, and has the UID that it had there; each
-- other one was made by it. Calls have named only what steps of that plan are to change or to remove, and the last attempt none, where the
-- run was made already. Each message that stood when this began, or when an attempt did, and that no step is to change or to remove, stands
-- as it did.
pub record IsSettled {ours : List ℕ → Bool} {alone : Bool} (opening : Opening ours alone) (now : Option Opened) (options : Options) (stream : Stream) (settled : Settled) (old new : Seen) : Type 0 where
  pub over : IsOver opening new.device
  pub alike : alone ≡ true → IsOpening opening.world → IsDone opening.world opening.options new.device
  pub began : LastAttempt opening settled.stops old new stream
  pub answers : AnswersAt (opening.world.state.run + 1) options settled.last (began_on began.reopens.since old.device) began.drawn
  pub reported : Report opening now settled.last new.device
  pub found : FindsAt ours (began_on began.reopens.since old.device) settled.last
  pub named : NamesAt opening settled.last (began_on began.reopens.since old.device) new.device
  pub others : (s : SyncState) (p : Pending) → Holds (began_on began.reopens.since old.device).files s p →
      All (λ d. OthersStand opening (as_read s p) settled.last d new.device) (began.reopens.since ++ old.device ∷ [])

-- A fault. The run is underway still. After `ValidityChanged` and `KeywordsChanged` nothing has changed but what the attempts before the
-- last have done. A step that is reported as refused is the next one of the plan that the files then hold.
pub record IsUnsettled {ours : List ℕ → Bool} {alone : Bool} (opening : Opening ours alone) (tries : ℕ) (stream : Stream) (fault : RunFault) (old new : Seen) : Type 0 where
  pub left : LeavesRun (Underway opening) fault old new
  pub changed : (side : Side) → fault ≡ run.ValidityChanged side → ChangedLast opening tries side old new stream
  pub keywords : fault ≡ run.KeywordsChanged → KeptLast opening tries old new stream
  pub refused : (step : ℕ) → fault ≡ run.Refused step → RefusedAt step new.device

-- Why several attempts report a fault that is no stop. A step is reported as refused only where it is the next one of the plan that is
-- pending then. A UIDVALIDITY is reported as changed only of the first box that has answered another than is recorded for it. Marks repeat
-- only where the draws of an attempt do, and the map of keywords has changed only where the plan that was read goes by another one. A line
-- of the state or the journal is reported only where the outside has reported it last, and the files that stand there hold no book from it
-- on, but line 2 of the state, where the state that was read has the greatest run, and line 0: of a copy whose UID is taken, or of a state
-- that was read and is not the one before the run, which no outside shows that behaves as specified.
abbrev pub settle_reasons : (now : Option Opened) → (honest : Type 0) → {ours : List ℕ → Bool} {alone : Bool} → Opening ours alone → Options → (stream after : Stream) → (old new : Device) → Reasons
settle_reasons now honest {ours} {alone} opening options stream after old new =
    or_unread (ReportsUnread honest new) (or_greatest (ReportsLastRun now honest new) (or_refused (IsNextOf now) (or_beyond (IsRead now × (honest → ⊥))
    (or_keywords (HasOtherMapIn options.keywords now × (honest → HoldsOtherMap options.keywords new)) (because (AnswersChanged now) (HaveRepeated honest opening now options stream after old))))))

-- a fault that is no stop has its reason; a refusal or a fault of a box is the last that was reported, unless it is that of a copy that was
-- lost
abbrev pub HasReason : (now : Option Opened) → (honest : Type 0) → {ours : List ℕ → Bool} {alone : Bool} → Opening ours alone → Options → (stream after : Stream) → RunFault → (old new : Seen) → Type 0
HasReason now honest {ours} {alone} opening options stream after fault old new = (fault ≡ run.Stopped → ⊥) → IsCaused (settle_reasons now honest opening options stream after old.device new.device) fault old new

-- after a fault: each of all attempts met a stop where a stop is reported, and else each but the last
pub record CountsFailed (tries : ℕ) (fault : RunFault) (old new : Seen) : Type 0 where
  pub stopped : fault ≡ run.Stopped → MetStops tries old new × Reopens (tries - 1) old new
  pub ended : (fault ≡ run.Stopped → ⊥) → MetBefore tries old new

-- so many copies were made after these attempts; where there were none, no others were made
pub record AppendsLast (earlier copies : ℕ) (old new : Seen) : Type 0 where
  pub least : old.appends + copies ≤ new.appends
  pub alone : earlier ≡ 0 → new.appends ≡ old.appends + copies

-- Each attempt but the last met one stop, and no other call stopped. Where the outside had failed before, the first met one that was
-- counted then, and it changed nothing. The outside was opened again for each attempt but the first. The last one has made each copy that
-- it reports as made, and none for a copy that it found.
abbrev pub CountsAttempts : (tries : ℕ) → (old new : Seen) → Result Settled RunFault → Type 0
CountsAttempts tries old new (Ok settled) = MetStops settled.stops old new × (failed_before old ≤ settled.stops) × Reopens settled.stops old new × AppendsLast settled.stops (made_in settled.last) old new
CountsAttempts tries old new (Err fault) = CountsFailed tries fault old new
