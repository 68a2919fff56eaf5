-- What one pass answers, leaves and may report.
use Rattle.std.specs.Prelude.{◌≡◌, ◌≤◌, ◌+◌, ℕ, Bool, true, List, Option}
use Rattle.rand_core.specs.Stream.{Stream}
use Rattle.rules.specs.declared.options.Options.{Options}
use Rattle.rules.specs.declared.state.SyncState.{SyncState}
use Rattle.rules.specs.Opening.{IsOpening}
use Rattle.book.specs.declared.book.Pending.{Pending}
use Rattle.book.specs.declared.book.Pending.TheVariants.{Missing}
use Rattle.book.specs.Books.{Holds}
use Rattle.outside.specs.Devices.{Device}
use Rattle.outside.specs.Opened.{Opened}
use Rattle.run_states.specs.Endings.{IsDone}
use Rattle.run_states.specs.Openings.{IsIdle, Opening}
use Rattle.runner.specs.declared.pass.Pass.{Pass}
use Rattle.runner.specs.Answers.{HasRepeats, PassStart, OfFiles, as_read}
use Rattle.runner.specs.Faults.{Reasons, ReportsBeyond, ReportsUnread, because, or_beyond, or_keywords, or_unread}
use Rattle.runner.specs.ChangedMaps.{ReportsOtherMap}
use Rattle.runner.specs.Finding.{FindsAt}
use Rattle.runner.specs.Naming.{NamesAt, OthersStand}
use Rattle.runner.specs.Results.{Report}
use Rattle.runner.specs.Validities.{AnswersChanged, LeavesBoxes, ReportsChanged}

-- Of a run that was underway. The steps reported are those of the plan of the world that the run is over for, in order: all of them, or the
-- last where the plan was pending; each new message is reported with the UID of a copy; the messages that were skipped are those of the
-- listed world. A copy is reported as found exactly if it stood on its side when the pass began, under the UID that it has: that of the
-- first step that was not logged alone, and none where the plan was made in this pass. Where nobody else adds messages, and the run is not
-- an older one, both mailboxes and the state are alike to the outcome that the rules name for the opening. Calls have named only what steps
-- of that plan are to change or to remove, and each other message stands as it did.
pub record ReportsRun {ours : List ℕ → Bool} {alone : Bool} (opening : Opening ours alone) (run : ℕ) (now : Option Opened) (pass : Pass) (old new : Device) : Type 0 where
  pub reported : Report opening now pass new
  pub found : FindsAt ours old pass
  pub named : NamesAt opening pass old new
  pub others : (s : SyncState) (p : Pending) → Holds old.files s p → OthersStand opening (as_read s p) pass old new
  pub alike : alone ≡ true → opening.world.state.run + 1 ≤ run → IsOpening opening.world → IsDone opening.world opening.options new

-- of a run that was made before: both mailboxes stay as they are, and a journal without a plan of the next run goes
pub record LeavesMade (honest : Type 0) (alone : Bool) (old new : Device) : Type 0 where
  pub stores : LeavesBoxes honest alone old new
  pub idle : OfFiles honest old (λ s p. IsIdle p → Holds new.files s Missing)

-- Why a pass reports a fault. `ValidityChanged` comes only where that side's UIDVALIDITY is not the recorded one, far before near, and
-- `KeywordsChanged` only where the files hold a plan by another map and both UIDVALIDITYs are those of the plan; nothing has changed then;
-- `MarksRepeat` only where the generator's draws do, before there is a mark for each new message of some world since the opening; a line of
-- the state or the journal only where the outside has reported it last, and the files that stand there hold no book, but line 0 of the
-- state: where the run is beyond the next one, or the outside has reported it last. That a run is beyond the next one, and that a plan goes
-- by another map, is so of what was read on each outside; and on each `ValidityChanged` comes only for the first box, far before near,
-- that has answered another UIDVALIDITY than is recorded for it, when it was opened or listed: never in a first run.
abbrev pub pass_reasons : (now : Option Opened) → (honest : Type 0) → {ours : List ℕ → Bool} {alone : Bool} → Opening ours alone → (run : ℕ) → Options → Stream → (old new : Device) → Reasons
pass_reasons now honest {ours} {alone} opening run options stream old new =
    or_unread (ReportsUnread honest new) (or_beyond (ReportsBeyond now honest run old) (or_keywords (ReportsOtherMap now honest alone options.keywords old new)
    (because (λ side. ReportsChanged honest alone old new side × AnswersChanged now side) (HasRepeats opening now honest (PassStart opening run options stream old) options stream))))
