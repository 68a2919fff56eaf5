-- What a pass says as a whole, of what its parts say.
use Rattle.std.proofs.Common.{◌≡◌, ◌≤◌, ◌+◌, ℕ, Bool, true, List, Option, Result, Ok, Err, IfOk}
use Rattle.std.specs.Prelude.{OnOk}
use Rattle.rand_core.specs.Stream.{Stream}
use Rattle.rules.specs.declared.options.Options.{Options}
use Rattle.rules.specs.declared.state.SyncState.{SyncState}
use Rattle.rules.specs.Opening.{IsOpening}
use Rattle.book.specs.declared.book.Pending.{Pending}
use Rattle.book.specs.declared.book.Pending.TheVariants.{Missing}
use Rattle.book.specs.Books.{Holds}
use Rattle.outside.specs.Devices.{Device}
use Rattle.outside.specs.Opened.{Opened}
use Rattle.run_states.specs.Endings.{IsDone}
use Rattle.run_states.specs.Openings.{IsIdle, Opening}
use Rattle.runner.specs.declared.fault.RunFault.{RunFault}
use Rattle.runner.specs.declared.pass.Pass.{Pass}
use Rattle.runner.specs.declared.pass.Pass.TheVariants.{Already}
use Rattle.runner.specs.Answers.{Answers, OfFiles, RunsBy, as_read}
use Rattle.runner.specs.Attempts.{AnswersAt}
use Rattle.runner.specs.Finding.{FindsAt}
use Rattle.runner.specs.Naming.{NamesAt}
use Rattle.runner.specs.Passes.{LeavesMade, ReportsRun}
use Rattle.runner.specs.Results.{Report}
use Rattle.runner.specs.Validities.{LeavesBoxes}
use Rattle.runner.proofs.Naming.{HasSpared, others_stand}

pub answers_so : (run : ℕ) (options : Options) (d : Device) (stream : Stream) (h : Type 0) (r : Result Pass RunFault) → IfOk r (λ pass. h → (s : SyncState) → (p : Pending) → Holds d.files s p → Answers run s p pass)
    → IfOk r (λ pass. h → (s : SyncState) → (p : Pending) → Holds d.files s p → RunsBy (as_read s p) options stream pass) → IfOk r (λ pass. h → AnswersAt run options pass d stream)
answers_so run options d stream h (Ok pass) answers runs = λ honest. record { answers = answers honest; runs = runs honest }
answers_so run options d stream h (Err e) answers runs = tt

module _ {ours : List ℕ → Bool} {alone : Bool} (opening : Opening ours alone) (run : ℕ) (now : Option Opened) (h from : Type 0) (d d' : Device) where
  pub reports_so : (r : Result Pass RunFault) → IfOk r (λ pass. h → from → Report opening now pass d') → IfOk r (λ pass. h → from → FindsAt ours d pass) → IfOk r (λ pass. h → from → NamesAt opening pass d d')
      → OnOk r (h → alone ≡ true → from → opening.world.state.run + 1 ≤ run → IsOpening opening.world → IsDone opening.world opening.options d')
      → OnOk r (h → from → HasSpared opening d d')
      → IfOk r (λ pass. h → from → ReportsRun opening run now pass d d')
  reports_so (Ok pass) reported found named alike others = λ honest at. record { reported = reported honest at; found = found honest at; named = named honest at; others = λ s p held. others_stand opening (as_read s p) pass d d d' (named honest at s p held) (others honest at); alike = λ nobody least sound. alike honest nobody at least sound }
  reports_so (Err e) reported found named alike others = tt

  pub reported_in : (r : Result Pass RunFault) → IfOk r (λ pass. h → from → ReportsRun opening run now pass d d') → IfOk r (λ pass. h → from → Report opening now pass d')
  reported_in (Ok pass) k = λ honest at. (k honest at).reported
  reported_in (Err e) k = tt

  pub found_in : (r : Result Pass RunFault) → IfOk r (λ pass. h → from → ReportsRun opening run now pass d d') → IfOk r (λ pass. h → from → FindsAt ours d pass)
  found_in (Ok pass) k = λ honest at. (k honest at).found
  found_in (Err e) k = tt

  pub named_in : (r : Result Pass RunFault) → IfOk r (λ pass. h → from → ReportsRun opening run now pass d d') → IfOk r (λ pass. h → from → NamesAt opening pass d d')
  named_in (Ok pass) k = λ honest at. (k honest at).named
  named_in (Err e) k = tt

pub made_so : (alone : Bool) (h : Type 0) (d d' : Device) (r : Result Pass RunFault) → IfOk r (λ pass. pass ≡ Already → LeavesBoxes h alone d d')
    → IfOk r (λ pass. pass ≡ Already → OfFiles h d (λ s p. IsIdle p → Holds d'.files s Missing)) → IfOk r (λ pass. pass ≡ Already → LeavesMade h alone d d')
made_so alone h d d' (Ok pass) stores idle = λ is. record { stores = stores is; idle = idle is }
made_so alone h d d' (Err e) stores idle = tt
