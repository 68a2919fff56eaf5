-- What a run leaves that began with an opening, or with a world.
use Rattle.std.proofs.Common.{◌≡◌, ◌+◌, ℕ, zero, suc, Bool, true, false, List, [], ◌∷◌, ◌++◌, All, if◌then◌else◌, inl, refl, sym, ap, subst, ◌∙◌}
use Rattle.std.specs.Prelude.{Option, Result, Ok, Err, OnOk, IfErr, IfOk, IsErrOf}
use Rattle.std.proofs.lemmas.List.Elements.{All-append, All-cons, All-nil}
use Rattle.rand_core.specs.Stream.{Stream}
use Rattle.mailcore.specs.Draws.{Draws, after_pairs, firsts, is_repeat, mark_at}
use Rattle.mailcore.proofs.PairLemmas.{mark_at-add}
use Rattle.rules.specs.declared.options.Options.{Options}
use Rattle.rules.specs.declared.state.SyncState.{SyncState}
use Rattle.rules.specs.Opening.{IsOpening}
use Rattle.rules.specs.World.{World}
use Rattle.outside.specs.Calls.{Seen}
use Rattle.outside.specs.Devices.{Device}
use Rattle.outside.specs.GoingOn.{GoesOn}
use Rattle.outside.specs.Opened.{Opened}
use Rattle.outside.proofs.GoingOn.{goes_after}
use Rattle.run_states.specs.Conditions.{IsOver, Underway}
use Rattle.run_states.specs.Endings.{IsDone}
use Rattle.run_states.specs.Openings.{Opening, world_at}
use Rattle.run_states.specs.Beginnings.{Begins, opening_of}
use Rattle.run_states.specs.Others.{HasOrder, OthersLeft}
use Rattle.run_states.proofs.Beginnings.{world_is_unplanned}
use Rattle.run_states.proofs.Others.{begun_order, others_left}
use Rattle.runner.specs.declared.fault.RunFault.{RunFault}
use Rattle.runner.specs.Answers.{Inputs}
use Rattle.runner.specs.declared.fault.RunFault.TheVariants as run
use Rattle.runner.specs.declared.pass.Settled.{Settled}
use Rattle.runner.specs.Attempts.{FromOpening, GoesOnOver, MetStops}
use Rattle.runner.specs.Faults.{LeavesRun}
use Rattle.runner.specs.Settled.{CountsAttempts, IsSettled, IsUnsettled}
use Rattle.run_trial.specs.Openings.{AreOurs, StandsAt, trial_stream}

-- ---- marks

firsts_ours : (ours : List ℕ → Bool) (stream : Stream) → ((pair : ℕ) → ours (mark_at stream pair) ≡ true) → (pairs : ℕ) → All (λ mark. ours mark ≡ true) (firsts stream pairs)
unfolding firsts
firsts_ours ours stream are zero = All-nil (λ mark. ours mark ≡ true)
firsts_ours ours stream are (suc k) = by_test (is_repeat stream k) (firsts_ours ours stream are k)
  where
    by_test : (b : Bool) → All (λ mark. ours mark ≡ true) (firsts stream k) → All (λ mark. ours mark ≡ true) (if b then firsts stream k else firsts stream k ++ mark_at stream k ∷ [])
    by_test true before = before
    by_test false before =
        All-append (λ mark. ours mark ≡ true) (firsts stream k) (mark_at stream k ∷ []) before (All-cons (λ mark. ours mark ≡ true) (mark_at stream k) [] (are k) (All-nil (λ mark. ours mark ≡ true)))

drawn_ours : (ours : List ℕ → Bool) → AreOurs ours → (pairs count : ℕ) (marks : List (List ℕ)) → Draws (after_pairs trial_stream pairs) count marks → All (λ mark. ours mark ≡ true) marks
drawn_ours ours are pairs count marks draws =
    subst (λ (l : List (List ℕ)). All (λ mark. ours mark ≡ true) l) (sym draws.are_firsts)
    (firsts_ours ours (after_pairs trial_stream pairs) (λ k. subst (λ (mark : List ℕ). ours mark ≡ true) (mark_at-add trial_stream pairs k) (are (pairs + k))) draws.pairs)

-- ---- from an opening

goes_over : (since : List Device) (start now : Device) → GoesOnOver since start now → GoesOn start now
goes_over [] start now on = on
goes_over (d ∷ since) start now on = goes_after start d now (goes_over since start d on.0) on.1

module _ {ours : List ℕ → Bool} {alone : Bool} (opening : Opening ours alone) (options : Options) where
  asked : AreOurs ours → opening.called ≡ options → Inputs opening options trial_stream
  asked are called = record { called = called; are_ours = drawn_ours ours are }

  -- what `settle` says of an answer
  abbrev pub Settles : (now : Option Opened) (honest : Type 0) (old new : Seen) → Result Settled RunFault → Type 0
  Settles now honest old new r = IfOk r (λ settled. FromOpening honest opening options trial_stream old.device (IsSettled opening now options trial_stream settled old new))

  pub done_from : (now : Option Opened) (honest : Type 0) (old new : Seen) (r : Result Settled RunFault) → Settles now honest old new r
      → honest → alone ≡ true → AreOurs ours → StandsAt opening options old.device → IsOpening opening.world → OnOk r (IsDone opening.world opening.options new.device)
  done_from now honest old new (Ok settled) from kept nobody are at sound = (from kept (asked are at.called) at.at_opening).alike nobody sound
  done_from now honest old new (Err fault) from kept nobody are at sound = tt

  pub over_from : (now : Option Opened) (honest : Type 0) (old new : Seen) (r : Result Settled RunFault) → Settles now honest old new r
      → honest → AreOurs ours → StandsAt opening options old.device → OnOk r (IsOver opening new.device)
  over_from now honest old new (Ok settled) from kept are at = (from kept (asked are at.called) at.at_opening).over
  over_from now honest old new (Err fault) from kept are at = tt

  pub others_from : (now : Option Opened) (honest : Type 0) (old new : Seen) (r : Result Settled RunFault) → Settles now honest old new r
      → honest → AreOurs ours → StandsAt opening options old.device → HasOrder old.device → OnOk r (OthersLeft opening new.device)
  others_from now honest old new (Ok settled) from kept are at order =
      let b = (from kept (asked are at.called) at.at_opening).began in
      others_left ours alone opening old.device new.device order (goes_over b.reopens.since old.device new.device b.goes_on)
  others_from now honest old new (Err fault) from kept are at order = tt

  pub left_from : {T : Type 0} (honest : Type 0) (tries : ℕ) (old new : Seen) (r : Result T RunFault)
      → IfErr r (λ fault. FromOpening honest opening options trial_stream old.device (IsUnsettled opening tries trial_stream fault old new))
      → honest → AreOurs ours → StandsAt opening options old.device → IfErr r (λ fault. LeavesRun (Underway opening) fault old new)
  left_from honest tries old new (Ok settled) from kept are at = tt
  left_from honest tries old new (Err fault) from kept are at = (from kept (asked are at.called) at.at_opening).left

-- reported as stopped
pub stopped_from : (tries : ℕ) (old new : Seen) (r : Result Settled RunFault) → CountsAttempts tries old new r → IsErrOf r run.Stopped → MetStops tries old new
stopped_from tries old new (Ok settled) counts is = absurd (cc)
stopped_from tries old new (Err fault) counts is = let same : fault ≡ run.Stopped = cc in (counts.stopped same).0

-- ---- from a world

module _ (ours : List ℕ → Bool) (alone : Bool) (w : World) (options : Options) where
  pub stands_world : (d : Device) → Begins w d → StandsAt (opening_of ours alone w options) options d
  stands_world d begins = record {
    called = refl;
    at_opening = record { room = begins.room; open_run = inl (world_is_unplanned ours alone w options d begins.held begins.sound) };
  }

  pub order_of : (d : Device) → Begins w d → HasOrder d
  order_of d begins = begun_order ours alone (opening_of ours alone w options) d (world_is_unplanned ours alone w options d begins.held begins.sound)

  -- ---- the world by its state

  named_so : (state : SyncState) (d : Device) → w.state ≡ state → Begins w d → world_at d state ≡ w
  named_so state d same begins = ap (world_at d) (sym same) ∙ begins.held.world

  pub done_of : {T : Type 0} (state : SyncState) (old new : Device) (r : Result T RunFault) → w.state ≡ state → Begins w old
      → (Begins (world_at old state) old → OnOk r (IsDone (world_at old state) options new)) → OnOk r (IsDone w options new)
  done_of state old new r same begins so =
      subst (λ (x : World). Begins x old → OnOk r (IsDone x options new)) (named_so state old same begins) so begins

  pub over_of : {T : Type 0} (state : SyncState) (old new : Device) (r : Result T RunFault) → w.state ≡ state → Begins w old
      → (Begins (world_at old state) old → OnOk r (IsOver (opening_of ours alone (world_at old state) options) new)) → OnOk r (IsOver (opening_of ours alone w options) new)
  over_of state old new r same begins so =
      subst (λ (x : World). Begins x old → OnOk r (IsOver (opening_of ours alone x options) new)) (named_so state old same begins) so begins

  pub others_of : {T : Type 0} (state : SyncState) (old new : Device) (r : Result T RunFault) → w.state ≡ state → Begins w old
      → (Begins (world_at old state) old → OnOk r (OthersLeft (opening_of ours alone (world_at old state) options) new)) → OnOk r (OthersLeft (opening_of ours alone w options) new)
  others_of state old new r same begins so =
      subst (λ (x : World). Begins x old → OnOk r (OthersLeft (opening_of ours alone x options) new)) (named_so state old same begins) so begins

  pub left_of : {T : Type 0} (state : SyncState) (old new : Seen) (r : Result T RunFault) → w.state ≡ state → Begins w old.device
      → (Begins (world_at old.device state) old.device → IfErr r (λ fault. LeavesRun (Underway (opening_of ours alone (world_at old.device state) options)) fault old new))
      → IfErr r (λ fault. LeavesRun (Underway (opening_of ours alone w options)) fault old new)
  left_of state old new r same begins so =
      subst (λ (x : World). Begins x old.device → IfErr r (λ fault. LeavesRun (Underway (opening_of ours alone x options)) fault old new)) (named_so state old.device same begins) so begins
