-- What is left over a link to a server where others add the same messages as to the folder.
use Rattle.std.proofs.Common.{◌≡◌, ◌+◌, ◌^◌, ◌&&◌, ℕ, Bool, List, false, sym, subst}
use Rattle.std.specs.Prelude.{IfErr, IsErrAnd, OnOk, Result}
use Rattle.rules.specs.declared.options.Options.{Options}
use Rattle.rules.specs.declared.state.SyncState.{SyncState}
use Rattle.rules.specs.World.{World}
use Rattle.book.specs.declared.book.Pending.{Pending}
use Rattle.book.specs.Books.{Holds}
use Rattle.mailcore.specs.Visitors.{Visitors, others_but}
use Rattle.outside.specs.Calls.{Seen}
use Rattle.outside.specs.Devices.{Device}
use Rattle.run_pair.specs.Parts.{both}
use Rattle.run_states.specs.Conditions.{IsOver, Underway}
use Rattle.run_states.specs.Beginnings.{opening_of}
use Rattle.run_states.specs.Others.{OthersLeft}
use Rattle.runner.specs.declared.fault.RunFault.{RunFault}
use Rattle.runner.specs.Attempts.{HasNoNext, ReportsNoNext}
use Rattle.runner.specs.Faults.{LeavesRun}
use Rattle.runner.specs.Validities.{IsKept}
use Rattle.run_trial.specs.Openings.{AreOurs}
use Rattle.run_trial.specs.Among.{IsOverAmong, OthersLeftAmong}
use Rattle.run_trial.proofs.AmongLemmas.{are_both, left_among, others_among, over_among}

module _ (ours : List ℕ → Bool) (v : Visitors) (same : v ≡ others_but ours) where
  pub are_linked : AreOurs ours → AreOurs (both v.ours ours)
  are_linked are = subst (λ (x : Visitors). AreOurs (both x.ours ours)) (sym same) (are_both ours are)

  pub over_linked : {T : Type 0} (w : World) (options : Options) (d : Device) (r : Result T RunFault) → OnOk r (IsOver (opening_of (both v.ours ours) (v.alone && false) w options) d) → OnOk r (IsOverAmong ours w options d)
  over_linked w options d r h =
      over_among ours w options d r (subst (λ (x : Visitors). OnOk r (IsOver (opening_of (both x.ours ours) (x.alone && false) w options) d)) same h)

  pub others_linked : {T : Type 0} (w : World) (options : Options) (d : Device) (r : Result T RunFault) → OnOk r (OthersLeft (opening_of (both v.ours ours) (v.alone && false) w options) d) → OnOk r (OthersLeftAmong ours w options d)
  others_linked w options d r h =
      others_among ours w options d r (subst (λ (x : Visitors). OnOk r (OthersLeft (opening_of (both x.ours ours) (x.alone && false) w options) d)) same h)

  pub left_linked : {T : Type 0} (w : World) (options : Options) (old new : Seen) (r : Result T RunFault) → IfErr r (λ fault. LeavesRun (Underway (opening_of (both v.ours ours) (v.alone && false) w options)) fault old new)
      → IfErr r (λ fault. LeavesRun (Underway (opening_of ours false w options)) fault old new)
  left_linked w options old new r h =
      left_among ours w options old new r (subst (λ (x : Visitors). IfErr r (λ fault. LeavesRun (Underway (opening_of (both x.ours ours) (x.alone && false) w options)) fault old new)) same h)

  pub greatest_linked : {T : Type 0} (honest : Type 0) (old d new : Device) (r : Result T RunFault) → old ≡ d → honest → HasNoNext honest (v.alone && false) old new r
      → (s : SyncState) (p : Pending) → Holds d.files s p → s.run + 1 ≡ 2 ^ 64 → IsErrAnd r ReportsNoNext × IsKept false d new
  greatest_linked honest old d new r there kept no_next =
      subst (λ (x : Visitors). (s : SyncState) (p : Pending) → Holds d.files s p → s.run + 1 ≡ 2 ^ 64 → IsErrAnd r ReportsNoNext × IsKept (x.alone && false) d new) same
      (subst (λ (y : Device). HasNoNext honest (v.alone && false) y new r) there no_next kept)
