-- What is left where others add messages that bear none of the marks of the run.
use Rattle.std.proofs.Common.{◌≡◌, ◌∙◌, ◌&&◌, ℕ, Bool, List, map, true, false, refl, sym, ap, subst}
use Rattle.std.specs.Prelude.{◌+◌, ◌^◌, All, Result, Ok, Err, IfErr, IfOk, IsErrAnd, OnOk}
use Rattle.std.proofs.Math.Path.{fun_ext}
use Rattle.std.proofs.lemmas.List.Elements.{All-map}
use Rattle.mailcore.specs.Content.{mark_of}
use Rattle.imap_session.specs.Servers.{Server}
use Rattle.maildir.specs.Folders.{Stored}
use Rattle.maildir.specs.MemFolders.{stored_in}
use Rattle.book.specs.declared.book.Pending.TheVariants.{Missing}
use Rattle.book.specs.MemShelves.{files_of}
use Rattle.book.specs.Shelves.{Files}
use Rattle.mem_link.specs.declared.arrivals.Arrival.{Arrival}
use Rattle.mem_link.specs.Others.{AreForeign}
use Rattle.run_trial.specs.declared.arrival.FarArrival.{FarArrival}
use Rattle.run_trial.specs.declared.setting.TrialSetting.{TrialSetting}
use Rattle.run_trial.specs.Settings.{device_at, device_in}
use Rattle.rules.specs.declared.options.Options.{Options}
use Rattle.rules.specs.World.{World}
use Rattle.mailcore.specs.Visitors.{IsForeign}
use Rattle.outside.specs.Calls.{Seen}
use Rattle.outside.specs.Devices.{Device}
use Rattle.run_pair.specs.Parts.{both}
use Rattle.run_states.specs.Conditions.{IsOver, Underway}
use Rattle.run_states.specs.Beginnings.{HoldsWorld, opening_of}
use Rattle.run_states.specs.Others.{OthersLeft}
use Rattle.runner.specs.declared.fault.RunFault.{RunFault}
use Rattle.runner.specs.Attempts.{HasNoNext, ReportsNoNext}
use Rattle.runner.specs.Faults.{LeavesRun}
use Rattle.runner.specs.Validities.{IsKept}
use Rattle.run_trial.specs.Openings.{AreOurs}
use Rattle.run_trial.specs.Among.{IsOverAmong, OthersLeftAmong, arrival_of}
use Rattle.run_trial.specs.Worlds.{device_of}

twice : (b : Bool) → (b && b) ≡ b
twice true = refl
twice false = refl

module _ (ours : List ℕ → Bool) where
  -- what is the run's at both sides, where it is the same at each
  same_both : both ours ours ≡ ours
  same_both = fun_ext (λ mark. twice (ours mark))

  pub are_both : AreOurs ours → AreOurs (both ours ours)
  are_both = subst AreOurs (sym same_both)

  pub over_among : {T : Type 0} (w : World) (options : Options) (d : Device) (r : Result T RunFault) → OnOk r (IsOver (opening_of (both ours ours) false w options) d) → OnOk r (IsOverAmong ours w options d)
  over_among w options d r = subst (λ (o : List ℕ → Bool). OnOk r (IsOver (opening_of o false w options) d)) same_both

  pub others_among : {T : Type 0} (w : World) (options : Options) (d : Device) (r : Result T RunFault) → OnOk r (OthersLeft (opening_of (both ours ours) false w options) d) → OnOk r (OthersLeftAmong ours w options d)
  others_among w options d r = subst (λ (o : List ℕ → Bool). OnOk r (OthersLeft (opening_of o false w options) d)) same_both

  pub left_among : {T : Type 0} (w : World) (options : Options) (old new : Seen) (r : Result T RunFault) → IfErr r (λ fault. LeavesRun (Underway (opening_of (both ours ours) false w options)) fault old new)
      → IfErr r (λ fault. LeavesRun (Underway (opening_of ours false w options)) fault old new)
  left_among w options old new r = subst (λ (o : List ℕ → Bool). IfErr r (λ fault. LeavesRun (Underway (opening_of o false w options)) fault old new)) same_both

-- after the greatest number
module _ {A T E : Type 0} (device : A → Device) (w : World) (d : Device) where
  pub greatest_among : (r : Result (A × Result T RunFault) E) → IfOk r (λ run. HasNoNext (Unit {0}) false d (device run.0) run.1) → HoldsWorld w d → w.state.run + 1 ≡ 2 ^ 64
      → d ≡ device_of w → IfOk r (λ run. IsErrAnd run.1 ReportsNoNext × IsKept false (device_of w) (device run.0))
  greatest_among (Ok run) none held last same = let parts = none tt w.state Missing held.files last in (parts.0, subst (λ (x : Device). IsKept false x (device run.0)) same parts.1)
  greatest_among (Err failure) none held last same = tt

-- ---- what is taken over of a setting

pub device_kept : (s : TrialSetting) (options : Options) (server : Server) (folder : Stored) (shelf : Files) → options ≡ s.options → server ≡ s.far.server.server → folder ≡ stored_in s.folder → shelf ≡ files_of s.shelf → device_at options.keywords server folder shelf ≡ device_in s
device_kept s options server folder shelf asked there files kept =
    ap (λ (x : Options). device_at x.keywords server folder shelf) asked ∙ ap (λ (x : Server). device_at s.options.keywords x folder shelf) there
    ∙ ap (λ (x : Stored). device_at s.options.keywords s.far.server.server x shelf) files ∙ ap (λ (x : Files). device_at s.options.keywords s.far.server.server (stored_in s.folder) x) kept

pub mapped_foreign : (ours : List ℕ → Bool) (lines : List FarArrival) (list : List Arrival) → list ≡ map arrival_of lines → All (λ a. IsForeign ours (mark_of a.bytes)) lines → AreForeign ours list
mapped_foreign ours lines list taken foreign = subst (AreForeign ours) (sym taken) (All-map (λ (a : Arrival). IsForeign ours (mark_of a.bytes)) arrival_of lines foreign)

pub taken_foreign : (ours : List ℕ → Bool) (lines : List FarArrival) (there : List FarArrival) (list : List Arrival) → there ≡ lines → list ≡ map arrival_of there → All (λ a. IsForeign ours (mark_of a.bytes)) lines → AreForeign ours list
taken_foreign ours lines there list same taken foreign =
    subst (AreForeign ours) (sym (taken ∙ ap (map arrival_of) same)) (All-map (λ (a : Arrival). IsForeign ours (mark_of a.bytes)) arrival_of lines foreign)
