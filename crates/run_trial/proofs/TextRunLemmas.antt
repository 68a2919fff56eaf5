-- What is reported of a trial in memory: what is printed is the world that its devices hold.
use Rattle.std.proofs.Common.{◌≡◌, ◌∙◌, ◌+◌, ◌<◌, ◌^◌, ℕ, Bool, true, false, List, [], sym, subst}
use Rattle.std.specs.Prelude.{OnOk, IfErr, IfOk, Result, Ok, Err, String, string_bytes}
use Rattle.std.specs.Global.{Global}
use Rattle.maildir.specs.Gains.{nobody}
use Rattle.outside.specs.Calls.{Seen}
use Rattle.outside.specs.Devices.{Device}
use Rattle.rules.specs.declared.options.Options.{Options}
use Rattle.rules.specs.World.{World}
use Rattle.run_states.specs.Beginnings.{opening_of}
use Rattle.run_states.specs.Conditions.{Underway}
use Rattle.run_states.specs.Endings.{IsDone}
use Rattle.run_states.specs.Openings.{world_at}
use Rattle.runner.specs.declared.fault.RunFault.{RunFault}
use Rattle.runner.specs.declared.fault.RunFault.TheVariants as run
use Rattle.runner.specs.Faults.{LeavesRun}
use Rattle.run_trial.specs.declared.failure.TrialError.{TrialError}
use Rattle.run_trial.specs.declared.trial.Trial.{Trial}
use Rattle.run_trial.specs.Among.{HoldsAll, IsOverAmong, LeavesAmong, OthersLeftAmong}
use Rattle.run_trial.specs.Acting.{NobodyActs}
use Rattle.run_trial.specs.Arriving.{AreNone, are_foreign}
use Rattle.run_trial.specs.Courses.{IsTextOf}
use Rattle.run_trial.specs.FromText.{PrintsOutcome, Reports, ReportsAmong, ReportsText}
use Rattle.run_trial.specs.Memory.{LeavesWorld}
use Rattle.run_trial.specs.Printed.{Prints}
use Rattle.run_trial.specs.Reports.{status_of}
use Rattle.run_trial.specs.Trials.{IsStart}
use Rattle.run_trial.specs.Worlds.{IsNamed, device_of, world_of}
use Rattle.worlds.specs.Trial.{is_counted}
use Rattle.run_trial.proofs.PrintedLemmas.{printed_is_held}

-- what calls have named is not printed
prints_named : (d held : Device) (ending printed : List ℕ) → held ≡ record d { named = [] } → Prints held ending printed → Prints d ending printed
prints_named d held ending printed is prints =
    let p = subst (λ (h : Device). Prints h ending printed) is prints in
    record { state = p.state; held = p.held; text = p.text }

prints_outcome : (w : World) (options : Options) (d : Device) (ending printed : List ℕ) → Prints d ending printed → IsDone w options d → PrintsOutcome w options printed
prints_outcome w options d ending printed prints done = record {
  ending = ending;
  found = world_at d done.state;
  text = printed_is_held d ending printed done.state done.pending prints done.files;
  alike = done.alike;
}

-- whatever the fault, the run is underway
underway_after : (underway : Device → Type 0) (fault : RunFault) (old new : Seen) → LeavesRun underway fault old new → underway new.device
underway_after underway run.Stopped old new left = left
underway_after underway (run.Refused step) old new left = left.0
underway_after underway (run.ValidityChanged side) old new left = left
underway_after underway (run.BadState line) old new left = absurd left
underway_after underway (run.BadJournal line) old new left = absurd left
underway_after underway (run.StoreFault side number) old new left = left.0
underway_after underway run.MarksRepeat old new left = left
underway_after underway run.NoMemory old new left = left
underway_after underway run.KeywordsChanged old new left = left

by_answer : {T : Type 0} (w : World) (options : Options) (answer : Result T RunFault) (new : Seen) (ending printed : List ℕ) → Prints new.device ending printed
    → OnOk answer (IsDone w options new.device) → (w.state.run + 1 < 2 ^ 64 → IfErr answer (λ fault. LeavesWorld w options (device_of w) fault new)) → Reports w options printed (status_of answer)
by_answer w options (Ok settled) new ending printed prints done left = record {
  settled = λ zero. prints_outcome w options new.device ending printed prints done;
  fault = λ one room. absurd (cc);
}
by_answer w options (Err fault) new ending printed prints done left = record {
  settled = λ zero. absurd (cc);
  fault = λ one room. record { ending = ending; left = new.device; prints = prints; underway = underway_after (Underway (opening_of nobody.ours nobody.alone w options)) fault _ new (left room) };
}

-- what is reported of a run, by what it left
pub reports_run : {T : Type 0} (w : World) (options : Options) (answer : Result T RunFault) (new : Seen) (held : Device) (ending printed : List ℕ) (status : ℕ) → held ≡ record new.device { named = [] }
    → status ≡ status_of answer → Prints held ending printed → OnOk answer (IsDone w options new.device)
    → (w.state.run + 1 < 2 ^ 64 → IfErr answer (λ fault. LeavesWorld w options (device_of w) fault new)) → Reports w options printed status
reports_run w options answer new held ending printed status is same prints done left =
    subst (λ (n : ℕ). Reports w options printed n) (sym same) (by_answer w options answer new ending printed (prints_named new.device held ending printed is prints) done left)

module _ (w : World) (options : Options) (new : Seen) (held : Device) (is : held ≡ record new.device { named = [] }) where
  -- where it can be reported
  pub reports_answer : {T : Type 0} (answer : Result T RunFault) (r : Result (String Global × ℕ) TrialError) → IfOk r (λ x. x.1 ≡ status_of answer)
      → IfOk r (λ x. (ending : List ℕ) × Prints held ending (string_bytes x.0)) → OnOk answer (IsDone w options new.device)
      → (w.state.run + 1 < 2 ^ 64 → IfErr answer (λ fault. LeavesWorld w options (device_of w) fault new)) → IfOk r (λ x. Reports w options (string_bytes x.0) x.1)
  reports_answer answer (Ok x) same prints done left = reports_run w options answer new held prints.0 (string_bytes x.0) x.1 is same prints.1 done left
  reports_answer answer (Err failure) same prints done left = tt

-- ---- where others add messages

module _ (ours : List ℕ → Bool) (w : World) (options : Options) (new : Seen) where
  -- by the answer
  over_by : {T : Type 0} (answer : Result T RunFault) → OnOk answer (IsOverAmong ours w options new.device) → status_of answer ≡ 0 → IsOverAmong ours w options new.device
  over_by (Ok settled) over zero = over
  over_by (Err fault) over zero = absurd (cc)

  others_by : {T : Type 0} (answer : Result T RunFault) → OnOk answer (OthersLeftAmong ours w options new.device) → status_of answer ≡ 0 → OthersLeftAmong ours w options new.device
  others_by (Ok settled) others zero = others
  others_by (Err fault) others zero = absurd (cc)

  underway_by : {T : Type 0} (answer : Result T RunFault) → IfErr answer (λ fault. LeavesAmong ours w options (device_of w) fault new) → status_of answer ≡ 1 → Underway (opening_of ours false w options) new.device
  underway_by (Ok settled) left one = absurd (cc)
  underway_by (Err fault) left one = underway_after (Underway (opening_of ours false w options)) fault _ new left

  -- what is reported, where it can be
  pub reports_among : {T : Type 0} (held : Device) → HoldsAll ours new.device held → (answer : Result T RunFault) (r : Result (String Global × ℕ) TrialError) → IfOk r (λ x. x.1 ≡ status_of answer)
      → IfOk r (λ x. (ending : List ℕ) × Prints held ending (string_bytes x.0))
      → (w.state.run + 1 < 2 ^ 64 → OnOk answer (IsOverAmong ours w options new.device))
      → (w.state.run + 1 < 2 ^ 64 → OnOk answer (OthersLeftAmong ours w options new.device))
      → (w.state.run + 1 < 2 ^ 64 → IfErr answer (λ fault. LeavesAmong ours w options (device_of w) fault new))
      → IfOk r (λ x. ReportsAmong ours w options (string_bytes x.0) x.1)
  reports_among held all answer (Ok x) same prints over others left = record {
    ending = prints.0;
    left = new.device;
    held = held;
    all = all;
    prints = prints.1;
    over = λ zero room. over_by answer (over room) (sym same ∙ zero);
    others = λ zero room. others_by answer (others room) (sym same ∙ zero);
    fault = λ one room. underway_by answer (left room) (sym same ∙ one);
  }
  reports_among held all answer (Err failure) same prints over others left = tt

-- ---- of a text

-- what is reported of the trial that a text is
pub reports_text : (trial : Trial) (text : List ℕ) (r : Result (String Global × ℕ) TrialError) → IsTextOf trial text → IsNamed trial.world.options.keywords (world_of trial.world)
    → (AreNone trial.course.arrivals → NobodyActs trial.course.acts → IsStart trial → IfOk r (λ x. Reports (world_of trial.world) trial.world.options (string_bytes x.0) x.1))
    → (¬ AreNone trial.course.arrivals → are_foreign is_counted trial.course.arrivals ≡ true → NobodyActs trial.course.acts → IsStart trial → IfOk r (λ x. ReportsAmong is_counted (world_of trial.world) trial.world.options (string_bytes x.0) x.1))
    → IfOk r (λ x. ReportsText text (string_bytes x.0) x.1)
reports_text trial text (Ok x) is named alone among = record {
  trial = trial;
  is = is;
  named = named;
  alone = λ no_journal nobody no_flags no_removals opening.
      alone (record { far = is.says.far nobody; near = is.says.near nobody }) (is.says.acts no_flags no_removals) (record { none = is.says.journal no_journal; opening = opening; named = named });
  among = λ no_journal no_flags no_removals some foreign opening.
      among some foreign (is.says.acts no_flags no_removals) (record { none = is.says.journal no_journal; opening = opening; named = named });
}
reports_text trial text (Err failure) is named alone among = tt
