-- Which step of a plan that is pending a number names.
use Rattle.std.specs.Prelude.{◌≡◌, ◌+◌, ℕ, zero, suc, Bool, false, length, slice_get, Option, None, Some}
use Rattle.rules.specs.declared.plan.Step.{Step}
use Rattle.outside.specs.Opened.{IsRead, Opened, journal_of}
use Rattle.runner.specs.declared.fault.RunFault.{RunFault}
use Rattle.sync_state.specs.declared.journal.Journal.{Journal}
use Rattle.channels.specs.declared.fault.BoxFailure.{BoxFailure}
use Rattle.channels.specs.declared.fault.BoxFailure.TheVariants.{AtStep, Refused, Run}

-- counted from 1
abbrev pub step_at : ℕ → Option Journal → Option Step
step_at number None = None
step_at zero (Some journal) = None
step_at (suc place) (Some journal) = slice_get journal.plan.steps place

-- how many steps are logged
abbrev pub logged_in : Option Journal → ℕ
logged_in None = 0
logged_in (Some journal) = length journal.log

-- a fault of the run is reported as it is, with the first step that is not logged if there is one
abbrev pub NamesNext : Option Journal → RunFault → BoxFailure → Type 0
NamesNext journal fault (AtStep reported number step) = (reported ≡ fault) × (number ≡ logged_in journal + 1) × (step_at number journal ≡ Some step)
NamesNext journal fault (Run reported) = reported ≡ fault
NamesNext journal fault _ = ⊥

-- beside the number of a refused step stands the step, if the plan could be read again
abbrev pub NamesRefused : (is_broken : Bool) → Option Opened → BoxFailure → Type 0
NamesRefused is_broken opened (Refused number step) = is_broken ≡ false → IsRead opened × (step ≡ step_at number (journal_of opened))
NamesRefused is_broken opened _ = Unit {0}

-- the step that is named beside a number is the one of this number
abbrev pub NamesItsStep : Option Journal → BoxFailure → Type 0
NamesItsStep journal (AtStep fault number step) = step_at number journal ≡ Some step
NamesItsStep journal (Refused number (Some step)) = step_at number journal ≡ Some step
NamesItsStep journal _ = Unit {0}
