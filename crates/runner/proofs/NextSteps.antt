-- The step that is next, by the journal that is pending.
use Rattle.std.proofs.Common.{◌≡◌, ◌<◌, ◌≤◌, ◌+◌, ℕ, length, get_or, Option, Some, None, sym, ◌∙◌, ap, subst, unwrap_or}
use Rattle.rules.specs.declared.plan.Step.{Step}
use Rattle.sync_state.specs.declared.journal.Journal.{Journal}
use Rattle.outside.specs.Opened.{Opened, journal_of}
use Rattle.run_states.specs.Plans.{next_of}
use Rattle.run_states.proofs.NextSteps.{next_at_get, next_past}
use Rattle.runner.specs.Going.{NextAt, no_journal}

pub next_none : (opened : Option Opened) (j : Journal) → Some j ≡ journal_of opened → length j.plan.steps ≤ length j.log → NextAt opened None
next_none opened j e past = subst (λ (o : Option Journal). next_of (unwrap_or o no_journal).plan.steps (unwrap_or o no_journal).log ≡ None) e (next_past j.plan.steps j.log past)

pub next_some : (opened : Option Opened) (j : Journal) (number : ℕ) (s d : Step) → Some j ≡ journal_of opened → length j.log < length j.plan.steps → s ≡ get_or j.plan.steps (length j.log) d → number ≡ length j.log + 1 → NextAt opened (Some (number, s))
next_some opened j number s d e less is n =
    subst (λ (o : Option Journal). (number ≡ length (unwrap_or o no_journal).log + 1) × (next_of (unwrap_or o no_journal).plan.steps (unwrap_or o no_journal).log ≡ Some s)) e (n, next_at_get j.plan.steps j.log d less ∙ ap Some (sym is))
