-- How the journal of a book is begun, and how its steps are logged.
use Rattle.std.specs.Prelude.{ℕ, zero, suc, ◌+◌, ◌≡◌, Bool, true, false, not, List, [], ◌∷◌, ◌++◌, length, Option, Some, None}
use Rattle.std.specs.List.{list_all}
use Rattle.rules.specs.declared.entry.Entry.{Entry}
use Rattle.rules.specs.declared.state.SyncState.{SyncState}
use Rattle.rules.specs.declared.plan.Step.{Step}
use Rattle.rules.specs.declared.plan.Plan.{Plan}
use Rattle.sync_state.specs.declared.version.Version.TheVariants.{Two}
use Rattle.sync_state.specs.declared.journal.Logged.{Logged}
use Rattle.sync_state.specs.declared.journal.Logged.TheVariants.{Copied, Done}
use Rattle.sync_state.specs.declared.journal.Journal.{Journal}
use Rattle.sync_state.specs.declared.journal.WrittenJournal.{WrittenJournal}
use Rattle.book.specs.declared.book.Pending.{Pending}
use Rattle.book.specs.declared.book.Pending.TheVariants.{Missing, Useless, Planned}
use Rattle.book.specs.Agreement.{Agrees, copy_of, copies_of, is_taken}
use Rattle.sync_state.specs.JournalText.{IsPlan}
use Rattle.sync_state.specs.JournalReading.{FitsAt}

-- no step of the plan is logged
abbrev pub fresh : Plan → Journal
fresh plan = record { plan = plan; log = [] }

-- a journal of the second version
abbrev pub begun : Plan → Pending
begun plan = Planned (record { version = Two; journal = fresh plan; is_torn = false })

-- a plan that a book may begin: there is no journal, and the plan has a text, is of the next run and agrees with the state
pub record MayBegin (state : SyncState) (pending : Pending) (plan : Plan) : Type 0 where
  pub missing : pending ≡ Missing
  pub has_text : IsPlan plan
  pub next : plan.run ≡ state.run + 1
  pub agrees : Agrees state.entries (fresh plan)

-- one step more is logged
abbrev pub with_logged : Journal → Logged → Journal
with_logged j logged = record j { log = j.log ++ logged ∷ [] }

abbrev pub written_more : WrittenJournal → Logged → WrittenJournal
written_more written logged = record written { journal = with_logged written.journal logged }

abbrev pub logged_more : Pending → Logged → Pending
logged_more Missing logged = Missing
logged_more Useless logged = Useless
logged_more (Planned written) logged = Planned (written_more written logged)

-- how a step that is done is logged: with the UID of the copy that it made, if it made one
abbrev pub as_done : Option ℕ → Logged
as_done None = Done
as_done (Some copy) = Copied copy

-- The step of this number, counted from 1, is the first that is not logged, and may be logged so. No torn line follows
-- those that are.
pub record IsNextLog (written : WrittenJournal) (step : ℕ) (logged : Logged) : Type 0 where
  pub whole : written.is_torn ≡ false
  pub number : step ≡ length written.journal.log + 1
  pub fits : FitsAt written.journal.plan.steps (length written.journal.log) logged

abbrev pub MayLog : Pending → (step : ℕ) → Logged → Type 0
MayLog Missing step logged = ⊥
MayLog Useless step logged = ⊥
MayLog (Planned written) step logged = IsNextLog written step logged

-- the copy that this step made, if it made one, has a UID that is not taken
abbrev pub is_free_for : List Entry → Journal → Step → Logged → Bool
is_free_for entries j s logged = list_all (λ c. not (is_taken entries j.plan.steps (copies_of j.plan.steps j.log) c)) (copy_of s logged)

-- the step after so many, if there is one, passes
abbrev pub at_step : (Step → Bool) → List Step → ℕ → Bool
at_step passes [] k = true
at_step passes (s ∷ steps) zero = passes s
at_step passes (s ∷ steps) (suc k) = at_step passes steps k

-- the copy of the next step has a UID that is not taken
abbrev pub is_free : List Entry → Journal → Logged → Bool
is_free entries j logged = at_step (λ s. is_free_for entries j s logged) j.plan.steps (length j.log)

-- the copy of the next step has a UID that is taken
abbrev pub is_refused : List Entry → Pending → Logged → Bool
is_refused entries Missing logged = false
is_refused entries Useless logged = false
is_refused entries (Planned written) logged = not (is_free entries written.journal logged)
