-- What a finished journal of a plan makes of the state, in laws that the functions of `src/lib.rt` show.
use Rattle.std.specs.Prelude.{ℕ, ◌+◌, ◌≡◌, List, ◌++◌, length, map, Option, Some, None}
use Rattle.mailcore.specs.declared.side.Side.{Side}
use Rattle.mailcore.specs.declared.side.Side.TheVariants.{Far, Near}
use Rattle.mailcore.specs.declared.side.Direction.TheVariants.{Pull, Push}
use Rattle.rules.specs.declared.state.SyncState.{SyncState}
use Rattle.rules.specs.declared.options.Options.{Options}
use Rattle.rules.specs.declared.plan.Plan.{Plan}
use Rattle.rules.specs.Outcome.{count_new, entries_after, highest_after}
use Rattle.rules.specs.World.{World, IsInOrder, scene_of}
use Rattle.rules.specs.Copies.{pairs_under}
use Rattle.rules.specs.WorldAfter.{new_messages, entries_under, copy_uids, state_after}
use Rattle.rules.specs.AlikeBy.{IsStateAfter}
use Rattle.planner.specs.Written.{all_steps, all_notes}
use Rattle.sync_state.specs.declared.journal.Logged.{Logged}
use Rattle.sync_state.specs.declared.journal.Logged.TheVariants.{Copied, Done, Void}
use Rattle.sync_state.specs.declared.journal.Journal.{Journal}
use Rattle.book.specs.Committed.{kept_entries, entries_of_copies, Commits}
use Rattle.law_outcome.specs.Steps.{Fit, given}

-- the result of a logged step
abbrev pub result_of : Logged → Option ℕ
result_of (Copied uid) = Some uid
result_of Done = None
result_of Void = None

abbrev pub results_of : List Logged → List (Option ℕ)
results_of log = map result_of log

-- the UIDs that the steps of the plan gave to the copies of each side
abbrev pub uids_given : World → Options → (marks : List (List ℕ)) → (results : List (Option ℕ)) → Side → List ℕ
uids_given w options marks results side = given side (all_steps (scene_of w options) marks) results

-- the plan of a world
pub record IsPlanOf (w : World) (options : Options) (marks : List (List ℕ)) (plan : Plan) : Type 0 where
  pub marked : length marks ≡ count_new (scene_of w options)
  pub run : plan.run ≡ w.state.run + 1
  pub far_validity : plan.far.validity ≡ w.far.validity
  pub near_validity : plan.near.validity ≡ w.near.validity
  pub far_highest : plan.far.highest ≡ highest_after (scene_of w options) Pull
  pub near_highest : plan.near.highest ≡ highest_after (scene_of w options) Push
  pub steps : plan.steps ≡ all_steps (scene_of w options) marks
  pub notes : plan.notes ≡ all_notes (scene_of w options)
  pub keywords : plan.keywords ≡ options.keywords

-- the entries that a journal of the plan keeps are those of the outcome
abbrev pub KeptAreEntriesAfter : Type 0
KeptAreEntriesAfter =
    (w : World) (options : Options) (marks : List (List ℕ)) (j : Journal) →
    IsInOrder w → IsPlanOf w options marks j.plan → kept_entries j w.state.entries ≡ entries_after (scene_of w options)

-- and those that it adds are the pairs of the new messages and their copies
abbrev pub CopiesArePaired : Type 0
CopiesArePaired =
    (w : World) (options : Options) (marks : List (List ℕ)) (j : Journal) →
    IsPlanOf w options marks j.plan → length j.log ≡ length j.plan.steps → Fit j.plan.steps (results_of j.log) →
    entries_of_copies j.plan.steps j.log
    ≡ pairs_under Pull (given Near j.plan.steps (results_of j.log)) (new_messages w options Pull)
    ++ pairs_under Push (given Far j.plan.steps (results_of j.log)) (new_messages w options Push)

-- so the state that it makes is the one after the run
abbrev pub CommitReachesStateAfter : Type 0
CommitReachesStateAfter =
    (w : World) (options : Options) (marks : List (List ℕ)) (j : Journal) (new : SyncState) →
    IsInOrder w → IsPlanOf w options marks j.plan → length j.log ≡ length j.plan.steps → Fit j.plan.steps (results_of j.log) →
    Commits j w.state new → IsStateAfter w options (uids_given w options marks (results_of j.log)) new

-- where the UIDs given are those from next on, the entries are those of the outcome
abbrev pub NamedAreStateAfter : Type 0
NamedAreStateAfter =
    (w : World) (options : Options) (marks : List (List ℕ)) (results : List (Option ℕ)) →
    ((side : Side) → uids_given w options marks results side ≡ copy_uids w options side) →
    entries_under w options (uids_given w options marks results) ≡ (state_after w options).entries
