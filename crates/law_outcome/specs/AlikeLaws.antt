-- What being alike comes to, by lists and by maps, in laws that the functions of `src/lib.rt` show.
use Rattle.std.specs.Prelude.{ℕ, ◌≤◌, ◌≡◌, ◌⊎◌, false, List, [], length, Option}
use Rattle.mailcore.specs.declared.side.Side.{Side}
use Rattle.mailcore.specs.declared.side.Side.TheVariants.{Far, Near}
use Rattle.rules.specs.declared.options.Options.{Options}
use Rattle.rules.specs.Propagation.{Propagation}
use Rattle.rules.specs.Entries.{ArePairs}
use Rattle.rules.specs.Called.{called}
use Rattle.rules.specs.World.{World, IsInOrder, IsWorld, NamesBelow, store, scene_of, numbered}
use Rattle.rules.specs.Opening.{IsOpening, Names}
use Rattle.rules.specs.Admission.{numbered_under, admitted_under, AreAdmission, admission_uids, next_admitted, admitted}
use Rattle.rules.specs.WorldAfter.{outcome}
use Rattle.rules.specs.AlikeBy.{AreCopyMarks, AreMarks, IsStateAfter, AlikeBy}
use Rattle.rules.specs.Renaming.{IsRenaming}
use Rattle.rules.specs.Alike.{Alike}
use Rattle.planner.specs.Written.{all_steps}
use Rattle.sync_state.specs.declared.journal.Journal.{Journal}
use Rattle.book.specs.Committed.{Commits}
use Rattle.law_outcome.specs.Steps.{box, boxes_of, after, Fit, Rises, own_in, own}
use Rattle.law_outcome.specs.OwnLaws.{is_own}
use Rattle.law_outcome.specs.CommitLaws.{results_of, uids_given, IsPlanOf}

-- ---- lists are maps: whatever marks an outcome's copies bear

-- what is alike by lists to the admitted world is alike to its outcome
abbrev pub AlikeByLists : Type 0
AlikeByLists =
    (opening : World) (options : Options) (outcome_marks : List (List ℕ)) (found : World) →
    IsOpening opening → AreCopyMarks (admitted opening) options outcome_marks →
    AlikeBy (admitted opening) options found →
    Alike opening (outcome (admitted opening) options outcome_marks) found

-- and so is what is alike by lists to the world admitted under any UIDs
abbrev pub AlikeUnderAdmission : Type 0
AlikeUnderAdmission =
    (opening : World) (options : Options) (uids : List ℕ) (next : ℕ) (outcome_marks : List (List ℕ)) (found : World) →
    IsOpening opening → AreAdmission opening uids next → AreCopyMarks (admitted opening) options outcome_marks →
    AlikeBy (admitted_under uids next opening) options found →
    Alike opening (outcome (admitted opening) options outcome_marks) found

-- where nothing waits, the opening itself is the admitted world
abbrev pub AlikeWithoutWaiting : Type 0
AlikeWithoutWaiting =
    (opening : World) (options : Options) (outcome_marks : List (List ℕ)) (found : World) →
    IsOpening opening → opening.waiting ≡ [] → AreCopyMarks opening options outcome_marks →
    AlikeBy opening options found →
    Alike opening (outcome opening options outcome_marks) found

-- so it is of any world in order, whether or not a run may begin with it
abbrev pub AlikeInOrder : Type 0
AlikeInOrder =
    (w : World) (options : Options) (outcome_marks : List (List ℕ)) (found : World) →
    IsInOrder w → NamesBelow w → w.waiting ≡ [] → AreCopyMarks w options outcome_marks →
    AlikeBy w options found →
    Alike w (outcome w options outcome_marks) found

-- ---- what a renaming says of an opening and its outcome

-- it is the identity on 0 and on every UID that the opening names
abbrev pub NamedStay : Type 0
NamedStay =
    (opening : World) (side : Side) (to : ℕ → ℕ) → IsOpening opening → IsRenaming (store opening side).next to →
    (to 0 ≡ 0) × ((u : ℕ) → Names opening side u → to u ≡ u)

-- the others that the outcome names are those of at least next, which it sends, strictly rising, to such ones
abbrev pub OthersAreNew : Type 0
OthersAreNew =
    (opening : World) (options : Options) (outcome_marks : List (List ℕ)) (side : Side) (u : ℕ) → IsOpening opening →
    Names (outcome (admitted opening) options outcome_marks) side u →
    (u ≡ 0) ⊎ (Names opening side u ⊎ ((store opening side).next ≤ u))

-- ---- admission

-- the UIDs from next on admit, and under them waiting files are the messages that the near mailbox makes of them
abbrev pub AdmittedInTurn : Type 0
AdmittedInTurn =
    (w : World) →
    (numbered_under (admission_uids w) w.waiting ≡ numbered w.near.next w.waiting) × AreAdmission w (admission_uids w) (next_admitted w)

abbrev pub AdmittedIsInOrder : Type 0
AdmittedIsInOrder = (w : World) (uids : List ℕ) (next : ℕ) → IsInOrder w → AreAdmission w uids next → IsInOrder (admitted_under uids next w)

-- ---- one run after another

-- each UID that the state of an opening names was given
abbrev pub OpeningNamesBelow : Type 0
OpeningNamesBelow = (w : World) → IsOpening w → NamesBelow w

-- the state found names no UID that is not given yet
abbrev pub NamesStayBelow : Type 0
NamesStayBelow = (w : World) (options : Options) (found : World) → IsInOrder w → NamesBelow w → AlikeBy w options found → NamesBelow found

-- a run may begin with the admitted world, and with what is found, where its entries are in order
abbrev pub AdmittedIsOpening : Type 0
AdmittedIsOpening = (w : World) (uids : List ℕ) (next : ℕ) → IsOpening w → AreAdmission w uids next → IsOpening (admitted_under uids next w)

abbrev pub FoundIsOpening : Type 0
FoundIsOpening = (w : World) (options : Options) (found : World) → IsOpening w → AlikeBy w options found → ArePairs found.state.entries → IsOpening found

-- where Expunge covers no side, nothing more is called for on what is found
abbrev pub FoundSettles : Type 0
FoundSettles =
    (w : World) (options : Options) (found : World) → IsWorld w → NamesBelow w → AlikeBy w options found →
    options.expunge.far ≡ false → options.expunge.near ≡ false →
    (q : Propagation) → called (scene_of found options) q ≡ false

-- ---- what the steps of a plan and its journal leave

-- the mailboxes after the steps, with the state that is named by their results
abbrev pub StepsAreAlike : Type 0
StepsAreAlike =
    (w : World) (options : Options) (marks : List (List ℕ)) (results : List (Option ℕ)) (found : World) →
    IsInOrder w → AreMarks w options marks →
    length results ≡ length (all_steps (scene_of w options) marks) →
    Fit (all_steps (scene_of w options) marks) results →
    ((side : Side) → Rises side (store w side).next (all_steps (scene_of w options) marks) results (store found side).next) →
    ((side : Side) → (store found side).messages ≡ box (after (all_steps (scene_of w options) marks) results (boxes_of w)) side) →
    ((side : Side) → (store found side).validity ≡ (store w side).validity) →
    found.waiting ≡ [] →
    IsStateAfter w options (uids_given w options marks results) found.state →
    AlikeBy w options found

-- so where each step of a plan of the admitted world is logged with what it did, and the journal makes the state found, all is alike to the outcome
abbrev pub FinishedIsAlike : Type 0
FinishedIsAlike =
    (opening : World) (options : Options) (uids : List ℕ) (next : ℕ) (marks : List (List ℕ)) (j : Journal) (outcome_marks : List (List ℕ)) (found : World) →
    IsOpening opening → AreAdmission opening uids next → AreCopyMarks (admitted opening) options outcome_marks →
    AreMarks (admitted_under uids next opening) options marks →
    IsPlanOf (admitted_under uids next opening) options marks j.plan →
    length j.log ≡ length j.plan.steps → Fit j.plan.steps (results_of j.log) →
    ((side : Side) → Rises side (store (admitted_under uids next opening) side).next j.plan.steps (results_of j.log) (store found side).next) →
    ((side : Side) → (store found side).messages ≡ box (after j.plan.steps (results_of j.log) (boxes_of (admitted_under uids next opening))) side) →
    ((side : Side) → (store found side).validity ≡ (store opening side).validity) →
    found.waiting ≡ [] →
    Commits j opening.state found.state →
    Alike opening (outcome (admitted opening) options outcome_marks) found

-- ---- among others

-- the world found, without what others added: the messages that the run sees as its own, and no waiting file
abbrev pub own_world : World → (marks : List (List ℕ)) → (found : World) → World
own_world w marks found = record {
  far = record { validity = found.far.validity; next = found.far.next; messages = own_in (is_own w marks) Far found.far.messages };
  near = record { validity = found.near.validity; next = found.near.next; messages = own_in (is_own w marks) Near found.near.messages };
  waiting = [];
  state = found.state;
}

-- the same where others have added messages and files, once these are taken out
abbrev pub FinishedAmongOthers : Type 0
FinishedAmongOthers =
    (opening : World) (options : Options) (uids : List ℕ) (next : ℕ) (marks : List (List ℕ)) (j : Journal) (outcome_marks : List (List ℕ)) (found : World) →
    IsOpening opening → AreAdmission opening uids next → AreCopyMarks (admitted opening) options outcome_marks →
    AreMarks (admitted_under uids next opening) options marks →
    IsPlanOf (admitted_under uids next opening) options marks j.plan →
    length j.log ≡ length j.plan.steps → Fit j.plan.steps (results_of j.log) →
    ((side : Side) → Rises side (store (admitted_under uids next opening) side).next j.plan.steps (results_of j.log) (store found side).next) →
    own (is_own (admitted_under uids next opening) marks) (boxes_of found) ≡ after j.plan.steps (results_of j.log) (boxes_of (admitted_under uids next opening)) →
    ((side : Side) → (store found side).validity ≡ (store opening side).validity) →
    Commits j opening.state found.state →
    Alike opening (outcome (admitted opening) options outcome_marks) (own_world (admitted_under uids next opening) marks found)
