-- What the steps of a plan come to, in laws that the functions of `src/lib.rt` show.
use Rattle.std.specs.Prelude.{ℕ, ◌≡◌, ◌<◌, ◌≤◌, is_some, false, All, Contains, slice_index_or, List, [], ◌∷◌, ◌++◌, length, map, Option}
use Rattle.mailcore.specs.declared.side.Side.{Side}
use Rattle.mailcore.specs.declared.side.Side.TheVariants.{Far, Near}
use Rattle.mailcore.specs.declared.side.Direction.{Direction}
use Rattle.mailcore.specs.declared.mailbox.Message.{Message}
use Rattle.mailcore.specs.FlagSet.{union, minus}
use Rattle.mailcore.specs.Sides.{target, towards}
use Rattle.rules.specs.declared.plan.Step.{Step}
use Rattle.rules.specs.declared.plan.Step.TheVariants.{Flags}
use Rattle.rules.specs.declared.options.Options.{Options}
use Rattle.rules.specs.Outcome.{count_new}
use Rattle.rules.specs.World.{World, IsInOrder, scene_of}
use Rattle.rules.specs.WorldAfter.{new_messages, messages_under, copy_uids, store_after}
use Rattle.planner.specs.Written.{all_steps}
use Rattle.law_outcome.specs.Steps.{Boxes, box, boxes_of, with_box, reflagged, changed_uid, step_after, after, makes_copy, Fit, uid_given, given, Rises, Test, own_in, own, IsOwnStep}

-- ---- the fold

abbrev pub AfterAppend : Type 0
AfterAppend =
    (steps more : List Step) (results others : List (Option ℕ)) (b : Boxes) →
    length results ≡ length steps → after (steps ++ more) (results ++ others) b ≡ after more others (after steps results b)

-- one more result is one more step
abbrev pub AfterMore : Type 0
AfterMore =
    (steps : List Step) (results : List (Option ℕ)) (s : Step) (r : Option ℕ) (b : Boxes) →
    length results < length steps → s ≡ slice_index_or steps (length results) s →
    after steps (results ++ r ∷ []) b ≡ step_after (after steps results b) s r

-- so its UID, if it made a copy, is one more that is given
abbrev pub GivenMore : Type 0
GivenMore =
    (side : Side) (steps : List Step) (results : List (Option ℕ)) (s : Step) (r : Option ℕ) →
    length results < length steps → s ≡ slice_index_or steps (length results) s →
    given side steps (results ++ r ∷ []) ≡ given side steps results ++ uid_given side s r

-- which rises, if it was next at least
abbrev pub RisesMore : Type 0
RisesMore =
    (side : Side) (next : ℕ) (steps : List Step) (results : List (Option ℕ)) (s : Step) (r : Option ℕ) (bound higher : ℕ) →
    length results < length steps → s ≡ slice_index_or steps (length results) s →
    Rises side next steps results bound → bound ≤ higher → All (λ u. (bound ≤ u) × (u < higher)) (uid_given side s r) →
    Rises side next steps (results ++ r ∷ []) higher

abbrev pub FitMore : Type 0
FitMore =
    (steps : List Step) (results : List (Option ℕ)) (s : Step) (r : Option ℕ) →
    length results < length steps → s ≡ slice_index_or steps (length results) s →
    Fit steps results → is_some r ≡ makes_copy s → Fit steps (results ++ r ∷ [])

-- ---- among others

-- what fails the test is not seen
abbrev pub OthersUnseen : Type 0
OthersUnseen =
    (test : Test) (side : Side) (ms more : List Message) →
    All (λ m. test side m.uid m.bytes ≡ false) more → own_in test side (ms ++ more) ≡ own_in test side ms

-- a step does to the messages that pass what it does among all
abbrev pub StepAmongOthers : Type 0
StepAmongOthers =
    (test : Test) (b : Boxes) (s : Step) (r : Option ℕ) → IsOwnStep test b s r → own test (step_after b s r) ≡ step_after (own test b) s r

-- where others have added messages before it, one more step is still one more step
abbrev pub AfterMoreAmongOthers : Type 0
AfterMoreAmongOthers =
    (test : Test) (steps : List Step) (results : List (Option ℕ)) (s : Step) (r : Option ℕ) (opening b found : Boxes) →
    length results < length steps → s ≡ slice_index_or steps (length results) s →
    own test b ≡ after steps results opening → own test found ≡ own test b → IsOwnStep test found s r →
    own test (step_after found s r) ≡ after steps (results ++ r ∷ []) opening

-- ---- a step that is done once more

-- it makes no difference
abbrev pub StepAgain : Type 0
StepAgain = (b : Boxes) (s : Step) (r q : Option ℕ) → makes_copy s ≡ false → step_after (step_after b s r) s q ≡ step_after b s r

-- flags that a step sets are set, and those that it clears are not cleared yet
abbrev pub half_flagged : Boxes → Direction → (far near set : ℕ) → Boxes
half_flagged b d f n set = with_box b (target d) (reflagged (λ flags. union flags set) (changed_uid d f n) (box b (target d)))

abbrev pub StepFromHalf : Type 0
StepFromHalf =
    (b : Boxes) (d : Direction) (f n set cleared : ℕ) (r : Option ℕ) →
    step_after (half_flagged b d f n set) (Flags d f n set cleared) r ≡ step_after b (Flags d f n set cleared) r

-- the step is its two calls
abbrev pub StepInHalves : Type 0
StepInHalves =
    (b : Boxes) (d : Direction) (f n set cleared : ℕ) (r : Option ℕ) →
    with_box (half_flagged b d f n set) (target d) (reflagged (λ flags. minus flags cleared) (changed_uid d f n) (box (half_flagged b d f n set) (target d)))
    ≡ step_after b (Flags d f n set cleared) r

-- ---- the whole plan

-- the messages that stay, and then the copies under the UIDs that were given
abbrev pub PlanReachesOutcome : Type 0
PlanReachesOutcome =
    (w : World) (options : Options) (marks : List (List ℕ)) (results : List (Option ℕ)) (far_next near_next : ℕ) →
    IsInOrder w → length marks ≡ count_new (scene_of w options) →
    length results ≡ length (all_steps (scene_of w options) marks) →
    Fit (all_steps (scene_of w options) marks) results →
    Rises Far w.far.next (all_steps (scene_of w options) marks) results far_next →
    Rises Near w.near.next (all_steps (scene_of w options) marks) results near_next →
    (side : Side) → box (after (all_steps (scene_of w options) marks) results (boxes_of w)) side ≡ messages_under w options side (given side (all_steps (scene_of w options) marks) results) marks

-- each new message gets a UID
abbrev pub EachNewIsGiven : Type 0
EachNewIsGiven =
    (w : World) (options : Options) (marks : List (List ℕ)) (results : List (Option ℕ)) →
    length marks ≡ count_new (scene_of w options) →
    length results ≡ length (all_steps (scene_of w options) marks) →
    Fit (all_steps (scene_of w options) marks) results →
    (side : Side) → length (given side (all_steps (scene_of w options) marks) results) ≡ length (new_messages w options (towards side))

-- where the UIDs given are those from next on, the mailboxes are those of the outcome
abbrev pub PlanReachesStoreAfter : Type 0
PlanReachesStoreAfter =
    (w : World) (options : Options) (marks : List (List ℕ)) (results : List (Option ℕ)) →
    IsInOrder w → length marks ≡ count_new (scene_of w options) →
    length results ≡ length (all_steps (scene_of w options) marks) →
    Fit (all_steps (scene_of w options) marks) results →
    ((side : Side) → given side (all_steps (scene_of w options) marks) results ≡ copy_uids w options side) →
    (side : Side) → box (after (all_steps (scene_of w options) marks) results (boxes_of w)) side ≡ (store_after w options marks side).messages

-- a copy is still there when all steps are done: no expunge of the run that made it reaches it
abbrev pub CopiesStay : Type 0
CopiesStay =
    (w : World) (options : Options) (marks : List (List ℕ)) (results : List (Option ℕ)) (far_next near_next : ℕ) →
    IsInOrder w → length marks ≡ count_new (scene_of w options) →
    length results ≡ length (all_steps (scene_of w options) marks) →
    Fit (all_steps (scene_of w options) marks) results →
    Rises Far w.far.next (all_steps (scene_of w options) marks) results far_next →
    Rises Near w.near.next (all_steps (scene_of w options) marks) results near_next →
    (side : Side) (u : ℕ) → Contains (given side (all_steps (scene_of w options) marks) results) u →
    Contains (map (λ m. m.uid) (box (after (all_steps (scene_of w options) marks) results (boxes_of w)) side)) u
