-- The messages that a run sees as its own, and where it finds a copy again, in laws that the functions of `src/lib.rt` show.
use Rattle.std.specs.Prelude.{All, ℕ, ◌<◌, ◌≤◌, ◌≡◌, Bool, true, false, ◌&&◌, ◌||◌, nat_lt, nat_le, nat_eq, List, [], ◌∷◌, ◌++◌, length, find, slice_index_or, Contains, Option, Some, None}
use Rattle.std.specs.List.{list_any}
use Rattle.std.specs.Option.{option_map}
use Rattle.std.specs.Cmp.Lexicographic.{pointwise}
use Rattle.mailcore.specs.declared.side.Side.{Side}
use Rattle.mailcore.specs.declared.side.Direction.{Direction}
use Rattle.mailcore.specs.declared.mailbox.Message.{Message}
use Rattle.mailcore.specs.FlagSet.{DELETED, has}
use Rattle.mailcore.specs.Sides.{target}
use Rattle.mailcore.specs.Content.{mark_of}
use Rattle.rules.specs.declared.plan.Step.{Step}
use Rattle.rules.specs.declared.plan.Step.TheVariants.{New, Expunge}
use Rattle.rules.specs.declared.options.Options.{Options}
use Rattle.rules.specs.World.{World, IsInOrder, store, scene_of}
use Rattle.rules.specs.AlikeBy.{AreMarks}
use Rattle.planner.specs.Written.{all_steps}
use Rattle.law_outcome.specs.Steps.{Boxes, box, boxes_of, after, Rises, Test, own, IsOwnStep}

abbrev pub is_the : (mark : List ℕ) → Option (List ℕ) → Bool
is_the mark None = false
is_the mark (Some found) = pointwise nat_eq found mark

-- a message with these bytes bears the mark
abbrev pub bears : (mark bytes : List ℕ) → Bool
bears mark bytes = is_the mark (mark_of bytes)

-- a message that was there before the run, or one that bears a mark of the run
abbrev pub is_own : World → (marks : List (List ℕ)) → Test
is_own w marks side uid bytes = nat_lt uid (store w side).next || list_any (λ mark. bears mark bytes) marks

-- the UID of the first message of at least `from` that bears the mark
abbrev pub marked_uid : (mark : List ℕ) (from : ℕ) → List Message → Option ℕ
marked_uid mark from ms = option_map (λ m. m.uid) (find (λ m. nat_le from m.uid && bears mark m.bytes) ms)

abbrev pub OpeningIsOwn : Type 0
OpeningIsOwn = (w : World) (marks : List (List ℕ)) → IsInOrder w → own (is_own w marks) (boxes_of w) ≡ boxes_of w

-- each step of the plan is done among others as if they were not there
abbrev pub PlanStepIsOwn : Type 0
PlanStepIsOwn =
    (w : World) (options : Options) (marks : List (List ℕ)) (found : Boxes) (s : Step) (r : Option ℕ) →
    IsInOrder w → AreMarks w options marks → Contains (all_steps (scene_of w options) marks) s → IsOwnStep (is_own w marks) found s r

-- the mark of a step that is not done is not found
abbrev pub NotFoundBefore : Type 0
NotFoundBefore =
    (w : World) (options : Options) (marks : List (List ℕ)) (results : List (Option ℕ)) (found : Boxes) (d : Direction) (u flags : ℕ) (mark : List ℕ) →
    IsInOrder w → AreMarks w options marks →
    length results < length (all_steps (scene_of w options) marks) →
    New d u flags mark ≡ slice_index_or (all_steps (scene_of w options) marks) (length results) (New d u flags mark) →
    own (is_own w marks) found ≡ after (all_steps (scene_of w options) marks) results (boxes_of w) →
    marked_uid mark (store w (target d)).next (box found (target d)) ≡ None

-- once it is done, the UID of its copy is found
abbrev pub FoundAfter : Type 0
FoundAfter =
    (w : World) (options : Options) (marks : List (List ℕ)) (results : List (Option ℕ)) (found : Boxes) (d : Direction) (u flags : ℕ) (mark : List ℕ) (uid : ℕ) →
    IsInOrder w → AreMarks w options marks →
    length results < length (all_steps (scene_of w options) marks) →
    New d u flags mark ≡ slice_index_or (all_steps (scene_of w options) marks) (length results) (New d u flags mark) →
    (store w (target d)).next ≤ uid →
    own (is_own w marks) found ≡ after (all_steps (scene_of w options) marks) (results ++ Some uid ∷ []) (boxes_of w) →
    marked_uid mark (store w (target d)).next (box found (target d)) ≡ Some uid

-- A message whose expunge is next is marked as deleted, if it is there: what marks it stands before. Its copies have UIDs of at least the next one.
abbrev pub DeletedBeforeExpunge : Type 0
DeletedBeforeExpunge =
    (w : World) (options : Options) (marks : List (List ℕ)) (results : List (Option ℕ)) (found : Boxes) (side : Side) (u bound : ℕ) →
    IsInOrder w →
    length results < length (all_steps (scene_of w options) marks) →
    Expunge side u ≡ slice_index_or (all_steps (scene_of w options) marks) (length results) (Expunge side u) →
    Rises side (store w side).next (all_steps (scene_of w options) marks) results bound →
    own (is_own w marks) found ≡ after (all_steps (scene_of w options) marks) results (boxes_of w) →
    All (λ m. m.uid ≡ u → has m.flags DELETED ≡ true) (box found side)
