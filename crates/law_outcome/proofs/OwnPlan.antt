-- The steps of a plan among messages of others, and where their copies are found again.
use Rattle.std.proofs.Common.{◌≡◌, ◌≢◌, ℕ, ◌<◌, true, cond, List, [], ◌∷◌, ◌++◌, Option, Some, None, length, get_or, map, refl, sym, ap, ◌∙◌, subst, arith}
use Rattle.std.specs.Prelude.{All, AllPairs, Contains, ◌&&◌, ◌==◌, nat_lt, nat_le, unwrap_or}
use Rattle.std.specs.Option.{option_map}
use Rattle.std.specs.List.{list_any}
use Rattle.std.proofs.lemmas.Bool.{or_left, or_right, and_parts, and_from, eqb-true, lt-ltb, le-leb}
use Rattle.std.proofs.lemmas.List.Elements.{All-head, All-tail, All-contains, Contains-append_left}
use Rattle.mailcore.specs.declared.side.Side.{Side}
use Rattle.mailcore.specs.declared.side.Side.TheVariants.{Far, Near}
use Rattle.mailcore.specs.declared.side.Direction.{Direction}
use Rattle.mailcore.specs.declared.listing.Item.{Item}
use Rattle.mailcore.specs.declared.mailbox.Message.{Message}
use Rattle.mailcore.specs.Sides.{source, target}
use Rattle.mailcore.specs.Mark.{IsMark}
use Rattle.rules.specs.declared.options.Options.{Options}
use Rattle.rules.specs.declared.plan.Step.{Step}
use Rattle.rules.specs.declared.plan.Step.TheVariants.{New, Gone, Flags, Expunge}
use Rattle.rules.specs.Propagation as propagation
use Rattle.rules.specs.Propagation.{Propagation}
use Rattle.rules.specs.Scene.{Scene, items}
use Rattle.rules.specs.Called.{called, is_new}
use Rattle.rules.specs.World.{World, IsInOrder, store, scene_of}
use Rattle.rules.specs.Copies.{copy_of}
use Rattle.rules.specs.AlikeBy.{AreMarks}
use Rattle.planner.specs.Listed.{marks_of, of_step, of_note, mark_of as mark_of_step}
use Rattle.planner.specs.Written.{all_steps, all_notes}
use Rattle.planner.proofs.Carried.{given}
use Rattle.planner.proofs.Sound.{sound}
use Rattle.rules.proofs.Walks.{Contains-map, Contains-filter_map, All-from_contains, list_any_from, list_any_some}
use Rattle.rules.proofs.WorldLemmas.{store_is, stored, wanted}
use Rattle.law_outcome.specs.Steps.{Boxes, box, boxes_of, bytes_at, step_after, after, Test, own_in, own}
use Rattle.law_outcome.specs.OwnLaws.{bears, is_own, marked_uid, OpeningIsOwn, PlanStepIsOwn, NotFoundBefore, FoundAfter}
use Rattle.law_outcome.proofs.Fold.{after-more}
use Rattle.law_outcome.proofs.Copying.{box-with}
use Rattle.law_outcome.proofs.Own.{copy_bears, found_none, found_own, following, steps_none, steps_marked, steps_apart}

-- ---- the opening

all_pass : (test : Test) (side : Side) (ms : List Message) → All (λ m. test side m.uid m.bytes ≡ true) ms → own_in test side ms ≡ ms
all_pass test side [] h = refl
all_pass test side (m ∷ ms) h =
    let e : test side m.uid m.bytes ≡ true = All-head (λ (x : Message). test side x.uid x.bytes ≡ true) m ms h in
    rw e (ap (λ (xs : List Message). m ∷ xs) (all_pass test side ms (All-tail (λ (x : Message). test side x.uid x.bytes ≡ true) m ms h)))

pub below_is_own : (w : World) (marks : List (List ℕ)) (side : Side) (uid : ℕ) (bytes : List ℕ) → uid < (store w side).next → is_own w marks side uid bytes ≡ true
below_is_own w marks side uid bytes h = or_left (nat_lt uid (store w side).next) (list_any (λ mark. bears mark bytes) marks) (lt-ltb uid (store w side).next h)

stored_is_own : (w : World) (marks : List (List ℕ)) → IsInOrder w → (side : Side) → own_in (is_own w marks) side (store w side).messages ≡ (store w side).messages
stored_is_own w marks h side =
    all_pass (is_own w marks) side (store w side).messages
    (All-from_contains (λ m. is_own w marks side m.uid m.bytes ≡ true) (store w side).messages
    (λ m c. below_is_own w marks side m.uid m.bytes (All-contains (λ (x : Message). x.uid < (store w side).next) (store w side).messages m (store_is w h side).below c)))

pub opening_own : OpeningIsOwn
opening_own w marks h =
    ap (λ (ms : List Message). record { far = ms; near = own_in (is_own w marks) Near w.near.messages }) (stored_is_own w marks h Far)
    ∙ ap (λ (ms : List Message). record { far = w.far.messages; near = ms }) (stored_is_own w marks h Near)

-- ---- a step of the plan

marks_are : (w : World) (options : Options) (marks : List (List ℕ)) → AreMarks w options marks → marks_of (all_steps (scene_of w options) marks) ≡ marks
marks_are w options marks a = given (scene_of w options) marks (a.count ∙ wanted (scene_of w options))

mark_listed : (w : World) (options : Options) (marks : List (List ℕ)) → AreMarks w options marks → (s : Step) (mark : List ℕ) → Contains (all_steps (scene_of w options) marks) s → mark_of_step s ≡ Some mark → Contains marks mark
mark_listed w options marks a s mark c e =
    subst (λ ms. Contains ms mark) (marks_are w options marks a) (Contains-filter_map mark_of_step (all_steps (scene_of w options) marks) s mark c e)

-- the source of a copy is below the next UID
source_below : (w : World) (options : Options) (marks : List (List ℕ)) → IsInOrder w → (d : Direction) (u flags : ℕ) (mark : List ℕ) → Contains (all_steps (scene_of w options) marks) (New d u flags mark) → u < (store w (source d)).next
source_below w options marks h d u flags mark c =
    let s : Scene = scene_of w options in
    let steps : List Propagation = map of_step (all_steps s marks) in
    let it : Propagation = propagation.New d u in
    let is_called : called s it ≡ true =
    All-contains (λ p. called s p ≡ true) (steps ++ map of_note (all_notes s)) it (sound s marks)
    (Contains-append_left steps (map of_note (all_notes s)) it (Contains-map of_step (all_steps s marks) (New d u flags mark) it c refl)) in
    let r = list_any_some (λ (i : Item). i.uid == u && is_new s d i) (items s (source d)) is_called in
    let same : r.0.uid ≡ u = eqb-true r.0.uid u (and_parts (r.0.uid == u) (is_new s d r.0) r.2).0 in
    let m = stored w options (source d) r.0 r.1 in
    let below : m.0.uid < (store w (source d)).next = All-contains (λ (x : Message). x.uid < (store w (source d)).next) (store w (source d)).messages m.0 (store_is w h (source d)).below m.1 in
    let e : m.0.uid ≡ r.0.uid = m.2 in
    omega (arith, below, same, e)

pub plan_step_own : PlanStepIsOwn
plan_step_own w options marks found (New d u flags mark) None h a c = tt
plan_step_own w options marks found (New d u flags mark) (Some uid) h a c =
    let bytes : List ℕ = unwrap_or (bytes_at u (box found (source d))) [] in
    let listed : Contains marks mark = mark_listed w options marks a (New d u flags mark) mark c refl in
    let below : u < (store w (source d)).next = source_below w options marks h d u flags mark c in (
      or_right (nat_lt uid (store w (target d)).next) _
          (list_any_from (λ x. bears x (copy_of (target d) uid flags mark bytes).bytes) marks mark listed (copy_bears (target d) uid flags mark bytes (All-contains IsMark marks mark a.each listed))),
      All-from_contains (λ m. m.uid ≡ u → is_own w marks (source d) m.uid m.bytes ≡ true) (box found (source d))
          (λ m k e. below_is_own w marks (source d) m.uid m.bytes (omega (arith, below, e))),
    )
plan_step_own w options marks found (Gone d f n) r h a c = tt
plan_step_own w options marks found (Flags d f n set cleared) r h a c = tt
plan_step_own w options marks found (Expunge side u) r h a c = tt

-- ---- where a copy is found

pub box_own : (test : Test) (b : Boxes) (side : Side) → box (own test b) side ≡ own_in test side (box b side)
box_own test b Far = refl
box_own test b Near = refl

-- what is found among all is found among the messages that are seen
found_seen : (w : World) (options : Options) (marks : List (List ℕ)) → AreMarks w options marks → (found seen : Boxes) (side : Side) (s : Step) (mark : List ℕ) → Contains (all_steps (scene_of w options) marks) s → mark_of_step s ≡ Some mark →
    own (is_own w marks) found ≡ seen → marked_uid mark (store w side).next (box found side) ≡ marked_uid mark (store w side).next (box seen side)
found_seen w options marks a found seen side s mark c e own_is =
    sym (found_own w marks side mark (store w side).next (mark_listed w options marks a s mark c e) (box found side))
    ∙ ap (λ (ms : List Message). marked_uid mark (store w side).next ms) (sym (box_own (is_own w marks) found side))
    ∙ ap (λ (b : Boxes). marked_uid mark (store w side).next (box b side)) own_is

opening_none : (w : World) → IsInOrder w → (side : Side) (mark : List ℕ) → marked_uid mark (store w side).next (box (boxes_of w) side) ≡ None
opening_none w h Far mark = found_none mark w.far.next w.far.messages h.far.below
opening_none w h Near mark = found_none mark w.near.next w.near.messages h.near.below

not_done : (w : World) (options : Options) (marks : List (List ℕ)) (results : List (Option ℕ)) (side : Side) (s : Step) (mark : List ℕ) → IsInOrder w → AreMarks w options marks →
    length results < length (all_steps (scene_of w options) marks) → s ≡ get_or (all_steps (scene_of w options) marks) (length results) s → mark_of_step s ≡ Some mark →
    marked_uid mark (store w side).next (box (after (all_steps (scene_of w options) marks) results (boxes_of w)) side) ≡ None
not_done w options marks results side s mark h a below at e =
    let steps : List Step = all_steps (scene_of w options) marks in
    steps_none mark (store w side).next side steps results s (boxes_of w)
    (steps_marked steps (subst (λ ms. All IsMark ms) (sym (marks_are w options marks a)) a.each))
    (steps_apart steps (subst (λ ms. AllPairs (λ x y. x ≢ y) ms) (sym (marks_are w options marks a)) a.differ))
    below at e (opening_none w h side mark)

pub not_found : NotFoundBefore
not_found w options marks results found d u flags mark h a below at own_is =
    found_seen w options marks a found (after (all_steps (scene_of w options) marks) results (boxes_of w)) (target d) (New d u flags mark) mark (length results, below, sym at) refl own_is
    ∙ not_done w options marks results (target d) (New d u flags mark) mark h a below at refl

pub found_after : FoundAfter
found_after w options marks results found d u flags mark uid h a below at above own_is =
    let steps : List Step = all_steps (scene_of w options) marks in
    let b : Boxes = after steps results (boxes_of w) in
    let copy : Message = copy_of (target d) uid flags mark (unwrap_or (bytes_at u (box b (source d))) []) in
    let is : IsMark mark = All-contains IsMark marks mark a.each (mark_listed w options marks a (New d u flags mark) mark (length results, below, sym at) refl) in
    let passes : (nat_le (store w (target d)).next uid && bears mark copy.bytes) ≡ true =
    and_from _ _ (le-leb (store w (target d)).next uid above) (copy_bears (target d) uid flags mark (unwrap_or (bytes_at u (box b (source d))) []) is) in
    found_seen w options marks a found (step_after b (New d u flags mark) (Some uid)) (target d) (New d u flags mark) mark (length results, below, sym at) refl
    (own_is ∙ after-more steps results (New d u flags mark) (Some uid) (boxes_of w) below at)
    ∙ ap (λ (ms : List Message). marked_uid mark (store w (target d)).next ms) (box-with b (target d) (box b (target d) ++ copy ∷ []))
    ∙ following mark (store w (target d)).next (box b (target d)) copy (Some uid) (not_done w options marks results (target d) (New d u flags mark) mark h a below at refl)
    (ap (λ k. option_map (λ (x : Message). x.uid) (cond k (Some copy) None)) passes)
