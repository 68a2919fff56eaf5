-- Before a message is expunged it is marked as deleted.
use Rattle.std.proofs.Common.{◌≡◌, ℕ, zero, suc, ◌<◌, ◌≤◌, true, false, List, [], ◌∷◌, ◌++◌, Option, Some, None, length, get_or, map, drop, Bool, refl, sym, ap, ◌∙◌, subst, inl, inr, arith}
use Rattle.std.specs.Prelude.{All, AllPairs, Contains, filter, ◌==◌, not, is_some}
use Rattle.std.proofs.Math.Seq.{drop-nil}
use Rattle.std.proofs.lemmas.Bool.{and_parts, both_ways, eq-eqb}
use Rattle.std.proofs.lemmas.List.Elements.{All-cons, All-head, All-append, All-contains, All-weaker, Contains-append_cases, Contains-append_left, Contains-append_right}
use Rattle.mailcore.specs.declared.side.Side.{Side}
use Rattle.mailcore.specs.declared.side.Side.TheVariants.{Far, Near}
use Rattle.mailcore.specs.declared.side.Direction.TheVariants.{Pull, Push}
use Rattle.mailcore.specs.declared.mailbox.Message.{Message}
use Rattle.mailcore.specs.FlagSet.{DELETED, has}
use Rattle.mailcore.specs.Listed.{item_of}
use Rattle.mailcore.proofs.RiseLemmas.{rise-least}
use Rattle.rules.specs.declared.options.Options.{Options}
use Rattle.rules.specs.declared.plan.Step.{Step}
use Rattle.rules.specs.declared.plan.Step.TheVariants.{New, Gone, Flags, Expunge}
use Rattle.rules.specs.Propagation as propagation
use Rattle.rules.specs.Propagation.{Propagation}
use Rattle.rules.specs.Options.{covers}
use Rattle.rules.specs.Order.{Before, IsBelow}
use Rattle.rules.specs.Outcome.{news}
use Rattle.rules.specs.Scene.{Scene, flags_at, items}
use Rattle.rules.specs.Called.{called, flags_after, is_deleted_then, is_expunged}
use Rattle.rules.specs.World.{World, IsInOrder, store, scene_of}
use Rattle.rules.proofs.Walks.{All-from_contains, AllPairs-head, AllPairs-tail, Contains-cases, Contains-filter, Contains-map, Contains-none, filter_contains, map_contains}
use Rattle.rules.proofs.LookUps.{flags_at_item, listed_item}
use Rattle.rules.proofs.WorldLemmas.{listed, rising, store_is, stored}
use Rattle.planner.specs.Listed.{of_note, of_step}
use Rattle.planner.specs.Written.{all_new, all_notes, all_steps, gone_steps, flags_steps, expunge_steps}
use Rattle.planner.proofs.Following.{new_steps_all}
use Rattle.planner.proofs.Ordered.{ordered_steps}
use Rattle.planner.proofs.Sound.{sound}
use Rattle.law_outcome.specs.Steps.{Boxes, box, boxes_of, after, given, makes_copy, own, step_after, uid_given, without}
use Rattle.law_outcome.specs.OwnLaws.{is_own, DeletedBeforeExpunge}
use Rattle.law_outcome.proofs.Changes.{Leaves, changed, flags_all, flags_all-append, flags_all-left, flags_then, stays, step-changed, with_new}
use Rattle.law_outcome.proofs.Copying.{box-with}
use Rattle.law_outcome.proofs.OwnPlan.{below_is_own, box_own}
use Rattle.law_outcome.proofs.PlanParts.{changes, fate_of_flags}

-- ---- from a message back to the one that it was

-- a message that was there, with the flags that a step makes of its own
abbrev WasThere : Side → Step → Boxes → Message → Type 0
WasThere side s b m = (n : Message) × Contains (box b side) n × (n.uid ≡ m.uid) × (m.flags ≡ flags_then side s n.uid n.flags)

in_changed : (side : Side) (s : Step) (b : Boxes) (m : Message) → Contains (changed (stays side s) (flags_then side s) (box b side)) m → WasThere side s b m
in_changed side s b m c =
    let r = map_contains (with_new (flags_then side s)) (filter (λ (x : Message). stays side s x.uid) (box b side)) m c in
    let f = filter_contains (λ (x : Message). stays side s x.uid) (box b side) r.0 r.1 in
    (r.0, f.0, ap (λ (x : Message). x.uid) r.2, sym (ap (λ (x : Message). x.flags) r.2))

-- after a step that copies nothing
plain_back : (side : Side) (s : Step) (r : Option ℕ) (b : Boxes) (m : Message) → makes_copy s ≡ false → Contains (box (step_after b s r) side) m → WasThere side s b m
plain_back side s r b m e c = in_changed side s b m (subst (λ (ms : List Message). Contains ms m) (step-changed side s r b e) c)

-- or after a copy, which has a UID of its own
copy_back : (ms : List Message) (copy m : Message) → m.uid < copy.uid → Contains (ms ++ copy ∷ []) m → Contains ms m
copy_back ms copy m l c = elim (Contains-append_cases ms (copy ∷ []) m c) [
  | inl k ↦ k
  | inr k ↦ absurd (only m l k)
]
  where
    only : (m : Message) → m.uid < copy.uid → Contains (copy ∷ []) m → ⊥
    only m l k = elim (Contains-cases copy m [] k) [
      | inl same ↦ let e : copy.uid ≡ m.uid = ap (λ (x : Message). x.uid) same in omega (arith, l, e)
      | inr none ↦ Contains-none m none
    ]

one_back : (side : Side) (s : Step) (r : Option ℕ) (b : Boxes) (m : Message) → All (λ u. m.uid < u) (uid_given side s r) → Contains (box (step_after b s r) side) m → WasThere side s b m
one_back side (New d u flags mark) None b m g c = (m, c, refl, refl)
one_back Near (New Pull u flags mark) (Some uid) b m g c = (m, copy_back b.near _ m (All-head (λ v. m.uid < v) uid [] g) c, refl, refl)
one_back Far (New Push u flags mark) (Some uid) b m g c = (m, copy_back b.far _ m (All-head (λ v. m.uid < v) uid [] g) c, refl, refl)
one_back Far (New Pull u flags mark) (Some uid) b m g c = (m, c, refl, refl)
one_back Near (New Push u flags mark) (Some uid) b m g c = (m, c, refl, refl)
one_back side (Gone d f n) r b m g c = plain_back side (Gone d f n) r b m refl c
one_back side (Flags d f n set cleared) r b m g c = plain_back side (Flags d f n set cleared) r b m refl c
one_back side (Expunge at u) r b m g c = plain_back side (Expunge at u) r b m refl c

left_part : {X : Type 0} (P : X → Type 0) (xs ys : List X) → All P (xs ++ ys) → All P xs
left_part P xs ys h = All-from_contains P xs (λ x c. All-contains P (xs ++ ys) x h (Contains-append_left xs ys x c))

pub right_part : {X : Type 0} (P : X → Type 0) (xs ys : List X) → All P (xs ++ ys) → All P ys
right_part P xs ys h = All-from_contains P ys (λ x c. All-contains P (xs ++ ys) x h (Contains-append_right xs ys x c))

-- what the steps that are left make of it is what all of them make of the one that it was
pub all_back : (side : Side) (steps : List Step) (results : List (Option ℕ)) (b : Boxes) (m : Message) → All (λ u. m.uid < u) (given side steps results) → Contains (box (after steps results b) side) m →
    (n : Message) × Contains (box b side) n × (n.uid ≡ m.uid) × (flags_all side (drop (length results) steps) m.uid m.flags ≡ flags_all side steps n.uid n.flags)
all_back side [] results b m g c = (m, c, refl, ap (λ (ss : List Step). flags_all side ss m.uid m.flags) (drop-nil (length results)))
all_back side (s ∷ steps) [] b m g c = (m, c, refl, refl)
all_back side (s ∷ steps) (r ∷ results) b m g c =
    let here : All (λ u. m.uid < u) (uid_given side s r) = left_part (λ u. m.uid < u) (uid_given side s r) (given side steps results) g in
    let i = all_back side steps results (step_after b s r) m (right_part (λ u. m.uid < u) (uid_given side s r) (given side steps results) g) c in
    let j = one_back side s r b i.0 (subst (λ v. All (λ u. v < u) (uid_given side s r)) (sym i.2) here) i.1 in
    (j.0, j.1, j.2 ∙ i.2, i.3 ∙ ap (λ v. flags_all side steps v i.0.flags) (sym j.2) ∙ ap (λ x. flags_all side steps j.0.uid x) j.3)

-- ---- after an expunge nothing changes flags

rank_le : (a b : ℕ × ℕ × ℕ) → IsBelow a b → a.0 ≤ b.0
rank_le a b (inl h) = omega (arith, h)
rank_le a b (inr h) = omega (arith, h.0)

after_one : (side at : Side) (u v : ℕ) (s : Step) → Before (propagation.Expunge at u) (of_step s) → Leaves side v s
after_one side at u v (New d w flags mark) h = λ x. refl
after_one side Far u v (Gone Pull f n) h = absurd (omega (arith, rank_le (6, u, 0) (2, n, 0) h))
after_one side Far u v (Gone Push f n) h = absurd (omega (arith, rank_le (6, u, 0) (3, f, 0) h))
after_one side Far u v (Flags Pull f n set cleared) h = absurd (omega (arith, rank_le (6, u, 0) (4, f, 0) h))
after_one side Far u v (Flags Push f n set cleared) h = absurd (omega (arith, rank_le (6, u, 0) (5, f, 0) h))
after_one side Near u v (Gone Pull f n) h = absurd (omega (arith, rank_le (7, u, 0) (2, n, 0) h))
after_one side Near u v (Gone Push f n) h = absurd (omega (arith, rank_le (7, u, 0) (3, f, 0) h))
after_one side Near u v (Flags Pull f n set cleared) h = absurd (omega (arith, rank_le (7, u, 0) (4, f, 0) h))
after_one side Near u v (Flags Push f n set cleared) h = absurd (omega (arith, rank_le (7, u, 0) (5, f, 0) h))
after_one side at u v (Expunge other w) h = λ x. refl

following : (side at : Side) (u v k : ℕ) (steps : List Step) → AllPairs Before (map of_step steps) → k < length steps → Expunge at u ≡ get_or steps k (Expunge at u) → All (Leaves side v) (drop k steps)
following side at u v k [] p l e = absurd (omega arith)
following side at u v zero (s ∷ steps) p l e =
    All-cons (Leaves side v) s steps (subst (Leaves side v) e (λ x. refl))
    (All-from_contains (Leaves side v) steps (λ t c. after_one side at u v t (subst (λ (q : Propagation). Before q (of_step t)) (ap of_step (sym e)) (AllPairs-head Before (of_step s) (map of_step steps) p (of_step t) (Contains-map of_step steps t (of_step t) c refl)))))
following side at u v (suc k) (s ∷ steps) p l e = following side at u v k steps (AllPairs-tail Before (of_step s) (map of_step steps) p) (omega (arith, l)) e

-- ---- the flags that all steps make

new_leave : (s : Scene) (side : Side) (u : ℕ) (marks : List (List ℕ)) → All (Leaves side u) (all_new s marks)
new_leave s side u marks = All-append (Leaves side u) _ _ (new_steps_all (Leaves side u) Pull (news s Pull) _ (λ i c m x. refl)) (new_steps_all (Leaves side u) Push (news s Push) _ (λ i c m x. refl))

after_new : (side : Side) (k a b c e f g : List Step) (u x : ℕ) →
    flags_all side (k ++ a ++ b ++ c ++ e ++ f ++ g) u x ≡ flags_all side (a ++ b ++ c ++ e ++ f ++ g) u (flags_all side k u x)
after_new side k a b c e f g u x = simp (flags_all-append side)

pub all_flags : (s : Scene) (marks : List (List ℕ)) (side : Side) (u x : ℕ) → flags_all side (all_steps s marks) u x ≡ flags_all side (changes s) u x
all_flags s marks side u x =
    after_new side (all_new s marks) (gone_steps s Pull) (gone_steps s Push) (flags_steps s Pull) (flags_steps s Push) (expunge_steps s Far) (expunge_steps s Near) u x
    ∙ ap (λ y. flags_all side (changes s) u y) (flags_all-left side u (all_new s marks) (new_leave s side u marks) x)

-- ---- the message that is next to be expunged

pub stored_in : (w : World) (side : Side) (m : Message) → Contains (box (boxes_of w) side) m → Contains (store w side).messages m
stored_in w Far m c = c
stored_in w Near m c = c

-- it is listed, so its UID is below the next one
pub is_below : (w : World) (options : Options) (side : Side) (u : ℕ) → IsInOrder w → is_expunged (scene_of w options) side u ≡ true → u < (store w side).next
is_below w options side u h e =
    let s : Scene = scene_of w options in
    let then : is_deleted_then s side u (flags_at (items s side) u) ≡ true = (and_parts (covers s.options.expunge side) (is_deleted_then s side u (flags_at (items s side) u)) e).1 in
    let i = listed_item (items s side) u (some (flags_at (items s side) u) then) in
    let r = stored w options side i.0 i.1 in
    let less : r.0.uid < (store w side).next = All-contains (λ (m : Message). m.uid < (store w side).next) (store w side).messages r.0 (store_is w h side).below r.1 in
    omega (arith, less, r.2, i.2)
  where
    some : (o : Option ℕ) → is_deleted_then (scene_of w options) side u o ≡ true → is_some o ≡ true
    some None k = k
    some (Some x) k = refl

-- and deleted after all steps
pub is_deleted : (w : World) (options : Options) (marks : List (List ℕ)) (side : Side) (n : Message) → IsInOrder w → is_expunged (scene_of w options) side n.uid ≡ true → Contains (store w side).messages n →
    has (flags_all side (all_steps (scene_of w options) marks) n.uid n.flags) DELETED ≡ true
is_deleted w options marks side n h e c =
    let s : Scene = scene_of w options in
    let there : Contains (items s side) (item_of side n) = listed w options side n c in
    let now : flags_all side (all_steps s marks) n.uid n.flags ≡ flags_after s side n.uid n.flags = all_flags s marks side n.uid n.flags ∙ fate_of_flags s side h.pairs (rising w options h side) (item_of side n) there in
    let then : is_deleted_then s side n.uid (flags_at (items s side) n.uid) ≡ true = (and_parts (covers s.options.expunge side) (is_deleted_then s side n.uid (flags_at (items s side) n.uid)) e).1 in
    ap (λ x. has x DELETED) now
    ∙ sym (ap (λ o. is_deleted_then s side n.uid o) (flags_at_item (items s side) (rising w options h side) (item_of side n) there))
    ∙ then

-- a step of the plan that expunges is called for
pub next_expunged : (w : World) (options : Options) (marks : List (List ℕ)) (results : List (Option ℕ)) (side : Side) (u : ℕ) → length results < length (all_steps (scene_of w options) marks) →
    Expunge side u ≡ get_or (all_steps (scene_of w options) marks) (length results) (Expunge side u) → is_expunged (scene_of w options) side u ≡ true
next_expunged w options marks results side u below at =
    let s : Scene = scene_of w options in
    All-contains (λ p. called s p ≡ true) (map of_step (all_steps s marks) ++ map of_note (all_notes s)) (propagation.Expunge side u) (sound s marks)
    (Contains-append_left (map of_step (all_steps s marks)) (map of_note (all_notes s)) (propagation.Expunge side u)
    (Contains-map of_step (all_steps s marks) (Expunge side u) (propagation.Expunge side u) (length results, below, sym at) refl))

-- it is the run's own
pub seen : (w : World) (marks : List (List ℕ)) (found b : Boxes) (side : Side) (m : Message) → m.uid < (store w side).next → own (is_own w marks) found ≡ b → Contains (box found side) m → Contains (box b side) m
seen w marks found b side m less e c =
    subst (λ (x : Boxes). Contains (box x side) m) e
    (subst (λ (ms : List Message). Contains ms m) (sym (box_own (is_own w marks) found side))
    (Contains-filter (λ (x : Message). is_own w marks side x.uid x.bytes) (box found side) m c (below_is_own w marks side m.uid m.bytes less)))

pub deleted_before : DeletedBeforeExpunge
deleted_before w options marks results found side u bound h below at rises own_is =
    let s : Scene = scene_of w options in
    let steps : List Step = all_steps s marks in
    let expunged = next_expunged w options marks results side u below at in
    let less = is_below w options side u h expunged in
    let uids : List ℕ = given side steps results in
    let least = rise-least (store w side).next uids bound rises in
    All-from_contains (λ m. m.uid ≡ u → has m.flags DELETED ≡ true) (box found side)
    (λ m c e.
    let under : m.uid < (store w side).next = omega (arith, less, e) in
    let r = all_back side steps results (boxes_of w) m (All-weaker (λ v. (store w side).next ≤ v) (λ v. m.uid < v) (λ v k. omega (arith, k, under)) uids least) (seen w marks found _ side m under own_is c) in
    let left = flags_all-left side m.uid (drop (length results) steps) (following side side u m.uid (length results) steps (ordered_steps s marks (rising w options h Far) (rising w options h Near) h.pairs) below at) m.flags in
    ap (λ x. has x DELETED) (sym left ∙ r.3)
    ∙ is_deleted w options marks side r.0 h (subst (λ v. is_expunged s side v ≡ true) (sym (r.2 ∙ e)) expunged) (stored_in w side r.0 r.1))

-- once that is done, no message has its UID
pub none_then : (w : World) (options : Options) (marks : List (List ℕ)) (found b : Boxes) (side : Side) (u : ℕ) (r : Option ℕ) → IsInOrder w → is_expunged (scene_of w options) side u ≡ true →
    own (is_own w marks) found ≡ step_after b (Expunge side u) r → All (λ m. m.uid ≡ u → ⊥) (box found side)
none_then w options marks found b side u r h expunged own_is =
    let less = is_below w options side u h expunged in
    All-from_contains (λ m. m.uid ≡ u → ⊥) (box found side)
    (λ m c e.
    let k = seen w marks found _ side m (omega (arith, less, e)) own_is c in
    let f = filter_contains (λ (x : Message). not (x.uid == u)) (box b side) m (subst (λ (ms : List Message). Contains ms m) (box-with b side (without u (box b side))) k) in
    both_ways (m.uid == u) (not_true (m.uid == u) f.1) (eq-eqb m.uid u e))
  where
    not_true : (a : Bool) → not a ≡ true → a ≡ false
    not_true false k = refl
    not_true true k = absurd (both_ways true (sym k) refl)
