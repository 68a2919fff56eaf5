-- No step of a plan that is underway is stale.
use Rattle.std.proofs.Common.{◌≡◌, ◌<◌, ◌≤◌, ◌+◌, ℕ, zero, suc, Bool, true, false, cond, not, ◌||◌, ◌==◌, List, [], ◌∷◌, ◌++◌, length, map, drop, take, Option, Some, None, inl, inr, refl, sym, ◌∙◌, ap, subst, arith, length-append}
use Rattle.std.specs.Prelude.{All, Contains, ◌&&◌, is_some}
use Rattle.std.proofs.lemmas.Bool.{and_parts, both_ways, eqb-true, eq-eqb}
use Rattle.std.proofs.lemmas.List.{take-append-drop}
use Rattle.std.proofs.lemmas.Option.{same_Some}
use Rattle.std.proofs.lemmas.List.Elements.{All-contains, All-drop, All-head, All-nil, All-tail, All-weaker, Contains-append_left, Contains-append_right}
use Rattle.mailcore.specs.declared.side.Side.{Side}
use Rattle.mailcore.specs.declared.side.Side.TheVariants.{Far, Near}
use Rattle.mailcore.specs.declared.side.Direction.{Direction}
use Rattle.mailcore.specs.declared.side.Direction.TheVariants.{Pull, Push}
use Rattle.mailcore.specs.declared.mailbox.Message.{Message}
use Rattle.mailcore.specs.FlagSet.{DELETED, has, minus, union}
use Rattle.mailcore.specs.Listed.{item_of}
use Rattle.mailcore.specs.Sides.{source, target}
use Rattle.mailcore.proofs.FlagRules.{has-minus, has-union}
use Rattle.mailcore.proofs.RiseLemmas.{rise-least}
use Rattle.rules.specs.declared.entry.Entry.{Entry}
use Rattle.rules.specs.declared.options.Options.{Options}
use Rattle.rules.specs.declared.plan.Plan.{Plan}
use Rattle.rules.specs.declared.plan.Step.{Step}
use Rattle.rules.specs.declared.plan.Step.TheVariants as step
use Rattle.rules.specs.Propagation as propagation
use Rattle.rules.specs.Called.{called, flags_after, is_expunged, is_gone}
use Rattle.rules.specs.Entries.{is_full, uid_of}
use Rattle.rules.specs.FlagRule.{with_deleted}
use Rattle.rules.specs.Options.{goes}
use Rattle.rules.specs.Scene.{Scene, flags_at, is_listed, items}
use Rattle.rules.specs.World.{World, IsInOrder, NamesBelow, scene_of, store}
use Rattle.rules.proofs.LookUps.{flags_at_item, listed_item}
use Rattle.rules.proofs.Walks.{All-from_contains, Contains-cases, Contains-first, Contains-map, Contains-none, Contains-rest, filter_contains, list_any_some, map_contains}
use Rattle.rules.proofs.WorldLemmas.{listed, rising, store_is, stored}
use Rattle.planner.specs.Listed.{of_note, of_step}
use Rattle.planner.specs.Written.{all_notes, all_steps}
use Rattle.planner.proofs.Sound.{sound}
use Rattle.sync_state.specs.declared.journal.Logged.{Logged}
use Rattle.sync_state.specs.declared.version.Version.{Version}
use Rattle.law_outcome.specs.Steps.{Boxes, Rises, after, boxes_of, changed_uid, given, is_side, own, reflagged, step_after, uid_given, without, with_flags, box as messages_in}
use Rattle.law_outcome.specs.OwnLaws.{is_own}
use Rattle.law_outcome.proofs.Changes.{flags_all, flags_then}
use Rattle.law_outcome.proofs.Copying.{box-with}
use Rattle.law_outcome.proofs.Expunging.{all_back, all_flags, is_below, is_deleted, right_part, seen, stored_in}
use Rattle.law_outcome.proofs.PlanParts.{fate_of_flags}
use Rattle.law_outcome.specs.CommitLaws.{results_of}
use Rattle.outside.specs.Devices.{Device, Named, box}
use Rattle.run_states.specs.Laws.{NothingIsStale}
use Rattle.run_states.specs.Moments.{Midway, Stands, boxes_at}
use Rattle.run_states.specs.Plans.{begun, next_of}
use Rattle.run_states.specs.Stale.{IsSpared, IsStale, IsThere, IsUnmarked, NoneIsStale, source_uid, marks}
use Rattle.run_states.proofs.GivenMarks.{is_given, not_marked}
use Rattle.run_states.proofs.NextSteps.{results_length}

-- ---- the steps that are left

drop_contains : (k : ℕ) (steps : List Step) (s : Step) → Contains (drop k steps) s → Contains steps s
drop_contains k steps s c = subst (λ (l : List Step). Contains l s) (take-append-drop k steps) (Contains-append_right (take k steps) (drop k steps) s c)

take_contains : (k : ℕ) (steps : List Step) (s : Step) → Contains (take k steps) s → Contains steps s
take_contains k steps s c = subst (λ (l : List Step). Contains l s) (take-append-drop k steps) (Contains-append_left (take k steps) (drop k steps) s c)

fewer_left : (P : Step → Type 0) (i k : ℕ) (steps : List Step) → i ≤ k → All P (drop i steps) → All P (drop k steps)
fewer_left P zero k steps le h = All-drop P k steps h
fewer_left P (suc i) zero steps le h = absurd (omega arith)
fewer_left P (suc i) (suc k) [] le h = All-nil P
fewer_left P (suc i) (suc k) (s ∷ steps) le h = fewer_left P i k steps (omega arith) h

more_done : (i k : ℕ) (steps : List Step) (s : Step) → i ≤ k → Contains (take i steps) s → Contains (take k steps) s
more_done zero k steps s le c = absurd (Contains-none s c)
more_done (suc i) zero steps s le c = absurd (omega arith)
more_done (suc i) (suc k) [] s le c = c
more_done (suc i) (suc k) (t ∷ steps) s le c = elim (Contains-cases t s (take i steps) c) [
  | inl same ↦ subst (λ (x : Step). Contains (t ∷ take k steps) x) same (Contains-first t (take k steps))
  | inr rest ↦ Contains-rest t s (take k steps) (more_done i k steps s (omega arith) rest)
]

-- ---- \Deleted stays unset where no step sets it

or_none : (x c : Bool) → ((x || false) && not c) ≡ true → x ≡ true
or_none true c h = refl
or_none false c h = absurd (both_ways false refl h)

flags_unmarked : (hit : Bool) (x set cleared : ℕ) → (hit && has set DELETED) ≡ false → has (cond hit (minus (union x set) cleared) x) DELETED ≡ true → has x DELETED ≡ true
flags_unmarked false x set cleared e h = h
flags_unmarked true x set cleared e h =
    or_none (has x DELETED) (has cleared DELETED)
    (ap (λ (b : Bool). (has x DELETED || b) && not (has cleared DELETED)) (sym e)
    ∙ sym (has-minus (union x set) cleared DELETED (omega arith) ∙ ap (λ (b : Bool). b && not (has cleared DELETED)) (has-union x set DELETED (omega arith))) ∙ h)

one_unmarked : (side : Side) (u x : ℕ) (s : Step) → marks side u s ≡ false → has (flags_then side s u x) DELETED ≡ true → has x DELETED ≡ true
one_unmarked side u x (step.New d v flags mark) e h = h
one_unmarked side u x (step.Gone d f n) e h = by_hit (is_side (target d) side && u == changed_uid d f n) e h
  where
    by_hit : (hit : Bool) → hit ≡ false → has (cond hit (with_deleted x) x) DELETED ≡ true → has x DELETED ≡ true
    by_hit false e h = h
    by_hit true e h = absurd (both_ways true e refl)
one_unmarked side u x (step.Flags d f n set cleared) e h = flags_unmarked (is_side (target d) side && u == changed_uid d f n) x set cleared e h
one_unmarked side u x (step.Expunge at v) e h = h

left_unmarked : (side : Side) (u x : ℕ) (steps : List Step) → All (λ s. marks side u s ≡ false) steps → has (flags_all side steps u x) DELETED ≡ true → has x DELETED ≡ true
left_unmarked side u x [] e h = h
left_unmarked side u x (s ∷ steps) e h =
    one_unmarked side u x s (All-head (λ t. marks side u t ≡ false) s steps e)
    (left_unmarked side u (flags_then side s u x) steps (All-tail (λ t. marks side u t ≡ false) s steps e) h)

-- ---- back over half a step

-- a message that was there, and was marked as deleted only if it is now
pub record WasBefore (b : Boxes) (side : Side) (m : Message) : Type 0 where
  pub message : Message
  pub is_there : Contains (messages_in b side) message
  pub same : message.uid ≡ m.uid
  pub keeps : has message.flags DELETED ≡ true → has m.flags DELETED ≡ true

as_it_was : (b : Boxes) (side : Side) (m : Message) → Contains (messages_in b side) m → WasBefore b side m
as_it_was b side m c = record { message = m; is_there = c; same = refl; keeps = λ e. e }

or_true : (a b : Bool) → a ≡ true → (a || b) ≡ true
or_true true b e = refl
or_true false b e = absurd (both_ways false refl e)

set_back : (set u : ℕ) (b : Boxes) (side : Side) (m : Message) → Contains (reflagged (λ flags. union flags set) u (messages_in b side)) m → WasBefore b side m
set_back set u b side m c =
    let r = map_contains (with_flags (λ flags. union flags set) u) (messages_in b side) m c in
    by_test r.0 r.1 (r.0.uid == u) r.2
  where
    by_test : (n : Message) → Contains (messages_in b side) n → (hit : Bool) → cond hit (record n { flags = union n.flags set }) n ≡ m → WasBefore b side m
    by_test n there true is = record {
      message = n;
      is_there = there;
      same = ap (λ (x : Message). x.uid) is;
      keeps = λ e. ap (λ (x : Message). has x.flags DELETED) (sym is) ∙ has-union n.flags set DELETED (omega arith) ∙ or_true (has n.flags DELETED) (has set DELETED) e;
    }
    by_test n there false is = record {
      message = n;
      is_there = there;
      same = ap (λ (x : Message). x.uid) is;
      keeps = λ e. ap (λ (x : Message). has x.flags DELETED) (sym is) ∙ e;
    }

half_back : (is_half : Bool) (b : Boxes) (next : Option Step) (side : Side) (m : Message) → Contains (messages_in (begun is_half b next) side) m → WasBefore b side m
half_back false b next side m c = as_it_was b side m c
half_back true b None side m c = as_it_was b side m c
half_back true b (Some (step.New d u flags mark)) side m c = as_it_was b side m c
half_back true b (Some (step.Gone d f n)) side m c = as_it_was b side m c
half_back true b (Some (step.Expunge at u)) side m c = as_it_was b side m c
half_back true b (Some (step.Flags Pull f n set cleared)) Far m c = as_it_was b Far m c
half_back true b (Some (step.Flags Pull f n set cleared)) Near m c = set_back set n b Near m c
half_back true b (Some (step.Flags Push f n set cleared)) Far m c = set_back set f b Far m c
half_back true b (Some (step.Flags Push f n set cleared)) Near m c = as_it_was b Near m c

-- ---- what is removed is not there

not_true : (a : Bool) → not a ≡ true → a ≡ false
not_true false k = refl
not_true true k = absurd (both_ways true (sym k) refl)

removed_then : (side : Side) (steps : List Step) (results : List (Option ℕ)) (b : Boxes) (m : Message) → All (λ u. m.uid < u) (given side steps results) →
    Contains (take (length results) steps) (step.Expunge side m.uid) → Contains (messages_in (after steps results b) side) m → ⊥
removed_then side [] results b m g at c = Contains-none (step.Expunge side m.uid) (take_contains (length results) [] (step.Expunge side m.uid) at)
removed_then side (s ∷ steps) [] b m g at c = Contains-none (step.Expunge side m.uid) at
removed_then side (s ∷ steps) (r ∷ results) b m g at c =
    let rest : All (λ u. m.uid < u) (given side steps results) = right_part (λ u. m.uid < u) (uid_given side s r) (given side steps results) g in
    elim (Contains-cases s (step.Expunge side m.uid) (take (length results) steps) at) [
      | inl same ↦ now same rest
      | inr later ↦ removed_then side steps results (step_after b s r) m rest later c
    ]
  where
    now : s ≡ step.Expunge side m.uid → All (λ u. m.uid < u) (given side steps results) → ⊥
    now same rest =
        let i = all_back side steps results (step_after b s r) m rest c in
        let kept : Contains (without m.uid (messages_in b side)) i.0 =
        subst (λ (ms : List Message). Contains ms i.0) (box-with b side (without m.uid (messages_in b side))) (subst (λ (x : Step). Contains (messages_in (step_after b x r) side) i.0) same i.1) in
        let f = filter_contains (λ (x : Message). not (x.uid == m.uid)) (messages_in b side) i.0 kept in
        both_ways (i.0.uid == m.uid) (not_true (i.0.uid == m.uid) f.1) (eq-eqb i.0.uid m.uid i.2)

-- ---- a plan among others

module _ (w : World) (options : Options) (marked : List (List ℕ)) (steps : List Step) (is_steps : steps ≡ all_steps (scene_of w options) marked) (h : IsInOrder w) (names : NamesBelow w)
    (results : List (Option ℕ)) (is_half : Bool) (next : Option Step) (found : Boxes) (bounds : Side → ℕ) (rises : (side : Side) → Rises side (store w side).next steps results (bounds side))
    (boxes : own (is_own w marked) found ≡ begun is_half (after steps results (boxes_of w)) next) where
  abbrev scene : Scene
  scene = scene_of w options

  is_called : (s : Step) → Contains steps s → called scene (of_step s) ≡ true
  is_called s c =
      All-contains (λ p. called scene p ≡ true) (map of_step (all_steps scene marked) ++ map of_note (all_notes scene)) (of_step s) (sound scene marked)
      (Contains-append_left (map of_step (all_steps scene marked)) (map of_note (all_notes scene)) (of_step s)
      (Contains-map of_step (all_steps scene marked) s (of_step s) (subst (λ (l : List Step). Contains l s) is_steps c) refl))

  -- a message from before the plan
  came : (side : Side) (m : Message) → m.uid < (store w side).next → Contains (messages_in found side) m → WasBefore (after steps results (boxes_of w)) side m
  came side m less c = half_back is_half (after steps results (boxes_of w)) next side m (seen w marked found (begun is_half (after steps results (boxes_of w)) next) side m less boxes c)

  all_above : (side : Side) (u : ℕ) → u < (store w side).next → All (λ v. u < v) (given side steps results)
  all_above side u less =
      All-weaker (λ v. (store w side).next ≤ v) (λ v. u < v) (λ v k. omega (arith, k, less)) (given side steps results) (rise-least (store w side).next (given side steps results) (bounds side) (rises side))

  below_too : (side : Side) (m n : Message) → n.uid ≡ m.uid → m.uid < (store w side).next → n.uid < (store w side).next
  below_too side m n same less = omega (arith, same, less)

  -- it was there when the plan was made, under this UID
  was_stored : (side : Side) (m : Message) → m.uid < (store w side).next → Contains (messages_in found side) m → is_listed scene side m.uid ≡ true
  was_stored side m less c =
      let k = came side m less c in
      let i = all_back side steps results (boxes_of w) k.message (all_above side k.message.uid (below_too side m k.message k.same less)) k.is_there in
      let there = listed w options side i.0 (stored_in w side i.0 i.1) in
      subst (λ (u : ℕ). is_listed scene side u ≡ true) (i.2 ∙ k.same) (ap (λ (o : Option ℕ). is_some o) (flags_at_item (items scene side) (rising w options h side) (item_of side i.0) there))

  -- the UIDs that entries name are below the next ones
  named_below : (side : Side) (e : Entry) → Contains w.state.entries e → uid_of side e < (store w side).next
  named_below Far e c = All-contains (λ x. uid_of Far x < w.far.next) w.state.entries e names.far c
  named_below Near e c = All-contains (λ x. uid_of Near x < w.near.next) w.state.entries e names.near c

  -- a message that had gone is not there
  gone_away : (d : Direction) (f n : ℕ) → called scene (propagation.Gone d f n) ≡ true → IsThere found (source d) (source_uid d f n) → ⊥
  gone_away d f n is k =
      let r = list_any_some (λ (e : Entry). uid_of Far e == f && uid_of Near e == n && is_gone scene d e) scene.entries is in
      let a = and_parts (uid_of Far r.0 == f && uid_of Near r.0 == n) (is_gone scene d r.0) r.2 in
      let both = and_parts (uid_of Far r.0 == f) (uid_of Near r.0 == n) a.0 in
      let of = by_side d r.0 (eqb-true (uid_of Far r.0) f both.0) (eqb-true (uid_of Near r.0) n both.1) in
      let same : uid_of (source d) r.0 ≡ k.message.uid = of ∙ sym k.has_uid in
      let less = named_below (source d) r.0 r.1 in
      let there = was_stored (source d) k.message (omega (arith, same, less)) k.is_there in
      let parts = and_parts (goes options.cells.gone d && is_full r.0 && not (is_listed scene (source d) (uid_of (source d) r.0))) (is_listed scene (target d) (uid_of (target d) r.0)) a.1 in
      let none = and_parts (goes options.cells.gone d && is_full r.0) (not (is_listed scene (source d) (uid_of (source d) r.0))) parts.0 in
      both_ways (is_listed scene (source d) (uid_of (source d) r.0)) (not_true (is_listed scene (source d) (uid_of (source d) r.0)) none.1)
      (subst (λ (u : ℕ). is_listed scene (source d) u ≡ true) (sym same) there)
    where
      by_side : (d : Direction) (e : Entry) → uid_of Far e ≡ f → uid_of Near e ≡ n → uid_of (source d) e ≡ source_uid d f n
      by_side Pull e a b = a
      by_side Push e a b = b

  -- a message that is marked in the end is marked now, or a step that is left marks it
  at_end : (side : Side) (n : Message) → has (flags_all side (all_steps scene marked) n.uid n.flags) DELETED ≡ true → has (flags_all side steps n.uid n.flags) DELETED ≡ true
  at_end side n e = ap (λ (l : List Step). has (flags_all side l n.uid n.flags) DELETED) is_steps ∙ e

  marked_by_left : (side : Side) (u count : ℕ) → count ≤ length results → All (λ s. marks side u s ≡ false) (drop count steps) → (m : Message) → m.uid ≡ u → (n : Message) →
      flags_all side (drop (length results) steps) m.uid m.flags ≡ flags_all side steps n.uid n.flags → has (flags_all side steps n.uid n.flags) DELETED ≡ true → has m.flags DELETED ≡ true
  marked_by_left side u count le unmarked m uid n same e =
      left_unmarked side m.uid m.flags (drop (length results) steps)
      (subst (λ (v : ℕ). All (λ s. marks side v s ≡ false) (drop (length results) steps)) (sym uid) (fewer_left (λ s. marks side u s ≡ false) count (length results) steps le unmarked))
      (ap (λ (x : ℕ). has x DELETED) same ∙ e)

  marked_so : (side : Side) (u count : ℕ) → count ≤ length results → u < (store w side).next
      → ((n : Message) → Contains (store w side).messages n → n.uid ≡ u → has (flags_all side (all_steps scene marked) n.uid n.flags) DELETED ≡ true)
      → All (λ s. marks side u s ≡ false) (drop count steps) → (m : Message) → Contains (messages_in found side) m → m.uid ≡ u → has m.flags DELETED ≡ true
  marked_so side u count le below then unmarked m c e =
      let less : m.uid < (store w side).next = subst (λ (v : ℕ). v < (store w side).next) (sym e) below in
      let k = came side m less c in
      let i = all_back side steps results (boxes_of w) k.message (all_above side k.message.uid (below_too side m k.message k.same less)) k.is_there in
      let uid : k.message.uid ≡ u = k.same ∙ e in
      k.keeps (marked_by_left side u count le unmarked k.message uid i.0 i.3 (at_end side i.0 (then i.0 (stored_in w side i.0 i.1) (i.2 ∙ uid))))

  marked_now : (side : Side) (u count : ℕ) → count ≤ length results → u < (store w side).next
      → ((n : Message) → Contains (store w side).messages n → n.uid ≡ u → has (flags_all side (all_steps scene marked) n.uid n.flags) DELETED ≡ true)
      → All (λ s. marks side u s ≡ false) (drop count steps) → IsUnmarked found side u → ⊥
  marked_now side u count le below then unmarked k =
      both_ways (has k.message.flags DELETED) k.unmarked (marked_so side u count le below then unmarked k.message k.is_there k.has_uid)

  then_expunged : (side : Side) (u : ℕ) → is_expunged scene side u ≡ true → (n : Message) → Contains (store w side).messages n → n.uid ≡ u → has (flags_all side (all_steps scene marked) n.uid n.flags) DELETED ≡ true
  then_expunged side u expunged n c e = is_deleted w options marked side n h (subst (λ (v : ℕ). is_expunged scene side v ≡ true) (sym e) expunged) c

  -- a listed message is below
  listed_below : (side : Side) (u x : ℕ) → flags_at (items scene side) u ≡ Some x → u < (store w side).next
  listed_below side u x at =
      let i = listed_item (items scene side) u (ap (λ (o : Option ℕ). is_some o) at) in
      let r = stored w options side i.0 i.1 in
      subst (λ (v : ℕ). v < (store w side).next) (r.2 ∙ i.2) (All-contains (λ (m : Message). m.uid < (store w side).next) (store w side).messages r.0 (store_is w h side).below r.1)

  then_given : (side : Side) (u x : ℕ) → flags_at (items scene side) u ≡ Some x → has (flags_after scene side u x) DELETED ≡ true → (n : Message) → Contains (store w side).messages n → n.uid ≡ u
      → has (flags_all side (all_steps scene marked) n.uid n.flags) DELETED ≡ true
  then_given side u x at marks n c e =
      let there = listed w options side n c in
      let flags : n.flags ≡ x = same_Some n.flags x (sym (flags_at_item (items scene side) (rising w options h side) (item_of side n) there) ∙ ap (flags_at (items scene side)) e ∙ at) in
      ap (λ (y : ℕ). has y DELETED) (all_flags scene marked side n.uid n.flags ∙ fate_of_flags scene side h.pairs (rising w options h side) (item_of side n) there)
      ∙ ap (λ (v : ℕ). has (flags_after scene side v n.flags) DELETED) e ∙ ap (λ (y : ℕ). has (flags_after scene side u y) DELETED) flags ∙ marks

  -- one that is removed is not there
  removed_now : (side : Side) (u count : ℕ) → count ≤ length results → Contains (take count steps) (step.Expunge side u) → IsThere found side u → ⊥
  removed_now side u count le at k =
      let expunged : is_expunged scene side u ≡ true = is_called (step.Expunge side u) (take_contains count steps (step.Expunge side u) at) in
      let less : k.message.uid < (store w side).next = subst (λ (v : ℕ). v < (store w side).next) (sym k.has_uid) (is_below w options side u h expunged) in
      let b = came side k.message less k.is_there in
      removed_then side steps results (boxes_of w) b.message (all_above side b.message.uid (below_too side k.message b.message b.same less))
      (subst (λ (v : ℕ). Contains (take (length results) steps) (step.Expunge side v)) (sym (b.same ∙ k.has_uid)) (more_done count (length results) steps (step.Expunge side u) le at)) b.is_there

  not_stale : (count : ℕ) → count ≤ length results → (s : Step) → Contains (drop count steps) s → IsStale (drop count steps) found s → ⊥
  not_stale count le (step.New d u flags mark) c k = k
  not_stale count le (step.Gone d f n) c k = gone_away d f n (is_called (step.Gone d f n) (drop_contains count steps (step.Gone d f n) c)) k
  not_stale count le (step.Flags d f n set cleared) c k =
      let g = is_given scene d f n set cleared h.pairs (is_called (step.Flags d f n set cleared) (drop_contains count steps (step.Flags d f n set cleared) c)) k.0 in
      marked_now (source d) (source_uid d f n) count le (listed_below (source d) (source_uid d f n) g.flags g.listed) (then_given (source d) (source_uid d f n) g.flags g.listed g.marked)
      (All-from_contains (λ t. marks (source d) (source_uid d f n) t ≡ false) (drop count steps) (λ t at. not_marked scene h.pairs (source d) (source_uid d f n) g t (is_called t (drop_contains count steps t at)))) k.1
  not_stale count le (step.Expunge side u) c k =
      let expunged : is_expunged scene side u ≡ true = is_called (step.Expunge side u) (drop_contains count steps (step.Expunge side u) c) in
      marked_now side u count le (is_below w options side u h expunged) (then_expunged side u expunged) k.0 k.1

  not_spared : (count : ℕ) → count ≤ length results → (s : Step) → Contains (take count steps) s → IsSpared found s → ⊥
  not_spared count le (step.New d u flags mark) c k = k
  not_spared count le (step.Gone d f n) c k = k
  not_spared count le (step.Flags d f n set cleared) c k = k
  not_spared count le (step.Expunge side u) c k = removed_now side u count le c k

  pub none_stale : (count : ℕ) → count ≤ length results → NoneIsStale steps count found
  none_stale count le = record {
    left = All-from_contains (λ s. IsStale (drop count steps) found s → ⊥) (drop count steps) (not_stale count le);
    done = All-from_contains (λ s. IsSpared found s → ⊥) (take count steps) (not_spared count le);
  }

-- ---- wherever the run stands

module _ (ours : List ℕ → Bool) (alone : Bool) {earlier : List Named} (w : World) (options : Options) (version : Version) (plan : Plan) (log : List Logged) (torn : Bool) (h : IsInOrder w) (names : NamesBelow w) (d : Device) where
  midway_whole : (results : List Logged) (is_half : Bool) → length log ≤ length results → Midway ours alone earlier w options version plan log torn results is_half d → NoneIsStale plan.steps (length log) (boxes_at d)
  midway_whole results is_half le at =
      let p = at.planned in
      let size = results_length results in
      none_stale w options p.marks plan.steps p.is_plan.steps h names (results_of results) is_half (next_of plan.steps results) (boxes_at d) (λ side. (box d side).next) at.rises at.boxes (length log) (omega (arith, size, le))

  stands_whole : Stands ours alone earlier w options version plan log torn d → NoneIsStale plan.steps (length log) (boxes_at d)
  stands_whole (inl k) = midway_whole log k.0 (omega arith) k.1
  stands_whole (inr k) = let size = length-append log (k.0 ∷ []) in midway_whole (log ++ k.0 ∷ []) false (omega (arith, size)) k.1

pub none_is_stale : NothingIsStale
none_is_stale ours alone opening d pending =
    let at = pending.holds in
    stands_whole ours alone pending.world opening.options at.version at.plan at.log at.is_torn pending.grows.in_order pending.below d at.stands
