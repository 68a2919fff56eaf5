-- Messages that others added are left to the next run.
use Rattle.std.proofs.Common.{◌≡◌, ◌≢◌, ◌<◌, ◌≤◌, inl, inr, ℕ, zero, suc, true, false, lt-ltb, List, [], ◌∷◌, ◌++◌, Bool, length, map, refl, sym, ap, ◌∙◌, subst, arith}
use Rattle.std.specs.Prelude.{All, AllPairs, Contains, flat_map, nat_lt}
use Rattle.std.specs.List.{list_any}
use Rattle.std.proofs.lemmas.Bool.{both_ways, cases_lt, or_left}
use Rattle.std.proofs.lemmas.List.Elements.{All-append, All-cons, All-contains, All-head, All-map, All-nil, All-tail, All-weaker, Contains-append_left, Contains-append_right}
use Rattle.std.proofs.lemmas.List.Sorted.{All-permutation}
use Rattle.mailcore.specs.declared.mailbox.Message.{Message}
use Rattle.mailcore.specs.declared.side.Direction.{Direction}
use Rattle.mailcore.specs.declared.side.Direction.TheVariants.{Pull, Push}
use Rattle.mailcore.specs.declared.side.Side.{Side}
use Rattle.mailcore.specs.declared.side.Side.TheVariants.{Far, Near}
use Rattle.mailcore.specs.Listed.{item_of}
use Rattle.mailcore.specs.Sides.{source, target, towards}
use Rattle.mailcore.specs.Stores.{IsStore}
use Rattle.rules.specs.declared.entry.Entry.{Entry}
use Rattle.rules.specs.declared.options.Options.{Options}
use Rattle.rules.specs.Admission.{admission_uids, admitted, next_admitted, numbered_under}
use Rattle.rules.specs.AlikeBy.{AlikeBy}
use Rattle.rules.specs.Called.{is_new}
use Rattle.rules.specs.Copies.{copies_under, pair_of_copy, pairs_under}
use Rattle.rules.specs.Entries.{uid_of}
use Rattle.rules.specs.Outcome.{entries_after}
use Rattle.rules.specs.World.{World, IsInOrder, NamesBelow, store, scene_of}
use Rattle.rules.specs.WorldAfter.{marks_to, new_messages, staying}
use Rattle.rules.proofs.Walks.{All-from_contains, AllPairs-head, AllPairs-tail, filter_contains}
use Rattle.rules.proofs.WorldLemmas.{marks_to_counted, store_is}
use Rattle.planner.specs.Written.{all_steps}
use Rattle.law_outcome.specs.AlikeLaws.{own_world}
use Rattle.law_outcome.proofs.Admission.{admitted_sound, turn_admits}
use Rattle.law_outcome.proofs.Named.{highest_below}
use Rattle.law_outcome.proofs.Worlds.{kept_below}
use Rattle.law_outcome.specs.OwnLaws.{bears, is_own}
use Rattle.outside.specs.Devices.{Device, Named}
use Rattle.outside.specs.Sparing.{AreOthers}
use Rattle.outside.proofs.Sparing.{others_last}
use Rattle.run_states.specs.Conditions.{IsOver}
use Rattle.run_states.specs.Endings.{DoneAt}
use Rattle.run_states.specs.Openings.{Opening, world_at}
use Rattle.run_states.specs.Plans.{names_of}
use Rattle.run_states.proofs.Naming.{all_before}
use Rattle.run_states.proofs.Spared.{since_is}
use Rattle.run_states.proofs.CalledNext.{called_new}
use Rattle.run_states.proofs.Runs.{held_pairs}
use Rattle.run_states.specs.Others.{BegunHasOrder, HasOrder, IsLeft, IsOthers, OthersAreLeft, OthersAreSpared, OthersStay, OthersAreCopiedNext, OverIsInOrder}

-- ---- messages that rise are identified by their UIDs

one_uid : (ms : List Message) (a b : Message) → AllPairs (λ x y. x.uid < y.uid) ms → Contains ms a → Contains ms b → a.uid ≡ b.uid → a ≡ b
one_uid [] a b rising (k, below, is) c same = absurd (omega (arith, below))
one_uid (x ∷ xs) a b rising (zero, p, at_a) (zero, q, at_b) same = sym at_a ∙ at_b
one_uid (x ∷ xs) a b rising (zero, p, at_a) (suc j, q, at_b) same =
    let less : x.uid < b.uid = AllPairs-head (λ (y z : Message). y.uid < z.uid) x xs rising b (j, omega (arith, q), at_b) in
    let first = ap (λ (y : Message). y.uid) at_a in
    absurd (omega (arith, less, first, same))
one_uid (x ∷ xs) a b rising (suc i, p, at_a) (zero, q, at_b) same =
    let less : x.uid < a.uid = AllPairs-head (λ (y z : Message). y.uid < z.uid) x xs rising a (i, omega (arith, p), at_a) in
    let first = ap (λ (y : Message). y.uid) at_b in
    absurd (omega (arith, less, first, same))
one_uid (x ∷ xs) a b rising (suc i, p, at_a) (suc j, q, at_b) same =
    one_uid xs a b (AllPairs-tail (λ (y z : Message). y.uid < z.uid) x xs rising) (i, omega (arith, p), at_a) (j, omega (arith, q), at_b) same

-- ---- the entries of new pairs

by_source : (d : Direction) (v : ℕ) (uids : List ℕ) (ms : List Message) → All (λ m. m.uid ≢ v) ms → All (λ e. uid_of (source d) e ≢ v) (pairs_under d uids ms)
by_source d v [] ms h = All-nil (λ (e : Entry). uid_of (source d) e ≢ v)
by_source d v (u ∷ uids) [] h = All-nil (λ (e : Entry). uid_of (source d) e ≢ v)
by_source d v (u ∷ uids) (m ∷ ms) h =
    All-cons (λ (e : Entry). uid_of (source d) e ≢ v) (pair_of_copy d u m) (pairs_under d uids ms) (at d (All-head (λ (x : Message). x.uid ≢ v) m ms h))
    (by_source d v uids ms (All-tail (λ (x : Message). x.uid ≢ v) m ms h))
  where
    at : (d : Direction) → m.uid ≢ v → uid_of (source d) (pair_of_copy d u m) ≢ v
    at Pull n = n
    at Push n = n

by_copy : (d : Direction) (v : ℕ) (uids : List ℕ) (ms : List Message) → All (λ u. u ≢ v) uids → All (λ e. uid_of (target d) e ≢ v) (pairs_under d uids ms)
by_copy d v [] ms h = All-nil (λ (e : Entry). uid_of (target d) e ≢ v)
by_copy d v (u ∷ uids) [] h = All-nil (λ (e : Entry). uid_of (target d) e ≢ v)
by_copy d v (u ∷ uids) (m ∷ ms) h =
    All-cons (λ (e : Entry). uid_of (target d) e ≢ v) (pair_of_copy d u m) (pairs_under d uids ms) (at d (All-head (λ (x : ℕ). x ≢ v) u uids h))
    (by_copy d v uids ms (All-tail (λ (x : ℕ). x ≢ v) u uids h))
  where
    at : (d : Direction) → u ≢ v → uid_of (target d) (pair_of_copy d u m) ≢ v
    at Pull n = n
    at Push n = n

copied_uids : (side : Side) (uids : List ℕ) (marks : List (List ℕ)) (ms : List Message) → length uids ≡ length ms → length marks ≡ length ms → map (λ m. m.uid) (copies_under side uids marks ms) ≡ uids
copied_uids side [] marks ms l k = refl
copied_uids side (u ∷ uids) [] [] l k = absurd (omega arith)
copied_uids side (u ∷ uids) [] (m ∷ ms) l k = absurd (omega arith)
copied_uids side (u ∷ uids) (mark ∷ marks) [] l k = absurd (omega arith)
copied_uids side (u ∷ uids) (mark ∷ marks) (m ∷ ms) l k = ap (λ us. u ∷ us) (copied_uids side uids marks ms (omega arith) (omega arith))

-- ---- a message that is none of the run's

-- its UID was not given when the plan was made
came_later : (w : World) (marks : List (List ℕ)) (side : Side) (m : Message) → is_own w marks side m.uid m.bytes ≡ false → (store w side).next ≤ m.uid
came_later w marks side m other = elim (cases_lt m.uid (store w side).next) [
  | inl l ↦ absurd (both_ways (is_own w marks side m.uid m.bytes) other (or_left (nat_lt m.uid (store w side).next) (list_any (λ mark. bears mark m.bytes) marks) (lt-ltb m.uid (store w side).next l)))
  | inr l ↦ l
]

module _ (w : World) (options : Options) (marks : List (List ℕ)) (found next : World) (sound : IsInOrder w) (below : NamesBelow w) (a : AlikeBy w options found)
    (own_is : (side : Side) (m : Message) → Contains (store found side).messages m → Contains (store next side).messages m × (is_own w marks side m.uid m.bytes ≡ true))
    (order : IsInOrder next) (side : Side) (m : Message) (there : Contains (store next side).messages m) (other : is_own w marks side m.uid m.bytes ≡ false) where
  not_below : (store w side).next ≤ m.uid
  not_below = came_later w marks side m other

  -- it is none of the run's messages
  no_own : (c : Message) → Contains (store found side).messages c → c.uid ≢ m.uid
  no_own c k same =
      let own = own_is side c k in
      let e = one_uid (store next side).messages c m (store_is next order side).rising own.0 there same in
      both_ways (is_own w marks side m.uid m.bytes) other (subst (λ (x : Message). is_own w marks side x.uid x.bytes ≡ true) e own.1)

  no_copy : All (λ u. u ≢ m.uid) (a.uids side)
  no_copy =
      let news : List Message = new_messages w options (towards side) in
      let given : List (List ℕ) = marks_to w options side a.marks in
      let copies : List Message = copies_under side (a.uids side) given news in
      subst (λ (us : List ℕ). All (λ u. u ≢ m.uid) us) (copied_uids side (a.uids side) given news (a.each side) (marks_to_counted w options a.marks a.are_marks.count side))
      (All-map (λ (u : ℕ). u ≢ m.uid) (λ (c : Message). c.uid) copies
      (All-from_contains (λ (c : Message). c.uid ≢ m.uid) copies (λ c k. no_own c (subst (λ (ms : List Message). Contains ms c) (sym (a.messages side)) (Contains-append_right (staying w options side) copies c k)))))

  no_source : (d : Direction) → source d ≡ side → All (λ x. x.uid ≢ m.uid) (new_messages w options d)
  no_source d is =
      All-from_contains (λ (x : Message). x.uid ≢ m.uid) (new_messages w options d) (λ x k.
      let listed = (filter_contains (λ (y : Message). is_new (scene_of w options) d (item_of (source d) y)) (store w (source d)).messages x k).0 in
      let l : x.uid < (store w (source d)).next = All-contains (λ (y : Message). y.uid < (store w (source d)).next) (store w (source d)).messages x (store_is w sound (source d)).below listed in
      let n = not_below in
      let e = ap (λ (s : Side). (store w s).next) is in
      λ same. omega (arith, l, n, e, same))

  named : (s : Side) → All (λ e. uid_of s e < (store w s).next) w.state.entries
  named Far = below.far
  named Near = below.near

  no_entry : All (λ e. uid_of side e ≢ m.uid) (entries_after (scene_of w options))
  no_entry = All-weaker (λ (e : Entry). uid_of side e < (store w side).next) (λ e. uid_of side e ≢ m.uid) (λ e l same. let n = not_below in omega (arith, l, n, same)) (entries_after (scene_of w options))
      (kept_below (scene_of w options) (λ x. (store w x).next) named side)

  unnamed_by : All (λ e. uid_of side e ≢ m.uid) (pairs_under Pull (a.uids Near) (new_messages w options Pull)) → All (λ e. uid_of side e ≢ m.uid) (pairs_under Push (a.uids Far) (new_messages w options Push)) → All (λ e. uid_of side e ≢ m.uid) found.state.entries
  unnamed_by pulls pushes =
      let kept : List Entry = entries_after (scene_of w options) in
      let pulled : List Entry = pairs_under Pull (a.uids Near) (new_messages w options Pull) in
      let pushed : List Entry = pairs_under Push (a.uids Far) (new_messages w options Push) in
      let P : Entry → Type 0 = λ e. uid_of side e ≢ m.uid in
      All-permutation P (kept ++ pulled ++ pushed) found.state.entries a.state.entries (All-append P (kept ++ pulled) pushed (All-append P kept pulled no_entry pulls) pushes)

far_left : (w : World) (options : Options) (marks : List (List ℕ)) (found next : World) → IsInOrder w → NamesBelow w → AlikeBy w options found
    → ((side : Side) (m : Message) → Contains (store found side).messages m → Contains (store next side).messages m × (is_own w marks side m.uid m.bytes ≡ true))
    → IsInOrder next → (m : Message) → Contains next.far.messages m → is_own w marks Far m.uid m.bytes ≡ false → IsLeft Far m.uid found.state
far_left w options marks found next sound below a own_is order m there other = record {
  above = let n = not_below w options marks found next sound below a own_is order Far m there other in let h = highest_below w options sound below Pull in let e = a.state.max_pulled in omega (arith, n, h, e);
  unnamed = unnamed_by w options marks found next sound below a own_is order Far m there other
      (by_source Pull m.uid (a.uids Near) (new_messages w options Pull) (no_source w options marks found next sound below a own_is order Far m there other Pull refl))
      (by_copy Push m.uid (a.uids Far) (new_messages w options Push) (no_copy w options marks found next sound below a own_is order Far m there other));
}

near_left : (w : World) (options : Options) (marks : List (List ℕ)) (found next : World) → IsInOrder w → NamesBelow w → AlikeBy w options found
    → ((side : Side) (m : Message) → Contains (store found side).messages m → Contains (store next side).messages m × (is_own w marks side m.uid m.bytes ≡ true))
    → IsInOrder next → (m : Message) → Contains next.near.messages m → is_own w marks Near m.uid m.bytes ≡ false → IsLeft Near m.uid found.state
near_left w options marks found next sound below a own_is order m there other = record {
  above = let n = not_below w options marks found next sound below a own_is order Near m there other in let h = highest_below w options sound below Push in let e = a.state.max_pushed in omega (arith, n, h, e);
  unnamed = unnamed_by w options marks found next sound below a own_is order Near m there other
      (by_copy Pull m.uid (a.uids Near) (new_messages w options Pull) (no_copy w options marks found next sound below a own_is order Near m there other))
      (by_source Push m.uid (a.uids Far) (new_messages w options Push) (no_source w options marks found next sound below a own_is order Near m there other Push refl));
}

-- ---- on a device

-- the run's own messages are among those of the next world
own_there : (w : World) (marks : List (List ℕ)) (now : World) (side : Side) (m : Message) → Contains (store (own_world w marks now) side).messages m → Contains (store (admitted now) side).messages m × (is_own w marks side m.uid m.bytes ≡ true)
own_there w marks now Far m k = filter_contains (λ (x : Message). is_own w marks Far x.uid x.bytes) now.far.messages m k
own_there w marks now Near m k =
    let c = filter_contains (λ (x : Message). is_own w marks Near x.uid x.bytes) now.near.messages m k in
    (Contains-append_left now.near.messages (numbered_under (admission_uids now) now.waiting) m c.0, c.1)

pub others_spared : OthersAreSpared
others_spared ours alone opening d over side m other =
    let w = over.world in
    let x = over.holds in
    let by = x.alike.named in
    let names = flat_map names_of (all_steps (scene_of w opening.options) x.marks) in
    let later = came_later w x.marks side m other in
    let before = all_before w opening.options over.grows.in_order over.below x.marks in
    All-weaker (λ n. Contains names n) (λ n. n.side ≡ side → n.uid ≢ m.uid)
    (λ n c is same. let low : n.uid < (store w n.side).next = All-contains (λ (k : Named). k.uid < (store w k.side).next) names n before c in
    let bound : n.uid < (store w side).next = subst (λ (s : Side). n.uid < (store w s).next) is low in omega (arith, bound, later, same)) by.since by.each

pub others_stay : OthersStay
others_stay ours alone opening d d' named here on over side m there other =
    let s = on.spares in
    let x = over.holds in
    let same = since_is opening.named named (all_steps (scene_of over.world opening.options) x.marks) d d' here x.alike.named s in
    let spared : AreOthers (s.since ++ named) side m.uid = subst (λ (names : List Named). AreOthers names side m.uid) (sym same) (others_spared ours alone opening d' over side m other) in
    s.messages side m there (others_last s.since named side m.uid spared)

pub by_sides : (d : Device) → IsStore d.far → IsStore d.near.store → HasOrder d
by_sides d far near Far = far
by_sides d far near Near = near

pub begun_order : BegunHasOrder
begun_order ours alone opening d begun = let order = begun.grows.in_order in by_sides d order.far order.near

pub over_in_order : OverIsInOrder
over_in_order ours alone opening d d' order on over =
    let x = over.holds in
    let keeps = on.spares.order in
    record { far = keeps Far (order Far); near = keeps Near (order Near); pairs = held_pairs d' x.state x.pending x.files }

left_in_order : (ours : List ℕ → Bool) (alone : Bool) (opening : Opening ours alone) (d : Device) (over : IsOver opening d) → IsInOrder (world_at d over.holds.state)
    → (side : Side) (m : Message) → IsOthers over.world over.holds.marks side (admitted (world_at d over.holds.state)) m → IsLeft side m.uid over.holds.state
left_in_order ours alone opening d over order side m others = by_side side others
  where
    done : DoneAt ours alone opening.named over.world opening.options d
    done = over.holds

    now : World
    now = world_at d done.state

    in_order : IsInOrder (admitted now)
    in_order = admitted_sound now (admission_uids now) (next_admitted now) order (turn_admits now)

    by_side : (side : Side) → IsOthers over.world done.marks side (admitted now) m → IsLeft side m.uid done.state
    by_side Far o = far_left over.world opening.options done.marks (own_world over.world done.marks now) (admitted now) over.grows.in_order over.below done.alike.alike (own_there over.world done.marks now) in_order m o.is_there o.is_no_own
    by_side Near o = near_left over.world opening.options done.marks (own_world over.world done.marks now) (admitted now) over.grows.in_order over.below done.alike.alike (own_there over.world done.marks now) in_order m o.is_there o.is_no_own

pub others_left : OthersAreLeft
others_left ours alone opening d d' order on over side m others = left_in_order ours alone opening d' over (over_in_order ours alone opening d d' order on over) side m others

pub others_copied_next : OthersAreCopiedNext
others_copied_next ours alone opening d d' order on over options direction m others is_new is_fit stays =
    let left = others_left ours alone opening d d' order on over (source direction) m others in
    called_new (admitted (world_at d' over.holds.state)) options direction m others.is_there left.above left.unnamed is_new is_fit stays
