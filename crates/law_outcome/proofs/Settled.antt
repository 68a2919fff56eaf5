-- A run where Expunge covers no side leaves nothing to be called for.
use Rattle.std.proofs.Common.{◌≡◌, ℕ, ◌<◌, ◌≤◌, ◌^◌, max, Bool, true, false, not, List, ◌++◌, length, refl, ap, ◌∙◌, subst, inl, inr, arith, ◌⊎◌}
use Rattle.std.specs.Prelude.{Contains, filter, ◌==◌}
use Rattle.std.proofs.lemmas.Bool.{not-true, eq-eqb, cond-true}
use Rattle.std.proofs.lemmas.List.Elements.{All-contains, Contains-append_left, Contains-append_right, Contains-append_cases}
use Rattle.mailcore.specs.declared.side.Side.{Side}
use Rattle.mailcore.specs.declared.side.Side.TheVariants.{Far, Near}
use Rattle.mailcore.specs.declared.side.Direction.{Direction}
use Rattle.mailcore.specs.declared.side.Direction.TheVariants.{Pull, Push}
use Rattle.mailcore.specs.declared.listing.Item.{Item}
use Rattle.mailcore.specs.declared.mailbox.Message.{Message}
use Rattle.mailcore.specs.FlagSet.{FLAGS}
use Rattle.mailcore.specs.Rise.{Rise}
use Rattle.mailcore.specs.Sides.{source, towards}
use Rattle.mailcore.proofs.RiseLemmas.{range_rises}
use Rattle.mailcore.specs.Listed.{item_of}
use Rattle.rules.specs.declared.entry.Entry.{Entry}
use Rattle.rules.specs.declared.options.Options.{Options}
use Rattle.rules.specs.Propagation.{Drop}
use Rattle.rules.specs.Options.{goes, covers}
use Rattle.rules.specs.Entries.{uid_of}
use Rattle.rules.specs.Scene.{Scene, items, highest, flags_at, is_paired}
use Rattle.rules.specs.Called.{called}
use Rattle.rules.specs.Outcome.{count_new, entry_after, entries_after, greatest}
use Rattle.rules.specs.World.{World, IsWorld, NamesBelow, store, scene_of}
use Rattle.rules.specs.Copies.{pairs_under}
use Rattle.rules.specs.WorldAfter.{new_messages, marks_to, messages_under, entries_under, copy_uids, next_after, state_after, outcome_under}
use Rattle.rules.proofs.WorldLemmas.{marks_to_counted}
use Rattle.law_outcome.specs.RuleLaws.{RunSettles, RunSettlesInAnyOrder, RunSettlesUnderAnyUids}
use Rattle.rules.proofs.Walks.{Contains-map, filter_contains, map_contains, list_any_from}
use Rattle.law_outcome.proofs.After.{IsKept, IsFresh, IsAfter, changed}
use Rattle.law_outcome.proofs.ListedAfter.{pulled_copied, pushed_copied, near_copy_named, far_copy_named}
use Rattle.law_outcome.proofs.RunAfter.{after_is, old_after, copies_to, old_from, stored_below, stored_above, copied_from, from_flags, at_most_greatest}
use Rattle.law_outcome.proofs.NothingCalled.{nothing_called}

-- the premises of the law
record Reported (w : World) (options : Options) (uids : Side → List ℕ) (marks : List (List ℕ)) (next : Side → ℕ) (entries : List Entry) : Type 0 where
  world : IsWorld w
  below : NamesBelow w
  far_uncovered : options.expunge.far ≡ false
  near_uncovered : options.expunge.near ≡ false
  marked : length marks ≡ count_new (scene_of w options)
  rise : (side : Side) → Rise (store w side).next (uids side) (next side)
  listed : (e : Entry) → Contains entries e → Contains (entries_under w options uids) e
  all : (e : Entry) → Contains (entries_under w options uids) e → Contains entries e

module _ (w : World) (options : Options) (uids : Side → List ℕ) (marks : List (List ℕ)) (next : Side → ℕ) (entries : List Entry) (reported : Reported w options uids marks next entries) where
  abbrev first : Scene
  first = scene_of w options

  abbrev later : Scene
  later = record (scene_of (outcome_under w options uids marks next) options) { entries = entries }

  abbrev by_pull : List Entry
  by_pull = pairs_under Pull (uids Near) (new_messages w options Pull)

  abbrev by_push : List Entry
  by_push = pairs_under Push (uids Far) (new_messages w options Push)

  uncovered : (side : Side) → covers options.expunge side ≡ false
  uncovered Far = reported.far_uncovered
  uncovered Near = reported.near_uncovered

  flags_of_old : (side : Side) (e : Entry) → Contains first.entries e → flags_at (items later side) (uid_of side e) ≡ changed first side (uid_of side e)
  flags_of_old Far e c = stored_below w options (uids Far) (next Far) marks Far (uid_of Far e) (reported.rise Far) (uncovered Far) (All-contains (λ (x : Entry). uid_of Far x < w.far.next) w.state.entries e reported.below.far c)
  flags_of_old Near e c = stored_below w options (uids Near) (next Near) marks Near (uid_of Near e) (reported.rise Near) (uncovered Near) (All-contains (λ (x : Entry). uid_of Near x < w.near.next) w.state.entries e reported.below.near c)

  -- ---- entries

  old_entry : (e : Entry) → Contains (entries_after first) e → IsKept first e
  old_entry e c =
      let stays : Entry → Bool = λ x. not (called first (Drop (uid_of Far x) (uid_of Near x))) in
      let r = map_contains (entry_after first) (filter stays first.entries) e c in
      let f = filter_contains stays first.entries r.0 r.1 in
      record { old = r.0; there = f.0; stays = not-true _ f.1; after = r.2 }

  pulled_entry : (e : Entry) → Contains by_pull e → IsFresh later e
  pulled_entry e c =
      let r = pulled_copied w.near.next (uids Near) (next Near) (marks_to w options Near marks) (new_messages w options Pull) e (reported.rise Near) (marks_to_counted w options marks reported.marked Near) c in
      let f = copied_from w options Pull r.message r.among in
      let above : w.state.max_pulled < r.message.uid = f.new.above in
      record {
        far_uid = r.message.uid;
        near_uid = r.uid;
        flags = r.message.flags;
        far = r.from;
        near = r.copy;
        positive = omega arith;
        far_flags = from_flags w options (uids Far) (next Far) marks Pull r.message (reported.rise Far) (uncovered Far) reported.world.in_order.far f;
        near_flags = stored_above w options (uids Near) marks Near r.uid (uncovered Near) reported.world.in_order.near.below r.above ∙ r.flags;
        noted = r.same;
        small = All-contains (λ (m : Message). m.flags < 2 ^ FLAGS) w.far.messages r.message reported.world.far_flags f.there;
      }

  pushed_entry : (e : Entry) → Contains by_push e → IsFresh later e
  pushed_entry e c =
      let r = pushed_copied w.far.next (uids Far) (next Far) (marks_to w options Far marks) (new_messages w options Push) e (reported.rise Far) (marks_to_counted w options marks reported.marked Far) c in
      let f = copied_from w options Push r.message r.among in
      let some : w.state.max_pulled < w.far.next = reported.below.pulled in
      let above : w.far.next ≤ r.uid = r.above in
      record {
        far_uid = r.uid;
        near_uid = r.message.uid;
        flags = r.message.flags;
        far = r.copy;
        near = r.from;
        positive = omega arith;
        far_flags = stored_above w options (uids Far) marks Far r.uid (uncovered Far) reported.world.in_order.far.below r.above ∙ r.flags;
        near_flags = from_flags w options (uids Near) (next Near) marks Push r.message (reported.rise Near) (uncovered Near) reported.world.in_order.near f;
        noted = r.same;
        small = All-contains (λ (m : Message). m.flags < 2 ^ FLAGS) w.near.messages r.message reported.world.near_flags f.there;
      }

  each_entry : (e : Entry) → Contains later.entries e → IsKept first e ⊎ IsFresh later e
  each_entry e c = elim (Contains-append_cases (entries_after first ++ by_pull) by_push e (reported.listed e c)) [
    | inl before ↦ elim (Contains-append_cases (entries_after first) by_pull e before) [
      | inl old ↦ inl (old_entry e old)
      | inr new ↦ inr (pulled_entry e new)
    ]
    | inr new ↦ inr (pushed_entry e new)
  ]

  -- ---- messages: an old one is not above the highest UID, and a copy is in an entry

  named : (side : Side) (u : ℕ) (e : Entry) → Contains later.entries e → uid_of side e ≡ u → is_paired later side u ≡ true
  named side u e c same = list_any_from (λ (x : Entry). uid_of side x == u) later.entries e c (eq-eqb (uid_of side e) u same)

  among_pulled : (e : Entry) → Contains by_pull e → Contains later.entries e
  among_pulled e c = reported.all e (Contains-append_left (entries_after first ++ by_pull) by_push e (Contains-append_right (entries_after first) by_pull e c))

  among_pushed : (e : Entry) → Contains by_push e → Contains later.entries e
  among_pushed e c = reported.all e (Contains-append_right (entries_after first ++ by_pull) by_push e c)

  old_below : (d : Direction) → goes options.cells.new d ≡ true → (m : Message) → Contains (old_after w options (source d)) m → m.uid ≤ highest d later
  old_below Pull on m c =
      let r = old_from w options Far m c in
      let l : r.0.uid ≤ greatest first.far = at_most_greatest first.far (item_of Far r.0) (Contains-map (item_of Far) w.far.messages r.0 (item_of Far r.0) r.1 refl) in
      let same : r.0.uid ≡ m.uid = r.2 in
      let raised : highest Pull later ≡ max w.state.max_pulled (greatest first.far) = cond-true (goes options.cells.new Pull) _ _ on in
      omega (arith, raised, l, same)
  old_below Push on m c =
      let r = old_from w options Near m c in
      let l : r.0.uid ≤ greatest first.near = at_most_greatest first.near (item_of Near r.0) (Contains-map (item_of Near) w.near.messages r.0 (item_of Near r.0) r.1 refl) in
      let same : r.0.uid ≡ m.uid = r.2 in
      let raised : highest Push later ≡ max w.state.max_pushed (greatest first.near) = cond-true (goes options.cells.new Push) _ _ on in
      omega (arith, raised, l, same)

  each_message : (d : Direction) → goes options.cells.new d ≡ true → (m : Message) → Contains (store (outcome_under w options uids marks next) (source d)).messages m → (m.uid ≤ highest d later) ⊎ (is_paired later (source d) m.uid ≡ true)
  each_message Pull on m c = elim (Contains-append_cases (old_after w options Far) (copies_to w options (uids Far) marks Far) m (subst (λ ms. Contains ms m) (after_is w options (uids Far) marks Far (uncovered Far)) c)) [
    | inl old ↦ inl (old_below Pull on m old)
    | inr copy ↦ let r = far_copy_named (uids Far) (marks_to w options Far marks) (new_messages w options Push) m copy in
        inr (named Far m.uid r.0 (among_pushed r.0 r.1) r.2)
  ]
  each_message Push on m c = elim (Contains-append_cases (old_after w options Near) (copies_to w options (uids Near) marks Near) m (subst (λ ms. Contains ms m) (after_is w options (uids Near) marks Near (uncovered Near)) c)) [
    | inl old ↦ inl (old_below Push on m old)
    | inr copy ↦ let r = near_copy_named (uids Near) (marks_to w options Near marks) (new_messages w options Pull) m copy in
        inr (named Near m.uid r.0 (among_pulled r.0 r.1) r.2)
  ]

  by_uid : (d : Direction) (i : Item) (u : ℕ) → u ≡ i.uid → (u ≤ highest d later) ⊎ (is_paired later (source d) u ≡ true) → (i.uid ≤ highest d later) ⊎ (is_paired later (source d) i.uid ≡ true)
  by_uid d i u e h = subst (λ v. (v ≤ highest d later) ⊎ (is_paired later (source d) v ≡ true)) e h

  each_item : (d : Direction) → goes options.cells.new d ≡ true → (i : Item) → Contains (items later (source d)) i → (i.uid ≤ highest d later) ⊎ (is_paired later (source d) i.uid ≡ true)
  each_item Pull on i c =
      let r = map_contains (item_of Far) (messages_under w options Far (uids Far) marks) i c in
      by_uid Pull i r.0.uid (ap (λ (x : Item). x.uid) r.2) (each_message Pull on r.0 r.1)
  each_item Push on i c =
      let r = map_contains (item_of Near) (messages_under w options Near (uids Near) marks) i c in
      by_uid Push i r.0.uid (ap (λ (x : Item). x.uid) r.2) (each_message Push on r.0 r.1)

  run_after : IsAfter first later
  run_after = record {
    options = refl;
    pairs = reported.world.in_order.pairs;
    uncovered = uncovered;
    flags = flags_of_old;
    entries = each_entry;
    items = each_item;
  }

pub settled_under : RunSettlesUnderAnyUids
settled_under w options uids marks next entries world below far near marked rise same q =
    nothing_called (scene_of w options) (record (scene_of (outcome_under w options uids marks next) options) { entries = entries })
    (run_after w options uids marks next entries (record {
      world = world;
      below = below;
      far_uncovered = far;
      near_uncovered = near;
      marked = marked;
      rise = rise;
      listed = (λ e. (same e).0);
      all = (λ e. (same e).1);
    })) q

pub settled_in_any_order : RunSettlesInAnyOrder
settled_in_any_order w options marks entries world below far near marked same q =
    settled_under w options (copy_uids w options) marks (next_after w options) entries world below far near marked
    (λ side. range_rises (store w side).next (length (new_messages w options (towards side)))) same q

pub settled : RunSettles
settled w options marks world below far near marked q =
    settled_in_any_order w options marks (state_after w options).entries world below far near marked (λ e. (λ c. c, λ c. c)) q
