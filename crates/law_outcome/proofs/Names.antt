-- The UIDs that an opening names, and those that its outcome names beside them.
use Rattle.std.proofs.Common.{◌≡◌, ◌<◌, ◌≤◌, ◌+◌, ℕ, Bool, true, false, cond, max, List, [], ◌∷◌, ◌++◌, Option, Some, None, length, map, refl, ap, subst, arith, inl, inr, ◌⊎◌}
use Rattle.std.specs.Prelude.{All, Contains, filter, not, unwrap_or}
use Rattle.std.proofs.lemmas.Bool.{cases_lt}
use Rattle.std.proofs.lemmas.List.Elements.{All-nil, All-cons, All-append, All-weaker, All-contains, All-head, All-tail}
use Rattle.mailcore.specs.declared.side.Side.{Side}
use Rattle.mailcore.specs.declared.side.Side.TheVariants.{Far, Near}
use Rattle.mailcore.specs.declared.side.Direction.{Direction}
use Rattle.mailcore.specs.declared.side.Direction.TheVariants.{Pull, Push}
use Rattle.mailcore.specs.declared.mailbox.Message.{Message}
use Rattle.mailcore.specs.Sides.{source}
use Rattle.mailcore.specs.Listed.{item_of}
use Rattle.mailcore.proofs.RiseLemmas.{range_rises}
use Rattle.rules.specs.declared.entry.Entry.{Entry}
use Rattle.rules.specs.declared.options.Options.{Options}
use Rattle.rules.specs.Propagation.{Drop}
use Rattle.rules.specs.Options.{goes}
use Rattle.rules.specs.Entries.{uid_of}
use Rattle.rules.specs.Called.{is_new, is_gone, is_expunged, flags_after, called}
use Rattle.rules.specs.Outcome.{greatest, entry_after, entries_after}
use Rattle.rules.specs.World.{World, store, scene_of}
use Rattle.rules.specs.WorldAfter.{new_messages, staying, outcome, marks_to}
use Rattle.rules.specs.Admission.{admitted}
use Rattle.rules.specs.Opening.{Names, OfMessage, OfEntry, Highest}
use Rattle.rules.proofs.Walks.{All-from_contains, filter_contains, map_contains}
use Rattle.law_outcome.specs.AlikeLaws.{NamedStay, OthersAreNew}
use Rattle.law_outcome.proofs.Admission.{numbered_least, opening_names}
use Rattle.law_outcome.proofs.InTurn.{copies, pulled, pushed, numbered_from}

-- ---- named UIDs are below next

pub named_stay : NamedStay
named_stay w side to h r = (r.same 0 (first side), λ u n. r.same u (below side u n))
  where
    first : (side : Side) → 0 < (store w side).next
    first side = (h.mailbox side).next

    below : (side : Side) (u : ℕ) → Names w side u → u < (store w side).next
    below Far u (OfMessage m c e) = let l : m.uid < w.far.next = All-contains (λ (x : Message). x.uid < w.far.next) w.far.messages m h.world.in_order.far.below c in omega arith
    below Far u (OfEntry x c e) = let l : uid_of Far x < w.far.next = All-contains (λ (y : Entry). uid_of Far y < w.far.next) w.state.entries x (opening_names w h).far c in omega arith
    below Far u (Highest e) = let l : w.state.max_pulled < w.far.next = (opening_names w h).pulled in omega arith
    below Near u (OfMessage m c e) = let l : m.uid < w.near.next = All-contains (λ (x : Message). x.uid < w.near.next) w.near.messages m h.world.in_order.near.below c in omega arith
    below Near u (OfEntry x c e) = let l : uid_of Near x < w.near.next = All-contains (λ (y : Entry). uid_of Near y < w.near.next) w.state.entries x (opening_names w h).near c in omega arith
    below Near u (Highest e) = let l : w.state.max_pushed < w.near.next = (opening_names w h).pushed in omega arith

-- ---- what an outcome names

module _ (w : World) (options : Options) where
  -- 0, or named by the opening, or of at least its next
  abbrev Known : Side → ℕ → Type 0
  Known side u = (u ≡ 0) ⊎ (Names w side u ⊎ ((store w side).next ≤ u))

  old_known : (side : Side) → All (λ m. Known side m.uid) (store w side).messages
  old_known side = All-from_contains (λ (m : Message). Known side m.uid) (store w side).messages (λ m c. inr (inl (OfMessage m c refl)))

  admitted_known : (side : Side) → All (λ m. Known side m.uid) (store (admitted w) side).messages
  admitted_known Far = old_known Far
  admitted_known Near =
      All-append (λ (m : Message). Known Near m.uid) w.near.messages (numbered_from w.near.next w.waiting) (old_known Near)
      (All-weaker (λ (m : Message). w.near.next ≤ m.uid) (λ m. Known Near m.uid) (λ m l. inr (inr l)) (numbered_from w.near.next w.waiting)
      (numbered_least w.near.next _ (w.near.next + length w.waiting) w.waiting (range_rises w.near.next (length w.waiting))))

  next_up : (side : Side) → (store w side).next ≤ (store (admitted w) side).next
  next_up Far = omega arith
  next_up Near = omega arith

  staying_known : (side : Side) → All (λ m. Known side m.uid) (staying (admitted w) options side)
  staying_known side =
      All-from_contains (λ (m : Message). Known side m.uid) (staying (admitted w) options side)
      (λ m c.
      let r = map_contains (λ (x : Message). record { uid = x.uid; flags = flags_after (scene_of (admitted w) options) side x.uid x.flags; bytes = x.bytes }) (filter (λ x. not (is_expunged (scene_of (admitted w) options) side x.uid)) (store (admitted w) side).messages) m c in
      let old = (filter_contains (λ (x : Message). not (is_expunged (scene_of (admitted w) options) side x.uid)) (store (admitted w) side).messages r.0 r.1).0 in
      subst (λ n. Known side n) (ap (λ (x : Message). x.uid) r.2) (All-contains (λ (x : Message). Known side x.uid) (store (admitted w) side).messages r.0 (admitted_known side) old))

  news_known : (d : Direction) → All (λ m. Known (source d) m.uid) (new_messages (admitted w) options d)
  news_known d =
      All-from_contains (λ (m : Message). Known (source d) m.uid) (new_messages (admitted w) options d)
      (λ m c. All-contains (λ (x : Message). Known (source d) x.uid) (store (admitted w) (source d)).messages m (admitted_known (source d))
      (filter_contains (λ (x : Message). is_new (scene_of (admitted w) options) d (item_of (source d) x)) (store (admitted w) (source d)).messages m c).0)

  copies_known : (side : Side) (k : ℕ) (marks : List (List ℕ)) (ms : List Message) → (store w side).next ≤ k → All (λ m. Known side m.uid) (copies side k marks ms)
  copies_known side k [] [] l = All-nil (λ (m : Message). Known side m.uid)
  copies_known side k [] (m ∷ ms) l = All-nil (λ (m : Message). Known side m.uid)
  copies_known side k (mark ∷ marks) [] l = All-nil (λ (m : Message). Known side m.uid)
  copies_known side k (mark ∷ marks) (m ∷ ms) l = All-cons (λ (x : Message). Known side x.uid) _ (copies side (k + 1) marks ms) (inr (inr l)) (copies_known side (k + 1) marks ms (omega arith))

  -- ---- entries

  cleared_known : (side : Side) (b : Bool) (o : Option ℕ) → Known side (unwrap_or o 0) → Known side (unwrap_or (cond b None o) 0)
  cleared_known side true o l = inl refl
  cleared_known side false o l = l

  kept_known : (side : Side) → All (λ e. Known side (uid_of side e)) (entries_after (scene_of (admitted w) options))
  kept_known side =
      All-from_contains (λ (e : Entry). Known side (uid_of side e)) (entries_after (scene_of (admitted w) options))
      (λ e c.
      let r = map_contains (entry_after (scene_of (admitted w) options)) (filter (λ (x : Entry). not (called (scene_of (admitted w) options) (Drop (uid_of Far x) (uid_of Near x)))) w.state.entries) e c in
      let old = (filter_contains (λ (x : Entry). not (called (scene_of (admitted w) options) (Drop (uid_of Far x) (uid_of Near x)))) w.state.entries r.0 r.1).0 in
      subst (λ x. Known side (uid_of side x)) r.2 (by_side side r.0 old))
    where
      by_side : (side : Side) (e : Entry) → Contains w.state.entries e → Known side (uid_of side (entry_after (scene_of (admitted w) options) e))
      by_side Far e c = cleared_known Far (is_gone (scene_of (admitted w) options) Pull e) e.far (inr (inl (OfEntry e c refl)))
      by_side Near e c = cleared_known Near (is_gone (scene_of (admitted w) options) Push e) e.near (inr (inl (OfEntry e c refl)))

  pulled_known : (side : Side) (k : ℕ) (ms : List Message) → w.near.next ≤ k → All (λ m. Known Far m.uid) ms → All (λ e. Known side (uid_of side e)) (pulled k ms)
  pulled_known side k [] l h = All-nil (λ (e : Entry). Known side (uid_of side e))
  pulled_known side k (m ∷ ms) l h =
      All-cons (λ (e : Entry). Known side (uid_of side e)) (record { far = Some m.uid; near = Some k; flags = m.flags }) (pulled (k + 1) ms) (here side)
      (pulled_known side (k + 1) ms (omega arith) (All-tail (λ (x : Message). Known Far x.uid) m ms h))
    where
      here : (side : Side) → Known side (uid_of side (record { far = Some m.uid; near = Some k; flags = m.flags }))
      here Far = All-head (λ (x : Message). Known Far x.uid) m ms h
      here Near = inr (inr l)

  pushed_known : (side : Side) (k : ℕ) (ms : List Message) → w.far.next ≤ k → All (λ m. Known Near m.uid) ms → All (λ e. Known side (uid_of side e)) (pushed k ms)
  pushed_known side k [] l h = All-nil (λ (e : Entry). Known side (uid_of side e))
  pushed_known side k (m ∷ ms) l h =
      All-cons (λ (e : Entry). Known side (uid_of side e)) (record { far = Some k; near = Some m.uid; flags = m.flags }) (pushed (k + 1) ms) (here side)
      (pushed_known side (k + 1) ms (omega arith) (All-tail (λ (x : Message). Known Near x.uid) m ms h))
    where
      here : (side : Side) → Known side (uid_of side (record { far = Some k; near = Some m.uid; flags = m.flags }))
      here Far = inr (inr l)
      here Near = All-head (λ (x : Message). Known Near x.uid) m ms h

  -- ---- the highest UIDs

  greater : (side : Side) (a b : ℕ) → Known side a → Known side b → Known side (max a b)
  greater side a b h k = elim (cases_lt a b) [
    | inl less ↦ subst (λ n. Known side n) (let e : b ≡ max a b = omega arith in e) k
    | inr more ↦ subst (λ n. Known side n) (let e : a ≡ max a b = omega arith in e) h
  ]

  greatest_known : (side : Side) (ms : List Message) → All (λ m. Known side m.uid) ms → Known side (greatest (map (item_of side) ms))
  greatest_known side [] h = inl refl
  greatest_known side (m ∷ ms) h = greater side m.uid (greatest (map (item_of side) ms)) (All-head (λ (x : Message). Known side x.uid) m ms h) (greatest_known side ms (All-tail (λ (x : Message). Known side x.uid) m ms h))

  raised_known : (side : Side) (b : Bool) (high top : ℕ) → Known side high → Known side top → Known side (cond b (max high top) high)
  raised_known side true high top h k = greater side high top h k
  raised_known side false high top h k = h

  -- ---- the outcome

  module _ (outcome_marks : List (List ℕ)) where
    abbrev out : World
    out = outcome (admitted w) options outcome_marks

    messages_known : (side : Side) → All (λ m. Known side m.uid) (store out side).messages
    messages_known Far = All-append (λ (m : Message). Known Far m.uid) (staying (admitted w) options Far) (copies Far w.far.next (marks_to (admitted w) options Far outcome_marks) (new_messages (admitted w) options Push)) (staying_known Far) (copies_known Far w.far.next (marks_to (admitted w) options Far outcome_marks) (new_messages (admitted w) options Push) (next_up Far))
    messages_known Near = All-append (λ (m : Message). Known Near m.uid) (staying (admitted w) options Near) (copies Near (w.near.next + length w.waiting) (marks_to (admitted w) options Near outcome_marks) (new_messages (admitted w) options Pull)) (staying_known Near) (copies_known Near (w.near.next + length w.waiting) (marks_to (admitted w) options Near outcome_marks) (new_messages (admitted w) options Pull) (next_up Near))

    entries_known : (side : Side) → All (λ e. Known side (uid_of side e)) out.state.entries
    entries_known side =
        let kept : List Entry = entries_after (scene_of (admitted w) options) in
        let pulls : List Entry = pulled (w.near.next + length w.waiting) (new_messages (admitted w) options Pull) in
        let pushes : List Entry = pushed w.far.next (new_messages (admitted w) options Push) in
        All-append (λ (e : Entry). Known side (uid_of side e)) (kept ++ pulls) pushes
        (All-append (λ (e : Entry). Known side (uid_of side e)) kept pulls (kept_known side) (pulled_known side (w.near.next + length w.waiting) (new_messages (admitted w) options Pull) (next_up Near) (news_known Pull)))
        (pushed_known side w.far.next (new_messages (admitted w) options Push) (next_up Far) (news_known Push))

    pub known : (side : Side) (u : ℕ) → Names out side u → Known side u
    known side u (OfMessage m c e) = subst (λ n. Known side n) e (All-contains (λ (x : Message). Known side x.uid) (store out side).messages m (messages_known side) c)
    known side u (OfEntry x c e) = subst (λ n. Known side n) e (All-contains (λ (y : Entry). Known side (uid_of side y)) out.state.entries x (entries_known side) c)
    known Far u (Highest e) = subst (λ n. Known Far n) e (raised_known Far (goes options.cells.new Pull) w.state.max_pulled (greatest (map (item_of Far) w.far.messages)) (inr (inl (Highest refl))) (greatest_known Far w.far.messages (admitted_known Far)))
    known Near u (Highest e) = subst (λ n. Known Near n) e (raised_known Near (goes options.cells.new Push) w.state.max_pushed (greatest (map (item_of Near) (admitted w).near.messages)) (inr (inl (Highest refl))) (greatest_known Near (admitted w).near.messages (admitted_known Near)))

pub others_are_new : OthersAreNew
others_are_new w options outcome_marks side u h n = known w options outcome_marks side u n
