-- What is found is again a world that a run may begin with.
use Rattle.std.proofs.Common.{◌≡◌, ◌≢◌, ◌<◌, ◌≤◌, ◌^◌, ℕ, Bool, true, false, cond, List, [], ◌∷◌, ◌++◌, Option, Some, None, length, sym, ◌∙◌, subst, arith, inl, inr}
use Rattle.std.specs.Prelude.{All, AllPairs, Contains, filter, not, ◌==◌, nat_le}
use Rattle.std.specs.List.{list_all}
use Rattle.std.proofs.lemmas.Bool.{and_parts}
use Rattle.std.proofs.lemmas.Option.{none-some, same_Some}
use Rattle.std.proofs.lemmas.List.Elements.{All-nil, All-cons, All-head, All-tail, All-append, All-weaker, All-contains, All-take, All-drop}
use Rattle.std.proofs.lemmas.List.Kept.{AllPairs-filter}
use Rattle.std.proofs.lemmas.List.Sorted.{All-permutation}
use Rattle.mailcore.specs.declared.side.Side.{Side}
use Rattle.mailcore.specs.declared.side.Side.TheVariants.{Far, Near}
use Rattle.mailcore.specs.declared.side.Direction.{Direction}
use Rattle.mailcore.specs.declared.side.Direction.TheVariants.{Pull, Push}
use Rattle.mailcore.specs.declared.mailbox.Message.{Message}
use Rattle.mailcore.specs.FlagSet.{FLAGS}
use Rattle.mailcore.specs.Mark.{IsMark}
use Rattle.mailcore.specs.Content.{fit, crlf, content, size_limit}
use Rattle.mailcore.specs.Sides.{source, target, towards}
use Rattle.mailcore.specs.Listed.{item_of}
use Rattle.mailcore.proofs.RiseLemmas.{rise-least, rise-ends}
use Rattle.rules.specs.declared.entry.Entry.{Entry}
use Rattle.rules.specs.declared.options.Options.{Options}
use Rattle.rules.specs.Propagation.{Drop}
use Rattle.rules.specs.Entries.{ArePairs, uid_of, uid_on}
use Rattle.rules.specs.Scene.{Scene, full_entry}
use Rattle.rules.specs.Called.{would_be_new, is_new, is_gone, is_expunged, pair_of, flags_after, called}
use Rattle.rules.specs.Outcome.{entry_after, entries_after}
use Rattle.rules.specs.World.{World, Waiting, IsStore, store, scene_of}
use Rattle.rules.specs.WorldAfter.{new_messages, staying, marks_to}
use Rattle.rules.specs.Copies.{copies_under, pair_of_copy, pairs_under}
use Rattle.rules.specs.Opening.{AreBytes, least_byte, IsFile, IsLater, IsMailbox, IsOpening}
use Rattle.rules.specs.Admission.{numbered_under, admitted_under}
use Rattle.rules.specs.AlikeBy.{AlikeBy}
use Rattle.rules.proofs.Walks.{All-from_contains, filter_contains, map_contains, AllPairs-append, AllPairs-map}
use Rattle.law_outcome.specs.AlikeLaws.{AdmittedIsOpening, FoundIsOpening}
use Rattle.law_outcome.proofs.Admission.{numbered_least, admitted_sound, admitted_names, opening_names}
use Rattle.law_outcome.proofs.Named.{names_below}
use Rattle.law_outcome.proofs.Whole.{stays_below}
use Rattle.law_outcome.proofs.CopyBytes.{InRange, without_nul}
use Rattle.law_outcome.proofs.FoundParts.{IsContent, flags_by_lt, recorded_lt, copies_least, copies_below, copies_rising, IsSource, copies_content}

-- ---- entries

-- an entry that names no 0 on a side, and whose recorded flags are a set
abbrev NamesNone : Side → Entry → Type 0
NamesNone side e = uid_on side e ≢ Some 0

some_up : (u : ℕ) → 0 < u → Some u ≢ Some 0
some_up u l e = let k : u ≡ 0 = same_Some u 0 e in omega arith

named_paired : (side : Side) (d : Direction) (uids : List ℕ) (ms : List Message) → All (λ u. 0 < u) uids → All (λ m. 0 < m.uid) ms → All (NamesNone side) (pairs_under d uids ms)
named_paired side d [] ms h k = All-nil (NamesNone side)
named_paired side d (u ∷ uids) [] h k = All-nil (NamesNone side)
named_paired side d (u ∷ uids) (m ∷ ms) h k =
    All-cons (NamesNone side) (pair_of_copy d u m) (pairs_under d uids ms) (here side d (All-head (λ n. 0 < n) u uids h) (All-head (λ (x : Message). 0 < x.uid) m ms k))
    (named_paired side d uids ms (All-tail (λ n. 0 < n) u uids h) (All-tail (λ (x : Message). 0 < x.uid) m ms k))
  where
    here : (side : Side) (d : Direction) → 0 < u → 0 < m.uid → NamesNone side (pair_of_copy d u m)
    here Far Pull l n = some_up m.uid n
    here Far Push l n = some_up u l
    here Near Pull l n = some_up u l
    here Near Push l n = some_up m.uid n

recorded_paired : (d : Direction) (uids : List ℕ) (ms : List Message) → All (λ m. m.flags < 2 ^ FLAGS) ms → All (λ e. e.flags < 2 ^ FLAGS) (pairs_under d uids ms)
recorded_paired d [] ms h = All-nil (λ (e : Entry). e.flags < 2 ^ FLAGS)
recorded_paired d (u ∷ uids) [] h = All-nil (λ (e : Entry). e.flags < 2 ^ FLAGS)
recorded_paired d (u ∷ uids) (m ∷ ms) h =
    All-cons (λ (e : Entry). e.flags < 2 ^ FLAGS) (pair_of_copy d u m) (pairs_under d uids ms) (here d (All-head (λ (x : Message). x.flags < 2 ^ FLAGS) m ms h))
    (recorded_paired d uids ms (All-tail (λ (x : Message). x.flags < 2 ^ FLAGS) m ms h))
  where
    here : (d : Direction) → m.flags < 2 ^ FLAGS → (pair_of_copy d u m).flags < 2 ^ FLAGS
    here Pull l = l
    here Push l = l

cleared_none : (b : Bool) (o : Option ℕ) → o ≢ Some 0 → cond b None o ≢ Some 0
cleared_none true o h e = none-some 0 e
cleared_none false o h e = h e

-- an entry that is kept is an old one after the run
kept_from : (s : Scene) (P : Entry → Type 0) → ((e : Entry) → Contains s.entries e → P (entry_after s e)) → All P (entries_after s)
kept_from s P h =
    All-from_contains P (entries_after s)
    (λ e c.
    let r = map_contains (entry_after s) (filter (λ (x : Entry). not (called s (Drop (uid_of Far x) (uid_of Near x)))) s.entries) e c in
    subst P r.2 (h r.0 (filter_contains (λ (x : Entry). not (called s (Drop (uid_of Far x) (uid_of Near x)))) s.entries r.0 r.1).0))

-- ---- the world found

least_low : (side : Side) → least_byte side ≤ 1
least_low Far = omega arith
least_low Near = omega arith

module _ (w : World) (options : Options) (found : World) (h : IsOpening w) (a : AlikeBy w options found) where
  stores : (side : Side) → IsStore (store w side)
  stores Far = h.world.in_order.far
  stores Near = h.world.in_order.near

  ends : (side : Side) → (store w side).next ≤ (store found side).next
  ends side = rise-ends (store w side).next (a.uids side) (store found side).next (a.rise side)

  abbrev added : Side → List Message
  added side = copies_under side (a.uids side) (marks_to w options side a.marks) (new_messages w options (towards side))

  -- what is so of old messages after the run and of copies is so of those found
  all_found : (side : Side) (P : Message → Type 0) → All P (staying w options side) → All P (added side) → All P (store found side).messages
  all_found side P old new = subst (λ ms. All P ms) (sym (a.messages side)) (All-append P (staying w options side) (added side) old new)

  stays_from : (side : Side) (P : Message → Type 0) →
      ((x : Message) → Contains (store w side).messages x → P (record { uid = x.uid; flags = flags_after (scene_of w options) side x.uid x.flags; bytes = x.bytes })) → All P (staying w options side)
  stays_from side P p =
      All-from_contains P (staying w options side)
      (λ m c.
      let r = map_contains (λ (x : Message). record { uid = x.uid; flags = flags_after (scene_of w options) side x.uid x.flags; bytes = x.bytes }) (filter (λ x. not (is_expunged (scene_of w options) side x.uid)) (store w side).messages) m c in
      subst P r.2 (p r.0 (filter_contains (λ (x : Message). not (is_expunged (scene_of w options) side x.uid)) (store w side).messages r.0 r.1).0))

  store_found : (side : Side) → IsStore (store found side)
  store_found side = record {
    rising = subst (λ ms. AllPairs (λ (x y : Message). x.uid < y.uid) ms) (sym (a.messages side))
        (AllPairs-append (λ (x y : Message). x.uid < y.uid) (staying w options side) (added side)
        (AllPairs-map (λ (x y : Message). x.uid < y.uid) (λ (x : Message). record { uid = x.uid; flags = flags_after (scene_of w options) side x.uid x.flags; bytes = x.bytes })
        (filter (λ (x : Message). not (is_expunged (scene_of w options) side x.uid)) (store w side).messages)
        (AllPairs-filter (λ (x y : Message). x.uid < y.uid) (λ (x : Message). not (is_expunged (scene_of w options) side x.uid)) (store w side).messages (stores side).rising))
        (copies_rising side (store w side).next (store found side).next (a.uids side) (marks_to w options side a.marks) (new_messages w options (towards side)) (a.rise side))
        (λ x y c d.
        let l : x.uid < (store w side).next = All-contains (λ (m : Message). m.uid < (store w side).next) (staying w options side) x (stays_below w options h.world.in_order side) c in
        let k : (store w side).next ≤ y.uid = All-contains (λ (m : Message). (store w side).next ≤ m.uid) (added side) y
        (copies_least side (store w side).next (store found side).next (a.uids side) (marks_to w options side a.marks) (new_messages w options (towards side)) (a.rise side)) d in
        omega arith));
    below = all_found side (λ (m : Message). m.uid < (store found side).next)
        (All-weaker (λ (m : Message). m.uid < (store w side).next) (λ m. m.uid < (store found side).next) (λ m l. let k = ends side in omega arith) (staying w options side) (stays_below w options h.world.in_order side))
        (copies_below side (store w side).next (store found side).next (a.uids side) (marks_to w options side a.marks) (new_messages w options (towards side)) (a.rise side));
  }

  -- ---- contents

  flags : (side : Side) → All (λ m. m.flags < 2 ^ FLAGS) (store w side).messages
  flags Far = h.world.far_flags
  flags Near = h.world.near_flags

  content_of : (side : Side) (m : Message) → Contains (store w side).messages m → IsContent (least_byte side) m.flags m.bytes
  content_of side m c = record {
    in_set = All-contains (λ (x : Message). x.flags < 2 ^ FLAGS) (store w side).messages m (flags side) c;
    in_range = All-contains (λ (x : Message). AreBytes (least_byte side) x.bytes) (store w side).messages m (h.mailbox side).bytes c;
  }

  uid_of_old : (side : Side) (m : Message) → Contains (store w side).messages m → 0 < m.uid
  uid_of_old side m c = All-contains (λ (x : Message). 0 < x.uid) (store w side).messages m (h.mailbox side).uids c

  news_from : (d : Direction) (P : Message → Type 0) → ((m : Message) → Contains (store w (source d)).messages m → is_new (scene_of w options) d (item_of (source d) m) ≡ true → P m) → All P (new_messages w options d)
  news_from d P p =
      All-from_contains P (new_messages w options d)
      (λ m c. let r = filter_contains (λ (x : Message). is_new (scene_of w options) d (item_of (source d) x)) (store w (source d)).messages m c in p m r.0 r.1)

  sources : (d : Direction) → All (IsSource (least_byte (target d))) (new_messages w options d)
  sources Pull = news_from Pull (IsSource 0) (λ m c n. let k = content_of Far m c in (k.in_set, All-weaker (InRange 1) (InRange 0) (λ b i. (omega arith, i.1)) m.bytes k.in_range))
  sources Push =
      news_from Push (IsSource 1)
      (λ m c n.
      let k = content_of Near m c in
      let fits = (and_parts (would_be_new (scene_of w options) Push (item_of Near m)) (fit Near m.bytes) n).1 in
      (k.in_set, without_nul m.bytes k.in_range (and_parts (list_all (λ b. not (b == 0)) m.bytes) (nat_le (length (crlf (content m.bytes))) size_limit) fits).0))

  marks_are : (side : Side) → All IsMark (marks_to w options side a.marks)
  marks_are Near = All-take IsMark (length (new_messages w options Pull)) a.marks a.are_marks.each
  marks_are Far = All-drop IsMark (length (new_messages w options Pull)) a.marks a.are_marks.each

  added_content : (side : Side) → All (λ m. IsContent (least_byte side) m.flags m.bytes) (added side)
  added_content Far = copies_content Far 1 (a.uids Far) (marks_to w options Far a.marks) (new_messages w options Push) (least_low Far) (marks_are Far) (sources Push)
  added_content Near = copies_content Near 0 (a.uids Near) (marks_to w options Near a.marks) (new_messages w options Pull) (least_low Near) (marks_are Near) (sources Pull)

  contents_found : (side : Side) → All (λ m. IsContent (least_byte side) m.flags m.bytes) (store found side).messages
  contents_found side =
      all_found side (λ (m : Message). IsContent (least_byte side) m.flags m.bytes)
      (stays_from side (λ (m : Message). IsContent (least_byte side) m.flags m.bytes)
      (λ m c. let k = content_of side m c in
      let y : IsContent (least_byte side) (flags_after (scene_of w options) side m.uid m.flags) m.bytes =
      record { in_set = flags_by_lt (scene_of w options) side m.flags (full_entry (scene_of w options) side m.uid) k.in_set; in_range = k.in_range } in y))
      (added_content side)

  flags_found : (side : Side) → All (λ m. m.flags < 2 ^ FLAGS) (store found side).messages
  flags_found side = All-weaker (λ (m : Message). IsContent (least_byte side) m.flags m.bytes) (λ m. m.flags < 2 ^ FLAGS) (λ m k. k.in_set) (store found side).messages (contents_found side)

  mailbox_found : (side : Side) → IsMailbox side (store found side)
  mailbox_found side =
      let up : 0 < (store w side).next = (h.mailbox side).next in
      let valid : 0 < (store w side).validity = (h.mailbox side).validity in
      let same : (store found side).validity ≡ (store w side).validity = a.validity side in
      record {
        validity = omega arith;
        next = let k = ends side in omega arith;
        uids = all_found side (λ (m : Message). 0 < m.uid) (stays_from side (λ (m : Message). 0 < m.uid) (λ m c. uid_of_old side m c))
            (All-weaker (λ (m : Message). (store w side).next ≤ m.uid) (λ m. 0 < m.uid) (λ m l. omega arith) (added side)
            (copies_least side (store w side).next (store found side).next (a.uids side) (marks_to w options side a.marks) (new_messages w options (towards side)) (a.rise side)));
        bytes = All-weaker (λ (m : Message). IsContent (least_byte side) m.flags m.bytes) (λ m. AreBytes (least_byte side) m.bytes) (λ m k. k.in_range) (store found side).messages (contents_found side);
      }

  -- ---- the state

  uids_up : (side : Side) → All (λ u. 0 < u) (a.uids side)
  uids_up side =
      let up : 0 < (store w side).next = (h.mailbox side).next in
      All-weaker (λ u. (store w side).next ≤ u) (λ u. 0 < u) (λ u l. omega arith) (a.uids side) (rise-least (store w side).next (a.uids side) (store found side).next (a.rise side))

  news_up : (d : Direction) → All (λ m. 0 < m.uid) (new_messages w options d)
  news_up d = news_from d (λ (m : Message). 0 < m.uid) (λ m c n. uid_of_old (source d) m c)

  news_in_set : (d : Direction) → All (λ m. m.flags < 2 ^ FLAGS) (new_messages w options d)
  news_in_set d = news_from d (λ (m : Message). m.flags < 2 ^ FLAGS) (λ m c n. (content_of (source d) m c).in_set)

  entries_from : (P : Entry → Type 0) → ((e : Entry) → Contains w.state.entries e → P (entry_after (scene_of w options) e)) →
      All P (pairs_under Pull (a.uids Near) (new_messages w options Pull)) → All P (pairs_under Push (a.uids Far) (new_messages w options Push)) → All P found.state.entries
  entries_from P old pulls pushes =
      All-permutation P (entries_after (scene_of w options) ++ pairs_under Pull (a.uids Near) (new_messages w options Pull) ++ pairs_under Push (a.uids Far) (new_messages w options Push)) found.state.entries a.state.entries
      (All-append P (entries_after (scene_of w options) ++ pairs_under Pull (a.uids Near) (new_messages w options Pull)) (pairs_under Push (a.uids Far) (new_messages w options Push))
      (All-append P (entries_after (scene_of w options)) (pairs_under Pull (a.uids Near) (new_messages w options Pull)) (kept_from (scene_of w options) P old) pulls) pushes)

  old_none : (side : Side) (e : Entry) → Contains w.state.entries e → NamesNone side (entry_after (scene_of w options) e)
  old_none Far e c = cleared_none (is_gone (scene_of w options) Pull e) e.far (All-contains (NamesNone Far) w.state.entries e (h.named Far) c)
  old_none Near e c = cleared_none (is_gone (scene_of w options) Push e) e.near (All-contains (NamesNone Near) w.state.entries e (h.named Near) c)

  later : IsLater found
  later = record {
    run = let e = a.state.run in omega arith;
    far_validity = a.state.far_validity ∙ sym (a.validity Far);
    near_validity = a.state.near_validity ∙ sym (a.validity Near);
    below = names_below w options found h.world.in_order (opening_names w h) a;
  }

  pub found_again : ArePairs found.state.entries → IsOpening found
  found_again pairs = record {
    world = record {
      in_order = record { far = store_found Far; near = store_found Near; pairs = pairs };
      far_flags = flags_found Far;
      near_flags = flags_found Near;
    };
    mailbox = mailbox_found;
    waiting = subst (λ fs. All IsFile fs) (sym a.waiting) (All-nil IsFile);
    named = λ side. entries_from (NamesNone side) (old_none side) (named_paired side Pull (a.uids Near) (new_messages w options Pull) (uids_up Near) (news_up Pull)) (named_paired side Push (a.uids Far) (new_messages w options Push) (uids_up Far) (news_up Push));
    recorded = entries_from (λ (e : Entry). e.flags < 2 ^ FLAGS)
        (λ e c. recorded_lt (scene_of w options) e.flags (pair_of (scene_of w options) e) (All-contains (λ (x : Entry). x.flags < 2 ^ FLAGS) w.state.entries e h.recorded c))
        (recorded_paired Pull (a.uids Near) (new_messages w options Pull) (news_in_set Pull)) (recorded_paired Push (a.uids Far) (new_messages w options Push) (news_in_set Push));
    unchanged = inr later;
  }

pub found_is_opening : FoundIsOpening
found_is_opening w options found h a pairs = found_again w options found h a pairs

-- ---- the admitted world

numbered_flags : (uids : List ℕ) (fs : List Waiting) → All IsFile fs → All (λ m. m.flags < 2 ^ FLAGS) (numbered_under uids fs)
numbered_flags [] fs h = All-nil (λ (m : Message). m.flags < 2 ^ FLAGS)
numbered_flags (u ∷ uids) [] h = All-nil (λ (m : Message). m.flags < 2 ^ FLAGS)
numbered_flags (u ∷ uids) (f ∷ fs) h =
    All-cons (λ (m : Message). m.flags < 2 ^ FLAGS) (record { uid = u; flags = f.flags; bytes = f.bytes }) (numbered_under uids fs) (All-head IsFile f fs h).in_set
    (numbered_flags uids fs (All-tail IsFile f fs h))

numbered_bytes : (uids : List ℕ) (fs : List Waiting) → All IsFile fs → All (λ m. AreBytes 0 m.bytes) (numbered_under uids fs)
numbered_bytes [] fs h = All-nil (λ (m : Message). AreBytes 0 m.bytes)
numbered_bytes (u ∷ uids) [] h = All-nil (λ (m : Message). AreBytes 0 m.bytes)
numbered_bytes (u ∷ uids) (f ∷ fs) h =
    All-cons (λ (m : Message). AreBytes 0 m.bytes) (record { uid = u; flags = f.flags; bytes = f.bytes }) (numbered_under uids fs) (All-head IsFile f fs h).bytes
    (numbered_bytes uids fs (All-tail IsFile f fs h))

pub admitted_is_opening : AdmittedIsOpening
admitted_is_opening w uids next h ad =
    let ends = rise-ends w.near.next uids next ad.rise in
    let first : 0 < w.near.next = (h.mailbox Near).next in
    let near : IsMailbox Near (admitted_under uids next w).near = record {
      validity = (h.mailbox Near).validity;
      next = omega arith;
      uids = All-append (λ (m : Message). 0 < m.uid) w.near.messages (numbered_under uids w.waiting) (h.mailbox Near).uids
          (All-weaker (λ (m : Message). w.near.next ≤ m.uid) (λ m. 0 < m.uid) (λ m l. omega arith) (numbered_under uids w.waiting) (numbered_least w.near.next uids next w.waiting ad.rise));
      bytes = All-append (λ (m : Message). AreBytes 0 m.bytes) w.near.messages (numbered_under uids w.waiting) (h.mailbox Near).bytes (numbered_bytes uids w.waiting h.waiting);
    } in
    record {
      world = record {
        in_order = admitted_sound w uids next h.world.in_order ad;
        far_flags = h.world.far_flags;
        near_flags = All-append (λ (m : Message). m.flags < 2 ^ FLAGS) w.near.messages (numbered_under uids w.waiting) h.world.near_flags (numbered_flags uids w.waiting h.waiting);
      };
      mailbox = by_side (h.mailbox Far) near;
      waiting = All-nil IsFile;
      named = h.named;
      recorded = h.recorded;
      unchanged = elim h.unchanged [
        | inl none ↦ inl none
        | inr later ↦ inr (record { run = later.run; far_validity = later.far_validity; near_validity = later.near_validity; below = admitted_names w uids next later.below ad })
      ];
    }
  where
    by_side : IsMailbox Far w.far → IsMailbox Near (admitted_under uids next w).near → (side : Side) → IsMailbox side (store (admitted_under uids next w) side)
    by_side far near Far = far
    by_side far near Near = near
