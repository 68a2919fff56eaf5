-- The scene after a run where Expunge covers no side, from the world before.
use Rattle.std.proofs.Common.{◌≡◌, ℕ, ◌<◌, ◌≤◌, false, not, List, [], ◌∷◌, ◌++◌, Some, None, map, ap, ◌∙◌, inl, inr, arith}
use Rattle.std.specs.Prelude.{Contains, ◌&&◌, ◌==◌}
use Rattle.std.specs.Option.{option_map}
use Rattle.std.proofs.lemmas.Bool.{both_ways, and_parts, not_from_false, ne_eqb, false_from_ne_true}
use Rattle.std.proofs.lemmas.List.Elements.{All-contains}
use Rattle.mailcore.specs.declared.side.Side.{Side}
use Rattle.mailcore.specs.declared.side.Direction.{Direction}
use Rattle.mailcore.specs.declared.listing.Item.{Item}
use Rattle.mailcore.specs.declared.mailbox.Message.{Message}
use Rattle.mailcore.specs.Sides.{source, towards}
use Rattle.mailcore.specs.Listed.{AreBelow, item_of}
use Rattle.mailcore.specs.Rise.{Rise}
use Rattle.rules.specs.declared.entry.Entry.{Entry}
use Rattle.rules.specs.declared.options.Options.{Options}
use Rattle.rules.specs.Options.{covers}
use Rattle.rules.specs.Entries.{uid_of, is_full}
use Rattle.rules.specs.Scene.{Scene, is_paired, full_entry}
use Rattle.rules.specs.Called.{is_new, is_expunged, flags_by, flags_after}
use Rattle.rules.specs.Outcome.{greatest}
use Rattle.rules.specs.World.{World, IsStore, store, scene_of}
use Rattle.rules.specs.Copies.{copies_under}
use Rattle.rules.specs.WorldAfter.{new_messages, staying, marks_to, messages_under}
use Rattle.rules.proofs.Walks.{Contains-cases, Contains-none, filter_contains, filter_all, map_contains, list_any_from, find_none}
use Rattle.law_outcome.proofs.Unpaired.{IsNew, new_says}
use Rattle.law_outcome.proofs.After.{not_expunged}
use Rattle.law_outcome.proofs.ListedAfter.{stored_at, with_flags, at_message, at_before, at_after, at_changed, copies_above}

-- ---- the messages of a side

abbrev pub old_after : World → Options → Side → List Message
old_after w options side = map (with_flags (flags_after (scene_of w options) side)) (store w side).messages

staying_is : (w : World) (options : Options) (side : Side) → covers options.expunge side ≡ false → staying w options side ≡ old_after w options side
staying_is w options side h =
    ap (λ ms. map (with_flags (flags_after (scene_of w options) side)) ms)
    (filter_all (λ (m : Message). not (is_expunged (scene_of w options) side m.uid)) (λ m. not_from_false _ (not_expunged (scene_of w options) side m.uid h)) (store w side).messages)

abbrev pub copies_to : World → Options → (uids : List ℕ) → (marks : List (List ℕ)) → Side → List Message
copies_to w options uids marks side = copies_under side uids (marks_to w options side marks) (new_messages w options (towards side))

pub after_is : (w : World) (options : Options) (uids : List ℕ) (marks : List (List ℕ)) (side : Side) → covers options.expunge side ≡ false →
    messages_under w options side uids marks ≡ old_after w options side ++ copies_to w options uids marks side
after_is w options uids marks side h = ap (λ ms. ms ++ copies_to w options uids marks side) (staying_is w options side h)

-- an old message after the run has the UID of one before
pub old_from : (w : World) (options : Options) (side : Side) (m : Message) → Contains (old_after w options side) m → (x : Message) × Contains (store w side).messages x × (x.uid ≡ m.uid)
old_from w options side m c =
    let r = map_contains (with_flags (flags_after (scene_of w options) side)) (store w side).messages m c in
    (r.0, r.1, ap (λ (x : Message). x.uid) r.2)

-- below the UIDs of the copies stand the old messages, with their flags after
pub stored_below : (w : World) (options : Options) (uids : List ℕ) (next : ℕ) (marks : List (List ℕ)) (side : Side) (u : ℕ) → Rise (store w side).next uids next → covers options.expunge side ≡ false → u < (store w side).next →
    stored_at side (messages_under w options side uids marks) u ≡ option_map (flags_after (scene_of w options) side u) (stored_at side (store w side).messages u)
stored_below w options uids next marks side u r h l =
    ap (λ ms. stored_at side ms u) (after_is w options uids marks side h)
    ∙ at_before side (old_after w options side) (copies_to w options uids marks side) u
    (λ m c. let above : (store w side).next ≤ m.uid = copies_above side (store w side).next uids next (marks_to w options side marks) (new_messages w options (towards side)) m r c in ne_eqb m.uid u (omega arith))
    ∙ at_changed side (flags_after (scene_of w options) side) (store w side).messages u

-- and from there on the copies
pub stored_above : (w : World) (options : Options) (uids : List ℕ) (marks : List (List ℕ)) (side : Side) (u : ℕ) → covers options.expunge side ≡ false → AreBelow (store w side).messages (store w side).next → (store w side).next ≤ u →
    stored_at side (messages_under w options side uids marks) u ≡ stored_at side (copies_to w options uids marks side) u
stored_above w options uids marks side u h below l =
    ap (λ ms. stored_at side ms u) (after_is w options uids marks side h)
    ∙ at_after side (old_after w options side) (copies_to w options uids marks side) u
    (λ m c. let r = old_from w options side m c in
    let less : r.0.uid < (store w side).next = All-contains (λ (x : Message). x.uid < (store w side).next) (store w side).messages r.0 below r.1 in
    let same : r.0.uid ≡ m.uid = r.2 in ne_eqb m.uid u (omega arith))

-- ---- new messages keep their flags

no_entry : (s : Scene) (side : Side) (u : ℕ) → is_paired s side u ≡ false → full_entry s side u ≡ None
no_entry s side u h =
    find_none (λ (e : Entry). is_full e && uid_of side e == u) s.entries
    (λ e c. false_from_ne_true _ (λ t. both_ways (is_paired s side u) h (list_any_from (λ (x : Entry). uid_of side x == u) s.entries e c (and_parts (is_full e) (uid_of side e == u) t).1)))

same_flags : (s : Scene) (side : Side) (u x : ℕ) → is_paired s side u ≡ false → flags_after s side u x ≡ x
same_flags s side u x h = ap (λ o. flags_by s side x o) (no_entry s side u h)

-- what is so of a message that is copied
pub record IsCopiedFrom (w : World) (options : Options) (d : Direction) (m : Message) : Type 0 where
  pub there : Contains (store w (source d)).messages m
  pub new : IsNew (scene_of w options) d m.uid

pub copied_from : (w : World) (options : Options) (d : Direction) (m : Message) → Contains (new_messages w options d) m → IsCopiedFrom w options d m
copied_from w options d m c =
    let r = filter_contains (λ (x : Message). is_new (scene_of w options) d (item_of (source d) x)) (store w (source d)).messages m c in
    record { there = r.0; new = new_says (scene_of w options) d (item_of (source d) m) r.1 }

pub from_flags : (w : World) (options : Options) (uids : List ℕ) (next : ℕ) (marks : List (List ℕ)) (d : Direction) (m : Message) → Rise (store w (source d)).next uids next → covers options.expunge (source d) ≡ false → IsStore (store w (source d)) → IsCopiedFrom w options d m →
    stored_at (source d) (messages_under w options (source d) uids marks) m.uid ≡ Some m.flags
from_flags w options uids next marks d m r h s f =
    stored_below w options uids next marks (source d) m.uid r h (All-contains (λ (x : Message). x.uid < (store w (source d)).next) (store w (source d)).messages m s.below f.there)
    ∙ ap (λ o. option_map (flags_after (scene_of w options) (source d) m.uid) o) (at_message (source d) (store w (source d)).messages s.rising m f.there)
    ∙ ap (λ x. Some x) (same_flags (scene_of w options) (source d) m.uid m.flags f.new.unpaired)

-- ---- the highest UIDs

pub at_most_greatest : (is : List Item) (i : Item) → Contains is i → i.uid ≤ greatest is
at_most_greatest [] i c = absurd (Contains-none i c)
at_most_greatest (x ∷ is) i c = elim (Contains-cases x i is c) [
  | inl same ↦ let e : x.uid ≡ i.uid = ap (λ (y : Item). y.uid) same in omega arith
  | inr rest ↦ let l : i.uid ≤ greatest is = at_most_greatest is i rest in omega arith
]
