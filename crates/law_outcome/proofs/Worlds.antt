-- A world whose messages have other UIDs: what stays, what is new, and the entries.
use Rattle.std.proofs.Common.{◌≡◌, ◌<◌, ◌+◌, ℕ, Bool, true, false, cond, List, [], ◌∷◌, ◌++◌, Option, Some, None, length, map, refl, sym, ap, ◌∙◌, subst, arith}
use Rattle.std.specs.Prelude.{All, filter, not, unwrap_or}
use Rattle.std.specs.Option.{option_map}
use Rattle.std.proofs.lemmas.List.{map-append}
use Rattle.std.proofs.lemmas.List.Elements.{All-contains, All-head, All-tail}
use Rattle.mailcore.specs.declared.side.Side.{Side}
use Rattle.mailcore.specs.declared.side.Side.TheVariants.{Far, Near}
use Rattle.mailcore.specs.declared.side.Direction.{Direction}
use Rattle.mailcore.specs.declared.side.Direction.TheVariants.{Pull, Push}
use Rattle.mailcore.specs.declared.listing.Item.{Item}
use Rattle.mailcore.specs.declared.mailbox.Message.{Message}
use Rattle.mailcore.specs.Sides.{source}
use Rattle.mailcore.specs.Listed.{item_of}
use Rattle.rules.specs.declared.entry.Entry.{Entry}
use Rattle.rules.specs.declared.state.SyncState.{SyncState}
use Rattle.rules.specs.declared.options.Options.{Options}
use Rattle.rules.specs.Propagation.{Drop}
use Rattle.rules.specs.Entries.{uid_of}
use Rattle.rules.specs.Scene.{Scene}
use Rattle.rules.specs.Called.{is_new, is_gone, is_expunged, flags_after, called}
use Rattle.rules.specs.Outcome.{new_among, entry_after, entries_after, highest_after}
use Rattle.rules.specs.World.{World, Waiting, store, scene_of}
use Rattle.rules.specs.WorldAfter.{new_messages, staying}
use Rattle.rules.specs.Copies.{pairs_under}
use Rattle.rules.specs.Admission.{numbered_under}
use Rattle.rules.specs.Renaming.{IsRenaming, entry_under}
use Rattle.rules.proofs.Walks.{All-from_contains, filter_contains, map_contains}
use Rattle.law_outcome.proofs.Maps.{Follows}
use Rattle.law_outcome.specs.OtherUids.{item_under, scene_under, KeepsNamed}
use Rattle.law_outcome.proofs.Scenes.{is_new_sent}
use Rattle.law_outcome.proofs.Fates.{flags_after_sent, is_expunged_sent, entries_after_same, highest_after_sent}
use Rattle.law_outcome.proofs.InTurn.{pulled, pushed, numbered_from}

abbrev pub sent : (ℕ → ℕ) → Message → Message
sent t m = record { uid = t m.uid; flags = m.flags; bytes = m.bytes }

-- the second world is the first one under other UIDs
pub record IsSent (to : Side → ℕ → ℕ) (a w : World) : Type 0 where
  pub messages : (side : Side) → (store w side).messages ≡ map (sent (to side)) (store a side).messages
  pub validity : (side : Side) → (store w side).validity ≡ (store a side).validity
  pub state : w.state ≡ a.state

-- ---- walks

filter_sent : {X Y : Type 0} (f : X → Y) (p : Y → Bool) (q : X → Bool) → ((x : X) → p (f x) ≡ q x) → (xs : List X) → filter p (map f xs) ≡ map f (filter q xs)
filter_sent f p q h [] = refl
filter_sent f p q h (x ∷ xs) = by_test (p (f x)) (q x) (h x) (filter_sent f p q h xs)
  where
    by_test : (b c : Bool) → b ≡ c → filter p (map f xs) ≡ map f (filter q xs) → cond b (f x ∷ filter p (map f xs)) (filter p (map f xs)) ≡ map f (cond c (x ∷ filter q xs) (filter q xs))
    by_test true true e rest = ap (λ ys. f x ∷ ys) rest
    by_test true false e rest = cc
    by_test false true e rest = cc
    by_test false false e rest = rest

map_sent : {X Y Z W : Type 0} (f : X → Y) (g : Y → W) (h : X → Z) (k : Z → W) → ((x : X) → g (f x) ≡ k (h x)) → (xs : List X) → map g (map f xs) ≡ map k (map h xs)
map_sent f g h k e [] = refl
map_sent f g h k e (x ∷ xs) = ap (λ y. y ∷ map g (map f xs)) (e x) ∙ ap (λ ys. k (h x) ∷ ys) (map_sent f g h k e xs)

pub fixed : (next : ℕ) (t : ℕ → ℕ) → IsRenaming next t → (ms : List Message) → All (λ m. m.uid < next) ms → ms ≡ map (sent t) ms
fixed next t h [] below = refl
fixed next t h (m ∷ ms) below =
    ap (λ n. record { uid = n; flags = m.flags; bytes = m.bytes } ∷ ms) (sym (h.same m.uid (All-head (λ (x : Message). x.uid < next) m ms below)))
    ∙ ap (λ xs. sent t m ∷ xs) (fixed next t h ms (All-tail (λ (x : Message). x.uid < next) m ms below))

pub numbered_sent : (t : ℕ → ℕ) (k : ℕ) (uids : List ℕ) (fs : List Waiting) → length uids ≡ length fs → Follows t k uids → numbered_under uids fs ≡ map (sent t) (numbered_from k fs)
numbered_sent t k [] [] l h = refl
numbered_sent t k [] (f ∷ fs) l h = absurd (omega arith)
numbered_sent t k (u ∷ uids) [] l h = absurd (omega arith)
numbered_sent t k (u ∷ uids) (f ∷ fs) l h =
    ap (λ n. record { uid = n; flags = f.flags; bytes = f.bytes } ∷ numbered_under uids fs) (sym h.0)
    ∙ ap (λ ms. record { uid = t k; flags = f.flags; bytes = f.bytes } ∷ ms) (numbered_sent t (k + 1) uids fs (omega arith) h.1)

-- ---- what stays and what is new, by the scene

abbrev pub stay_of : Scene → Side → List Message → List Message
stay_of s side ms = map (λ m. record { uid = m.uid; flags = flags_after s side m.uid m.flags; bytes = m.bytes }) (filter (λ m. not (is_expunged s side m.uid)) ms)

abbrev pub new_of : Scene → Direction → List Message → List Message
new_of s d ms = new_among (item_of (source d)) s d ms

module _ (to : Side → ℕ → ℕ) (s : Scene) (k : KeepsNamed to s) where
  stay_sent : (side : Side) (ms : List Message) → stay_of (scene_under to s) side (map (sent (to side)) ms) ≡ map (sent (to side)) (stay_of s side ms)
  stay_sent side ms =
      ap (λ xs. map (λ (m : Message). record { uid = m.uid; flags = flags_after (scene_under to s) side m.uid m.flags; bytes = m.bytes }) xs)
      (filter_sent (sent (to side)) (λ m. not (is_expunged (scene_under to s) side m.uid)) (λ m. not (is_expunged s side m.uid)) (λ m. ap (λ b. not b) (is_expunged_sent to s k side m.uid)) ms)
      ∙ map_sent (sent (to side)) (λ m. record { uid = m.uid; flags = flags_after (scene_under to s) side m.uid m.flags; bytes = m.bytes })
      (λ m. record { uid = m.uid; flags = flags_after s side m.uid m.flags; bytes = m.bytes }) (sent (to side))
      (λ m. ap (λ x. record { uid = to side m.uid; flags = x; bytes = m.bytes }) (flags_after_sent to s k side m.uid m.flags))
      (filter (λ m. not (is_expunged s side m.uid)) ms)

  new_sent : (d : Direction) (ms : List Message) → new_of (scene_under to s) d (map (sent (to (source d))) ms) ≡ map (sent (to (source d))) (new_of s d ms)
  new_sent d ms =
      filter_sent (sent (to (source d))) (λ m. is_new (scene_under to s) d (item_of (source d) m)) (λ m. is_new s d (item_of (source d) m))
      (λ m. is_new_sent to s k d (item_of (source d) m)) ms

-- ---- the world

items_sent : (side : Side) (t : ℕ → ℕ) (ms : List Message) → map (item_of side) (map (sent t) ms) ≡ map (item_under t) (map (item_of side) ms)
items_sent side t [] = refl
items_sent side t (m ∷ ms) = ap (λ is. item_of side (sent t m) ∷ is) (items_sent side t ms)

abbrev scene_by : List Item → List Item → SyncState → Options → Scene
scene_by far near state options = record { far = far; near = near; entries = state.entries; max_pulled = state.max_pulled; max_pushed = state.max_pushed; options = options }

pub scene_is : (to : Side → ℕ → ℕ) (a w : World) (options : Options) → IsSent to a w → scene_of w options ≡ scene_under to (scene_of a options)
scene_is to a w options h =
    ap (λ is. scene_by is (map (item_of Near) w.near.messages) w.state options) (ap (λ ms. map (item_of Far) ms) (h.messages Far) ∙ items_sent Far (to Far) a.far.messages)
    ∙ ap (λ is. scene_by (map (item_under (to Far)) (map (item_of Far) a.far.messages)) is w.state options) (ap (λ ms. map (item_of Near) ms) (h.messages Near) ∙ items_sent Near (to Near) a.near.messages)
    ∙ ap (λ st. scene_by (map (item_under (to Far)) (map (item_of Far) a.far.messages)) (map (item_under (to Near)) (map (item_of Near) a.near.messages)) st options) h.state

module _ (to : Side → ℕ → ℕ) (a w : World) (options : Options) (h : IsSent to a w) (k : KeepsNamed to (scene_of a options)) where
  pub staying_sent : (side : Side) → staying w options side ≡ map (sent (to side)) (staying a options side)
  staying_sent side =
      ap (λ ms. stay_of (scene_of w options) side ms) (h.messages side)
      ∙ ap (λ x. stay_of x side (map (sent (to side)) (store a side).messages)) (scene_is to a w options h)
      ∙ stay_sent to (scene_of a options) k side (store a side).messages

  pub new_messages_sent : (d : Direction) → new_messages w options d ≡ map (sent (to (source d))) (new_messages a options d)
  new_messages_sent d =
      ap (λ ms. new_of (scene_of w options) d ms) (h.messages (source d))
      ∙ ap (λ x. new_of x d (map (sent (to (source d))) (store a (source d)).messages)) (scene_is to a w options h)
      ∙ new_sent to (scene_of a options) k d (store a (source d)).messages

  pub entries_sent : entries_after (scene_of w options) ≡ entries_after (scene_of a options)
  entries_sent = ap (λ x. entries_after x) (scene_is to a w options h) ∙ entries_after_same to (scene_of a options) k

  pub highest_sent : (d : Direction) → highest_after (scene_of w options) d ≡ to (source d) (highest_after (scene_of a options) d)
  highest_sent d = ap (λ x. highest_after x d) (scene_is to a w options h) ∙ highest_after_sent to (scene_of a options) k d

-- ---- entries under other UIDs

option_fixed : (next : ℕ) (t : ℕ → ℕ) → IsRenaming next t → (o : Option ℕ) → unwrap_or o 0 < next → option_map t o ≡ o
option_fixed next t h None l = refl
option_fixed next t h (Some u) l = ap (λ n. Some n) (h.same u l)

entries_fixed : (next : Side → ℕ) (to : Side → ℕ → ℕ) → ((side : Side) → IsRenaming (next side) (to side)) → (es : List Entry) → ((side : Side) → All (λ e. uid_of side e < next side) es) → map (entry_under to) es ≡ es
entries_fixed next to h [] below = refl
entries_fixed next to h (e ∷ es) below =
    ap (λ o. record { far = o; near = option_map (to Near) e.near; flags = e.flags } ∷ map (entry_under to) es) (option_fixed (next Far) (to Far) (h Far) e.far (All-head (λ (x : Entry). uid_of Far x < next Far) e es (below Far)))
    ∙ ap (λ o. record { far = e.far; near = o; flags = e.flags } ∷ map (entry_under to) es) (option_fixed (next Near) (to Near) (h Near) e.near (All-head (λ (x : Entry). uid_of Near x < next Near) e es (below Near)))
    ∙ ap (λ xs. e ∷ xs) (entries_fixed next to h es (λ side. All-tail (λ (x : Entry). uid_of side x < next side) e es (below side)))

cleared : (b : Bool) (o : Option ℕ) (next : ℕ) → unwrap_or o 0 < next → unwrap_or (cond b None o) 0 < next
cleared true o next l = omega arith
cleared false o next l = l

-- the entries that stay name no more than those before
pub kept_below : (s : Scene) (next : Side → ℕ) → ((side : Side) → All (λ e. uid_of side e < next side) s.entries) → (side : Side) → All (λ e. uid_of side e < next side) (entries_after s)
kept_below s next h side =
    All-from_contains (λ (e : Entry). uid_of side e < next side) (entries_after s)
    (λ e c.
    let r = map_contains (entry_after s) (filter (λ (x : Entry). not (called s (Drop (uid_of Far x) (uid_of Near x)))) s.entries) e c in
    let old = (filter_contains (λ (x : Entry). not (called s (Drop (uid_of Far x) (uid_of Near x)))) s.entries r.0 r.1).0 in
    subst (λ x. uid_of side x < next side) r.2 (by_side side r.0 (All-contains (λ (x : Entry). uid_of side x < next side) s.entries r.0 (h side) old)))
  where
    by_side : (side : Side) (e : Entry) → uid_of side e < next side → uid_of side (entry_after s e) < next side
    by_side Far e l = cleared (is_gone s Pull e) e.far (next Far) l
    by_side Near e l = cleared (is_gone s Push e) e.near (next Near) l

pub pulled_under : (to : Side → ℕ → ℕ) (k : ℕ) (uids : List ℕ) (ms : List Message) → length uids ≡ length ms → Follows (to Near) k uids →
    map (entry_under to) (pulled k ms) ≡ pairs_under Pull uids (map (sent (to Far)) ms)
pulled_under to k [] [] l h = refl
pulled_under to k [] (m ∷ ms) l h = absurd (omega arith)
pulled_under to k (u ∷ uids) [] l h = absurd (omega arith)
pulled_under to k (u ∷ uids) (m ∷ ms) l h =
    ap (λ n. record { far = Some (to Far m.uid); near = Some n; flags = m.flags } ∷ map (entry_under to) (pulled (k + 1) ms)) h.0
    ∙ ap (λ es. record { far = Some (to Far m.uid); near = Some u; flags = m.flags } ∷ es) (pulled_under to (k + 1) uids ms (omega arith) h.1)

pub pushed_under : (to : Side → ℕ → ℕ) (k : ℕ) (uids : List ℕ) (ms : List Message) → length uids ≡ length ms → Follows (to Far) k uids →
    map (entry_under to) (pushed k ms) ≡ pairs_under Push uids (map (sent (to Near)) ms)
pushed_under to k [] [] l h = refl
pushed_under to k [] (m ∷ ms) l h = absurd (omega arith)
pushed_under to k (u ∷ uids) [] l h = absurd (omega arith)
pushed_under to k (u ∷ uids) (m ∷ ms) l h =
    ap (λ n. record { far = Some n; near = Some (to Near m.uid); flags = m.flags } ∷ map (entry_under to) (pushed (k + 1) ms)) h.0
    ∙ ap (λ es. record { far = Some u; near = Some (to Near m.uid); flags = m.flags } ∷ es) (pushed_under to (k + 1) uids ms (omega arith) h.1)

-- the entries of the second world's run are those of the first one's under the maps
pub all_entries : (to : Side → ℕ → ℕ) (next : Side → ℕ) (kept : List Entry) (k n : ℕ) (near_uids far_uids : List ℕ) (pulls pushes : List Message) →
    ((side : Side) → IsRenaming (next side) (to side)) → ((side : Side) → All (λ e. uid_of side e < next side) kept) →
    length near_uids ≡ length pulls → length far_uids ≡ length pushes → Follows (to Near) k near_uids → Follows (to Far) n far_uids →
    map (entry_under to) (kept ++ pulled k pulls ++ pushed n pushes) ≡ kept ++ pairs_under Pull near_uids (map (sent (to Far)) pulls) ++ pairs_under Push far_uids (map (sent (to Near)) pushes)
all_entries to next kept k n near_uids far_uids pulls pushes h below l m f g =
    map-append (entry_under to) (kept ++ pulled k pulls) (pushed n pushes)
    ∙ ap (λ es. es ++ map (entry_under to) (pushed n pushes)) (map-append (entry_under to) kept (pulled k pulls))
    ∙ ap (λ es. es ++ map (entry_under to) (pulled k pulls) ++ map (entry_under to) (pushed n pushes)) (entries_fixed next to h kept below)
    ∙ ap (λ es. kept ++ es ++ map (entry_under to) (pushed n pushes)) (pulled_under to k near_uids pulls l f)
    ∙ ap (λ es. kept ++ pairs_under Pull near_uids (map (sent (to Far)) pulls) ++ es) (pushed_under to n far_uids pushes m g)
