-- Worlds and the scenes that they show: messages by their listed items, and how many marks there are.
use Rattle.std.proofs.Common.{◌≡◌, ℕ, ◌+◌, ◌<◌, Bool, true, false, cond, List, [], ◌∷◌, length, map, refl, sym, ap, ◌∙◌, arith, length-take, length-drop}
use Rattle.std.specs.Prelude.{Contains, filter, count_by}
use Rattle.std.proofs.lemmas.List.{length-map}
use Rattle.std.proofs.lemmas.List.Sums.{length-filter}
use Rattle.mailcore.specs.declared.side.Side.{Side}
use Rattle.mailcore.specs.declared.side.Side.TheVariants.{Far, Near}
use Rattle.mailcore.specs.declared.side.Direction.{Direction}
use Rattle.mailcore.specs.declared.side.Direction.TheVariants.{Pull, Push}
use Rattle.mailcore.specs.declared.listing.Item.{Item}
use Rattle.mailcore.specs.declared.mailbox.Message.{Message}
use Rattle.mailcore.specs.Sides.{source, towards}
use Rattle.mailcore.specs.Listed.{IsRising, item_of}
use Rattle.rules.specs.declared.options.Options.{Options}
use Rattle.rules.specs.Scene.{Scene, items}
use Rattle.rules.specs.Called.{is_new}
use Rattle.rules.specs.Outcome.{news, count_new}
use Rattle.rules.specs.World.{World, IsInOrder, IsStore, store, scene_of}
use Rattle.rules.specs.WorldAfter.{new_messages, marks_to}
use Rattle.rules.proofs.Walks.{Contains-map, map_contains, AllPairs-map}

-- ---- messages and their items

pub listed : (w : World) (options : Options) (side : Side) (m : Message) → Contains (store w side).messages m → Contains (items (scene_of w options) side) (item_of side m)
listed w options Far m c = Contains-map (item_of Far) w.far.messages m (item_of Far m) c refl
listed w options Near m c = Contains-map (item_of Near) w.near.messages m (item_of Near m) c refl

pub stored : (w : World) (options : Options) (side : Side) (i : Item) → Contains (items (scene_of w options) side) i → (m : Message) × Contains (store w side).messages m × (m.uid ≡ i.uid)
stored w options Far i c = let r = map_contains (item_of Far) w.far.messages i c in (r.0, r.1, ap (λ (j : Item). j.uid) r.2)
stored w options Near i c = let r = map_contains (item_of Near) w.near.messages i c in (r.0, r.1, ap (λ (j : Item). j.uid) r.2)

pub store_is : (w : World) → IsInOrder w → (side : Side) → IsStore (store w side)
store_is w h Far = h.far
store_is w h Near = h.near

pub rising : (w : World) (options : Options) → IsInOrder w → (side : Side) → IsRising (items (scene_of w options) side)
rising w options h Far = AllPairs-map (λ (a b : Item). a.uid < b.uid) (item_of Far) w.far.messages h.far.rising
rising w options h Near = AllPairs-map (λ (a b : Item). a.uid < b.uid) (item_of Near) w.near.messages h.near.rising

-- ---- new messages and their marks

filter-map : {X Y : Type 0} (p : Y → Bool) (f : X → Y) (xs : List X) → filter p (map f xs) ≡ map f (filter (λ x. p (f x)) xs)
filter-map p f [] = refl
filter-map p f (x ∷ xs) = by_test (p (f x)) (filter-map p f xs)
  where
    by_test : (b : Bool) → filter p (map f xs) ≡ map f (filter (λ x. p (f x)) xs) →
        cond b (f x ∷ filter p (map f xs)) (filter p (map f xs)) ≡ map f (cond b (x ∷ filter (λ x. p (f x)) xs) (filter (λ x. p (f x)) xs))
    by_test true e = ap (λ ys. f x ∷ ys) e
    by_test false e = e

pub news_are : (w : World) (options : Options) (d : Direction) → news (scene_of w options) d ≡ map (item_of (source d)) (new_messages w options d)
news_are w options Pull = filter-map (is_new (scene_of w options) Pull) (item_of Far) w.far.messages
news_are w options Push = filter-map (is_new (scene_of w options) Push) (item_of Near) w.near.messages

pub wanted : (s : Scene) → count_new s ≡ length (news s Pull) + length (news s Push)
wanted s = sym (ap (λ x. x + length (news s Push)) (length-filter (is_new s Pull) s.far) ∙ ap (λ x. count_by (is_new s Pull) s.far + x) (length-filter (is_new s Push) s.near))

-- a mark for each message that is copied
pub marks_counted : (w : World) (options : Options) (marks : List (List ℕ)) → length marks ≡ count_new (scene_of w options) →
    length marks ≡ length (new_messages w options Pull) + length (new_messages w options Push)
marks_counted w options marks l =
    let a : length (news (scene_of w options) Pull) ≡ length (new_messages w options Pull) = ap (λ (is : List Item). length is) (news_are w options Pull) ∙ length-map (new_messages w options Pull) (item_of Far) in
    let b : length (news (scene_of w options) Push) ≡ length (new_messages w options Push) = ap (λ (is : List Item). length is) (news_are w options Push) ∙ length-map (new_messages w options Push) (item_of Near) in
    l ∙ wanted (scene_of w options) ∙ ap (λ n. n + length (news (scene_of w options) Push)) a ∙ ap (λ n. length (new_messages w options Pull) + n) b

pub marks_to_counted : (w : World) (options : Options) (marks : List (List ℕ)) → length marks ≡ count_new (scene_of w options) → (side : Side) →
    length (marks_to w options side marks) ≡ length (new_messages w options (towards side))
marks_to_counted w options marks l Near = let c = marks_counted w options marks l in simp length-take (omega arith)
marks_to_counted w options marks l Far = let c = marks_counted w options marks l in simp length-drop (omega arith)
