-- Worlds that are alike: as many messages and entries, and scenes of which one is the other under other UIDs.
use Rattle.std.proofs.Common.{◌≡◌, ◌<◌, ℕ, Bool, List, [], ◌∷◌, map, refl, sym, ap, ◌∙◌, inl, inr}
use Rattle.std.specs.List.{AllZip}
use Rattle.std.proofs.lemmas.Bool.{cases_lt}
use Rattle.std.proofs.lemmas.List.{length-map}
use Rattle.std.proofs.lemmas.List.Sorted.{Contains-permutation, IsPermutation-sym, length_permutation}
use Rattle.std.proofs.lemmas.Slice.Zip.{AllZip-long}
use Rattle.mailcore.specs.declared.side.Side.{Side}
use Rattle.mailcore.specs.declared.side.Side.TheVariants.{Far, Near}
use Rattle.mailcore.specs.declared.listing.Item.{Item}
use Rattle.mailcore.specs.declared.mailbox.Message.{Message}
use Rattle.mailcore.specs.Content.{fit}
use Rattle.mailcore.specs.Listed.{item_of}
use Rattle.rules.specs.declared.options.Options.{Options}
use Rattle.rules.specs.Alike.{Alike, IsFoundAs, copies_from}
use Rattle.rules.specs.Called.{called}
use Rattle.rules.specs.Entries.{ArePairs}
use Rattle.rules.specs.Renaming.{entry_under}
use Rattle.rules.specs.Scene.{Scene}
use Rattle.rules.specs.World.{World, scene_of, store}
use Rattle.rules.proofs.Walks.{Contains-map, map_contains}
use Rattle.law_outcome.specs.OtherUids.{item_under, propagation_under}
use Rattle.run_states.specs.Worlds.{HaveAsManyEntries, HaveAsManyMessages, NextIsNoMore, NextIsOfOutcome}
use Rattle.run_states.proofs.Moved.{AreImages, Moves, called_moved, moved}
use Rattle.run_states.proofs.NoMore.{only_sent}
use Rattle.run_states.proofs.OtherMarks.{fit_same}

-- ---- counts

pub as_many_messages : HaveAsManyMessages
as_many_messages opening outcome found a side = AllZip-long (IsFoundAs (a.to side) (copies_from opening side)) (store outcome side).messages (store found side).messages (a.messages side)

pub as_many_entries : HaveAsManyEntries
as_many_entries opening outcome found a = length_permutation (map (entry_under a.to) outcome.state.entries) found.state.entries a.entries ∙ length-map outcome.state.entries (entry_under a.to)

-- ---- scenes

found_fit : (side : Side) (t : ℕ → ℕ) (from : ℕ) (m f : Message) → IsFoundAs t from m f → fit side f.bytes ≡ fit side m.bytes
found_fit side t from m f h = elim (cases_lt m.uid from) [
  | inl old ↦ ap (λ (bs : List ℕ). fit side bs) (h.old old)
  | inr copy ↦ sym (fit_same side m.bytes f.bytes (h.copy copy))
]

found_item : (side : Side) (t : ℕ → ℕ) (from : ℕ) (m f : Message) → IsFoundAs t from m f → item_of side f ≡ item_under t (item_of side m)
found_item side t from m f h =
    let one : item_of side f ≡ record { uid = t m.uid; flags = f.flags; fit = fit side f.bytes } = ap (λ (u : ℕ). record { uid = u; flags = f.flags; fit = fit side f.bytes }) h.uid in
    let two : item_of side f ≡ record { uid = t m.uid; flags = m.flags; fit = fit side f.bytes } = one ∙ ap (λ (n : ℕ). record { uid = t m.uid; flags = n; fit = fit side f.bytes }) h.flags in
    two ∙ ap (λ (b : Bool). record { uid = t m.uid; flags = m.flags; fit = b }) (found_fit side t from m f h)

found_items : (side : Side) (t : ℕ → ℕ) (from : ℕ) (ms fs : List Message) → AllZip (IsFoundAs t from) ms fs → map (item_of side) fs ≡ map (item_under t) (map (item_of side) ms)
found_items side t from [] [] h = refl
found_items side t from [] (f ∷ fs) h = absurd h
found_items side t from (m ∷ ms) [] h = absurd h
found_items side t from (m ∷ ms) (f ∷ fs) h =
    ap (λ (i : Item). i ∷ map (item_of side) fs) (found_item side t from m f h.0)
    ∙ ap (λ (is : List Item). item_under t (item_of side m) ∷ is) (found_items side t from ms fs h.1)

module _ (opening outcome found : World) (options : Options) (a : Alike opening outcome found) where
  scene_moved : scene_of found options ≡ moved a.to (scene_of outcome options) found.state.entries
  scene_moved =
      let s = scene_of outcome options in
      ap (λ (is : List Item). record (scene_of found options) { far = is }) (found_items Far (a.to Far) (copies_from opening Far) outcome.far.messages found.far.messages (a.messages Far))
      ∙ ap (λ (is : List Item). record (scene_of found options) { far = map (item_under (a.to Far)) s.far; near = is }) (found_items Near (a.to Near) (copies_from opening Near) outcome.near.messages found.near.messages (a.messages Near))
      ∙ ap (λ (n : ℕ). record (moved a.to s found.state.entries) { max_pulled = n; max_pushed = found.state.max_pushed }) a.max_pulled
      ∙ ap (λ (n : ℕ). record (moved a.to s found.state.entries) { max_pushed = n }) a.max_pushed

  images : AreImages (entry_under a.to) outcome.state.entries found.state.entries
  images =
      let es = map (entry_under a.to) outcome.state.entries in
      record {
        there = λ e c. Contains-permutation es found.state.entries (entry_under a.to e) a.entries (Contains-map (entry_under a.to) outcome.state.entries e (entry_under a.to e) c refl);
        back = λ y c. map_contains (entry_under a.to) outcome.state.entries y (Contains-permutation found.state.entries es y (IsPermutation-sym es found.state.entries a.entries) c);
      }

  moves : ((side : Side) → 0 < (store opening side).next) → ArePairs found.state.entries → Moves a.to (scene_of outcome options) found.state.entries
  moves above pairs = record { next = λ side. (store opening side).next; some = above; renames = a.renames; images = images; pairs = pairs }

pub next_is : NextIsOfOutcome
next_is opening outcome found options a above pairs q =
    ap (λ (s : Scene). called s (propagation_under a.to q)) (scene_moved opening outcome found options a)
    ∙ called_moved a.to (scene_of outcome options) found.state.entries (moves opening outcome found options a above pairs) q

pub next_is_no_more : NextIsNoMore
next_is_no_more opening outcome found options a above pairs p h =
    only_sent a.to (scene_of outcome options) found.state.entries (moves opening outcome found options a above pairs) p
    (ap (λ (s : Scene). called s p) (sym (scene_moved opening outcome found options a)) ∙ h)
