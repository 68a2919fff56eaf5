-- The whole plan, step after step: the messages that stay, with their flags after, and then the copies.
use Rattle.std.proofs.Common.{◌≡◌, ℕ, ◌+◌, ◌<◌, ◌≤◌, Bool, true, false, cond, List, [], ◌∷◌, ◌++◌, Option, length, map, drop, refl, sym, ap, ◌∙◌, subst, arith, append-nil, length-take, length-drop}
use Rattle.std.specs.Prelude.{All, Contains, filter, not}
use Rattle.std.proofs.lemmas.List.{length-append}
use Rattle.std.proofs.lemmas.List.Elements.{All-contains}
use Rattle.mailcore.specs.declared.side.Side.{Side}
use Rattle.mailcore.specs.declared.side.Side.TheVariants.{Far, Near}
use Rattle.mailcore.specs.declared.side.Direction.TheVariants.{Pull, Push}
use Rattle.mailcore.specs.declared.listing.Item.{Item}
use Rattle.mailcore.specs.declared.mailbox.Message.{Message}
use Rattle.mailcore.specs.Sides.{towards}
use Rattle.mailcore.specs.Listed.{item_of}
use Rattle.mailcore.proofs.RiseLemmas.{rise-least}
use Rattle.rules.specs.declared.options.Options.{Options}
use Rattle.rules.specs.declared.plan.Step.{Step}
use Rattle.rules.specs.Scene.{Scene, items}
use Rattle.rules.specs.Called.{is_new, is_expunged, flags_after}
use Rattle.rules.specs.Outcome.{count_new}
use Rattle.rules.specs.World.{World, IsInOrder, store, scene_of}
use Rattle.rules.specs.WorldAfter.{new_messages, staying, marks_to}
use Rattle.rules.specs.Copies.{copies_under}
use Rattle.rules.proofs.Walks.{Contains-first, Contains-rest, filter_contains}
use Rattle.rules.proofs.WorldLemmas.{listed, stored, store_is, rising, marks_counted}
use Rattle.law_outcome.specs.Steps.{Boxes, box, boxes_of, bytes_at, after, Fit, given, Rises}
use Rattle.law_outcome.specs.StepLaws.{PlanReachesOutcome}
use Rattle.law_outcome.proofs.Fold.{after-split, given-split, fit-drop}
use Rattle.law_outcome.proofs.Changes.{flags_all, stays_all, with_new, changed, unchanged, changed-append, all-changed}
use Rattle.law_outcome.proofs.Copying.{bytes_there, copies_of, copied_all, given_source, given-no_copies, copied_uid}
use Rattle.law_outcome.proofs.PlanParts.{changes, plan_is, changes_copy_nothing, fate_of_flags, fate_of_stay, fate_of_others_flags, fate_of_others_stay}

-- what agrees on each message makes the same of all
changed_agree : (p q : ℕ → Bool) (g h : ℕ → ℕ → ℕ) (ms : List Message) → ((m : Message) → Contains ms m → (p m.uid ≡ q m.uid) × (g m.uid m.flags ≡ h m.uid m.flags)) → changed p g ms ≡ changed q h ms
changed_agree p q g h [] e = refl
changed_agree p q g h (m ∷ ms) e =
    let here = e m (Contains-first m ms) in
    by_test (p m.uid) (q m.uid) here.0 here.1 (changed_agree p q g h ms (λ n c. e n (Contains-rest m n ms c)))
  where
    by_test : (a b : Bool) → a ≡ b → g m.uid m.flags ≡ h m.uid m.flags → changed p g ms ≡ changed q h ms →
        map (with_new g) (cond a (m ∷ filter (λ m. p m.uid) ms) (filter (λ m. p m.uid) ms)) ≡ map (with_new h) (cond b (m ∷ filter (λ m. q m.uid) ms) (filter (λ m. q m.uid) ms))
    by_test true true i k rest =
        ap (λ x. record { uid = m.uid; flags = x; bytes = m.bytes } ∷ changed p g ms) k ∙ ap (λ (xs : List Message). with_new h m ∷ xs) rest
    by_test true false i k rest = cc
    by_test false true i k rest = cc
    by_test false false i k rest = rest

-- ---- the old messages

stayed : (w : World) (options : Options) (side : Side) → IsInOrder w →
    changed (stays_all side (changes (scene_of w options))) (flags_all side (changes (scene_of w options))) (store w side).messages ≡ staying w options side
stayed w options side h =
    let s : Scene = scene_of w options in
    changed_agree (stays_all side (changes s)) (λ u. not (is_expunged s side u)) (flags_all side (changes s)) (flags_after s side) (store w side).messages
    (λ m c. (fate_of_stay s side (item_of side m) (listed w options side m c), fate_of_flags s side h.pairs (rising w options h side) (item_of side m) (listed w options side m c)))

-- ---- the copies

-- UIDs from next on are not listed
above : (w : World) (options : Options) (side : Side) → IsInOrder w → (u : ℕ) → (store w side).next ≤ u → (i : Item) → Contains (items (scene_of w options) side) i → i.uid ≡ u → ⊥
above w options side h u l i c e =
    let r = stored w options side i c in
    let less : r.0.uid < (store w side).next = All-contains (λ (m : Message). m.uid < (store w side).next) (store w side).messages r.0 (store_is w h side).below r.1 in
    let same : r.0.uid ≡ i.uid = r.2 in
    omega (arith, less, same, e, l)

copies_stayed : (w : World) (options : Options) (side : Side) (uids : List ℕ) (marks : List (List ℕ)) (ms : List Message) → IsInOrder w → All (λ u. (store w side).next ≤ u) uids →
    changed (stays_all side (changes (scene_of w options))) (flags_all side (changes (scene_of w options))) (copies_under side uids marks ms) ≡ copies_under side uids marks ms
copies_stayed w options side uids marks ms h l =
    let s : Scene = scene_of w options in
    changed_agree (stays_all side (changes s)) (λ u. true) (flags_all side (changes s)) (λ u x. x) (copies_under side uids marks ms)
    (λ m c. let far_up = above w options side h m.uid (All-contains (λ u. (store w side).next ≤ u) uids m.uid l (copied_uid side uids marks ms m c)) in
    (fate_of_others_stay s side m.uid far_up, fate_of_others_flags s side m.uid far_up m.flags))
    ∙ sym (unchanged (copies_under side uids marks ms))

-- ---- the parts of the plan

module _ (w : World) (options : Options) (marks : List (List ℕ)) where
  abbrev pub pulls : List Step
  pulls = copies_of Pull (new_messages w options Pull) (marks_to w options Near marks)

  abbrev pub pushes : List Step
  pushes = copies_of Push (new_messages w options Push) (marks_to w options Far marks)

  abbrev pub parts : List Step
  parts = pulls ++ (pushes ++ changes (scene_of w options))

  pub given_near : (results : List (Option ℕ)) → given Near parts results ≡ given Near pulls results
  given_near results =
      given-split Near pulls (pushes ++ changes (scene_of w options)) results
      ∙ ap (λ (us : List ℕ). given Near pulls results ++ us)
      (given-split Near pushes (changes (scene_of w options)) (drop (length pulls) results)
      ∙ ap (λ (us : List ℕ). us ++ given Near (changes (scene_of w options)) (drop (length pushes) (drop (length pulls) results))) (given_source Push (map (item_of Near) (new_messages w options Push)) (marks_to w options Far marks) (drop (length pulls) results))
      ∙ given-no_copies Near (changes (scene_of w options)) (drop (length pushes) (drop (length pulls) results)) (changes_copy_nothing (scene_of w options)))
      ∙ append-nil (given Near pulls results)

  pub given_far : (results : List (Option ℕ)) → given Far parts results ≡ given Far pushes (drop (length pulls) results)
  given_far results =
      given-split Far pulls (pushes ++ changes (scene_of w options)) results
      ∙ ap (λ (us : List ℕ). us ++ given Far (pushes ++ changes (scene_of w options)) (drop (length pulls) results)) (given_source Pull (map (item_of Far) (new_messages w options Pull)) (marks_to w options Near marks) results)
      ∙ given-split Far pushes (changes (scene_of w options)) (drop (length pulls) results)
      ∙ ap (λ (us : List ℕ). given Far pushes (drop (length pulls) results) ++ us) (given-no_copies Far (changes (scene_of w options)) (drop (length pushes) (drop (length pulls) results)) (changes_copy_nothing (scene_of w options)))
      ∙ append-nil (given Far pushes (drop (length pulls) results))

  -- once all is copied
  abbrev copied_boxes : List (Option ℕ) → Boxes
  copied_boxes results = record {
    far = w.far.messages ++ copies_under Far (given Far pushes (drop (length pulls) results)) (marks_to w options Far marks) (new_messages w options Push);
    near = w.near.messages ++ copies_under Near (given Near pulls results) (marks_to w options Near marks) (new_messages w options Pull);
  }

  pub all_copied : (results : List (Option ℕ)) → IsInOrder w → length marks ≡ count_new (scene_of w options) → length pulls + length pushes ≤ length results → Fit parts results →
      after pushes (drop (length pulls) results) (after pulls results (boxes_of w)) ≡ copied_boxes results
  all_copied results h l k fit =
      let counted = marks_counted w options marks l in
      let first : length (new_messages w options Pull) ≡ length (marks_to w options Near marks) = simp length-take (omega arith) in
      let second : length (new_messages w options Push) ≡ length (marks_to w options Far marks) = simp length-drop (omega arith) in
      let rest : length pushes ≤ length (drop (length pulls) results) = simp length-drop (omega arith) in
      let near : List Message = w.near.messages ++ copies_under Near (given Near pulls results) (marks_to w options Near marks) (new_messages w options Pull) in
      let b : Boxes = record { far = w.far.messages; near = near } in
      ap (λ (x : Boxes). after pushes (drop (length pulls) results) x)
      (copied_all Pull (new_messages w options Pull) (marks_to w options Near marks) results (pushes ++ changes (scene_of w options)) (boxes_of w) first (omega arith) fit
      (λ m c. ap (λ (ms : List Message). bytes_at m.uid ms) (sym (append-nil w.far.messages)) ∙ bytes_there w.far.messages [] h.far.rising m (filter_contains (λ (x : Message). is_new (scene_of w options) Pull (item_of Far x)) w.far.messages m c).0))
      ∙ copied_all Push (new_messages w options Push) (marks_to w options Far marks) (drop (length pulls) results) (changes (scene_of w options)) b second rest
      (fit-drop pulls (pushes ++ changes (scene_of w options)) results (omega arith) fit)
      (λ m c. bytes_there w.near.messages _ h.near.rising m (filter_contains (λ (x : Message). is_new (scene_of w options) Push (item_of Near x)) w.near.messages m c).0)

  parts_reach : (results : List (Option ℕ)) (far_next near_next : ℕ) → IsInOrder w → length marks ≡ count_new (scene_of w options) → length results ≡ length parts → Fit parts results →
      Rises Far w.far.next parts results far_next → Rises Near w.near.next parts results near_next → (side : Side) →
      box (after parts results (boxes_of w)) side ≡ staying w options side ++ copies_under side (given side parts results) (marks_to w options side marks) (new_messages w options (towards side))
  parts_reach results far_next near_next h l k fit far_rises near_rises side =
      let s : Scene = scene_of w options in
      let many : length results ≡ length pulls + (length pushes + length (changes s)) = k ∙ length-append pulls (pushes ++ changes s) ∙ ap (λ n. length pulls + n) (length-append pushes (changes s)) in
      let left : length (changes s) ≤ length (drop (length pushes) (drop (length pulls) results)) = simp length-drop (omega arith) in
      ap (λ (b : Boxes). box b side)
      (after-split pulls (pushes ++ changes s) results (boxes_of w)
      ∙ after-split pushes (changes s) (drop (length pulls) results) (after pulls results (boxes_of w))
      ∙ ap (λ (b : Boxes). after (changes s) (drop (length pushes) (drop (length pulls) results)) b) (all_copied results h l (omega arith) fit))
      ∙ all-changed side (changes s) (drop (length pushes) (drop (length pulls) results)) (copied_boxes results) (changes_copy_nothing s) left
      ∙ by_side side
    where
      by_side : (side : Side) → changed (stays_all side (changes (scene_of w options))) (flags_all side (changes (scene_of w options))) (box (copied_boxes results) side)
          ≡ staying w options side ++ copies_under side (given side parts results) (marks_to w options side marks) (new_messages w options (towards side))
      by_side Far =
          let uids : List ℕ = given Far pushes (drop (length pulls) results) in
          let copies : List Message = copies_under Far uids (marks_to w options Far marks) (new_messages w options Push) in
          changed-append (stays_all Far (changes (scene_of w options))) (flags_all Far (changes (scene_of w options))) w.far.messages copies
          ∙ ap (λ (xs : List Message). xs ++ changed (stays_all Far (changes (scene_of w options))) (flags_all Far (changes (scene_of w options))) copies) (stayed w options Far h)
          ∙ ap (λ (xs : List Message). staying w options Far ++ xs)
          (copies_stayed w options Far uids (marks_to w options Far marks) (new_messages w options Push) h (subst (λ (us : List ℕ). All (λ u. w.far.next ≤ u) us) (given_far results) (rise-least w.far.next (given Far parts results) far_next far_rises)))
          ∙ ap (λ (us : List ℕ). staying w options Far ++ copies_under Far us (marks_to w options Far marks) (new_messages w options Push)) (sym (given_far results))
      by_side Near =
          let uids : List ℕ = given Near pulls results in
          let copies : List Message = copies_under Near uids (marks_to w options Near marks) (new_messages w options Pull) in
          changed-append (stays_all Near (changes (scene_of w options))) (flags_all Near (changes (scene_of w options))) w.near.messages copies
          ∙ ap (λ (xs : List Message). xs ++ changed (stays_all Near (changes (scene_of w options))) (flags_all Near (changes (scene_of w options))) copies) (stayed w options Near h)
          ∙ ap (λ (xs : List Message). staying w options Near ++ xs)
          (copies_stayed w options Near uids (marks_to w options Near marks) (new_messages w options Pull) h (subst (λ (us : List ℕ). All (λ u. w.near.next ≤ u) us) (given_near results) (rise-least w.near.next (given Near parts results) near_next near_rises)))
          ∙ ap (λ (us : List ℕ). staying w options Near ++ copies_under Near us (marks_to w options Near marks) (new_messages w options Pull)) (sym (given_near results))

pub plan_reaches : PlanReachesOutcome
plan_reaches w options marks results far_next near_next h l =
    subst (λ (steps : List Step). length results ≡ length steps → Fit steps results → Rises Far w.far.next steps results far_next → Rises Near w.near.next steps results near_next → (side : Side) →
    box (after steps results (boxes_of w)) side ≡ staying w options side ++ copies_under side (given side steps results) (marks_to w options side marks) (new_messages w options (towards side)))
    (sym (plan_is w options marks)) (parts_reach w options marks results far_next near_next h l)
