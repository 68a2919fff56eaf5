-- The source of a copy is still there when its step is next.
use Rattle.std.proofs.Common.{◌≡◌, ◌<◌, ◌≤◌, ◌==◌, ◌&&◌, ℕ, zero, suc, Bool, true, false, cond, List, [], ◌∷◌, ◌++◌, Option, Some, None, length, drop, map, refl, sym, ap, ◌∙◌, subst, arith, append-nil, append_assoc}
use Rattle.std.specs.Prelude.{All, Contains, find}
use Rattle.std.specs.Option.{option_map}
use Rattle.std.proofs.lemmas.Bool.{and_parts, eqb-true, both_ways}
use Rattle.std.proofs.lemmas.List.Elements.{All-append, All-contains, All-head, All-tail, Contains-append_left}
use Rattle.mailcore.specs.declared.listing.Item.{Item}
use Rattle.mailcore.specs.declared.mailbox.Message.{Message}
use Rattle.mailcore.specs.declared.side.Side.{Side}
use Rattle.mailcore.specs.declared.side.Side.TheVariants.{Far, Near}
use Rattle.mailcore.specs.declared.side.Direction.{Direction}
use Rattle.mailcore.specs.declared.side.Direction.TheVariants.{Pull, Push}
use Rattle.mailcore.specs.Content.{fit}
use Rattle.mailcore.specs.Listed.{item_of}
use Rattle.mailcore.specs.Sides.{source}
use Rattle.rules.specs.declared.options.Options.{Options}
use Rattle.rules.specs.declared.plan.Step.{Step}
use Rattle.rules.specs.declared.plan.Step.TheVariants.{New, Gone, Flags, Expunge}
use Rattle.rules.specs.Propagation as propagation
use Rattle.rules.specs.Propagation.{Propagation}
use Rattle.rules.specs.Scene.{Scene, items}
use Rattle.rules.specs.Called.{called, is_new, would_be_new}
use Rattle.rules.specs.Outcome.{news}
use Rattle.rules.specs.World.{World, IsInOrder, store, scene_of}
use Rattle.rules.proofs.Walks.{Contains-map, list_any_some, map_contains}
use Rattle.rules.proofs.WorldLemmas.{store_is}
use Rattle.planner.specs.Listed.{of_step, of_note}
use Rattle.planner.specs.Written.{all_steps, all_notes, all_new}
use Rattle.planner.proofs.Following.{new_steps_all}
use Rattle.planner.proofs.Sound.{sound}
use Rattle.law_outcome.specs.Steps.{Boxes, box, boxes_of, bytes_at, step_after, after, makes_copy, Test, own_in}
use Rattle.law_outcome.proofs.Fold.{after-none, after-split}
use Rattle.law_outcome.proofs.Copying.{bytes_there}
use Rattle.law_outcome.proofs.PlanParts.{changes, changes_copy_nothing}
use Rattle.sync_state.specs.declared.journal.Logged.{Logged}
use Rattle.law_outcome.specs.CommitLaws.{results_of}
use Rattle.run_states.specs.Plans.{next_of}
use Rattle.run_states.proofs.NextSteps.{next_contained, results_length}

-- the message that a step of the plan copies
pub record IsSource (w : World) (d : Direction) (uid : ℕ) : Type 0 where
  pub message : Message
  pub is_there : Contains (store w (source d)).messages message
  pub same : message.uid ≡ uid
  pub is_fit : fit (source d) message.bytes ≡ true

pub of_item : (w : World) (options : Options) (d : Direction) (i : Item) → Contains (items (scene_of w options) (source d)) i → (m : Message) × Contains (store w (source d)).messages m × (item_of (source d) m ≡ i)
of_item w options Pull i c = map_contains (item_of Far) w.far.messages i c
of_item w options Push i c = map_contains (item_of Near) w.near.messages i c

pub source_of : (w : World) (options : Options) (marks : List (List ℕ)) (d : Direction) (u flags : ℕ) (mark : List ℕ) → Contains (all_steps (scene_of w options) marks) (New d u flags mark) → IsSource w d u
source_of w options marks d u flags mark c =
    let s : Scene = scene_of w options in
    let steps : List Propagation = map of_step (all_steps s marks) in
    let it : Propagation = propagation.New d u in
    let is_called : called s it ≡ true =
    All-contains (λ p. called s p ≡ true) (steps ++ map of_note (all_notes s)) it (sound s marks)
    (Contains-append_left steps (map of_note (all_notes s)) it (Contains-map of_step (all_steps s marks) (New d u flags mark) it c refl)) in
    let r = list_any_some (λ (i : Item). i.uid == u && is_new s d i) (items s (source d)) is_called in
    let two = and_parts (r.0.uid == u) (is_new s d r.0) r.2 in
    let same : r.0.uid ≡ u = eqb-true r.0.uid u two.0 in
    let is_fit : r.0.fit ≡ true = (and_parts (would_be_new s d r.0) r.0.fit two.1).1 in
    let m = of_item w options d r.0 r.1 in
    record {
      message = m.0;
      is_there = m.1;
      same = ap (λ (i : Item). i.uid) m.2 ∙ same;
      is_fit = ap (λ (i : Item). i.fit) m.2 ∙ is_fit;
    }

-- ---- the first steps add copies alone

new_copies : (s : Scene) (marks : List (List ℕ)) → All (λ st. makes_copy st ≡ true) (all_new s marks)
new_copies s marks =
    All-append (λ st. makes_copy st ≡ true) _ _
    (new_steps_all (λ st. makes_copy st ≡ true) Pull (news s Pull) _ (λ i c m. refl))
    (new_steps_all (λ st. makes_copy st ≡ true) Push (news s Push) _ (λ i c m. refl))

-- after a step that makes no copy there is none that makes one
copies_first : (xs ys : List Step) (log : List Logged) (s : Step) → All (λ st. makes_copy st ≡ false) ys → next_of (xs ++ ys) log ≡ Some s → makes_copy s ≡ true → length log < length xs
copies_first [] ys log s none is copies = absurd (both_ways false refl (sym (All-contains (λ st. makes_copy st ≡ false) ys s none (next_contained ys log s is)) ∙ copies))
copies_first (x ∷ xs) ys [] s none is copies = omega arith
copies_first (x ∷ xs) ys (r ∷ log) s none is copies = omega (arith, copies_first xs ys log s none is copies)

one_more : (d : Direction) (u flags : ℕ) (mark : List ℕ) (r : Option ℕ) (b : Boxes) (side : Side) → (cs : List Message) × (box (step_after b (New d u flags mark) r) side ≡ box b side ++ cs)
one_more d u flags mark None b side = ([], sym (append-nil (box b side)))
one_more Pull u flags mark (Some uid) b Far = ([], sym (append-nil b.far))
one_more Pull u flags mark (Some uid) b Near = (_, refl)
one_more Push u flags mark (Some uid) b Far = (_, refl)
one_more Push u flags mark (Some uid) b Near = ([], sym (append-nil b.near))

copy_more : (s : Step) (r : Option ℕ) (b : Boxes) (side : Side) → makes_copy s ≡ true → (cs : List Message) × (box (step_after b s r) side ≡ box b side ++ cs)
copy_more (New d u flags mark) r b side is = one_more d u flags mark r b side
copy_more (Gone d f n) r b side is = absurd (both_ways false refl is)
copy_more (Flags d f n set cleared) r b side is = absurd (both_ways false refl is)
copy_more (Expunge at u) r b side is = absurd (both_ways false refl is)

copies_alone : (steps : List Step) (results : List (Option ℕ)) (b : Boxes) (side : Side) → All (λ st. makes_copy st ≡ true) steps → (cs : List Message) × (box (after steps results b) side ≡ box b side ++ cs)
copies_alone [] results b side h = ([], sym (append-nil (box b side)))
copies_alone (s ∷ steps) [] b side h = ([], sym (append-nil (box b side)))
copies_alone (s ∷ steps) (r ∷ results) b side h =
    let one = copy_more s r b side (All-head (λ st. makes_copy st ≡ true) s steps h) in
    let rest = copies_alone steps results (step_after b s r) side (All-tail (λ st. makes_copy st ≡ true) s steps h) in
    (one.0 ++ rest.0, rest.1 ∙ ap (λ (ms : List Message). ms ++ rest.0) one.1 ∙ append_assoc (box b side) one.0 rest.0)

drop_short : (n : ℕ) (results : List (Option ℕ)) → length results ≤ n → drop n results ≡ []
drop_short zero [] le = refl
drop_short zero (r ∷ results) le = absurd (omega arith)
drop_short (suc n) [] le = refl
drop_short (suc n) (r ∷ results) le = drop_short n results (omega arith)

-- so the messages of both sides are there, and copies after them
pub sources_stay : (w : World) (options : Options) (marks : List (List ℕ)) (log : List Logged) (s : Step) (side : Side) → next_of (all_steps (scene_of w options) marks) log ≡ Some s → makes_copy s ≡ true → (cs : List Message) × (box (after (all_steps (scene_of w options) marks) (results_of log) (boxes_of w)) side ≡ box (boxes_of w) side ++ cs)
sources_stay w options marks log s side is copies =
    let sc : Scene = scene_of w options in
    let news_first : List Step = all_new sc marks in
    let rest : List Step = changes sc in
    let parts : all_steps sc marks ≡ news_first ++ rest = simp append_assoc in
    let few = copies_first news_first rest log s (changes_copy_nothing sc) (rw parts at is) copies in
    let n = results_length log in
    let none : drop (length news_first) (results_of log) ≡ [] = drop_short (length news_first) (results_of log) (omega (arith, few, n)) in
    let only = copies_alone news_first (results_of log) (boxes_of w) side (new_copies sc marks) in (
      only.0,
      ap (λ (steps : List Step). box (after steps (results_of log) (boxes_of w)) side) parts
          ∙ ap (λ (b : Boxes). box b side) (after-split news_first rest (results_of log) (boxes_of w) ∙ ap (λ (rs : List (Option ℕ)). after rest rs (after news_first (results_of log) (boxes_of w))) none ∙ after-none rest (after news_first (results_of log) (boxes_of w)))
          ∙ only.1,
    )

box_of : (w : World) (d : Direction) → box (boxes_of w) (source d) ≡ (store w (source d)).messages
box_of w Pull = refl
box_of w Push = refl

pub source_bytes : (w : World) (options : Options) (marks : List (List ℕ)) (log : List Logged) (d : Direction) (u flags : ℕ) (mark : List ℕ) → IsInOrder w → (k : IsSource w d u) → next_of (all_steps (scene_of w options) marks) log ≡ Some (New d u flags mark) →
    bytes_at u (box (after (all_steps (scene_of w options) marks) (results_of log) (boxes_of w)) (source d)) ≡ Some k.message.bytes
source_bytes w options marks log d u flags mark sound k is =
    let stay = sources_stay w options marks log (New d u flags mark) (source d) is refl in
    ap (λ (ms : List Message). bytes_at u ms) (stay.1 ∙ ap (λ (ms : List Message). ms ++ stay.0) (box_of w d))
    ∙ ap (λ (x : ℕ). bytes_at x ((store w (source d)).messages ++ stay.0)) (sym k.same)
    ∙ bytes_there (store w (source d)).messages stay.0 (store_is w sound (source d)).rising k.message k.is_there

-- ---- among others

-- the message with a UID below is found among the messages that are seen
pub seen_bytes : (test : Test) (side : Side) (u : ℕ) (ms : List Message) → ((bytes : List ℕ) → test side u bytes ≡ true) → bytes_at u (own_in test side ms) ≡ bytes_at u ms
seen_bytes test side u [] h = refl
seen_bytes test side u (m ∷ ms) h =
    by_tests (m.uid == u) (test side m.uid m.bytes) refl refl (seen_bytes test side u ms h)
  where
    by_tests : (a b : Bool) → (m.uid == u) ≡ a → test side m.uid m.bytes ≡ b → bytes_at u (own_in test side ms) ≡ bytes_at u ms →
        bytes_at u (cond b (m ∷ own_in test side ms) (own_in test side ms)) ≡ option_map (λ (x : Message). x.bytes) (cond a (Some m) (find (λ (x : Message). x.uid == u) ms))
    by_tests true true e f rest = rw e refl
    by_tests true false e f rest = absurd (both_ways false refl (sym f ∙ subst (λ (x : ℕ). test side x m.bytes ≡ true) (sym (eqb-true m.uid u e)) (h m.bytes)))
    by_tests false true e f rest = rw e rest
    by_tests false false e f rest = rest
