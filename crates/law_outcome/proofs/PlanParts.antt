-- The whole plan: the messages that stay, with their flags after, and then the copies.
use Rattle.std.proofs.Common.{◌≡◌, ℕ, Bool, true, false, List, ◌++◌, length, map, take, drop, refl, sym, ap, ◌∙◌, subst, append_assoc}
use Rattle.std.specs.Prelude.{All, Contains, not, ◌&&◌, ◌==◌}
use Rattle.std.proofs.lemmas.Bool.{and_right, ne_eqb}
use Rattle.std.proofs.lemmas.List.{length-map}
use Rattle.std.proofs.lemmas.List.Elements.{All-append}
use Rattle.mailcore.specs.declared.side.Side.{Side}
use Rattle.mailcore.specs.declared.side.Side.TheVariants.{Far, Near}
use Rattle.mailcore.specs.declared.side.Direction.{Direction}
use Rattle.mailcore.specs.declared.side.Direction.TheVariants.{Pull, Push}
use Rattle.mailcore.specs.declared.listing.Item.{Item}
use Rattle.mailcore.specs.declared.mailbox.Message.{Message}
use Rattle.mailcore.specs.Sides.{target, towards}
use Rattle.mailcore.specs.Listed.{IsRising, item_of}
use Rattle.rules.specs.declared.options.Options.{Options}
use Rattle.rules.specs.declared.plan.Step.{Step}
use Rattle.rules.specs.Entries.{ArePairs}
use Rattle.rules.specs.Scene.{Scene, items}
use Rattle.rules.specs.Called.{is_expunged, flags_after}
use Rattle.rules.specs.Outcome.{news}
use Rattle.rules.specs.World.{World, scene_of}
use Rattle.rules.specs.WorldAfter.{new_messages, marks_to}
use Rattle.planner.specs.Written.{new_steps, all_new, gone_step, flags_step, expunge_step, gone_steps, flags_steps, expunge_steps, all_steps}
use Rattle.rules.proofs.Walks.{All-filter_map}
use Rattle.rules.proofs.WorldLemmas.{news_are}
use Rattle.planner.proofs.Following.{gone_given, flags_given, expunge_given}
use Rattle.law_outcome.specs.Steps.{makes_copy, is_side}
use Rattle.law_outcome.proofs.Changes.{flags_all, stays_all, flags_all-append, stays_all-append}
use Rattle.law_outcome.proofs.Idle.{gone_other, flags_other, expunge_leaves, gone_spares, flags_spare, expunge_spares, expunge_removes}
use Rattle.law_outcome.proofs.StepFates.{flags_fate, not_listed_fate}
use Rattle.law_outcome.proofs.Copying.{copies_of}

-- ---- the plan: what is copied to the near side, then to the far one, then what changes

abbrev pub changes : Scene → List Step
changes s = gone_steps s Pull ++ gone_steps s Push ++ flags_steps s Pull ++ flags_steps s Push ++ expunge_steps s Far ++ expunge_steps s Near

all_new_is : (w : World) (options : Options) (marks : List (List ℕ)) →
    all_new (scene_of w options) marks ≡ copies_of Pull (new_messages w options Pull) (marks_to w options Near marks) ++ copies_of Push (new_messages w options Push) (marks_to w options Far marks)
all_new_is w options marks =
    let s : Scene = scene_of w options in
    let pulled : List Message = new_messages w options Pull in
    let pushed : List Message = new_messages w options Push in
    ap (λ (is : List Item). new_steps Pull is (take (length is) marks) ++ new_steps Push (news s Push) (drop (length is) marks)) (news_are w options Pull)
    ∙ ap (λ (is : List Item). new_steps Pull (map (item_of Far) pulled) (take (length (map (item_of Far) pulled)) marks) ++ new_steps Push is (drop (length (map (item_of Far) pulled)) marks)) (news_are w options Push)
    ∙ ap (λ k. new_steps Pull (map (item_of Far) pulled) (take k marks) ++ new_steps Push (map (item_of Near) pushed) (drop k marks)) (length-map pulled (item_of Far))

regroup : (p q a b c e f g : List Step) → (p ++ q) ++ a ++ b ++ c ++ e ++ f ++ g ≡ p ++ (q ++ (a ++ b ++ c ++ e ++ f ++ g))
regroup p q a b c e f g = simp append_assoc

pub plan_is : (w : World) (options : Options) (marks : List (List ℕ)) →
    all_steps (scene_of w options) marks
    ≡ copies_of Pull (new_messages w options Pull) (marks_to w options Near marks) ++ (copies_of Push (new_messages w options Push) (marks_to w options Far marks) ++ changes (scene_of w options))
plan_is w options marks =
    let s : Scene = scene_of w options in
    ap (λ (xs : List Step). xs ++ gone_steps s Pull ++ gone_steps s Push ++ flags_steps s Pull ++ flags_steps s Push ++ expunge_steps s Far ++ expunge_steps s Near) (all_new_is w options marks)
    ∙ regroup _ _ (gone_steps s Pull) (gone_steps s Push) (flags_steps s Pull) (flags_steps s Push) (expunge_steps s Far) (expunge_steps s Near)

abbrev CopiesNothing : Step → Type 0
CopiesNothing st = makes_copy st ≡ false

pub changes_copy_nothing : (s : Scene) → All (λ st. makes_copy st ≡ false) (changes s)
changes_copy_nothing s =
    let P : Step → Type 0 = CopiesNothing in
    All-append P _ _ (All-append P _ _ (All-append P _ _ (All-append P _ _ (All-append P _ _
    (gone Pull) (gone Push)) (flags Pull)) (flags Push)) (expunge Far)) (expunge Near)
  where
    gone : (d : Direction) → All CopiesNothing (gone_steps s d)
    gone d = All-filter_map CopiesNothing (gone_step s d) (items s (target d)) (λ i c st h. subst CopiesNothing (gone_given s d i st h).3 refl)

    flags : (d : Direction) → All CopiesNothing (flags_steps s d)
    flags d = All-filter_map CopiesNothing (flags_step s d) s.entries (λ e c st h. subst CopiesNothing (flags_given s d e st h).4 refl)

    expunge : (side : Side) → All CopiesNothing (expunge_steps s side)
    expunge side = All-filter_map CopiesNothing (expunge_step s side) (items s side) (λ i c st h. subst CopiesNothing (expunge_given s side i st h).1 refl)

-- ---- what the changes make of one message

six_flags : (side : Side) (a b c e f g : List Step) (u x : ℕ) →
    flags_all side (a ++ b ++ c ++ e ++ f ++ g) u x ≡ flags_all side g u (flags_all side f u (flags_all side e u (flags_all side c u (flags_all side b u (flags_all side a u x)))))
six_flags side a b c e f g u x = simp (flags_all-append side)

six_stays : (side : Side) (a b c e f g : List Step) (u : ℕ) →
    stays_all side (a ++ b ++ c ++ e ++ f ++ g) u ≡ (stays_all side a u && stays_all side b u && stays_all side c u && stays_all side e u && stays_all side f u && stays_all side g u)
six_stays side a b c e f g u = simp (stays_all-append side)

-- on each side the steps that lead to it are those that matter
own_flags : (s : Scene) (side : Side) (u x : ℕ) → flags_all side (changes s) u x ≡ flags_all side (flags_steps s (towards side)) u (flags_all side (gone_steps s (towards side)) u x)
own_flags s Far u x =
    six_flags Far (gone_steps s Pull) (gone_steps s Push) (flags_steps s Pull) (flags_steps s Push) (expunge_steps s Far) (expunge_steps s Near) u x
    ∙ expunge_leaves s Far Near u _ ∙ expunge_leaves s Far Far u _
    ∙ ap (λ y. flags_all Far (flags_steps s Push) u y) (flags_other s Far Pull u refl _)
    ∙ ap (λ y. flags_all Far (flags_steps s Push) u (flags_all Far (gone_steps s Push) u y)) (gone_other s Far Pull u refl x)
own_flags s Near u x =
    six_flags Near (gone_steps s Pull) (gone_steps s Push) (flags_steps s Pull) (flags_steps s Push) (expunge_steps s Far) (expunge_steps s Near) u x
    ∙ expunge_leaves s Near Near u _ ∙ expunge_leaves s Near Far u _
    ∙ flags_other s Near Push u refl _
    ∙ ap (λ y. flags_all Near (flags_steps s Pull) u y) (gone_other s Near Push u refl _)

all_true : (a b c e f g : Bool) → a ≡ true → b ≡ true → c ≡ true → e ≡ true → (a && b && c && e && f && g) ≡ (f && g)
all_true a b c e f g p q r t = rw (p, q, r, t) refl

and_true : (f g : Bool) → g ≡ true → (f && g) ≡ f
and_true true g h = h
and_true false g h = refl

own_stays : (s : Scene) (side : Side) (u : ℕ) → stays_all side (changes s) u ≡ stays_all side (expunge_steps s side) u
own_stays s side u =
    six_stays side (gone_steps s Pull) (gone_steps s Push) (flags_steps s Pull) (flags_steps s Push) (expunge_steps s Far) (expunge_steps s Near) u
    ∙ all_true _ _ _ _ (stays_all side (expunge_steps s Far) u) (stays_all side (expunge_steps s Near) u) (gone_spares s side Pull u) (gone_spares s side Push u) (flags_spare s side Pull u) (flags_spare s side Push u)
    ∙ by_side side
  where
    by_side : (side : Side) → (stays_all side (expunge_steps s Far) u && stays_all side (expunge_steps s Near) u) ≡ stays_all side (expunge_steps s side) u
    by_side Far = and_true (stays_all Far (expunge_steps s Far) u) _ (expunge_spares s Far Near u (λ i c h. refl))
    by_side Near = ap (λ b. b && stays_all Near (expunge_steps s Near) u) (expunge_spares s Near Far u (λ i c h. refl))

pub fate_of_flags : (s : Scene) (side : Side) → ArePairs s.entries → IsRising (items s side) → (i : Item) → Contains (items s side) i → flags_all side (changes s) i.uid i.flags ≡ flags_after s side i.uid i.flags
fate_of_flags s Far pairs rising i c = own_flags s Far i.uid i.flags ∙ flags_fate s Push pairs rising i c
fate_of_flags s Near pairs rising i c = own_flags s Near i.uid i.flags ∙ flags_fate s Pull pairs rising i c

pub fate_of_stay : (s : Scene) (side : Side) (i : Item) → Contains (items s side) i → stays_all side (changes s) i.uid ≡ not (is_expunged s side i.uid)
fate_of_stay s side i c = own_stays s side i.uid ∙ expunge_removes s side i c

pub fate_of_others_flags : (s : Scene) (side : Side) (u : ℕ) → ((i : Item) → Contains (items s side) i → i.uid ≡ u → ⊥) → (x : ℕ) → flags_all side (changes s) u x ≡ x
fate_of_others_flags s Far u h x = own_flags s Far u x ∙ not_listed_fate s Push u h x
fate_of_others_flags s Near u h x = own_flags s Near u x ∙ not_listed_fate s Pull u h x

pub fate_of_others_stay : (s : Scene) (side : Side) (u : ℕ) → ((i : Item) → Contains (items s side) i → i.uid ≡ u → ⊥) → stays_all side (changes s) u ≡ true
fate_of_others_stay s side u h = own_stays s side u ∙ expunge_spares s side side u (λ i c k. and_right (is_side side side) (u == i.uid) (ne_eqb u i.uid (λ e. h i c (sym e))))
