-- A flags step of a plan sets or clears some flag.
use Rattle.std.proofs.Common.{◌≡◌, ◌&&◌, ◌==◌, ◌<◌, ◌^◌, ◌∙◌, not, inl, inr, ℕ, Bool, true, false, cond, List, [], ◌∷◌, find, Option, Some, refl, sym, ap, subst}
use Rattle.std.specs.Prelude.{All}
use Rattle.std.specs.Option.{option_map}
use Rattle.std.proofs.lemmas.Bool.{both_ways, eq-eqb, eqb-true}
use Rattle.std.proofs.lemmas.Option.{none-some, same_Some}
use Rattle.std.proofs.lemmas.List.Elements.{All-append, All-contains, All-head, All-map, All-same, All-tail, All-weaker}
use Rattle.mailcore.specs.declared.keywords.Keyword.{Keyword}
use Rattle.mailcore.specs.declared.listing.Item.{Item}
use Rattle.mailcore.specs.declared.mailbox.Message.{Message}
use Rattle.mailcore.specs.declared.side.Side.{Side}
use Rattle.mailcore.specs.declared.side.Side.TheVariants.{Far, Near}
use Rattle.mailcore.specs.declared.side.Direction.{Direction}
use Rattle.mailcore.specs.declared.side.Direction.TheVariants.{Pull, Push}
use Rattle.mailcore.specs.FlagSet.{FLAGS, has, minus}
use Rattle.mailcore.specs.KeywordNames.{IsWithin}
use Rattle.mailcore.specs.Listed.{item_of}
use Rattle.mailcore.specs.Sides.{target}
use Rattle.mailcore.proofs.FlagLetters.{has-zero}
use Rattle.mailcore.proofs.FlagRules.{has-minus, set_from_flags}
use Rattle.rules.specs.declared.entry.ListedPair.{ListedPair}
use Rattle.rules.specs.declared.options.Options.{Options}
use Rattle.rules.specs.declared.plan.Step.{Step}
use Rattle.rules.specs.declared.plan.Step.TheVariants as step
use Rattle.rules.specs.Called.{before, after}
use Rattle.rules.specs.Outcome.{news}
use Rattle.rules.specs.Scene.{Scene, flags_at, items}
use Rattle.rules.specs.World.{World, scene_of}
use Rattle.rules.proofs.FlagLemmas.{taken-lt}
use Rattle.rules.proofs.LookUps.{pair_says}
use Rattle.rules.proofs.Walks.{All-filter_map}
use Rattle.planner.specs.Written.{all_steps, expunge_step, expunge_steps, flags_step, flags_steps, gone_step, gone_steps}
use Rattle.planner.proofs.Following.{expunge_given, flags_given, gone_given, new_steps_all}
use Rattle.law_outcome.specs.Keywords.{IsWithinWorld}
use Rattle.outside.specs.Devices.{Device}
use Rattle.outside.specs.Opened.{Opened}
use Rattle.run_states.specs.Moments.{HasBegun}
use Rattle.run_states.specs.Openings.{Opening}
use Rattle.run_states.specs.Plans.{IsPlanned}
use Rattle.run_states.proofs.NextSteps.{next_contained}
use Rattle.sync_state.specs.declared.journal.Logged.TheVariants.{Done}
use Rattle.runner.specs.Going.{AfterStep, DuringStep, log_at, next_at, plan_at, sets_some, version_at}
use Rattle.runner.proofs.Stages.{clear_uncalled}

-- ---- two sets that differ

-- nothing is to be set or cleared only where both are one
same_sets : (a b : ℕ) → a < 2 ^ FLAGS → b < 2 ^ FLAGS → minus a b ≡ 0 → minus b a ≡ 0 → a ≡ b
same_sets a b p q set cleared = set_from_flags a b p q (λ k h. same_bits (has a k) (has b k) (none k a b h set) (none k b a h cleared))
  where
    none : (k x y : ℕ) → k < FLAGS → minus x y ≡ 0 → (has x k && not (has y k)) ≡ false
    none k x y h e = sym (has-minus x y k h) ∙ ap (λ n. has n k) e ∙ has-zero k

    same_bits : (x y : Bool) → (x && not y) ≡ false → (y && not x) ≡ false → x ≡ y
    same_bits true true e f = refl
    same_bits true false e f = absurd (both_ways true e refl)
    same_bits false true e f = absurd (both_ways true f refl)
    same_bits false false e f = refl

-- ---- the steps of a plan

abbrev DoesSome : Step → Type 0
DoesSome (step.New d u flags mark) = Unit {0}
DoesSome (step.Gone d far near) = Unit {0}
DoesSome (step.Flags d far near set cleared) = set ≡ 0 → cleared ≡ 0 → ⊥
DoesSome (step.Expunge side uid) = Unit {0}

abbrev IsInSet : Item → Type 0
IsInSet i = i.flags < 2 ^ FLAGS

found_set : (is : List Item) (u flags : ℕ) → All IsInSet is → flags_at is u ≡ Some flags → flags < 2 ^ FLAGS
found_set [] u flags all e = absurd (none-some flags e)
found_set (i ∷ is) u flags all e = by_test (i.uid == u) (found_set is u flags (All-tail IsInSet i is all)) e
  where
    by_test : (b : Bool) → (flags_at is u ≡ Some flags → flags < 2 ^ FLAGS) → option_map (λ (x : Item). x.flags) (cond b (Some i) (find (λ (x : Item). x.uid == u) is)) ≡ Some flags → flags < 2 ^ FLAGS
    by_test true later h = subst (λ (n : ℕ). n < 2 ^ FLAGS) (same_Some i.flags flags h) (All-head IsInSet i is all)
    by_test false later h = later h

module _ (s : Scene) (far : All IsInSet s.far) (near : All IsInSet s.near) where
  gone : (d : Direction) → All DoesSome (gone_steps s d)
  gone d = All-filter_map DoesSome (gone_step s d) (items s (target d)) (λ i c st h. subst DoesSome (gone_given s d i st h).3 tt)

  pair_sets : (d : Direction) (p : ListedPair) → p.far_flags < 2 ^ FLAGS → p.near_flags < 2 ^ FLAGS → (before d p < 2 ^ FLAGS) × (after d p < 2 ^ FLAGS)
  pair_sets Pull p f n = (n, taken-lt p.far_flags p.near_flags p.recorded)
  pair_sets Push p f n = (f, taken-lt p.near_flags p.far_flags p.recorded)

  flags : (d : Direction) → All DoesSome (flags_steps s d)
  flags d = All-filter_map DoesSome (flags_step s d) s.entries (λ e c st h.
      let g = flags_given s d e st h in
      let p = g.0 in
      let says = pair_says s e p g.2 in
      let both = pair_sets d p (found_set s.far p.far p.far_flags far says.far_flags) (found_set s.near p.near p.near_flags near says.near_flags) in
      subst DoesSome g.4 (λ set cleared. absurd (both_ways (before d p == after d p) g.3 (eq-eqb (before d p) (after d p) (same_sets (before d p) (after d p) both.0 both.1 cleared set)))))

  expunge : (side : Side) → All DoesSome (expunge_steps s side)
  expunge side = All-filter_map DoesSome (expunge_step s side) (items s side) (λ i c st h. subst DoesSome (expunge_given s side i st h).1 tt)

  plan_does : (marks : List (List ℕ)) → All DoesSome (all_steps s marks)
  plan_does marks =
      let P : Step → Type 0 = DoesSome in
      All-append P _ _ (All-append P _ _ (All-append P _ _ (All-append P _ _ (All-append P _ _ (All-append P _ _
      (All-append P _ _ (new_steps_all P Pull (news s Pull) _ (λ i c m. tt)) (new_steps_all P Push (news s Push) _ (λ i c m. tt)))
      (gone Pull)) (gone Push)) (flags Pull)) (flags Push)) (expunge Far)) (expunge Near)

world_does : (keywords : List Keyword) (w : World) (options : Options) (marks : List (List ℕ)) → IsWithinWorld keywords w → All DoesSome (all_steps (scene_of w options) marks)
world_does keywords w options marks h =
    plan_does (scene_of w options)
    (All-map IsInSet (item_of Far) w.far.messages (All-weaker (λ (m : Message). IsWithin keywords m.flags) (λ (m : Message). m.flags < 2 ^ FLAGS) (λ m k. k.set) w.far.messages h.far))
    (All-map IsInSet (item_of Near) w.near.messages (All-weaker (λ (m : Message). IsWithin keywords m.flags) (λ (m : Message). m.flags < 2 ^ FLAGS) (λ m k. k.set) w.near.messages h.near)) marks

-- ---- the next step

does_some : {ours : List ℕ → Bool} {alone : Bool} (opening : Opening ours alone) (opened : Option Opened) (dir : Direction) (far near set cleared : ℕ) → next_at opened ≡ Some (step.Flags dir far near set cleared) → (is_made : Bool) (d : Device) → DuringStep opening opened is_made d → set ≡ 0 → cleared ≡ 0 → ⊥
does_some {ours} {alone} opening opened dir far near set cleared next is_made d k =
    let n = k.since in
    let p = planned n.world n.holds in
    let steps : All DoesSome (plan_at opened).steps = All-same DoesSome (plan_at opened).steps _ p.is_plan.steps (world_does opening.options.keywords n.world opening.options p.marks n.within) in
    All-contains DoesSome (plan_at opened).steps (step.Flags dir far near set cleared) steps (next_contained (plan_at opened).steps (log_at opened) _ next)
  where
    planned : (w : World) → HasBegun ours alone opening.named w opening.options (version_at opened) (plan_at opened) (log_at opened) is_made d → IsPlanned ours w opening.options (plan_at opened)
    planned w (inl x) = let m = x.1 in m.planned
    planned w (inr x) = let m = x.1 in m.planned

-- where none are to be cleared, some were set, and the step is done
pub clear_last : {ours : List ℕ → Bool} {alone : Bool} (opening : Opening ours alone) (opened : Option Opened) (dir : Direction) (far near set cleared : ℕ) → next_at opened ≡ Some (step.Flags dir far near set cleared) → cleared ≡ 0 → (d : Device) → DuringStep opening opened (sets_some set) d → AfterStep opening opened Done d
clear_last opening opened dir far near set cleared next none d at = by_test (set == 0) refl at
  where
    by_test : (b : Bool) → (set == 0) ≡ b → DuringStep opening opened (not b) d → AfterStep opening opened Done d
    by_test true is k = absurd (does_some opening opened dir far near set cleared next false d k (eqb-true set 0 is) none)
    by_test false is k = clear_uncalled opening opened dir far near set cleared next none d k
