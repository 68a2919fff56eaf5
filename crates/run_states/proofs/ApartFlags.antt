-- A flags step of a plan sets and clears no flag at once.
use Rattle.std.proofs.Common.{◌≡◌, ◌&&◌, not, ℕ, Bool, true, false, List, refl, subst}
use Rattle.std.specs.Prelude.{All, Contains}
use Rattle.std.proofs.lemmas.List.Elements.{All-append, All-contains}
use Rattle.mailcore.specs.declared.side.Side.{Side}
use Rattle.mailcore.specs.declared.side.Side.TheVariants.{Far, Near}
use Rattle.mailcore.specs.declared.side.Direction.{Direction}
use Rattle.mailcore.specs.declared.side.Direction.TheVariants.{Pull, Push}
use Rattle.mailcore.specs.FlagSet.{has, minus}
use Rattle.mailcore.specs.Sides.{target}
use Rattle.mailcore.proofs.FlagRules.{has-minus}
use Rattle.rules.specs.declared.plan.Step.{Step}
use Rattle.rules.specs.declared.plan.Step.TheVariants as step
use Rattle.rules.specs.Scene.{Scene, items}
use Rattle.rules.specs.Called.{before, after}
use Rattle.rules.specs.Outcome.{news}
use Rattle.rules.proofs.Walks.{All-filter_map}
use Rattle.planner.specs.Written.{all_steps, gone_step, gone_steps, flags_step, flags_steps, expunge_step, expunge_steps}
use Rattle.planner.proofs.Following.{new_steps_all, gone_given, flags_given, expunge_given}
use Rattle.run_states.proofs.FlagFacts.{AreApart}

abbrev IsApart : Step → Type 0
IsApart (step.New d u flags mark) = Unit {0}
IsApart (step.Gone d far near) = Unit {0}
IsApart (step.Flags d far near set cleared) = AreApart set cleared
IsApart (step.Expunge side uid) = Unit {0}

apart_minus : (a b : ℕ) → AreApart (minus a b) (minus b a)
apart_minus a b k lt = rw (has-minus a b k lt, has-minus b a k lt) (bools (has a k) (has b k))
  where
    bools : (x y : Bool) → ((x && not y) && (y && not x)) ≡ false
    bools true true = refl
    bools true false = refl
    bools false y = refl

plan_apart : (s : Scene) (marks : List (List ℕ)) → All IsApart (all_steps s marks)
plan_apart s marks =
    let P : Step → Type 0 = IsApart in
    All-append P _ _ (All-append P _ _ (All-append P _ _ (All-append P _ _ (All-append P _ _ (All-append P _ _
    (All-append P _ _ (new_steps_all P Pull (news s Pull) _ (λ i c m. tt)) (new_steps_all P Push (news s Push) _ (λ i c m. tt)))
    (gone Pull)) (gone Push)) (flags Pull)) (flags Push)) (expunge Far)) (expunge Near)
  where
    gone : (d : Direction) → All IsApart (gone_steps s d)
    gone d = All-filter_map IsApart (gone_step s d) (items s (target d)) (λ i c st h. subst IsApart (gone_given s d i st h).3 tt)

    flags : (d : Direction) → All IsApart (flags_steps s d)
    flags d = All-filter_map IsApart (flags_step s d) s.entries (λ e c st h. let g = flags_given s d e st h in subst IsApart g.4 (apart_minus (after d g.0) (before d g.0)))

    expunge : (side : Side) → All IsApart (expunge_steps s side)
    expunge side = All-filter_map IsApart (expunge_step s side) (items s side) (λ i c st h. subst IsApart (expunge_given s side i st h).1 tt)

pub flags_apart : (s : Scene) (marks : List (List ℕ)) (d : Direction) (far near set cleared : ℕ) → Contains (all_steps s marks) (step.Flags d far near set cleared) → AreApart set cleared
flags_apart s marks d far near set cleared c = All-contains IsApart (all_steps s marks) (step.Flags d far near set cleared) (plan_apart s marks) c
