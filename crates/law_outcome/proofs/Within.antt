-- The flags of a plan have names where those of both mailboxes have.
use Rattle.std.proofs.Common.{◌≡◌, ℕ, ◌^◌, Bool, true, false, cond, eqb, List, [], ◌∷◌, find, Some, refl, sym, ap, ◌∙◌, subst, arith}
use Rattle.std.specs.Prelude.{All, take, drop, length, not, ◌&&◌, ◌==◌}
use Rattle.std.specs.Option.{option_map}
use Rattle.std.specs.Int.{bit_at}
use Rattle.std.proofs.lemmas.Option.{none-some, same_Some}
use Rattle.std.proofs.lemmas.List.Elements.{All-append, All-cons, All-contains, All-head, All-map, All-nil, All-tail}
use Rattle.mailcore.specs.declared.keywords.Keyword.{Keyword}
use Rattle.mailcore.specs.declared.side.Side.{Side}
use Rattle.mailcore.specs.declared.side.Side.TheVariants.{Far, Near}
use Rattle.mailcore.specs.declared.side.Direction.{Direction}
use Rattle.mailcore.specs.declared.side.Direction.TheVariants.{Pull, Push}
use Rattle.mailcore.specs.declared.listing.Item.{Item}
use Rattle.mailcore.specs.FlagSet.{DELETED}
use Rattle.mailcore.specs.KeywordNames.{IsWithin, is_known}
use Rattle.mailcore.specs.Listed.{item_of}
use Rattle.mailcore.specs.Sides.{source, target}
use Rattle.mailcore.proofs.FlagLetters.{has-pow}
use Rattle.mailcore.proofs.KnownFlags.{minus-within}
use Rattle.rules.specs.declared.entry.ListedPair.{ListedPair}
use Rattle.rules.specs.declared.options.Options.{Options}
use Rattle.rules.specs.FlagRule.{taken, taken_flag}
use Rattle.rules.specs.Called.{before, after}
use Rattle.rules.specs.Outcome.{news}
use Rattle.rules.specs.Scene.{Scene, flags_at, items}
use Rattle.rules.specs.World.{World, scene_of}
use Rattle.planner.specs.Written.{all_steps, expunge_step, expunge_steps, flags_step, flags_steps, gone_step, gone_steps, new_steps}
use Rattle.rules.proofs.FlagLemmas.{taken-at, taken-lt}
use Rattle.rules.proofs.LookUps.{pair_says}
use Rattle.rules.proofs.Walks.{All-filter_map, All-from_contains, filter_contains}
use Rattle.planner.proofs.Following.{expunge_given, flags_given, gone_given}
use Rattle.law_outcome.specs.Keywords.{IsWithinStep, IsWithinWorld}

-- ---- single sets

-- a flag that is taken is the source's or the target's
taken_one : (k s t r : ℕ) → eqb (taken_flag s t r) 1 ≡ true → (P : Type 0) → (eqb s 1 ≡ true → P) → (eqb t 1 ≡ true → P) → P
taken_one k s t r there P of_source of_target = by_test (not (s == r) && t == r) there
  where
    by_test : (b : Bool) → eqb (cond b s t) 1 ≡ true → P
    by_test true h = of_source h
    by_test false h = of_target h

taken_within : (keywords : List Keyword) (s t r : ℕ) → IsWithin keywords s → IsWithin keywords t → IsWithin keywords (taken s t r)
taken_within keywords s t r of_source of_target = record {
  set = taken-lt s t r;
  known = λ k h there.
      taken_one k (bit_at s k) (bit_at t k) (bit_at r k) (ap (λ x. eqb x 1) (sym (taken-at s t r k h)) ∙ there) (is_known keywords k ≡ true)
      (of_source.known k h) (of_target.known k h);
}

-- \Deleted has a name whatever the map
pub deleted_within : (keywords : List Keyword) → IsWithin keywords (2 ^ DELETED)
deleted_within keywords = record {
  set = omega arith;
  known = λ k h there. by_place k (sym (has-pow DELETED k) ∙ there);
}
  where
    same : (a b : ℕ) → eqb a b ≡ true → a ≡ b
    same a b h = grind arith

    by_place : (k : ℕ) → eqb k DELETED ≡ true → is_known keywords k ≡ true
    by_place k h = subst (λ n. is_known keywords n ≡ true) (sym (same k DELETED h)) refl

-- ---- the scene of a world

module _ (keywords : List Keyword) where
  abbrev Named : Item → Type 0
  Named i = IsWithin keywords i.flags

  found_within : (is : List Item) (u flags : ℕ) → All Named is → flags_at is u ≡ Some flags → IsWithin keywords flags
  found_within [] u flags all e = absurd (none-some flags e)
  found_within (i ∷ is) u flags all e = by_test (i.uid == u) (found_within is u flags (All-tail Named i is all)) e
    where
      by_test : (b : Bool) → (flags_at is u ≡ Some flags → IsWithin keywords flags) → option_map (λ (x : Item). x.flags) (cond b (Some i) (find (λ (x : Item). x.uid == u) is)) ≡ Some flags → IsWithin keywords flags
      by_test true later h = subst (IsWithin keywords) (same_Some i.flags flags h) (All-head Named i is all)
      by_test false later h = later h

  -- ---- new messages

  new_within : (d : Direction) (is : List Item) (marks : List (List ℕ)) → All Named is → All (IsWithinStep keywords) (new_steps d is marks)
  new_within d [] marks all = All-nil (IsWithinStep keywords)
  new_within d (i ∷ is) [] all = All-nil (IsWithinStep keywords)
  new_within d (i ∷ is) (mark ∷ marks) all =
      All-cons (IsWithinStep keywords) _ (new_steps d is marks) (All-head Named i is all) (new_within d is marks (All-tail Named i is all))

  module _ (s : Scene) (far : All Named s.far) (near : All Named s.near) where
    listed : (side : Side) → All Named (items s side)
    listed Far = far
    listed Near = near

    news_within : (d : Direction) → All Named (news s d)
    news_within d = All-from_contains Named (news s d) (λ i c. All-contains Named (items s (source d)) i (listed (source d)) (filter_contains _ (items s (source d)) i c).0)

    -- ---- what changes

    gone_within : (d : Direction) → All (IsWithinStep keywords) (gone_steps s d)
    gone_within d = All-filter_map (IsWithinStep keywords) (gone_step s d) (items s (target d))
        (λ i c st h. subst (IsWithinStep keywords) (gone_given s d i st h).3 (deleted_within keywords))

    pair_within : (d : Direction) (p : ListedPair) → IsWithin keywords p.far_flags → IsWithin keywords p.near_flags → IsWithin keywords (before d p) × IsWithin keywords (after d p)
    pair_within Pull p f n = (n, taken_within keywords p.far_flags p.near_flags p.recorded f n)
    pair_within Push p f n = (f, taken_within keywords p.near_flags p.far_flags p.recorded n f)

    flags_within : (d : Direction) → All (IsWithinStep keywords) (flags_steps s d)
    flags_within d = All-filter_map (IsWithinStep keywords) (flags_step s d) s.entries (λ e c st h.
        let g = flags_given s d e st h in
        let p = g.0 in
        let says = pair_says s e p g.2 in
        let both = pair_within d p (found_within s.far p.far p.far_flags far says.far_flags) (found_within s.near p.near p.near_flags near says.near_flags) in
        subst (IsWithinStep keywords) g.4 (minus-within keywords (after d p) (before d p) both.1, minus-within keywords (before d p) (after d p) both.0))

    expunges_within : (side : Side) → All (IsWithinStep keywords) (expunge_steps s side)
    expunges_within side = All-filter_map (IsWithinStep keywords) (expunge_step s side) (items s side)
        (λ i c st h. subst (IsWithinStep keywords) (expunge_given s side i st h).1 tt)

    steps_within : (marks : List (List ℕ)) → All (IsWithinStep keywords) (all_steps s marks)
    steps_within marks =
        let P = IsWithinStep keywords in
        let new = All-append P _ _ (new_within Pull (news s Pull) (take (length (news s Pull)) marks) (news_within Pull)) (new_within Push (news s Push) (drop (length (news s Pull)) marks) (news_within Push)) in
        All-append P _ _ (All-append P _ _ (All-append P _ _ (All-append P _ _ (All-append P _ _ (All-append P _ _
        new (gone_within Pull)) (gone_within Push)) (flags_within Pull)) (flags_within Push)) (expunges_within Far)) (expunges_within Near)

pub plan_within : (keywords : List Keyword) (w : World) (options : Options) (marks : List (List ℕ)) → IsWithinWorld keywords w → All (IsWithinStep keywords) (all_steps (scene_of w options) marks)
plan_within keywords w options marks h =
    steps_within keywords (scene_of w options) (All-map (λ i. IsWithin keywords i.flags) (item_of Far) w.far.messages h.far) (All-map (λ i. IsWithin keywords i.flags) (item_of Near) w.near.messages h.near) marks
