-- What the steps of a plan make of one message: its flags after, and whether it stays.
use Rattle.std.proofs.Common.{◌≡◌, ℕ, ◌<◌, ◌^◌, Bool, true, false, cond, Option, Some, None, refl, sym, ap, ◌∙◌, inl, inr, arith}
use Rattle.std.specs.Prelude.{AllPairs, Contains, ◌&&◌, ◌==◌, not, is_some, unwrap_or}
use Rattle.std.proofs.lemmas.Bool.{cases_Bool, both_ways, eqb-true}
use Rattle.std.proofs.lemmas.Option.{none-some, same_Some}
use Rattle.mailcore.specs.declared.side.Side.{Side}
use Rattle.mailcore.specs.declared.side.Side.TheVariants.{Far, Near}
use Rattle.mailcore.specs.declared.side.Direction.{Direction}
use Rattle.mailcore.specs.declared.side.Direction.TheVariants.{Pull, Push}
use Rattle.mailcore.specs.declared.listing.Item.{Item}
use Rattle.mailcore.specs.FlagSet.{FLAGS, minus}
use Rattle.mailcore.specs.Sides.{source, target}
use Rattle.mailcore.specs.Listed.{IsRising}
use Rattle.mailcore.proofs.FlagRules.{changes_make_new}
use Rattle.rules.specs.declared.entry.Entry.{Entry}
use Rattle.rules.specs.declared.entry.ListedPair.{ListedPair}
use Rattle.rules.specs.declared.plan.Step.TheVariants.{Gone, Flags}
use Rattle.rules.specs.FlagRule.{taken, with_deleted}
use Rattle.rules.specs.Options.{goes}
use Rattle.rules.specs.Entries.{ArePairs, uid_of, uid_on, is_full}
use Rattle.rules.specs.Scene.{Scene, items, flags_at, is_listed, full_entry}
use Rattle.rules.specs.Called.{is_gone, pair_of, flags_by, flags_with, flags_after}
use Rattle.planner.specs.Written.{gone_between, gone_by, gone_step, gone_steps, flags_by_pair, flags_step, flags_steps}
use Rattle.rules.proofs.LookUps.{pair_says, pair_from, full_found, full_only, full_far, full_near, full_uids, flags_at_item, listed_item}
use Rattle.rules.proofs.FlagLemmas.{taken-lt}
use Rattle.planner.proofs.Following.{flags_given, pair_full}
use Rattle.law_outcome.specs.Steps.{changed_uid}
use Rattle.law_outcome.proofs.Changes.{flags_all}
use Rattle.law_outcome.proofs.Idle.{then_maybe, idle_from, walk-none, walk-one, hits_it, gone_uid, gone_idle, flags_each, pair_uid, pair_flags}

-- ---- single rules

-- the flags after, by those of the counterpart, where it is listed
abbrev pub with_theirs : (gone flags : Bool) → (x recorded : ℕ) → Option ℕ → ℕ
with_theirs gone flags x r None = cond gone (with_deleted x) x
with_theirs gone flags x r (Some t) = cond flags (taken t x r) x

-- a gone step, if there is one
gone_does : (d : Direction) (b : Bool) (f n u x : ℕ) → u ≡ changed_uid d f n → then_maybe (target d) (cond b (Some (Gone d f n)) None) u x ≡ cond b (with_deleted x) x
gone_does d true f n u x h = rw (hits_it d f n u h) refl
gone_does d false f n u x h = refl

-- a flags step, if there is one
flags_does : (d : Direction) (on : Bool) (f n u x y : ℕ) → u ≡ changed_uid d f n → y < 2 ^ FLAGS →
    then_maybe (target d) (cond on (cond (x == y) None (Some (Flags d f n (minus y x) (minus x y)))) None) u x ≡ cond on y x
flags_does d false f n u x y h l = refl
flags_does d true f n u x y h l = elim (cases_Bool (x == y)) [
  | inl same ↦ rw same (eqb-true x y same)
  | inr other ↦ rw other (rw (hits_it d f n u h) (changes_make_new x y l))
]

bools : (g f a b : Bool) → f ≡ true → a ≡ false → b ≡ true → (g && f && not a && b) ≡ g
bools true f a b h k l = rw (h, k, l) refl
bools false f a b h k l = refl

bools_not : (g f a b : Bool) → a ≡ true → (g && f && not a && b) ≡ false
bools_not true true a b h = rw h refl
bools_not true false a b h = refl
bools_not false f a b h = refl

full_on : (side : Side) (e : Entry) → is_full e ≡ true → uid_on side e ≡ Some (uid_of side e)
full_on Far e h = full_far e h
full_on Near e h = full_near e h

on_once : (s : Scene) (side : Side) → ArePairs s.entries → AllPairs (λ a b. uid_on side a ≡ uid_on side b → uid_on side a ≡ None) s.entries
on_once s Far p = p.far_once
on_once s Near p = p.near_once

-- ---- a message that is listed

module _ (s : Scene) (d : Direction) (pairs : ArePairs s.entries) (rising : IsRising (items s (target d))) (i : Item) (there : Contains (items s (target d)) i) where
  at_here : flags_at (items s (target d)) i.uid ≡ Some i.flags
  at_here = flags_at_item (items s (target d)) rising i there

  gone_fate : (x : ℕ) → flags_all (target d) (gone_steps s d) i.uid x ≡ then_maybe (target d) (gone_step s d i) i.uid x
  gone_fate =
      walk-one (target d) i.uid (gone_step s d) (λ (a b : Item). a.uid < b.uid) (λ (j : Item). j.uid ≡ i.uid) (λ a b l u v. omega arith) (items s (target d)) rising
      (λ j c. elim (cases_Bool (j.uid == i.uid)) [
        | inl same ↦ inl (eqb-true j.uid i.uid same)
        | inr other ↦ inr (gone_idle s (target d) d i.uid j (λ e. both_ways (j.uid == i.uid) other (rw e (eqb_same i.uid))))
      ]) i there refl
    where
      eqb_same : (u : ℕ) → (u == u) ≡ true
      eqb_same u = grind (arith)

  -- no full entry names it
  flags_fate_none : full_entry s (target d) i.uid ≡ None → (x : ℕ) → flags_all (target d) (flags_steps s d) i.uid x ≡ x
  flags_fate_none h =
      walk-none (target d) i.uid (flags_step s d) s.entries
      (λ e c. elim (flags_each s (target d) d i.uid e) [
        | inl pair ↦ absurd (named e c pair.0 pair.1 pair.2)
        | inr idle ↦ idle
      ])
    where
      named : (e : Entry) → Contains s.entries e → (p : ListedPair) → pair_of s e ≡ Some p → changed_uid d p.far p.near ≡ i.uid → ⊥
      named e c p is same =
          let full : is_full e ≡ true = pair_full s e p is in
          let on : Some (uid_of (target d) e) ≡ Some i.uid = sym (full_on (target d) e full) ∙ pair_uid s d e p (pair_says s e p is) ∙ ap (λ u. Some u) same in
          let uid : uid_of (target d) e ≡ i.uid = same_Some (uid_of (target d) e) i.uid on in
          none-some e (sym h ∙ ap (λ u. full_entry s (target d) u) (sym uid) ∙ full_only s (target d) pairs e c full)

  -- a full entry names it
  flags_fate_some : (e : Entry) → full_entry s (target d) i.uid ≡ Some e → (x : ℕ) → flags_all (target d) (flags_steps s d) i.uid x ≡ then_maybe (target d) (flags_step s d e) i.uid x
  flags_fate_some e h =
      let f = full_found s (target d) i.uid e h in
      walk-one (target d) i.uid (flags_step s d) (λ (a b : Entry). uid_on (target d) a ≡ uid_on (target d) b → uid_on (target d) a ≡ None) (λ (a : Entry). uid_on (target d) a ≡ Some i.uid)
      (λ a b q u v. none-some i.uid (sym (q (u ∙ sym v)) ∙ u)) s.entries (on_once s (target d) pairs)
      (λ a c. elim (flags_each s (target d) d i.uid a) [
        | inl pair ↦ inl (pair_uid s d a pair.0 (pair_says s a pair.0 pair.1) ∙ ap (λ u. Some u) pair.2)
        | inr idle ↦ inr idle
      ]) e f.0 (full_on (target d) e f.1 ∙ ap (λ u. Some u) f.2)

  gone_is : (e : Entry) → full_entry s (target d) i.uid ≡ Some e → gone_step s d i ≡ cond (is_gone s d e) (Some (Gone d (uid_of Far e) (uid_of Near e))) None
  gone_is e h = ap (λ o. gone_by s d o) h ∙ ap (λ o. cond (is_gone s d e) (gone_between d o) None) (full_uids e (full_found s (target d) i.uid e h).1)

  gone_hits : (e : Entry) → full_entry s (target d) i.uid ≡ Some e → i.uid ≡ changed_uid d (uid_of Far e) (uid_of Near e)
  gone_hits e h = sym (gone_uid d e ∙ (full_found s (target d) i.uid e h).2)

  listed_here : (e : Entry) → full_entry s (target d) i.uid ≡ Some e → is_listed s (target d) (uid_of (target d) e) ≡ true
  listed_here e h = ap (λ u. is_listed s (target d) u) (full_found s (target d) i.uid e h).2 ∙ ap (λ (o : Option ℕ). is_some o) at_here

  -- the counterpart is not listed
  fate_gone : (e : Entry) → full_entry s (target d) i.uid ≡ Some e → flags_at (items s (source d)) (uid_of (source d) e) ≡ None →
      flags_all (target d) (flags_steps s d) i.uid (flags_all (target d) (gone_steps s d) i.uid i.flags) ≡ cond (goes s.options.cells.gone d) (with_deleted i.flags) i.flags
  fate_gone e h none =
      let called : is_gone s d e ≡ goes s.options.cells.gone d =
      bools (goes s.options.cells.gone d) (is_full e) (is_listed s (source d) (uid_of (source d) e)) (is_listed s (target d) (uid_of (target d) e)) (full_found s (target d) i.uid e h).1 (ap (λ (o : Option ℕ). is_some o) none) (listed_here e h) in
      flags_fate_some e h (flags_all (target d) (gone_steps s d) i.uid i.flags)
      ∙ idle_from (target d) i.uid (flags_step s d e) (λ st k. let r = flags_given s d e st k in absurd (no_pair d r.0 none r.2)) (flags_all (target d) (gone_steps s d) i.uid i.flags)
      ∙ gone_fate i.flags
      ∙ ap (λ o. then_maybe (target d) o i.uid i.flags) (gone_is e h)
      ∙ gone_does d (is_gone s d e) (uid_of Far e) (uid_of Near e) i.uid i.flags (gone_hits e h)
      ∙ ap (λ b. cond b (with_deleted i.flags) i.flags) called
    where
      no_pair : (d : Direction) (p : ListedPair) → flags_at (items s (source d)) (uid_of (source d) e) ≡ None → pair_of s e ≡ Some p → ⊥
      no_pair Pull p none is = let q = pair_says s e p is in none-some p.far_flags (sym none ∙ ap (λ (o : Option ℕ). flags_at s.far (unwrap_or o 0)) q.far ∙ q.far_flags)
      no_pair Push p none is = let q = pair_says s e p is in none-some p.near_flags (sym none ∙ ap (λ (o : Option ℕ). flags_at s.near (unwrap_or o 0)) q.near ∙ q.near_flags)

  -- the counterpart is listed
  fate_flags : (e : Entry) (t : ℕ) → full_entry s (target d) i.uid ≡ Some e → flags_at (items s (source d)) (uid_of (source d) e) ≡ Some t →
      flags_all (target d) (flags_steps s d) i.uid (flags_all (target d) (gone_steps s d) i.uid i.flags) ≡ cond (goes s.options.cells.flags d) (taken t i.flags e.flags) i.flags
  fate_flags e t h some =
      let called : is_gone s d e ≡ false =
      bools_not (goes s.options.cells.gone d) (is_full e) (is_listed s (source d) (uid_of (source d) e)) (is_listed s (target d) (uid_of (target d) e)) (ap (λ (o : Option ℕ). is_some o) some) in
      flags_fate_some e h (flags_all (target d) (gone_steps s d) i.uid i.flags)
      ∙ ap (λ x. then_maybe (target d) (flags_step s d e) i.uid x)
      (gone_fate i.flags ∙ ap (λ o. then_maybe (target d) o i.uid i.flags) (gone_is e h)
      ∙ gone_does d (is_gone s d e) (uid_of Far e) (uid_of Near e) i.uid i.flags (gone_hits e h)
      ∙ ap (λ b. cond b (with_deleted i.flags) i.flags) called)
      ∙ ap (λ o. then_maybe (target d) o i.uid i.flags) (step_is d some (full_found s (target d) i.uid e h).1 (ap (λ u. flags_at (items s (target d)) u) (full_found s (target d) i.uid e h).2 ∙ at_here))
      ∙ flags_does d (goes s.options.cells.flags d) (uid_of Far e) (uid_of Near e) i.uid i.flags (taken t i.flags e.flags) (gone_hits e h) (taken-lt t i.flags e.flags)
    where
      step_is : (d : Direction) → flags_at (items s (source d)) (uid_of (source d) e) ≡ Some t → is_full e ≡ true → flags_at (items s (target d)) (uid_of (target d) e) ≡ Some i.flags →
          flags_step s d e ≡ cond (goes s.options.cells.flags d)
          (cond (i.flags == taken t i.flags e.flags) None (Some (Flags d (uid_of Far e) (uid_of Near e) (minus (taken t i.flags e.flags) i.flags) (minus i.flags (taken t i.flags e.flags))))) None
      step_is Pull theirs full ours = ap (λ o. cond (goes s.options.cells.flags Pull) (flags_by_pair Pull o) None) (pair_from s e (uid_of Far e) (uid_of Near e) t i.flags (full_far e full) (full_near e full) theirs ours)
      step_is Push theirs full ours = ap (λ o. cond (goes s.options.cells.flags Push) (flags_by_pair Push o) None) (pair_from s e (uid_of Far e) (uid_of Near e) i.flags t (full_far e full) (full_near e full) ours theirs)

  -- the fact on one message
  pub flags_fate : flags_all (target d) (flags_steps s d) i.uid (flags_all (target d) (gone_steps s d) i.uid i.flags) ≡ flags_after s (target d) i.uid i.flags
  flags_fate = by_entry (full_entry s (target d) i.uid) refl
    where
      named_by : (d : Direction) (e : Entry) (o : Option ℕ) → flags_at (items s (source d)) (uid_of (source d) e) ≡ o → full_entry s (target d) i.uid ≡ Some e →
          with_theirs (goes s.options.cells.gone d) (goes s.options.cells.flags d) i.flags e.flags o ≡ flags_after s (target d) i.uid i.flags
      named_by Pull e None h k = sym (ap (λ o. flags_by s Near i.flags o) k ∙ ap (λ o. flags_with s Near i.flags e.flags o) h)
      named_by Pull e (Some t) h k = sym (ap (λ o. flags_by s Near i.flags o) k ∙ ap (λ o. flags_with s Near i.flags e.flags o) h)
      named_by Push e None h k = sym (ap (λ o. flags_by s Far i.flags o) k ∙ ap (λ o. flags_with s Far i.flags e.flags o) h)
      named_by Push e (Some t) h k = sym (ap (λ o. flags_by s Far i.flags o) k ∙ ap (λ o. flags_with s Far i.flags e.flags o) h)

      by_theirs : (e : Entry) → full_entry s (target d) i.uid ≡ Some e → (o : Option ℕ) → flags_at (items s (source d)) (uid_of (source d) e) ≡ o →
          flags_all (target d) (flags_steps s d) i.uid (flags_all (target d) (gone_steps s d) i.uid i.flags) ≡ flags_after s (target d) i.uid i.flags
      by_theirs e h None k = fate_gone e h k ∙ named_by d e None k h
      by_theirs e h (Some t) k = fate_flags e t h k ∙ named_by d e (Some t) k h

      by_entry : (o : Option Entry) → full_entry s (target d) i.uid ≡ o →
          flags_all (target d) (flags_steps s d) i.uid (flags_all (target d) (gone_steps s d) i.uid i.flags) ≡ flags_after s (target d) i.uid i.flags
      by_entry None h =
          flags_fate_none h (flags_all (target d) (gone_steps s d) i.uid i.flags)
          ∙ gone_fate i.flags
          ∙ ap (λ o. then_maybe (target d) (gone_by s d o) i.uid i.flags) h
          ∙ sym (ap (λ o. flags_by s (target d) i.flags o) h)
      by_entry (Some e) h = by_theirs e h (flags_at (items s (source d)) (uid_of (source d) e)) refl

-- ---- a UID that is not listed

pub not_listed_fate : (s : Scene) (d : Direction) (u : ℕ) → ((i : Item) → Contains (items s (target d)) i → i.uid ≡ u → ⊥) → (x : ℕ) →
    flags_all (target d) (flags_steps s d) u (flags_all (target d) (gone_steps s d) u x) ≡ x
not_listed_fate s d u h x =
    walk-none (target d) u (flags_step s d) s.entries (λ e c. elim (flags_each s (target d) d u e) [
      | inl pair ↦ absurd (let r = listed_item (items s (target d)) (changed_uid d pair.0.far pair.0.near) (pair_flags s d e pair.0 (pair_says s e pair.0 pair.1)) in h r.0 r.1 (r.2 ∙ pair.2))
      | inr idle ↦ idle
    ]) (flags_all (target d) (gone_steps s d) u x)
    ∙ walk-none (target d) u (gone_step s d) (items s (target d)) (λ i c. gone_idle s (target d) d u i (h i c)) x
