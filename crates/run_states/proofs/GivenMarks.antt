-- A message whose mark of deletion its counterpart gets keeps it, whatever the other steps make of its flags.
use Rattle.std.proofs.Common.{◌≡◌, ◌<◌, ℕ, Bool, true, false, cond, not, ◌==◌, Option, Some, refl, sym, ◌∙◌, ap, subst, arith}
use Rattle.std.specs.Prelude.{Contains, ◌&&◌, is_some, unwrap_or}
use Rattle.std.specs.Int.{bit_at}
use Rattle.std.proofs.lemmas.Bool.{and_parts, eqb-true, false≢true, true≢false}
use Rattle.std.proofs.lemmas.Nat.Bits.{bit_at-lt}
use Rattle.std.proofs.lemmas.Option.{same_Some}
use Rattle.mailcore.specs.declared.side.Side.{Side}
use Rattle.mailcore.specs.declared.side.Side.TheVariants.{Far, Near}
use Rattle.mailcore.specs.declared.side.Direction.{Direction}
use Rattle.mailcore.specs.declared.side.Direction.TheVariants.{Pull, Push}
use Rattle.mailcore.specs.FlagSet.{DELETED, has, minus}
use Rattle.mailcore.specs.Sides.{other, source, target, towards}
use Rattle.mailcore.proofs.FlagRules.{eight, has-minus}
use Rattle.rules.specs.declared.entry.Entry.{Entry}
use Rattle.rules.specs.declared.entry.ListedPair.{ListedPair}
use Rattle.rules.specs.declared.plan.Step.{Step}
use Rattle.rules.specs.declared.plan.Step.TheVariants as step
use Rattle.rules.specs.Called.{after, before, called, differ_by, flags_after, flags_by, flags_with, is_gone, of_pair, pair_of}
use Rattle.rules.specs.Entries.{ArePairs, is_full, uid_of}
use Rattle.rules.specs.FlagRule.{taken, taken_flag}
use Rattle.rules.specs.Options.{goes}
use Rattle.rules.specs.Propagation as propagation
use Rattle.rules.specs.Scene.{Scene, flags_at, full_entry, is_listed, items}
use Rattle.rules.proofs.FlagLemmas.{taken-at}
use Rattle.rules.proofs.LookUps.{entry_of, full_only, pair_of_entry, pair_says, pair_uids, uids_full}
use Rattle.planner.specs.Listed.{of_step}
use Rattle.run_states.specs.Stale.{marks, source_uid}

-- one flag that the target takes: the source has it, and takes it back from nobody
given_flag : (x y z : ℕ) → x < 2 → y < 2 → z < 2 → (taken_flag x y z == 1) ≡ true → (y == 1) ≡ false → ((x == 1) ≡ true) × ((taken_flag y x z == 1) ≡ true)
given_flag = eight (λ x y z. (taken_flag x y z == 1) ≡ true → (y == 1) ≡ false → ((x == 1) ≡ true) × ((taken_flag y x z == 1) ≡ true))
    (λ p q. absurd (false≢true p)) (λ p q. absurd (false≢true p)) (λ p q. absurd (true≢false q)) (λ p q. absurd (true≢false q))
    (λ p q. (refl, refl)) (λ p q. absurd (false≢true p)) (λ p q. absurd (true≢false q)) (λ p q. absurd (true≢false q))

-- a flag that is set was not there before
set_parts : (y x set : ℕ) → set ≡ minus y x → has set DELETED ≡ true → (has y DELETED ≡ true) × (has x DELETED ≡ false)
set_parts y x set is marks =
    let b = and_parts (has y DELETED) (not (has x DELETED)) (sym (has-minus y x DELETED (omega arith)) ∙ ap (λ (v : ℕ). has v DELETED) (sym is) ∙ marks) in
    (b.0, is_not (has x DELETED) b.1)
  where
    is_not : (a : Bool) → not a ≡ true → a ≡ false
    is_not false e = refl
    is_not true e = absurd (false≢true e)

given_mark : (on : Bool) (s t r set : ℕ) → set ≡ minus (taken s t r) t → has set DELETED ≡ true → (has s DELETED ≡ true) × (has (cond on (taken t s r) s) DELETED ≡ true)
given_mark on s t r set is marks =
    let b = set_parts (taken s t r) t set is marks in
    let k = given_flag (bit_at s DELETED) (bit_at t DELETED) (bit_at r DELETED) (bit_at-lt s DELETED) (bit_at-lt t DELETED) (bit_at-lt r DELETED)
    (ap (λ (x : ℕ). x == 1) (sym (taken-at s t r DELETED (omega arith))) ∙ b.0) b.1 in
    (k.0, either on k.0 (ap (λ (x : ℕ). x == 1) (taken-at t s r DELETED (omega arith)) ∙ k.1))
  where
    either : (on : Bool) → has s DELETED ≡ true → has (taken t s r) DELETED ≡ true → has (cond on (taken t s r) s) DELETED ≡ true
    either true mine after = after
    either false mine after = mine

-- the entry of such a message, whose counterpart is listed, and its flags as listed and after the run
pub record IsGivenBy (s : Scene) (side : Side) (u : ℕ) : Type 0 where
  pub entry : Entry
  pub full : full_entry s side u ≡ Some entry
  pub theirs : is_listed s (other side) (uid_of (other side) entry) ≡ true
  pub flags : ℕ
  pub listed : flags_at (items s side) u ≡ Some flags
  pub has_mark : has flags DELETED ≡ true
  pub marked : has (flags_after s side u flags) DELETED ≡ true

set_is : (set cleared x y : ℕ) → differ_by set cleared x y ≡ true → set ≡ minus y x
set_is set cleared x y h =
    eqb-true set (minus y x) (and_parts (not (x == y)) (set == minus y x) (and_parts (not (x == y) && set == minus y x) (cleared == minus x y) h).0).1

by_pair : (s : Scene) (d : Direction) (set cleared : ℕ) (e : Entry) (p : ListedPair) → ArePairs s.entries → Contains s.entries e → pair_of s e ≡ Some p
    → differ_by set cleared (before d p) (after d p) ≡ true → has set DELETED ≡ true → IsGivenBy s (source d) (source_uid d p.far p.near)
by_pair s Pull set cleared e p pairs c is differ marks =
    let says = pair_says s e p is in
    let far : uid_of Far e ≡ p.far = ap (λ (o : Option ℕ). unwrap_or o 0) says.far in
    let near : uid_of Near e ≡ p.near = ap (λ (o : Option ℕ). unwrap_or o 0) says.near in
    let full : full_entry s Far p.far ≡ Some e = ap (full_entry s Far) (sym far) ∙ full_only s Far pairs e c (uids_full e (p.far, p.near) (pair_uids s e p is)) in
    let on = goes s.options.cells.flags (towards Far) in
    let other_listed : flags_at s.near (uid_of Near e) ≡ Some p.near_flags = ap (flags_at s.near) near ∙ says.near_flags in
    let k = given_mark on p.far_flags p.near_flags p.recorded set (set_is set cleared (before Pull p) (after Pull p) differ) marks in
    record {
      entry = e;
      full = full;
      theirs = ap (λ (o : Option ℕ). is_some o) other_listed;
      flags = p.far_flags;
      listed = says.far_flags;
      has_mark = k.0;
      marked =
          ap (λ (o : Option Entry). has (flags_by s Far p.far_flags o) DELETED) full
          ∙ ap (λ (o : Option ℕ). has (flags_with s Far p.far_flags e.flags o) DELETED) other_listed
          ∙ subst (λ (r : ℕ). has (cond on (taken p.near_flags p.far_flags r) p.far_flags) DELETED ≡ true) says.recorded k.1;
    }
by_pair s Push set cleared e p pairs c is differ marks =
    let says = pair_says s e p is in
    let far : uid_of Far e ≡ p.far = ap (λ (o : Option ℕ). unwrap_or o 0) says.far in
    let near : uid_of Near e ≡ p.near = ap (λ (o : Option ℕ). unwrap_or o 0) says.near in
    let full : full_entry s Near p.near ≡ Some e = ap (full_entry s Near) (sym near) ∙ full_only s Near pairs e c (uids_full e (p.far, p.near) (pair_uids s e p is)) in
    let on = goes s.options.cells.flags (towards Near) in
    let other_listed : flags_at s.far (uid_of Far e) ≡ Some p.far_flags = ap (flags_at s.far) far ∙ says.far_flags in
    let k = given_mark on p.near_flags p.far_flags p.recorded set (set_is set cleared (before Push p) (after Push p) differ) marks in
    record {
      entry = e;
      full = full;
      theirs = ap (λ (o : Option ℕ). is_some o) other_listed;
      flags = p.near_flags;
      listed = says.near_flags;
      has_mark = k.0;
      marked =
          ap (λ (o : Option Entry). has (flags_by s Near p.near_flags o) DELETED) full
          ∙ ap (λ (o : Option ℕ). has (flags_with s Near p.near_flags e.flags o) DELETED) other_listed
          ∙ subst (λ (r : ℕ). has (cond on (taken p.far_flags p.near_flags r) p.near_flags) DELETED ≡ true) says.recorded k.1;
    }

pub is_given : (s : Scene) (d : Direction) (f n set cleared : ℕ) → ArePairs s.entries → called s (propagation.Flags d f n set cleared) ≡ true → has set DELETED ≡ true → IsGivenBy s (source d) (source_uid d f n)
is_given s d f n set cleared pairs is marks =
    let a = (and_parts (goes s.options.cells.flags d) (of_pair s f n (λ p. differ_by set cleared (before d p) (after d p))) is).1 in
    let r = pair_of_entry s f n (λ p. differ_by set cleared (before d p) (after d p)) a in
    subst (λ (u : ℕ). IsGivenBy s (source d) (source_uid d u n)) r.4 (subst (λ (v : ℕ). IsGivenBy s (source d) (source_uid d r.1.far v)) r.5 (by_pair s d set cleared r.0 r.1 pairs r.2 r.3 r.6 marks))

-- ---- no step marks it

not_true : (b : Bool) → (b ≡ true → ⊥) → b ≡ false
not_true false none = refl
not_true true none = absurd (none refl)

gone_parts : (s : Scene) (d : Direction) (e : Entry) → is_gone s d e ≡ true → (is_full e ≡ true) × (not (is_listed s (source d) (uid_of (source d) e)) ≡ true)
gone_parts s d e h =
    let a = and_parts (goes s.options.cells.gone d && is_full e && not (is_listed s (source d) (uid_of (source d) e))) (is_listed s (target d) (uid_of (target d) e)) h in
    let b = and_parts (goes s.options.cells.gone d && is_full e) (not (is_listed s (source d) (uid_of (source d) e))) a.0 in
    ((and_parts (goes s.options.cells.gone d) (is_full e) b.0).1, b.1)

module _ (s : Scene) (pairs : ArePairs s.entries) where
  -- the entry with its UID is its own
  own_entry : (side : Side) (u : ℕ) (g : IsGivenBy s side u) (e : Entry) → Contains s.entries e → is_full e ≡ true → uid_of side e ≡ u → e ≡ g.entry
  own_entry side u g e c full same = same_Some e g.entry (sym (ap (full_entry s side) (sym same) ∙ full_only s side pairs e c full) ∙ g.full)

  not_gone : (side : Side) (u : ℕ) (g : IsGivenBy s side u) (e : Entry) → Contains s.entries e → is_full e ≡ true → uid_of side e ≡ u → not (is_listed s (other side) (uid_of (other side) e)) ≡ true → ⊥
  not_gone side u g e c full same gone =
      false≢true (ap not (sym (ap (λ (x : Entry). is_listed s (other side) (uid_of (other side) x)) (own_entry side u g e c full same) ∙ g.theirs)) ∙ gone)

  not_set : (side : Side) (u set y x : ℕ) (g : IsGivenBy s side u) → flags_at (items s side) u ≡ Some x → set ≡ minus y x → has set DELETED ≡ true → ⊥
  not_set side u set y x g at is marks =
      true≢false (sym g.has_mark ∙ ap (λ (f : ℕ). has f DELETED) (same_Some g.flags x (sym g.listed ∙ at)) ∙ (set_parts y x set is marks).1)

  pub not_marked : (side : Side) (u : ℕ) → IsGivenBy s side u → (t : Step) → called s (of_step t) ≡ true → marks side u t ≡ false
  not_marked side u g (step.New d v flags mark) is = refl
  not_marked side u g (step.Expunge at v) is = refl
  not_marked Far u g (step.Gone Pull f n) is = refl
  not_marked Near u g (step.Gone Push f n) is = refl
  not_marked Far u g (step.Flags Pull f n set cleared) is = refl
  not_marked Near u g (step.Flags Push f n set cleared) is = refl
  not_marked Near u g (step.Gone Pull f n) is =
      let r = entry_of s f n (is_gone s Pull) is in
      let k = gone_parts s Pull r.0 r.4 in
      not_true (u == n) (λ same. not_gone Near u g r.0 r.1 k.0 (r.3 ∙ sym (eqb-true u n same)) k.1)
  not_marked Far u g (step.Gone Push f n) is =
      let r = entry_of s f n (is_gone s Push) is in
      let k = gone_parts s Push r.0 r.4 in
      not_true (u == f) (λ same. not_gone Far u g r.0 r.1 k.0 (r.2 ∙ sym (eqb-true u f same)) k.1)
  not_marked Near u g (step.Flags Pull f n set cleared) is =
      let a = (and_parts (goes s.options.cells.flags Pull) (of_pair s f n (λ p. differ_by set cleared (before Pull p) (after Pull p))) is).1 in
      let r = pair_of_entry s f n (λ p. differ_by set cleared (before Pull p) (after Pull p)) a in
      let says = pair_says s r.0 r.1 r.3 in
      not_true (u == n && has set DELETED)
      (λ both.
      let b = and_parts (u == n) (has set DELETED) both in
      not_set Near u set (after Pull r.1) (before Pull r.1) g (ap (flags_at s.near) (eqb-true u n b.0 ∙ sym r.5) ∙ says.near_flags) (set_is set cleared (before Pull r.1) (after Pull r.1) r.6) b.1)
  not_marked Far u g (step.Flags Push f n set cleared) is =
      let a = (and_parts (goes s.options.cells.flags Push) (of_pair s f n (λ p. differ_by set cleared (before Push p) (after Push p))) is).1 in
      let r = pair_of_entry s f n (λ p. differ_by set cleared (before Push p) (after Push p)) a in
      let says = pair_says s r.0 r.1 r.3 in
      not_true (u == f && has set DELETED)
      (λ both.
      let b = and_parts (u == f) (has set DELETED) both in
      not_set Far u set (after Push r.1) (before Push r.1) g (ap (flags_at s.far) (eqb-true u f b.0 ∙ sym r.4) ∙ says.far_flags) (set_is set cleared (before Push r.1) (after Push r.1) r.6) b.1)
