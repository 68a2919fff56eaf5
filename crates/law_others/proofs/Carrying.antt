-- What others changed on one side of a pair is called for.
use Rattle.std.proofs.Common.{◌≡◌, ◌≢◌, ◌∙◌, ◌<◌, ◌^◌, ◌==◌, ℕ, Bool, true, false, not, Option, refl, sym, ap, arith}
use Rattle.std.specs.Prelude.{Contains, ◌&&◌}
use Rattle.std.specs.Int.{bit_at}
use Rattle.std.proofs.lemmas.Bool.{and_from, eq-eqb, ne_eqb, not_from_false}
use Rattle.std.proofs.lemmas.Nat.Bits.{bit_at-lt}
use Rattle.mailcore.specs.declared.side.Side.{Side}
use Rattle.mailcore.specs.declared.side.Side.TheVariants.{Far, Near}
use Rattle.mailcore.specs.declared.side.Direction.{Direction}
use Rattle.mailcore.specs.declared.side.Direction.TheVariants.{Pull, Push}
use Rattle.mailcore.specs.FlagSet.{FLAGS, has, minus}
use Rattle.mailcore.specs.Sides.{source, target}
use Rattle.mailcore.proofs.FlagRules.{changes_make_new, eight}
use Rattle.rules.specs.declared.entry.Entry.{Entry}
use Rattle.rules.specs.declared.entry.ListedPair.{ListedPair}
use Rattle.rules.specs.Called.{after, before, differ_by, is_gone, is_pair_with, of_entry, of_pair, pair_of, vanishes}
use Rattle.rules.specs.Entries.{is_full, uid_of}
use Rattle.rules.specs.FlagRule.{taken, taken_flag}
use Rattle.rules.specs.Options.{goes}
use Rattle.rules.specs.Scene.{Scene, is_listed}
use Rattle.rules.proofs.FlagLemmas.{taken-at, taken-lt}
use Rattle.rules.proofs.Walks.{list_any_from}
use Rattle.law_others.specs.NextPlan.{ChangedFlagsAreCarried, EntriesOfNothingGo, IsChanged, RemovalsAreCarried, theirs}

-- ---- flags

-- one flag: the target takes what has changed on the source alone
flag_taken : (x y z : ℕ) → x < 2 → y < 2 → z < 2 → (x == 1) ≢ (z == 1) → (y == 1) ≡ (z == 1) → (taken_flag x y z == 1) ≡ (x == 1)
flag_taken = eight (λ x y z. (x == 1) ≢ (z == 1) → (y == 1) ≡ (z == 1) → (taken_flag x y z == 1) ≡ (x == 1))
    (λ c u. absurd (c refl)) (λ c u. cc) (λ c u. cc) (λ c u. refl)
    (λ c u. refl) (λ c u. cc) (λ c u. cc) (λ c u. absurd (c refl))

takes : (s t r place : ℕ) → place < FLAGS → has s place ≢ has r place → has t place ≡ has r place → has (taken s t r) place ≡ has s place
takes s t r place within changed unchanged =
    ap (λ (b : ℕ). b == 1) (taken-at s t r place within)
    ∙ flag_taken (bit_at s place) (bit_at t place) (bit_at r place) (bit_at-lt s place) (bit_at-lt t place) (bit_at-lt r place) changed unchanged

after_takes : (d : Direction) (p : ListedPair) (place : ℕ) → IsChanged d p place → has (after d p) place ≡ has (theirs d p) place
after_takes Pull p place c = takes p.far_flags p.near_flags p.recorded place c.within c.changed c.unchanged
after_takes Push p place c = takes p.near_flags p.far_flags p.recorded place c.within c.changed c.unchanged

after-lt : (d : Direction) (p : ListedPair) → after d p < 2 ^ FLAGS
after-lt Pull p = taken-lt p.far_flags p.near_flags p.recorded
after-lt Push p = taken-lt p.near_flags p.far_flags p.recorded

differs : (d : Direction) (p : ListedPair) (place : ℕ) → IsChanged d p place → before d p ≡ after d p → ⊥
differs d p place c same =
    let e : has (theirs d p) place ≡ has p.recorded place = sym (after_takes d p place c) ∙ ap (λ (f : ℕ). has f place) (sym same) ∙ c.unchanged in
    c.changed e

pub flags_carried : ChangedFlagsAreCarried
flags_carried s d e p place among is on c =
    let set : ℕ = minus (after d p) (before d p) in
    let cleared : ℕ = minus (before d p) (after d p) in
    let test : ListedPair → Bool = λ q. differ_by set cleared (before d q) (after d q) in
    let apart : not (before d p == after d p) ≡ true = not_from_false (before d p == after d p) (ne_eqb (before d p) (after d p) (differs d p place c)) in
    let by : test p ≡ true = and_from (not (before d p == after d p) && set == minus (after d p) (before d p)) (cleared == minus (before d p) (after d p))
    (and_from (not (before d p == after d p)) (set == minus (after d p) (before d p)) apart (eq-eqb set set refl)) (eq-eqb cleared cleared refl) in
    let here : is_pair_with p.far p.near test (pair_of s e) ≡ true =
    ap (λ (o : Option ListedPair). is_pair_with p.far p.near test o) is
    ∙ and_from (p.far == p.far && p.near == p.near) (test p) (and_from (p.far == p.far) (p.near == p.near) (eq-eqb p.far p.far refl) (eq-eqb p.near p.near refl)) by in
    record {
      set = set;
      cleared = cleared;
      is_called = and_from (goes s.options.cells.flags d) (of_pair s p.far p.near test) on
          (list_any_from (λ (x : Entry). is_pair_with p.far p.near test (pair_of s x)) s.entries e among here);
      arrives = ap (λ (f : ℕ). has f place) (changes_make_new (before d p) (after d p) (after-lt d p)) ∙ after_takes d p place c;
    }

-- ---- removals

of_its_entry : (s : Scene) (e : Entry) (test : Entry → Bool) → Contains s.entries e → test e ≡ true → of_entry s (uid_of Far e) (uid_of Near e) test ≡ true
of_its_entry s e test among is =
    list_any_from (λ (x : Entry). uid_of Far x == uid_of Far e && uid_of Near x == uid_of Near e && test x) s.entries e among
    (and_from (uid_of Far e == uid_of Far e && uid_of Near e == uid_of Near e) (test e)
    (and_from (uid_of Far e == uid_of Far e) (uid_of Near e == uid_of Near e) (eq-eqb (uid_of Far e) (uid_of Far e) refl) (eq-eqb (uid_of Near e) (uid_of Near e) refl)) is)

pub gone_carried : RemovalsAreCarried
gone_carried s d e among full on lacks there =
    of_its_entry s e (is_gone s d) among
    (and_from (goes s.options.cells.gone d && is_full e && not (is_listed s (source d) (uid_of (source d) e))) (is_listed s (target d) (uid_of (target d) e))
    (and_from (goes s.options.cells.gone d && is_full e) (not (is_listed s (source d) (uid_of (source d) e)))
    (and_from (goes s.options.cells.gone d) (is_full e) on full) (not_from_false (is_listed s (source d) (uid_of (source d) e)) lacks)) there)

vanished : (s : Scene) (side : Side) (u : ℕ) → is_listed s side u ≡ false → vanishes s side u ≡ true
vanished s side u lacks = grind (arith, not_from_false (is_listed s side u) lacks)

pub both_gone : EntriesOfNothingGo
both_gone s e among far near =
    of_its_entry s e (λ _. vanishes s Far (uid_of Far e) && vanishes s Near (uid_of Near e)) among
    (and_from (vanishes s Far (uid_of Far e)) (vanishes s Near (uid_of Near e)) (vanished s Far (uid_of Far e) far) (vanished s Near (uid_of Near e) near))
