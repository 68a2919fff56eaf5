-- An entry that has lost a side calls for nothing.
use Rattle.std.proofs.Common.{◌≡◌, ◌∙◌, ◌<◌, ℕ, Bool, true, false, not, ◌==◌, Option, None, Some, List, is_some, ap, refl, subst, sym, arith}
use Rattle.std.specs.Prelude.{Contains, ◌&&◌, ◌||◌, unwrap_or}
use Rattle.std.proofs.lemmas.Bool.{and_parts, and_right, both_ways, eq-eqb, eqb-true, false_from_ne_true, false≢true}
use Rattle.mailcore.specs.declared.side.Side.{Side}
use Rattle.mailcore.specs.declared.side.Side.TheVariants.{Far, Near}
use Rattle.mailcore.specs.declared.side.Direction.{Direction}
use Rattle.mailcore.specs.FlagSet.{DELETED, has}
use Rattle.mailcore.specs.Sides.{other, source, target}
use Rattle.rules.specs.declared.entry.Entry.{Entry}
use Rattle.rules.specs.declared.entry.ListedPair.{ListedPair}
use Rattle.rules.specs.Called.{called, flags_by, is_deleted_then, is_expunged, is_gone, is_pair_with, of_entry, of_pair, pair_between, pair_of, vanishes, with_flags}
use Rattle.rules.specs.Entries.{ArePairs, both, is_full, uid_of, uid_on}
use Rattle.rules.specs.Options.{covers, goes}
use Rattle.rules.specs.Propagation.{Propagation, New, Gone, Flags, Expunge, Record, Drop}
use Rattle.rules.specs.Scene.{Scene, flags_at, full_entry, is_listed, is_paired, items}
use Rattle.rules.proofs.LookUps.{far_only, near_only}
use Rattle.rules.proofs.Walks.{find_none, list_any_from, list_any_some}
use Rattle.law_outcome.specs.RuleLaws.{HalfEntryIsLeft, IsHalf, IsOfMessage, on_side}
use Rattle.law_outcome.proofs.Unpaired.{unpaired}

-- ---- by side

named : (o : Option ℕ) (n : ℕ) → 0 < n → unwrap_or o 0 ≡ n → o ≡ Some n
named None n positive e = absurd (omega (arith, positive, e))
named (Some u) n positive e = ap (λ (m : ℕ). Some m) e

named_on : (side : Side) (x : Entry) (n : ℕ) → 0 < n → uid_of side x ≡ n → uid_on side x ≡ Some n
named_on Far x n positive e = named x.far n positive e
named_on Near x n positive e = named x.near n positive e

number_of : (side : Side) (x : Entry) (n : ℕ) → uid_on side x ≡ Some n → uid_of side x ≡ n
number_of Far x n e = ap (λ (o : Option ℕ). unwrap_or o 0) e
number_of Near x n e = ap (λ (o : Option ℕ). unwrap_or o 0) e

one_only : (side : Side) (es : List Entry) → ArePairs es → (a b : Entry) (n : ℕ) → Contains es a → Contains es b → uid_on side a ≡ Some n → uid_on side b ≡ Some n → b ≡ a
one_only Far es pairs a b n c d g h = far_only es pairs a b n c d g h
one_only Near es pairs a b n c d g h = near_only es pairs a b n c d g h

has_other : (side : Side) (x : Entry) → is_full x ≡ true → is_some (uid_on (other side) x) ≡ true
has_other Far x full = (and_parts (is_some x.far) (is_some x.near) full).1
has_other Near x full = (and_parts (is_some x.far) (is_some x.near) full).0

same_numbers : (side : Side) (a b f n : ℕ) → (a == f && b == n) ≡ true → on_side side a b ≡ on_side side f n
same_numbers Far a b f n h = eqb-true a f (and_parts (a == f) (b == n) h).0
same_numbers Near a b f n h = eqb-true b n (and_parts (a == f) (b == n) h).1

numbers_of : (side : Side) (x : Entry) → uid_of side x ≡ on_side side (uid_of Far x) (uid_of Near x)
numbers_of Far x = refl
numbers_of Near x = refl

vanishes_on : (side : Side) (s : Scene) (f n : ℕ) → (vanishes s Far f && vanishes s Near n) ≡ true → vanishes s side (on_side side f n) ≡ true
vanishes_on Far s f n h = (and_parts (vanishes s Far f) (vanishes s Near n) h).0
vanishes_on Near s f n h = (and_parts (vanishes s Far f) (vanishes s Near n) h).1

-- ---- a listed pair is of a full entry that has its UIDs

with_numbers : (a b r f n : ℕ) (p : ListedPair → Bool) (far near : Option ℕ) → is_pair_with f n p (with_flags a b r far near) ≡ true → (a == f && b == n) ≡ true
with_numbers a b r f n p None near h = absurd (false≢true h)
with_numbers a b r f n p (Some x) None h = absurd (false≢true h)
with_numbers a b r f n p (Some x) (Some y) h =
    let pair : ListedPair = record { far = a; near = b; far_flags = x; near_flags = y; recorded = r } in
    (and_parts (a == f && b == n) (p pair) h).0

pair_full : (s : Scene) (r f n : ℕ) (p : ListedPair → Bool) (far near : Option ℕ) → is_pair_with f n p (pair_between s r (both far near)) ≡ true
    → ((is_some far && is_some near) ≡ true) × ((unwrap_or far 0 == f && unwrap_or near 0 == n) ≡ true)
pair_full s r f n p None near h = absurd (false≢true h)
pair_full s r f n p (Some a) None h = absurd (false≢true h)
pair_full s r f n p (Some a) (Some b) h = (refl, with_numbers a b r f n p (flags_at s.far a) (flags_at s.near b) h)

gone_full : (s : Scene) (d : Direction) (x : Entry) → is_gone s d x ≡ true → is_full x ≡ true
gone_full s d x h =
    let away : Bool = not (is_listed s (source d) (uid_of (source d) x)) in
    let on : Bool = goes s.options.cells.gone d in
    let a = and_parts (on && is_full x && away) (is_listed s (target d) (uid_of (target d) x)) h in
    let b = and_parts (on && is_full x) away a.0 in
    (and_parts on (is_full x) b.0).1

-- ---- nothing is called for the other message

module _ (s : Scene) (side : Side) (e : Entry) (uid : ℕ) (pairs : ArePairs s.entries) (half : IsHalf s e side uid) where
  -- no full entry names the message
  full_none : (x : Entry) → Contains s.entries x → uid_of side x ≡ uid → is_full x ≡ true → ⊥
  full_none x c is full =
      let same = one_only side s.entries pairs e x uid half.stands c half.uid_is (named_on side x uid half.positive is) in
      false≢true (sym (ap (λ (y : Entry). is_some (uid_on (other side) y)) same ∙ ap (λ (o : Option ℕ). is_some o) half.lost) ∙ has_other side x full)

  entry_none : (f n : ℕ) (p : Entry → Bool) → on_side side f n ≡ uid → ((x : Entry) → Contains s.entries x → uid_of side x ≡ uid → p x ≡ true → ⊥) → of_entry s f n p ≡ false
  entry_none f n p is never = false_from_ne_true (of_entry s f n p) (λ c.
      let r = list_any_some (λ (x : Entry). uid_of Far x == f && uid_of Near x == n && p x) s.entries c in
      let a = and_parts (uid_of Far r.0 == f && uid_of Near r.0 == n) (p r.0) r.2 in
      never r.0 r.1 (numbers_of side r.0 ∙ same_numbers side (uid_of Far r.0) (uid_of Near r.0) f n a.0 ∙ is) a.1)

  pair_none : (f n : ℕ) (p : ListedPair → Bool) → on_side side f n ≡ uid → of_pair s f n p ≡ false
  pair_none f n p is = false_from_ne_true (of_pair s f n p) (λ c.
      let r = list_any_some (λ (x : Entry). is_pair_with f n p (pair_of s x)) s.entries c in
      let k = pair_full s r.0.flags f n p r.0.far r.0.near r.2 in
      full_none r.0 r.1 (numbers_of side r.0 ∙ same_numbers side (uid_of Far r.0) (uid_of Near r.0) f n k.1 ∙ is) k.0)

  stays : is_expunged s side uid ≡ false
  stays =
      let none : full_entry s side uid ≡ None = find_none (λ (x : Entry). is_full x && uid_of side x == uid) s.entries (λ x c. false_from_ne_true (is_full x && uid_of side x == uid) (λ t.
      let a = and_parts (is_full x) (uid_of side x == uid) t in
      full_none x c (eqb-true (uid_of side x) uid a.1) a.0)) in
      let kept : is_deleted_then s side uid (flags_at (items s side) uid) ≡ false =
      ap (λ (o : Option ℕ). is_deleted_then s side uid o) half.listed
      ∙ ap (λ (o : Option Entry). has (flags_by s side half.flags o) DELETED) none
      ∙ half.unmarked in
      and_right (covers s.options.expunge side) (is_deleted_then s side uid (flags_at (items s side) uid)) kept

  is_there : vanishes s side uid ≡ false
  is_there =
      let above : (uid == 0) ≡ false = false_from_ne_true (uid == 0) (λ t. let zero = eqb-true uid 0 t in let positive = half.positive in omega (arith, zero, positive)) in
      let listed : is_listed s side uid ≡ true = ap (λ (o : Option ℕ). is_some o) half.listed in
      rw (above, listed, stays) refl

  not_new : (d : Direction) (u : ℕ) → source d ≡ side → u ≡ uid → called s (New d u) ≡ false
  not_new d u from is =
      let own : uid_of side e ≡ u = number_of side e uid half.uid_is ∙ sym is in
      let here : is_paired s side u ≡ true = list_any_from (λ (x : Entry). uid_of side x == u) s.entries e half.stands (eq-eqb (uid_of side e) u own) in
      let paired : is_paired s (source d) u ≡ true = subst (λ (k : Side). is_paired s k u ≡ true) (sym from) here in
      false_from_ne_true (called s (New d u)) (λ c. both_ways (is_paired s (source d) u) (unpaired s d u c) paired)

  left : (q : Propagation) → IsOfMessage side uid q → called s q ≡ false
  left (New d u) is = not_new d u is.0 is.1
  left (Gone d f n) is = entry_none f n (is_gone s d) is (λ x c named gone. full_none x c named (gone_full s d x gone))
  left (Flags d f n set cleared) is = and_right (goes s.options.cells.flags d) _ (pair_none f n _ is)
  left (Expunge at u) is = ap (λ (k : Side). is_expunged s k u) is.0 ∙ ap (λ (v : ℕ). is_expunged s side v) is.1 ∙ stays
  left (Record f n w) is = pair_none f n _ is
  left (Drop f n) is = entry_none f n (λ e. vanishes s Far f && vanishes s Near n) is (λ x c named both.
      false≢true (sym (ap (λ (v : ℕ). vanishes s side v) is ∙ is_there) ∙ vanishes_on side s f n both))

pub half_entry_is_left : HalfEntryIsLeft
half_entry_is_left s side e uid q pairs half is = left s side e uid pairs half q is
