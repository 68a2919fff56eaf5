-- What is noted beside messages and entries says what look-ups find.
use Rattle.std.proofs.Common.{◌≡◌, ℕ, zero, suc, ◌<◌, ◌≤◌, ◌+◌, Bool, true, false, ◌||◌, cond, List, [], ◌∷◌, Option, Some, None, length, get_or, map, refl, sym, ap, ◌∙◌, subst, inl, inr, arith}
use Rattle.std.specs.Prelude.{All, Contains, find, ◌==◌, ◌&&◌, is_some}
use Rattle.std.specs.List.{list_any}
use Rattle.std.proofs.lemmas.Bool.{eqb-true, false≢true, and_parts, cases_Bool}
use Rattle.std.proofs.lemmas.Option.{none-some}
use Rattle.std.proofs.lemmas.List.{get_or-map, length-map}
use Rattle.std.proofs.lemmas.List.Elements.{All-contains, All-cons, All-nil, Contains-get_or}
use Rattle.mailcore.specs.declared.side.Side.{Side}
use Rattle.mailcore.specs.declared.listing.Item.{Item}
use Rattle.mailcore.specs.Listed.{IsRising}
use Rattle.rules.specs.declared.entry.Entry.{Entry}
use Rattle.rules.specs.Entries.{ArePairs, uid_of, is_full, uid_on}
use Rattle.rules.specs.Outcome.{greatest}
use Rattle.rules.specs.Scene.{Scene, is_paired, full_entry}
use Rattle.rules.proofs.Walks.{find_some, find_none, map_contains, Contains-map, only_one, AllPairs-tail}
use Rattle.rules.proofs.LookUps.{full_only, flags_at_item}
use Rattle.planner.specs.declared.met.Met.{Met}
use Rattle.planner.specs.declared.standings.Standing.{Standing}
use Rattle.planner.specs.Merging.{holder, met_by, standing_of}
use Rattle.planner.specs.Scenes.{IsListed, IsMet, Stands, entries_of, items_of}
use Rattle.planner.proofs.Held.{once, named, found_not}

some_found : {X : Type 0} (b : Bool) (x : X) (o : Option X) (r : Bool) → is_some o ≡ r → is_some (cond b (Some x) o) ≡ (b || r)
some_found true x o r e = refl
some_found false x o r e = e

any_found : {X Y : Type 0} (f : X → Y) (p : Y → Bool) (xs : List X) → is_some (find (λ x. p (f x)) xs) ≡ list_any p (map f xs)
any_found f p [] = refl
any_found f p (x ∷ xs) = some_found (p (f x)) x (find (λ x. p (f x)) xs) (list_any p (map f xs)) (any_found f p xs)

pub paired : (s : Scene) (sts : List Standing) (side : Side) (u : ℕ) → s.entries ≡ entries_of sts → is_some (holder side sts u) ≡ is_paired s side u
paired s sts side u e =
    any_found (λ (st : Standing). st.entry) (λ (x : Entry). uid_of side x == u) sts
    ∙ ap (λ (es : List Entry). list_any (λ (x : Entry). uid_of side x == u) es) (sym e)

-- the entry that names the UID, where it is full
pub full_there : (s : Scene) (sts : List Standing) (side : Side) (u : ℕ) (st : Standing) → s.entries ≡ entries_of sts → ArePairs s.entries → holder side sts u ≡ Some st → is_full st.entry ≡ true → full_entry s side u ≡ Some st.entry
full_there s sts side u st e pairs h full =
    let f = find_some (λ (x : Standing). uid_of side x.entry == u) sts st h in
    let c : Contains s.entries st.entry = subst (λ (es : List Entry). Contains es st.entry) (sym e) (Contains-map (λ (x : Standing). x.entry) sts st st.entry f.0 refl) in
    let uid : uid_of side st.entry ≡ u = eqb-true (uid_of side st.entry) u f.1 in
    ap (λ (n : ℕ). full_entry s side n) (sym uid) ∙ full_only s side pairs st.entry c full

-- there is no other
pub full_not : (s : Scene) (sts : List Standing) (side : Side) (u : ℕ) (st : Standing) → s.entries ≡ entries_of sts → ArePairs s.entries → 0 < u → holder side sts u ≡ Some st → is_full st.entry ≡ false → full_entry s side u ≡ None
full_not s sts side u st e pairs positive h half =
    let f = find_some (λ (x : Standing). uid_of side x.entry == u) sts st h in
    let c : Contains s.entries st.entry = subst (λ (es : List Entry). Contains es st.entry) (sym e) (Contains-map (λ (x : Standing). x.entry) sts st st.entry f.0 refl) in
    let uid : uid_of side st.entry ≡ u = eqb-true (uid_of side st.entry) u f.1 in
    find_none (λ (x : Entry). is_full x && uid_of side x == u) s.entries (λ y d. elim (cases_Bool (is_full y && uid_of side y == u)) [
      | inl yes' ↦
          let b = and_parts (is_full y) (uid_of side y == u) yes' in
          let same : y ≡ st.entry = only_one (λ (a b : Entry). uid_on side a ≡ uid_on side b → uid_on side a ≡ None) (λ (x : Entry). uid_on side x) st.entry
          (λ a b q v w. none-some u (sym (q (v ∙ sym w)) ∙ v ∙ named side st.entry u positive uid)) s.entries (once side s.entries pairs) c y d
          (named side y u positive (eqb-true (uid_of side y) u b.1) ∙ sym (named side st.entry u positive uid)) in
          absurd (false≢true (sym half ∙ ap (λ (x : Entry). is_full x) (sym same) ∙ b.0))
      | inr no' ↦ no'
    ])

pub full_none : (s : Scene) (sts : List Standing) (side : Side) (u : ℕ) → s.entries ≡ entries_of sts → holder side sts u ≡ None → full_entry s side u ≡ None
full_none s sts side u e h = find_none (λ (x : Entry). is_full x && uid_of side x == u) s.entries (λ y d. elim (cases_Bool (is_full y && uid_of side y == u)) [
  | inl yes' ↦
      let b = and_parts (is_full y) (uid_of side y == u) yes' in
      let r = map_contains (λ (x : Standing). x.entry) sts y (subst (λ (es : List Entry). Contains es y) e d) in
      absurd (found_not (λ (x : Standing). uid_of side x.entry == u) sts h r.0 r.1 (ap (λ (x : Entry). uid_of side x == u) r.2 ∙ b.1))
  | inr no' ↦ no'
])

-- the k-th of numbers that rise strictly is at least k
pub at_least : (is : List Item) → IsRising is → (k : ℕ) (d : Item) → k < length is → k ≤ (get_or is k d).uid
at_least is rising zero d within = omega arith
at_least is rising (suc k) d within =
    let before = at_least is rising k d (omega arith) in
    let step = rising k (suc k) d (omega arith) within in
    omega arith

-- what names a UID has its flags noted beside it
pub there_stands : (P : Standing → Type 0) (sts : List Standing) (side : Side) (u : ℕ) (st : Standing) → All P sts → holder side sts u ≡ Some st → P st
there_stands P sts side u st all h = All-contains P sts st all (find_some (λ (x : Standing). uid_of side x.entry == u) sts st h).0

-- a half entry is the only one with its UID, so that no full one has it
pub half_alone : (s : Scene) (side : Side) (e : Entry) → ArePairs s.entries → Contains s.entries e → 0 < uid_of side e → is_full e ≡ false → full_entry s side (uid_of side e) ≡ None
half_alone s side e pairs c positive half =
    let u = uid_of side e in
    find_none (λ (x : Entry). is_full x && uid_of side x == u) s.entries (λ y d. elim (cases_Bool (is_full y && uid_of side y == u)) [
      | inl yes' ↦
          let b = and_parts (is_full y) (uid_of side y == u) yes' in
          let same : y ≡ e = only_one (λ (a b : Entry). uid_on side a ≡ uid_on side b → uid_on side a ≡ None) (λ (x : Entry). uid_on side x) e
          (λ a b q v w. none-some u (sym (q (v ∙ sym w)) ∙ v ∙ named side e u positive refl)) s.entries (once side s.entries pairs) c y d
          (named side y u positive (eqb-true (uid_of side y) u b.1) ∙ sym (named side e u positive refl)) in
          absurd (false≢true (sym half ∙ ap (λ (x : Entry). is_full x) (sym same) ∙ b.0))
      | inr no' ↦ no'
    ])

pub entries_back : (far near : List Item) (es : List Entry) → entries_of (map (standing_of far near) es) ≡ es
entries_back far near [] = refl
entries_back far near (e ∷ es) = ap (λ rest. e ∷ rest) (entries_back far near es)

pub items_back : (side : Side) (sts : List Standing) (is : List Item) → items_of (map (met_by side sts) is) ≡ is
items_back side sts [] = refl
items_back side sts (i ∷ is) = ap (λ rest. i ∷ rest) (items_back side sts is)

pub all_met : (side : Side) (sts : List Standing) (is : List Item) → All (IsMet side sts) (map (met_by side sts) is)
all_met side sts [] = All-nil (IsMet side sts)
all_met side sts (i ∷ is) = All-cons (IsMet side sts) (met_by side sts i) (map (met_by side sts) is) refl (all_met side sts is)

pub all_stand : (far near : List Item) (es : List Entry) → All (Stands far near) (map (standing_of far near) es)
all_stand far near [] = All-nil (Stands far near)
all_stand far near (e ∷ es) = All-cons (Stands far near) (standing_of far near e) (map (standing_of far near) es) refl (all_stand far near es)

-- the last of messages in order has the greatest UID
pub greatest_last : (is : List Item) → IsRising is → (k : ℕ) (d : Item) → k + 1 ≡ length is → (get_or is k d).uid ≡ greatest is
greatest_last [] rising k d e = absurd (omega arith)
greatest_last (i ∷ []) rising zero d e = omega arith
greatest_last (i ∷ []) rising (suc k) d e = absurd (omega arith)
greatest_last (i ∷ j ∷ js) rising zero d e = absurd (omega arith)
greatest_last (i ∷ j ∷ js) rising (suc k) d e =
    let rest = greatest_last (j ∷ js) (AllPairs-tail (λ (a b : Item). a.uid < b.uid) i (j ∷ js) rising) k d (omega arith) in
    let step = rising 0 1 i (omega arith) (omega arith) in
    omega arith

pub all_listed : (ms : List Met) → IsRising (items_of ms) → All (IsListed (items_of ms)) ms
all_listed ms rising k d within =
    let m = get_or ms k d in
    flags_at_item (items_of ms) rising m.item (Contains-map (λ (x : Met). x.item) ms m m.item (Contains-get_or ms k d within) refl)

pub greatest_met : (ms : List Met) (m : Met) (k : ℕ) → IsRising (items_of ms) → k + 1 ≡ length ms → m ≡ get_or ms k m → m.item.uid ≡ greatest (items_of ms)
greatest_met ms m k rising e here =
    let within : k < length ms = omega arith in
    let read : get_or (items_of ms) k m.item ≡ (get_or ms k m).item = get_or-map (λ (x : Met). x.item) ms k m m.item within in
    ap (λ (x : Met). x.item.uid) here ∙ ap (λ (i : Item). i.uid) (sym read)
    ∙ greatest_last (items_of ms) rising k m.item (omega (arith, length-map ms (λ (x : Met). x.item)))

-- what the merges come to, of other names for their lists
pub met_again : (side : Side) (is : List Item) (found made : List Met) (sts known : List Standing) → found ≡ made → sts ≡ known → made ≡ map (met_by side known) is → found ≡ map (met_by side sts) is
met_again side is found made sts known a b h = a ∙ h ∙ ap (λ (x : List Standing). map (met_by side x) is) (sym b)

pub items_again : (side : Side) (is : List Item) (found : List Met) (sts : List Standing) → found ≡ map (met_by side sts) is → items_of found ≡ is
items_again side is found sts h = ap items_of h ∙ items_back side sts is
