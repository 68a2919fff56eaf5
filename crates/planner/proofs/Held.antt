-- What names a UID, by the index.
use Rattle.std.proofs.Common.{◌≡◌, ℕ, ◌<◌, Bool, true, false, List, [], ◌∷◌, Option, Some, None, length, get_or, map, refl, sym, ap, ◌∙◌, subst, inl, inr, arith}
use Rattle.std.specs.Prelude.{All, AllPairs, Contains, find, ◌==◌, unwrap_or}
use Rattle.std.proofs.lemmas.Bool.{ne_eqb, eq-eqb, eqb-true, false≢true}
use Rattle.std.proofs.lemmas.Option.{none-some}
use Rattle.std.proofs.lemmas.List.{get_or-map, length-map}
use Rattle.std.proofs.lemmas.List.Elements.{All-contains, Contains-get_or}
use Rattle.mailcore.specs.declared.side.Side.{Side}
use Rattle.mailcore.specs.declared.side.Side.TheVariants.{Far, Near}
use Rattle.rules.specs.declared.entry.Entry.{Entry}
use Rattle.rules.specs.Entries.{ArePairs, uid_of, uid_on}
use Rattle.rules.proofs.Walks.{find_some, find_only, only_one, list_any_some, Contains-cases, Contains-none}
use Rattle.planner.proofs.Passing.{find_none_of}
use Rattle.planner.specs.declared.places.EntryPlace.{EntryPlace}
use Rattle.planner.specs.declared.standings.Standing.{Standing}
use Rattle.planner.specs.Index.{IsPlaceOf, IsIndex}
use Rattle.planner.specs.Merging.{holder}

abbrev entries_of : List Standing → List Entry
entries_of sts = map (λ st. st.entry) sts

-- a UID stands in one entry of a side
pub once : (side : Side) (es : List Entry) → ArePairs es → AllPairs (λ a b. uid_on side a ≡ uid_on side b → uid_on side a ≡ None) es
once Far es pairs = pairs.far_once
once Near es pairs = pairs.near_once

pub named : (side : Side) (e : Entry) (u : ℕ) → 0 < u → uid_of side e ≡ u → uid_on side e ≡ Some u
named Far e u positive h = some_uid e.far u positive h
  where
    some_uid : (o : Option ℕ) (u : ℕ) → 0 < u → unwrap_or o 0 ≡ u → o ≡ Some u
    some_uid None u p h = absurd (omega arith)
    some_uid (Some n) u p h = ap (λ (m : ℕ). Some m) h
named Near e u positive h = some_uid e.near u positive h
  where
    some_uid : (o : Option ℕ) (u : ℕ) → 0 < u → unwrap_or o 0 ≡ u → o ≡ Some u
    some_uid None u p h = absurd (omega arith)
    some_uid (Some n) u p h = ap (λ (m : ℕ). Some m) h

once_standing : (side : Side) (sts : List Standing) → ArePairs (entries_of sts) → AllPairs (λ a b. uid_on side a.entry ≡ uid_on side b.entry → uid_on side a.entry ≡ None) sts
once_standing side sts pairs i j d less within =
    let a : get_or (entries_of sts) i d.entry ≡ (get_or sts i d).entry = get_or-map (λ (st : Standing). st.entry) sts i d d.entry (omega arith) in
    let b : get_or (entries_of sts) j d.entry ≡ (get_or sts j d).entry = get_or-map (λ (st : Standing). st.entry) sts j d d.entry within in
    let h = once side (entries_of sts) pairs i j d.entry less (omega (arith, length-map sts (λ (st : Standing). st.entry))) in
    subst (λ (x : Entry). uid_on side x ≡ uid_on side (get_or sts j d).entry → uid_on side x ≡ None) a
    (subst (λ (y : Entry). uid_on side (get_or (entries_of sts) i d.entry) ≡ uid_on side y → uid_on side (get_or (entries_of sts) i d.entry) ≡ None) b h)

-- the one at the place of the UID names it
pub holder_found : (side : Side) (sts : List Standing) (ps : List EntryPlace) (u : ℕ) (p : EntryPlace) (st : Standing) → ArePairs (entries_of sts) → IsIndex side (entries_of sts) ps → 0 < u
    → find (λ p. p.uid == u) ps ≡ Some p → st ≡ get_or sts p.at st → Some st ≡ holder side sts u
holder_found side sts ps u p st pairs index positive found here =
    let f = find_some (λ (q : EntryPlace). q.uid == u) ps p found in
    let place : IsPlaceOf side (entries_of sts) p = All-contains (IsPlaceOf side (entries_of sts)) ps p index.named f.0 in
    let within : p.at < length sts = let b = place.bound in omega (arith, length-map sts (λ (st : Standing). st.entry)) in
    let entry : get_or (entries_of sts) p.at st.entry ≡ st.entry = get_or-map (λ (x : Standing). x.entry) sts p.at st st.entry within ∙ ap (λ (x : Standing). x.entry) (sym here) in
    let uid : uid_of side st.entry ≡ u = ap (λ (e : Entry). uid_of side e) (sym entry) ∙ place.named st.entry ∙ eqb-true p.uid u f.1 in
    let in_them : Contains sts st = subst (λ (x : Standing). Contains sts x) (sym here) (Contains-get_or sts p.at st within) in
    sym (find_only (λ (x : Standing). uid_of side x.entry == u) sts st in_them (eq-eqb (uid_of side st.entry) u uid)
    (λ y c e. only_one (λ (a b : Standing). uid_on side a.entry ≡ uid_on side b.entry → uid_on side a.entry ≡ None) (λ (x : Standing). uid_on side x.entry) st
    (λ a b q v w. none-some u (sym (q (v ∙ sym w)) ∙ v ∙ named side st.entry u positive uid)) sts (once_standing side sts pairs) in_them y c
    (named side y.entry u positive (eqb-true (uid_of side y.entry) u e) ∙ sym (named side st.entry u positive uid))))

found_first : {X : Type 0} (p : X → Bool) (z : X) (zs : List X) (b : Bool) → p z ≡ b → (b ≡ false → (y : X) × (find p zs ≡ Some y)) → (y : X) × (find p (z ∷ zs) ≡ Some y)
found_first p z zs true e rest = (z, rw e refl)
found_first p z zs false e rest = let r = rest refl in (r.0, rw e r.1)

found : {X : Type 0} (p : X → Bool) (xs : List X) (x : X) → Contains xs x → p x ≡ true → (y : X) × (find p xs ≡ Some y)
found p [] x c t = absurd (Contains-none x c)
found p (z ∷ zs) x c t = found_first p z zs (p z) refl (λ e. elim (Contains-cases z x zs c) [
  | inl same ↦ absurd (false≢true (sym e ∙ ap p same ∙ t))
  | inr rest ↦ found p zs x rest t
])

pub found_not : {X : Type 0} (p : X → Bool) (xs : List X) → find p xs ≡ None → (x : X) → Contains xs x → p x ≡ true → ⊥
found_not p xs h x c t = let r = found p xs x c t in none-some r.0 (sym h ∙ r.1)

-- where no place has the UID, nothing names it
pub holder_none : (side : Side) (sts : List Standing) (ps : List EntryPlace) (u : ℕ) → IsIndex side (entries_of sts) ps → find (λ p. p.uid == u) ps ≡ None → None ≡ holder side sts u
holder_none side sts ps u index none = sym (find_none_at sts (λ k d within. ne_eqb (uid_of side (get_or sts k d).entry) u (λ e.
    let r = list_any_some (λ (p : EntryPlace). p.at == k) ps (index.whole k (omega (arith, length-map sts (λ (st : Standing). st.entry)))) in
    let at : r.0.at ≡ k = eqb-true r.0.at k r.2 in
    let place : IsPlaceOf side (entries_of sts) r.0 = All-contains (IsPlaceOf side (entries_of sts)) ps r.0 index.named r.1 in
    let entry : get_or (entries_of sts) r.0.at d.entry ≡ (get_or sts k d).entry = ap (λ (n : ℕ). get_or (entries_of sts) n d.entry) at ∙ get_or-map (λ (x : Standing). x.entry) sts k d d.entry within in
    let uid : r.0.uid ≡ u = sym (place.named d.entry) ∙ ap (λ (x : Entry). uid_of side x) entry ∙ e in
    found_not (λ (p : EntryPlace). p.uid == u) ps none r.0 r.1 (eq-eqb r.0.uid u uid))))
  where
    find_none_at : (xs : List Standing) → All (λ (st : Standing). (uid_of side st.entry == u) ≡ false) xs → find (λ (st : Standing). uid_of side st.entry == u) xs ≡ None
    find_none_at xs h = find_none_of (λ (st : Standing). uid_of side st.entry == u) xs h
