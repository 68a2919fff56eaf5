-- The flags that a merge notes at the entries' places.
use Rattle.std.proofs.Common.{◌≡◌, ℕ, ◌<◌, ◌+◌, List, Option, None, length, get_or, map, sym, ap, ◌∙◌, subst, inl, inr, arith}
use Rattle.std.specs.Prelude.{◌==◌, slice_set}
use Rattle.std.proofs.lemmas.Bool.{eqb-true, cases_order}
use Rattle.std.proofs.lemmas.List.{get_or-map, length-map, get_or-set_same, get_or-set_other}
use Rattle.std.proofs.lemmas.List.Elements.{All-contains}
use Rattle.mailcore.specs.declared.side.Side.{Side}
use Rattle.mailcore.specs.declared.listing.Item.{Item}
use Rattle.rules.specs.declared.entry.Entry.{Entry}
use Rattle.rules.specs.Entries.{uid_of}
use Rattle.rules.specs.Scene.{flags_at}
use Rattle.rules.proofs.Walks.{list_any_some}
use Rattle.planner.specs.declared.places.EntryPlace.{EntryPlace}
use Rattle.planner.specs.Index.{IsPlaceOf, IsIndex}
use Rattle.planner.proofs.Passing.{same_lists}

-- the flags at the places so far are those of the listing
abbrev pub AreNoted : List Item → List EntryPlace → ℕ → List (Option ℕ) → Type 0
AreNoted is ps i flags = (j : ℕ) (d : EntryPlace) (o : Option ℕ) → j < i → get_or flags (get_or ps j d).at o ≡ flags_at is (get_or ps j d).uid

-- two places of one entry have one UID
same_uid : (side : Side) (es : List Entry) (p q : EntryPlace) → IsPlaceOf side es p → IsPlaceOf side es q → p.at ≡ q.at → p.uid ≡ q.uid
same_uid side es p q a b e =
    let d : Entry = record { far = None; near = None; flags = 0 } in
    sym (a.named d) ∙ ap (λ (n : ℕ). uid_of side (get_or es n d)) e ∙ b.named d

pub noted_more : (side : Side) (es : List Entry) (ps : List EntryPlace) (is : List Item) → IsIndex side es ps → (flags : List (Option ℕ)) (i : ℕ) (p : EntryPlace) (f : Option ℕ) → length flags ≡ length es → i < length ps
    → ((d : EntryPlace) → get_or ps i d ≡ p) → f ≡ flags_at is p.uid → AreNoted is ps i flags → AreNoted is ps (i + 1) (slice_set flags p.at f)
noted_more side es ps is index flags i p f len within here flag before j d o less =
    let q : EntryPlace = get_or ps j d in
    let of_p : IsPlaceOf side es p = subst (λ (x : EntryPlace). IsPlaceOf side es x) (here p) (index.named i p within) in
    let of_q : IsPlaceOf side es q = index.named j d (omega arith) in
    let bound : p.at < length flags = let b = of_p.bound in omega arith in
    elim (cases_order q.at p.at) [
      | inl same ↦ ap (λ (n : ℕ). get_or (slice_set flags p.at f) n o) same ∙ get_or-set_same flags p.at f o bound ∙ flag ∙ ap (λ (u : ℕ). flags_at is u) (sym (same_uid side es q p of_q of_p same))
      | inr other ↦
          let apart : ¬ (q.at ≡ p.at) = λ e. elim other [ inl l ↦ omega arith | inr l ↦ omega arith ] in
          let following : j < i = elim (cases_order j i) [
            | inl same ↦ absurd (apart (ap (λ (x : EntryPlace). x.at) (ap (λ (n : ℕ). get_or ps n d) same ∙ here d)))
            | inr off ↦ elim off [ inl l ↦ l | inr l ↦ absurd (omega arith) ]
          ] in
          get_or-set_other flags p.at q.at f o apart ∙ before j d o following
    ]

pub all_noted : (side : Side) (es : List Entry) (ps : List EntryPlace) (is : List Item) → IsIndex side es ps → (flags : List (Option ℕ)) → length flags ≡ length es → AreNoted is ps (length ps) flags
    → flags ≡ map (λ e. flags_at is (uid_of side e)) es
all_noted side es ps is index flags len noted = same_lists flags (map (λ (e : Entry). flags_at is (uid_of side e)) es) (omega (arith, length-map es (λ (e : Entry). flags_at is (uid_of side e)))) (λ k o within.
    let e : Entry = record { far = None; near = None; flags = 0 } in
    let bound : k < length es = omega arith in
    let r = list_any_some (λ (p : EntryPlace). p.at == k) ps (index.whole k bound) in
    let at : r.0.at ≡ k = eqb-true r.0.at k r.2 in
    let of_it : IsPlaceOf side es r.0 = All-contains (IsPlaceOf side es) ps r.0 index.named r.1 in
    let uid : r.0.uid ≡ uid_of side (get_or es k e) = sym (of_it.named e) ∙ ap (λ (n : ℕ). uid_of side (get_or es n e)) at in
    let read : get_or flags r.0.at o ≡ flags_at is r.0.uid = All-contains (λ (p : EntryPlace). get_or flags p.at o ≡ flags_at is p.uid) ps r.0 (λ j d w. noted j d o w) r.1 in
    ap (λ (n : ℕ). get_or flags n o) (sym at) ∙ read ∙ ap (λ (u : ℕ). flags_at is u) uid ∙ sym (get_or-map (λ (x : Entry). flags_at is (uid_of side x)) es k e o bound))
