-- What the names in a folder say of the messages of a look, one name after the other.
use Rattle.std.proofs.Common.{cond, get_or, subst, take, ◌+◌, ◌≡◌, ◌∙◌, ℕ, ◌<◌, Bool, false, List, [], ◌∷◌, ◌++◌, Option, None, Some, append_assoc, ap, arith, drop, length, map, refl, sym}
use Rattle.std.specs.Prelude.{◌==◌, find, not}
use Rattle.std.specs.List.{cons_option, filter_map}
use Rattle.std.specs.Option.{option_map, option_or}
use Rattle.std.specs.List.Sorted.{IsPermutation}
use Rattle.std.proofs.lemmas.List.{drop_more, map-append, map-id, take-append-drop}
use Rattle.std.proofs.lemmas.List.Elements.{filter_map-append}
use Rattle.std.proofs.lemmas.List.Sorted.{list_any-IsPermutation}
use Rattle.maildir.specs.declared.folder.FileName.{FileName}
use Rattle.maildir.specs.declared.folder.Place.{Place}
use Rattle.maildir.specs.declared.standing.Stale.{Stale}
use Rattle.maildir.specs.declared.standing.Stale.TheVariants.{Unmarked}
use Rattle.maildir.specs.Standings.{HasMet, as_marked, files_in, first, first_stale, is_among, odd, odd_shown, reported_among, reported_uids, shown, shown_by}

find_never : {X : Type 0} (xs : List X) → find (λ x. false) xs ≡ None
find_never [] = refl
find_never (x ∷ xs) = find_never xs

pub none_among : (uids name : List ℕ) → length uids ≡ 0 → reported_among uids name ≡ None
none_among [] name none = find_never (reported_uids name)
none_among (u ∷ uids) name none = absurd (omega (arith, none))

-- ---- the first of a list

first_none : {T : Type 0} (xs : List T) → first xs ≡ None → xs ≡ []
first_none [] none = refl
first_none (x ∷ xs) none = cc

first_append : {T : Type 0} (xs ys : List T) → first (xs ++ ys) ≡ option_or (first xs) (first ys)
first_append [] ys = refl
first_append (x ∷ xs) ys = refl

-- ---- names that were met

pub met_append : (sought : List ℕ) (xs ys : List FileName) (a b c : List ℕ) (o p q : List (ℕ × FileName)) → HasMet sought xs a b o p → HasMet sought ys b c p q → HasMet sought (xs ++ ys) a c o q
met_append sought xs ys a b c o p q m k = record {
  marked = k.marked ∙ ap (λ (l : List ℕ). l ++ filter_map (as_marked sought) ys) m.marked ∙ append_assoc a (filter_map (as_marked sought) xs) (filter_map (as_marked sought) ys)
      ∙ ap (λ (l : List ℕ). a ++ l) (sym (filter_map-append (as_marked sought) xs ys));
  odd_names = k.odd_names ∙ ap (λ (l : List (ℕ × FileName)). l ++ filter_map (odd sought) ys) m.odd_names ∙ append_assoc o (filter_map (odd sought) xs) (filter_map (odd sought) ys)
      ∙ ap (λ (l : List (ℕ × FileName)). o ++ l) (sym (filter_map-append (odd sought) xs ys));
}

pub files_append : (place : Place) (xs ys : List (List ℕ)) → files_in place (xs ++ ys) ≡ files_in place xs ++ files_in place ys
files_append place xs ys = map-append _ xs ys

module _ (gone marked : List ℕ) where
  pub shown_append : (xs ys : List FileName) → shown_by gone marked (xs ++ ys) ≡ shown_by gone marked xs ++ shown_by gone marked ys
  shown_append xs ys = filter_map-append (shown gone marked) xs ys

  pub first_shown : (xs ys : List FileName) → first (shown_by gone marked (xs ++ ys)) ≡ option_or (first (shown_by gone marked xs)) (first (shown_by gone marked ys))
  first_shown xs ys = ap first (shown_append xs ys) ∙ first_append (shown_by gone marked xs) (shown_by gone marked ys)

  -- a name shows something, and none before it does
  pub shown_here : (xs ys : List FileName) (file : FileName) (stale : Stale) → shown_by gone marked xs ≡ [] → shown gone marked file ≡ Some stale → first (shown_by gone marked (xs ++ file ∷ ys)) ≡ Some stale
  shown_here xs ys file stale quiet is = first_shown xs (file ∷ ys) ∙ ap (λ (l : List Stale). option_or (first l) (first (shown_by gone marked (file ∷ ys)))) quiet ∙ rw is refl

  pub stale_before : (news curs : List FileName) (stale : Stale) → Some stale ≡ first (shown_by gone marked news) → Some stale ≡ first_stale gone marked (news ++ curs)
  stale_before news curs stale e =
      let here : first (shown_by gone marked (news ++ curs)) ≡ Some stale = first_shown news curs ∙ ap (λ (o : Option Stale). option_or o (first (shown_by gone marked curs))) (sym e) in
      sym (ap (λ (o : Option Stale). option_or o (odd_shown (filter_map (as_marked marked) (news ++ curs)) (filter_map (odd marked) (news ++ curs)))) here)

  pub stale_later : (news curs : List FileName) (stale : Stale) → None ≡ first (shown_by gone marked news) → Some stale ≡ first (shown_by gone marked curs) → Some stale ≡ first_stale gone marked (news ++ curs)
  stale_later news curs stale none e =
      let here : first (shown_by gone marked (news ++ curs)) ≡ Some stale = first_shown news curs ∙ ap (λ (o : Option Stale). option_or o (first (shown_by gone marked curs))) (sym none) ∙ sym e in
      sym (ap (λ (o : Option Stale). option_or o (odd_shown (filter_map (as_marked marked) (news ++ curs)) (filter_map (odd marked) (news ++ curs)))) here)

  pub stale_odd : (news curs : List FileName) (met met_now met_then : List ℕ) (odds odds_now odds_then : List (ℕ × FileName)) (found : Option Stale) → None ≡ first (shown_by gone marked news) → None ≡ first (shown_by gone marked curs)
      → met ≡ [] → odds ≡ [] → HasMet marked news met met_now odds odds_now → HasMet marked curs met_now met_then odds_now odds_then → found ≡ odd_shown met_then odds_then → found ≡ first_stale gone marked (news ++ curs)
  stale_odd news curs met met_now met_then odds odds_now odds_then found none none_cur unmet no_odds m k is =
      let all = met_append marked news curs met met_now met_then odds odds_now odds_then m k in
      let here : first (shown_by gone marked (news ++ curs)) ≡ None = first_shown news curs ∙ ap (λ (o : Option Stale). option_or o (first (shown_by gone marked curs))) (sym none) ∙ sym none_cur in
      let marks : met_then ≡ filter_map (as_marked marked) (news ++ curs) = all.marked ∙ ap (λ (l : List ℕ). l ++ filter_map (as_marked marked) (news ++ curs)) unmet in
      let others : odds_then ≡ filter_map (odd marked) (news ++ curs) = all.odd_names ∙ ap (λ (l : List (ℕ × FileName)). l ++ filter_map (odd marked) (news ++ curs)) no_odds in
      is ∙ ap (λ (l : List ℕ). odd_shown l odds_then) marks ∙ ap (λ (l : List (ℕ × FileName)). odd_shown (filter_map (as_marked marked) (news ++ curs)) l) others
      ∙ sym (ap (λ (o : Option Stale). option_or o (odd_shown (filter_map (as_marked marked) (news ++ curs)) (filter_map (odd marked) (news ++ curs)))) here)

  -- no name shows anything, nor the next one
  pub quiet_more : (place : Place) (names : List (List ℕ)) (name : List ℕ) → shown_by gone marked (files_in place names) ≡ [] → None ≡ shown gone marked (record { place = place; name = name })
      → shown_by gone marked (files_in place (names ++ name ∷ [])) ≡ []
  quiet_more place names name quiet none =
      ap (λ (fs : List FileName). shown_by gone marked fs) (files_append place names (name ∷ []))
      ∙ shown_append (files_in place names) (files_in place (name ∷ []))
      ∙ ap (λ (l : List Stale). l ++ shown_by gone marked (files_in place (name ∷ []))) quiet
      ∙ ap (λ (o : Option Stale). cons_option o []) (sym none)

  -- the name at a place shows something, and none before it does
  pub shown_at : (place : Place) (names before : List (List ℕ)) (name : List ℕ) (stale : Stale) → map (λ (x : List ℕ). x) before ≡ take (length before) names
      → (length before < length names) × (name ≡ get_or names (length before) name) → shown_by gone marked (files_in place before) ≡ [] → Some stale ≡ shown gone marked (record { place = place; name = name })
      → Some stale ≡ first (shown_by gone marked (files_in place names))
  shown_at place names before name stale so_far at quiet is =
      let file : FileName = record { place = place; name = name } in
      let rest : List (List ℕ) = drop (length before + 1) names in
      let front : take (length before) names ≡ before = sym so_far ∙ map-id before in
      let behind : drop (length before) names ≡ name ∷ rest = drop_more names (length before) name at.0 ∙ ap (λ (x : List ℕ). x ∷ rest) (sym at.1) in
      let whole : before ++ (name ∷ rest) ≡ names =
      ap (λ (l : List (List ℕ)). l ++ (name ∷ rest)) (sym front) ∙ ap (λ (l : List (List ℕ)). take (length before) names ++ l) (sym behind) ∙ take-append-drop (length before) names in
      let files : files_in place names ≡ files_in place before ++ (file ∷ files_in place rest) = ap (λ (l : List (List ℕ)). files_in place l) (sym whole) ∙ files_append place before (name ∷ rest) in
      sym (ap (λ (fs : List FileName). first (shown_by gone marked fs)) files ∙ shown_here (files_in place before) (files_in place rest) file stale quiet (sym is))

pub met_more : (sought : List ℕ) (place : Place) (names : List (List ℕ)) (name : List ℕ) (a b c : List ℕ) (o p q : List (ℕ × FileName)) → HasMet sought (files_in place names) a b o p → HasMet sought (record { place = place; name = name } ∷ []) b c p q
    → HasMet sought (files_in place (names ++ name ∷ [])) a c o q
met_more sought place names name a b c o p q m k =
    subst (λ (fs : List FileName). HasMet sought fs a c o q) (sym (files_append place names (name ∷ []))) (met_append sought (files_in place names) (files_in place (name ∷ [])) a b c o p q m k)

-- ---- the order of those that were met

find_same : {X : Type 0} (p q : X → Bool) → ((x : X) → p x ≡ q x) → (xs : List X) → find p xs ≡ find q xs
find_same p q same [] = refl
find_same {X} p q same (x ∷ xs) = ap (λ (b : Bool). cond b (Some x) (find p xs)) (same x) ∙ ap (λ (o : Option X). cond (q x) (Some x) o) (find_same p q same xs)

pub odd_sorted : (met sorted : List ℕ) (odds : List (ℕ × FileName)) → IsPermutation met sorted → odd_shown sorted odds ≡ odd_shown met odds
odd_sorted met sorted odds moved =
    ap (λ (o : Option (ℕ × FileName)). option_map (λ one. Unmarked one.0 one.1) o)
    (find_same (λ (one : ℕ × FileName). not (is_among sorted one.0)) (λ (one : ℕ × FileName). not (is_among met one.0)) (λ one. ap not (sym (list_any-IsPermutation (λ (u : ℕ). u == one.0) met sorted moved))) odds)
