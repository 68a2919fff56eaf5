-- An element that goes to the end of a list in order, or that stands first.
use Rattle.std.proofs.Common.{◌≡◌, Bool, true, false, cond, List, [], ◌∷◌, ◌++◌, filter, All, refl, sym, ap, ◌∙◌, ◌⊎◌, inl, inr}
use Rattle.std.proofs.lemmas.Bool.{cond_both}
use Rattle.std.proofs.lemmas.List.Elements.{All-nil, All-cons, All-head, All-tail}
use Rattle.near_box.specs.Sorting.{put, sorted}

-- ---- what holds of each element

pub All-put : {A : Type 0} (lt : A → A → Bool) (P : A → Type 0) (x : A) (ys : List A) → P x → All P ys → All P (put lt x ys)
All-put lt P x [] one all = All-cons P x [] one all
All-put lt P x (y ∷ ys) one all =
    cond_both (lt x y) (x ∷ y ∷ ys) (y ∷ put lt x ys) (All P) (λ _. All-cons P x (y ∷ ys) one all)
    (λ _. All-cons P y (put lt x ys) (All-head P y ys all) (All-put lt P x ys one (All-tail P y ys all)))

pub All-sorted : {A : Type 0} (lt : A → A → Bool) (P : A → Type 0) (xs : List A) → All P xs → All P (sorted lt xs)
All-sorted lt P [] all = All-nil P
All-sorted lt P (x ∷ xs) all = All-put lt P x (sorted lt xs) (All-head P x xs all) (All-sorted lt P xs (All-tail P x xs all))

put_parts : {A : Type 0} (lt : A → A → Bool) (P : A → Type 0) (x : A) (ys : List A) → All P (put lt x ys) → P x × All P ys
put_parts lt P x [] all = (All-head P x [] all, All-nil P)
put_parts lt P x (y ∷ ys) all =
    cond_both (lt x y) (x ∷ y ∷ ys) (y ∷ put lt x ys) (λ zs. All P zs → P x × All P (y ∷ ys))
    (λ _ here. (All-head P x (y ∷ ys) here, All-tail P x (y ∷ ys) here))
    (λ _ there.
    let rest = put_parts lt P x ys (All-tail P y (put lt x ys) there) in
    (rest.0, All-cons P y ys (All-head P y (put lt x ys) there) rest.1))
    all

pub All-from_sorted : {A : Type 0} (lt : A → A → Bool) (P : A → Type 0) (xs : List A) → All P (sorted lt xs) → All P xs
All-from_sorted lt P [] all = All-nil P
All-from_sorted lt P (x ∷ xs) all =
    let parts = put_parts lt P x (sorted lt xs) all in
    All-cons P x xs parts.0 (All-from_sorted lt P xs parts.1)

-- ---- the last one

put_last : {A : Type 0} (lt : A → A → Bool) (x : A) (ys : List A) → All (λ y. lt x y ≡ false) ys → put lt x ys ≡ ys ++ x ∷ []
put_last lt x [] none = refl
put_last {A} lt x (y ∷ ys) none =
    let first : lt x y ≡ false = All-head (λ (y : A). lt x y ≡ false) y ys none in
    rw (first, put_last lt x ys (All-tail (λ (y : A). lt x y ≡ false) y ys none)) refl

put_before : {A : Type 0} (lt : A → A → Bool) (a x : A) (ys : List A) → lt a x ≡ true → put lt a (ys ++ x ∷ []) ≡ put lt a ys ++ x ∷ []
put_before lt a x [] below = rw below refl
put_before {A} lt a x (y ∷ ys) below = by_test (lt a y) (put_before lt a x ys below)
  where
    by_test : (b : Bool) → put lt a (ys ++ x ∷ []) ≡ put lt a ys ++ x ∷ []
        → cond b (a ∷ y ∷ (ys ++ x ∷ [])) (y ∷ put lt a (ys ++ x ∷ [])) ≡ cond b (a ∷ y ∷ ys) (y ∷ put lt a ys) ++ x ∷ []
    by_test true rest = refl
    by_test false rest = ap (λ (zs : List A). y ∷ zs) rest

-- an element that all others are below
pub sorted_last : {A : Type 0} (lt : A → A → Bool) (x : A) (front back : List A) → All (λ y. lt y x ≡ true) front → All (λ y. lt x y ≡ false) back
    → sorted lt (front ++ x ∷ back) ≡ sorted lt (front ++ back) ++ x ∷ []
sorted_last {A} lt x [] back below none = put_last lt x (sorted lt back) (All-sorted lt (λ (y : A). lt x y ≡ false) back none)
sorted_last {A} lt x (a ∷ front) back below none =
    ap (put lt a) (sorted_last lt x front back (All-tail (λ (y : A). lt y x ≡ true) a front below) none)
    ∙ put_before lt a x (sorted lt (front ++ back)) (All-head (λ (y : A). lt y x ≡ true) a front below)

-- ---- the first one

-- another element was put after the first one
record Following {A : Type 0} (lt : A → A → Bool) (a first : A) (zs rest : List A) : Type 0 where
  others : List A
  is : zs ≡ first ∷ others
  now : put lt a others ≡ rest

put_cases : {A : Type 0} (lt : A → A → Bool) (a first : A) (zs rest : List A) → put lt a zs ≡ first ∷ rest → ((a ≡ first) × (zs ≡ rest)) ⊎ Following lt a first zs rest
put_cases lt a first [] rest same = inl (cc, cc)
put_cases {A} lt a first (z ∷ zs) rest same =
    cond_both (lt a z) (a ∷ z ∷ zs) (z ∷ put lt a zs) (λ ys. ys ≡ first ∷ rest → ((a ≡ first) × (z ∷ zs ≡ rest)) ⊎ Following lt a first (z ∷ zs) rest)
    (λ _ here. inl (cc, cc))
    (λ _ there. let at : z ≡ first = cc in inr (record { others = zs; is = ap (λ (x : A). x ∷ zs) at; now = cc }))
    same

-- without the first one the others stay in order
pub sorted_rest : {A : Type 0} (lt : A → A → Bool) (first : A) (front back rest : List A) → All (λ x. x ≡ first → ⊥) front → All (λ x. x ≡ first → ⊥) back
    → sorted lt (front ++ first ∷ back) ≡ first ∷ rest → sorted lt (front ++ back) ≡ rest
sorted_rest {A} lt first [] back rest others none same = by_case (sorted lt back) (put_cases lt first first (sorted lt back) rest same) (All-sorted lt (λ (x : A). x ≡ first → ⊥) back none)
  where
    by_case : (zs : List A) → ((first ≡ first) × (zs ≡ rest)) ⊎ Following lt first first zs rest → All (λ x. x ≡ first → ⊥) zs → zs ≡ rest
    by_case zs (inl here) others = here.1
    by_case [] (inr there) others = let is = there.is in cc
    by_case (z ∷ zs) (inr there) others = let is = there.is in absurd (All-head (λ (x : A). x ≡ first → ⊥) z zs others cc)
sorted_rest {A} lt first (a ∷ front) back rest others none same =
    by_case (put_cases lt a first (sorted lt (front ++ first ∷ back)) rest same)
    (sorted_rest lt first front back)
  where
    tail : All (λ (x : A). x ≡ first → ⊥) front
    tail = All-tail (λ (x : A). x ≡ first → ⊥) a front others

    by_case : ((a ≡ first) × (sorted lt (front ++ first ∷ back) ≡ rest)) ⊎ Following lt a first (sorted lt (front ++ first ∷ back)) rest
        → ((rest : List A) → All (λ x. x ≡ first → ⊥) front → All (λ x. x ≡ first → ⊥) back → sorted lt (front ++ first ∷ back) ≡ first ∷ rest → sorted lt (front ++ back) ≡ rest)
        → put lt a (sorted lt (front ++ back)) ≡ rest
    by_case (inl here) again = absurd (All-head (λ (x : A). x ≡ first → ⊥) a front others here.0)
    by_case (inr there) again = ap (put lt a) (again there.others tail none there.is) ∙ there.now

-- an element that passes, and what stands on both sides of it
pub record Stands {A : Type 0} (p : A → Bool) (x : A) (xs : List A) : Type 0 where
  pub passes : p x ≡ true
  pub front : List A
  pub back : List A
  pub parts : xs ≡ front ++ x ∷ back

pub first_stands : {A : Type 0} (lt : A → A → Bool) (p : A → Bool) (first : A) (xs rest : List A) → sorted lt (filter p xs) ≡ first ∷ rest → Stands p first xs
first_stands lt p first [] rest same = cc
first_stands {A} lt p first (x ∷ xs) rest same = by_test (p x) refl same (first_stands lt p first xs)
  where
    more : Stands p first xs → Stands p first (x ∷ xs)
    more there = record { passes = there.passes; front = x ∷ there.front; back = there.back; parts = ap (λ (ys : List A). x ∷ ys) there.parts }

    by_case : p x ≡ true → ((x ≡ first) × (sorted lt (filter p xs) ≡ rest)) ⊎ Following lt x first (sorted lt (filter p xs)) rest
        → ((rest : List A) → sorted lt (filter p xs) ≡ first ∷ rest → Stands p first xs) → Stands p first (x ∷ xs)
    by_case passes (inl here) again = record { passes = ap p (sym here.0) ∙ passes; front = []; back = xs; parts = ap (λ (y : A). y ∷ xs) here.0 }
    by_case passes (inr there) again = more (again there.others there.is)

    by_test : (b : Bool) → p x ≡ b → sorted lt (cond b (x ∷ filter p xs) (filter p xs)) ≡ first ∷ rest
        → ((rest : List A) → sorted lt (filter p xs) ≡ first ∷ rest → Stands p first xs) → Stands p first (x ∷ xs)
    by_test true passes same again = by_case passes (put_cases lt x first (sorted lt (filter p xs)) rest same) again
    by_test false fails same again = more (again rest same)
