-- Lists in an order.
use Rattle.std.proofs.Common.{◌≡◌, ℕ, zero, suc, ◌⊎◌, inl, inr, Bool, true, false, cond, ltb, List, [], ◌∷◌, get_or, map, filter, All, refl, sym, ap, subst, ◌∙◌, ⊎_elim, arith}
use Rattle.std.specs.Prelude.{AllPairs, Contains}
use Rattle.std.specs.List.Sorted.{IsPermutation}
use Rattle.std.specs.Cmp.{IsStrictWeakOrder}
use Rattle.std.proofs.lemmas.Bool.{true≢false}
use Rattle.std.proofs.lemmas.Map.Made.{Contains-tail}
use Rattle.std.proofs.lemmas.List.Elements.{All-nil, All-cons, All-head, All-tail, All-filter, All-weaker, All-contains_itself}
use Rattle.std.proofs.lemmas.List.Kept.{AllPairs-cons}
use Rattle.std.proofs.lemmas.List.Sorted.{IsPermutation-refl, IsPermutation-cons, IsPermutation-middle, IsPermutation-trans, IsPermutation-sym, All-permutation, Contains-permutation}
use Rattle.maildir.proofs.PermutedLemmas.{pairs_permuted}
use Rattle.near_box.specs.Sorting.{put, sorted}

-- ---- a map that keeps the keys

put_map : {A B : Type 0} (f : A → ℕ) (g : B → ℕ) (h : A → B) → ((x : A) → g (h x) ≡ f x) → (x : A) (ys : List A)
    → put (λ a b. ltb (g a) (g b)) (h x) (map h ys) ≡ map h (put (λ a b. ltb (f a) (f b)) x ys)
put_map f g h same x [] = refl
put_map {A} {B} f g h same x (y ∷ ys) =
    rw (same x, same y) (by_test (ltb (f x) (f y)) (put_map f g h same x ys))
  where
    by_test : (b : Bool) → put (λ a b. ltb (g a) (g b)) (h x) (map h ys) ≡ map h (put (λ a b. ltb (f a) (f b)) x ys)
        → cond b (h x ∷ h y ∷ map h ys) (h y ∷ put (λ a b. ltb (g a) (g b)) (h x) (map h ys))
        ≡ map h (cond b (x ∷ y ∷ ys) (y ∷ put (λ a b. ltb (f a) (f b)) x ys))
    by_test true more = refl
    by_test false more = ap (λ (l : List B). h y ∷ l) more

pub sorted_map : {A B : Type 0} (f : A → ℕ) (g : B → ℕ) (h : A → B) → ((x : A) → g (h x) ≡ f x) → (xs : List A)
    → sorted (λ a b. ltb (g a) (g b)) (map h xs) ≡ map h (sorted (λ a b. ltb (f a) (f b)) xs)
sorted_map f g h same [] = refl
sorted_map {A} {B} f g h same (x ∷ xs) =
    ap (λ (l : List B). put (λ a b. ltb (g a) (g b)) (h x) l) (sorted_map f g h same xs)
    ∙ put_map f g h same x (sorted (λ a b. ltb (f a) (f b)) xs)

-- ---- the same elements

put_permutes : {A : Type 0} (lt : A → A → Bool) (x : A) (ys : List A) → IsPermutation (x ∷ ys) (put lt x ys)
put_permutes lt x [] = IsPermutation-refl (x ∷ [])
put_permutes {A} lt x (y ∷ ys) = by_test (lt x y) (put_permutes lt x ys)
  where
    by_test : (b : Bool) → IsPermutation (x ∷ ys) (put lt x ys) → IsPermutation (x ∷ y ∷ ys) (cond b (x ∷ y ∷ ys) (y ∷ put lt x ys))
    by_test true more = IsPermutation-refl (x ∷ y ∷ ys)
    by_test false more =
        IsPermutation-trans (x ∷ y ∷ ys) (y ∷ x ∷ ys) (y ∷ put lt x ys) (IsPermutation-middle (x ∷ []) y ys) (IsPermutation-cons y (x ∷ ys) (put lt x ys) more)

pub sorted_permutes : {A : Type 0} (lt : A → A → Bool) (xs : List A) → IsPermutation xs (sorted lt xs)
sorted_permutes lt [] = IsPermutation-refl []
sorted_permutes lt (x ∷ xs) =
    IsPermutation-trans (x ∷ xs) (x ∷ sorted lt xs) (put lt x (sorted lt xs)) (IsPermutation-cons x xs (sorted lt xs) (sorted_permutes lt xs)) (put_permutes lt x (sorted lt xs))

all_put : {A : Type 0} (P : A → Type 0) (lt : A → A → Bool) (x : A) (ys : List A) → P x → All P ys → All P (put lt x ys)
all_put P lt x ys one all = All-permutation P (x ∷ ys) (put lt x ys) (put_permutes lt x ys) (All-cons P x ys one all)

-- ---- pairs

pairs_head : {A : Type 0} (R : A → A → Type 0) (x : A) (xs : List A) → AllPairs R (x ∷ xs) → All (R x) xs
pairs_head R x xs pairs = λ k d below. pairs 0 (suc k) d (omega arith) (omega arith)

pairs_tail : {A : Type 0} (R : A → A → Type 0) (x : A) (xs : List A) → AllPairs R (x ∷ xs) → AllPairs R xs
pairs_tail R x xs pairs = λ i j d less below. pairs (suc i) (suc j) d (omega arith) (omega arith)

pairs_nil : {A : Type 0} (R : A → A → Type 0) → AllPairs R []
pairs_nil R = λ i j d less below. absurd (omega arith)

-- ---- some of the elements

put_front : {A : Type 0} (lt : A → A → Bool) (x : A) (ys : List A) → All (λ y. lt x y ≡ true) ys → put lt x ys ≡ x ∷ ys
put_front lt x [] below = refl
put_front lt x (y ∷ ys) below = rw (All-head (λ y. lt x y ≡ true) y ys below) refl

-- what is not above y is above what is below y
below_too : {A : Type 0} (lt : A → A → Bool) → IsStrictWeakOrder lt → (x y z : A) → lt x y ≡ true → lt z y ≡ false → lt x z ≡ true
below_too lt order x y z less not_above = by_test (lt x z) refl
  where
    by_test : (b : Bool) → lt x z ≡ b → b ≡ true
    by_test true e = refl
    by_test false e = sym (order.chain x z y e not_above) ∙ less

put_in_order : {A : Type 0} (lt : A → A → Bool) → IsStrictWeakOrder lt → (x : A) (ys : List A) → AllPairs (λ a b. lt b a ≡ false) ys
    → AllPairs (λ a b. lt b a ≡ false) (put lt x ys)
put_in_order lt order x [] up = AllPairs-cons (λ a b. lt b a ≡ false) x [] (All-nil (λ b. lt b x ≡ false)) (pairs_nil (λ a b. lt b a ≡ false))
put_in_order {A} lt order x (y ∷ ys) up =
    by_test (lt x y) refl (put_in_order lt order x ys (pairs_tail (λ a b. lt b a ≡ false) y ys up))
  where
    by_test : (b : Bool) → lt x y ≡ b → AllPairs (λ a b. lt b a ≡ false) (put lt x ys)
        → AllPairs (λ a b. lt b a ≡ false) (cond b (x ∷ y ∷ ys) (y ∷ put lt x ys))
    by_test true e more =
        let first : lt y x ≡ false = order.one_way x y e in
        AllPairs-cons (λ a b. lt b a ≡ false) x (y ∷ ys)
        (All-cons (λ b. lt b x ≡ false) y ys first
        (All-weaker (λ b. lt b y ≡ false) (λ b. lt b x ≡ false) (λ z above. order.chain z y x above first) ys (pairs_head (λ a b. lt b a ≡ false) y ys up)))
        up
    by_test false e more =
        AllPairs-cons (λ a b. lt b a ≡ false) y (put lt x ys) (all_put (λ b. lt b y ≡ false) lt x ys e (pairs_head (λ a b. lt b a ≡ false) y ys up)) more

sorted_in_order : {A : Type 0} (lt : A → A → Bool) → IsStrictWeakOrder lt → (xs : List A) → AllPairs (λ a b. lt b a ≡ false) (sorted lt xs)
sorted_in_order lt order [] = pairs_nil (λ a b. lt b a ≡ false)
sorted_in_order lt order (x ∷ xs) = put_in_order lt order x (sorted lt xs) (sorted_in_order lt order xs)

put_filter : {A : Type 0} (lt : A → A → Bool) → IsStrictWeakOrder lt → (p : A → Bool) (x : A) (ys : List A) → AllPairs (λ a b. lt b a ≡ false) ys
    → cond (p x) (put lt x (filter p ys)) (filter p ys) ≡ filter p (put lt x ys)
put_filter lt order p x [] up = refl
put_filter {A} lt order p x (y ∷ ys) up =
    by_test (lt x y) refl (put_filter lt order p x ys (pairs_tail (λ a b. lt b a ≡ false) y ys up))
  where
    before : lt x y ≡ true → All (λ z. lt x z ≡ true) (y ∷ ys)
    before less =
        All-cons (λ z. lt x z ≡ true) y ys less
        (All-weaker (λ z. lt z y ≡ false) (λ z. lt x z ≡ true) (λ z above. below_too lt order x y z less above) ys (pairs_head (λ a b. lt b a ≡ false) y ys up))

    following : lt x y ≡ false → (a b : Bool) → cond a (put lt x (cond b (y ∷ filter p ys) (filter p ys))) (cond b (y ∷ filter p ys) (filter p ys))
        ≡ cond b (y ∷ cond a (put lt x (filter p ys)) (filter p ys)) (cond a (put lt x (filter p ys)) (filter p ys))
    following e true true = rw e refl
    following e true false = refl
    following e false true = refl
    following e false false = refl

    by_test : (b : Bool) → lt x y ≡ b → cond (p x) (put lt x (filter p ys)) (filter p ys) ≡ filter p (put lt x ys)
        → cond (p x) (put lt x (filter p (y ∷ ys))) (filter p (y ∷ ys)) ≡ filter p (cond b (x ∷ y ∷ ys) (y ∷ put lt x ys))
    by_test true e more =
        ap (λ (l : List A). cond (p x) l (filter p (y ∷ ys)))
        (put_front lt x (filter p (y ∷ ys)) (All-filter p (λ z. lt x z ≡ true) (y ∷ ys) (before e)))
    by_test false e more = following e (p x) (p y) ∙ ap (λ (l : List A). cond (p y) (y ∷ l) l) more

pub sorted_filter : {A : Type 0} (lt : A → A → Bool) → IsStrictWeakOrder lt → (p : A → Bool) (xs : List A)
    → sorted lt (filter p xs) ≡ filter p (sorted lt xs)
sorted_filter lt order p [] = refl
sorted_filter {A} lt order p (x ∷ xs) =
    by_test (p x) refl (sorted_filter lt order p xs) (put_filter lt order p x (sorted lt xs) (sorted_in_order lt order xs))
  where
    by_test : (b : Bool) → p x ≡ b → sorted lt (filter p xs) ≡ filter p (sorted lt xs)
        → cond (p x) (put lt x (filter p (sorted lt xs))) (filter p (sorted lt xs)) ≡ filter p (put lt x (sorted lt xs))
        → sorted lt (cond b (x ∷ filter p xs) (filter p xs)) ≡ filter p (put lt x (sorted lt xs))
    by_test true e more one =
        ap (λ (l : List A). put lt x l) more
        ∙ sym (ap (λ (b : Bool). cond b (put lt x (filter p (sorted lt xs))) (filter p (sorted lt xs))) e) ∙ one
    by_test false e more one =
        more ∙ sym (ap (λ (b : Bool). cond b (put lt x (filter p (sorted lt xs))) (filter p (sorted lt xs))) e) ∙ one

-- ---- one that all others are below

-- ---- no element twice: they rise

-- one of the two is below the other
abbrev AreOrdered : {A : Type 0} → (A → A → Bool) → A → A → Type 0
AreOrdered lt a b = (lt a b ≡ true) ⊎ (lt b a ≡ true)

put_rises : {A : Type 0} (lt : A → A → Bool) → IsStrictWeakOrder lt → (x : A) (ys : List A) → All (AreOrdered lt x) ys
    → AllPairs (λ a b. lt a b ≡ true) ys → AllPairs (λ a b. lt a b ≡ true) (put lt x ys)
put_rises lt order x [] ordered up = AllPairs-cons (λ a b. lt a b ≡ true) x [] (All-nil (λ b. lt x b ≡ true)) up
put_rises {A} lt order x (y ∷ ys) ordered up =
    by_test (lt x y) refl (put_rises lt order x ys (All-tail (AreOrdered lt x) y ys ordered) (pairs_tail (λ a b. lt a b ≡ true) y ys up))
  where
    above : AreOrdered lt x y → lt x y ≡ false → lt y x ≡ true
    above (inl less) e = absurd (true≢false (sym less ∙ e))
    above (inr more) e = more

    by_test : (b : Bool) → lt x y ≡ b → AllPairs (λ a b. lt a b ≡ true) (put lt x ys)
        → AllPairs (λ a b. lt a b ≡ true) (cond b (x ∷ y ∷ ys) (y ∷ put lt x ys))
    by_test true e more =
        AllPairs-cons (λ a b. lt a b ≡ true) x (y ∷ ys)
        (All-cons (λ z. lt x z ≡ true) y ys e
        (All-weaker (λ z. lt y z ≡ true) (λ z. lt x z ≡ true) (λ z less. below_too lt order x y z e (order.one_way y z less)) ys (pairs_head (λ a b. lt a b ≡ true) y ys up)))
        up
    by_test false e more =
        AllPairs-cons (λ a b. lt a b ≡ true) y (put lt x ys)
        (all_put (λ z. lt y z ≡ true) lt x ys (above (All-head (AreOrdered lt x) y ys ordered) e) (pairs_head (λ a b. lt a b ≡ true) y ys up)) more

pub sorted_rises_by : {A : Type 0} (lt : A → A → Bool) → IsStrictWeakOrder lt → (xs : List A) → AllPairs (AreOrdered lt) xs
    → AllPairs (λ a b. lt a b ≡ true) (sorted lt xs)
sorted_rises_by lt order [] ordered = pairs_nil (λ a b. lt a b ≡ true)
sorted_rises_by lt order (x ∷ xs) ordered =
    put_rises lt order x (sorted lt xs)
    (All-permutation (AreOrdered lt x) xs (sorted lt xs) (sorted_permutes lt xs) (pairs_head (AreOrdered lt) x xs ordered))
    (sorted_rises_by lt order xs (pairs_tail (AreOrdered lt) x xs ordered))

-- ---- the same elements in order

-- the first elements of two rising lists with the same elements
same_first : {A : Type 0} (lt : A → A → Bool) → IsStrictWeakOrder lt → (x : A) (xs : List A) (y : A) (ys : List A)
    → All (λ z. lt x z ≡ true) xs → All (λ z. lt y z ≡ true) ys → Contains (y ∷ ys) x → Contains (x ∷ xs) y → x ≡ y
same_first lt order x xs y ys up_x up_y (zero, below, is) there = sym is
same_first lt order x xs y ys up_x up_y (suc k, below, is) (zero, below', is') = is'
same_first lt order x xs y ys up_x up_y (suc k, below, is) (suc m, below', is') =
    let more : lt y x ≡ true = subst (λ z. lt y z ≡ true) is (up_y k x (omega arith)) in
    let less : lt x y ≡ true = subst (λ z. lt x z ≡ true) is' (up_x m y (omega arith)) in
    absurd (true≢false (sym more ∙ order.one_way x y less))

-- what is above the first element is among the others
among_others : {A : Type 0} (lt : A → A → Bool) → IsStrictWeakOrder lt → (x : A) (xs : List A) (y : A) (ys : List A) → x ≡ y
    → All (λ z. lt x z ≡ true) xs → All (Contains (y ∷ ys)) xs → All (Contains ys) xs
among_others lt order x xs y ys same up there = λ k d below.
    let z = get_or xs k d in
    let above : lt x z ≡ true = up k d below in
    Contains-tail y ys z (λ e.
    let itself : lt z z ≡ true = subst (λ w. lt w z ≡ true) (same ∙ e) above in
    true≢false (sym itself ∙ order.one_way z z itself)) (there k d below)

nowhere : {A : Type 0} (z : A) → Contains [] z → ⊥
nowhere z (k, below, is) = omega arith

rising_same : {A : Type 0} (lt : A → A → Bool) → IsStrictWeakOrder lt → (xs ys : List A)
    → AllPairs (λ a b. lt a b ≡ true) xs → AllPairs (λ a b. lt a b ≡ true) ys → All (Contains ys) xs → All (Contains xs) ys → xs ≡ ys
rising_same lt order [] [] up_x up_y there back = refl
rising_same lt order [] (y ∷ ys) up_x up_y there back = absurd (nowhere y (All-head (Contains []) y ys back))
rising_same lt order (x ∷ xs) [] up_x up_y there back = absurd (nowhere x (All-head (Contains []) x xs there))
rising_same {A} lt order (x ∷ xs) (y ∷ ys) up_x up_y there back =
    let above_x = pairs_head (λ a b. lt a b ≡ true) x xs up_x in
    let above_y = pairs_head (λ a b. lt a b ≡ true) y ys up_y in
    let first = same_first lt order x xs y ys above_x above_y (All-head (Contains (y ∷ ys)) x xs there) (All-head (Contains (x ∷ xs)) y ys back) in
    let others = rising_same lt order xs ys (pairs_tail (λ a b. lt a b ≡ true) x xs up_x) (pairs_tail (λ a b. lt a b ≡ true) y ys up_y)
    (among_others lt order x xs y ys first above_x (All-tail (Contains (y ∷ ys)) x xs there))
    (among_others lt order y ys x xs (sym first) above_y (All-tail (Contains (x ∷ xs)) y ys back)) in
    ap (λ (z : A). z ∷ xs) first ∙ ap (λ (l : List A). y ∷ l) others

contains_permuted : {A : Type 0} (xs ys : List A) → IsPermutation xs ys → All (Contains ys) xs
contains_permuted xs ys same = All-weaker (Contains xs) (Contains ys) (λ z there. Contains-permutation xs ys z same there) xs (All-contains_itself xs)

pub sorted_permuted : {A : Type 0} (lt : A → A → Bool) → IsStrictWeakOrder lt → (xs ys : List A) → IsPermutation xs ys
    → AllPairs (λ a b. lt a b ≡ true) ys → sorted lt xs ≡ ys
sorted_permuted {A} lt order xs ys same rising =
    let ordered : AllPairs (AreOrdered lt) ys = λ i j d less below. inl (rising i j d less below) in
    let turn : (a b : A) → AreOrdered lt a b → AreOrdered lt b a = λ a b either. ⊎_elim inr inl either in
    let back : IsPermutation ys xs = IsPermutation-sym xs ys same in
    let up = sorted_rises_by lt order xs (pairs_permuted (AreOrdered lt) turn ys xs back ordered) in
    let both : IsPermutation (sorted lt xs) ys =
    IsPermutation-trans (sorted lt xs) xs ys (IsPermutation-sym xs (sorted lt xs) (sorted_permutes lt xs)) same in
    rising_same lt order (sorted lt xs) ys up rising (contains_permuted (sorted lt xs) ys both) (contains_permuted ys (sorted lt xs) (IsPermutation-sym (sorted lt xs) ys both))
