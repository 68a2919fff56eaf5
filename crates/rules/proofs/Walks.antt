-- Lists that a walk over another list makes: what they contain, and their order.
use Rattle.std.proofs.Common.{◌≡◌, ℕ, zero, suc, ◌<◌, ◌≤◌, Bool, true, false, cond, List, [], ◌∷◌, ◌++◌, Option, Some, None, refl, sym, ap, ◌∙◌, subst, inl, inr, arith, ◌⊎◌, map}
use Rattle.std.specs.Prelude.{All, AllPairs, Contains, find, filter}
use Rattle.std.specs.List.{filter_map, cons_option, list_any}
use Rattle.std.proofs.lemmas.Bool.{false≢true, cases_Bool, or_left, or_right, or_cases, both_ways}
use Rattle.std.proofs.lemmas.Option.{none-some, same_Some}
use Rattle.std.proofs.lemmas.List.Elements.{All-nil, All-cons, All-append, All-map, All-head, All-tail, All-weaker, All-contains}
use Rattle.std.proofs.lemmas.List.Kept.{AllPairs-cons}

-- ---- what a list contains

pub Contains-first : {X : Type 0} (x : X) (xs : List X) → Contains (x ∷ xs) x
Contains-first x xs = (0, omega arith, refl)

pub Contains-rest : {X : Type 0} (x y : X) (xs : List X) → Contains xs y → Contains (x ∷ xs) y
Contains-rest x y xs (k, h, e) = (suc k, omega arith, e)

pub Contains-cases : {X : Type 0} (x y : X) (xs : List X) → Contains (x ∷ xs) y → (x ≡ y) ⊎ Contains xs y
Contains-cases x y xs (zero, h, e) = inl e
Contains-cases x y xs (suc k, h, e) = inr (k, omega arith, e)

pub Contains-none : {X : Type 0} (x : X) → Contains [] x → ⊥
Contains-none x (k, h, e) = omega arith

pub All-from_contains : {X : Type 0} (P : X → Type 0) (xs : List X) → ((x : X) → Contains xs x → P x) → All P xs
All-from_contains P [] h = All-nil P
All-from_contains P (x ∷ xs) h = All-cons P x xs (h x (Contains-first x xs)) (All-from_contains P xs (λ y c. h y (Contains-rest x y xs c)))

pub Contains-map : {X Y : Type 0} (f : X → Y) (xs : List X) (x : X) (y : Y) → Contains xs x → f x ≡ y → Contains (map f xs) y
Contains-map f [] x y c e = absurd (Contains-none x c)
Contains-map f (z ∷ zs) x y c e = elim (Contains-cases z x zs c) [
  | inl same ↦ let w : f z ≡ y = ap f same ∙ e in (0, omega arith, w)
  | inr rest ↦ Contains-rest (f z) y (map f zs) (Contains-map f zs x y rest e)
]

-- ---- tests

pub list_any_from : {X : Type 0} (p : X → Bool) (xs : List X) (x : X) → Contains xs x → p x ≡ true → list_any p xs ≡ true
list_any_from p [] x c e = absurd (Contains-none x c)
list_any_from p (z ∷ zs) x c e = elim (Contains-cases z x zs c) [
  | inl same ↦ or_left (p z) (list_any p zs) (ap p same ∙ e)
  | inr rest ↦ or_right (p z) (list_any p zs) (list_any_from p zs x rest e)
]

pub list_any_some : {X : Type 0} (p : X → Bool) (xs : List X) → list_any p xs ≡ true → (x : X) × Contains xs x × (p x ≡ true)
list_any_some p [] e = absurd (false≢true e)
list_any_some p (z ∷ zs) e = elim (or_cases (p z) (list_any p zs) e) [
  | inl first ↦ (z, Contains-first z zs, first)
  | inr later ↦ let r = list_any_some p zs later in (r.0, Contains-rest z r.0 zs r.1, r.2)
]

found_cases : {X : Type 0} (b : Bool) (z x : X) (rest : Option X) → cond b (Some z) rest ≡ Some x → ((b ≡ true) × (z ≡ x)) ⊎ (rest ≡ Some x)
found_cases true z x rest e = inl (refl, same_Some z x e)
found_cases false z x rest e = inr e

pub find_some : {X : Type 0} (p : X → Bool) (xs : List X) (x : X) → find p xs ≡ Some x → Contains xs x × (p x ≡ true)
find_some p [] x e = absurd (none-some x e)
find_some p (z ∷ zs) x e = elim (found_cases (p z) z x (find p zs) e) [
  | inl first ↦ (subst (λ y. Contains (z ∷ zs) y) first.1 (Contains-first z zs), sym (ap p first.1) ∙ first.0)
  | inr later ↦ let r = find_some p zs x later in (Contains-rest z x zs r.0, r.1)
]

-- the first element that passes is the only one that passes
pub find_only : {X : Type 0} (p : X → Bool) (xs : List X) (x : X) → Contains xs x → p x ≡ true → ((y : X) → Contains xs y → p y ≡ true → y ≡ x) → find p xs ≡ Some x
find_only p [] x c e h = absurd (Contains-none x c)
find_only p (z ∷ zs) x c e h = elim (cases_Bool (p z)) [
  | inl passes ↦ let same : z ≡ x = h z (Contains-first z zs) passes in rw passes (ap (λ y. Some y) same)
  | inr fails ↦ elim (Contains-cases z x zs c) [
    | inl same ↦ absurd (both_ways (p x) (sym (ap p same) ∙ fails) e)
    | inr rest ↦ let w : find p zs ≡ Some x = find_only p zs x rest e (λ y d. h y (Contains-rest z y zs d)) in rw fails w
  ]
]

kept_rest : {X : Type 0} (b : Bool) (z x : X) (ys : List X) → Contains ys x → Contains (cond b (z ∷ ys) ys) x
kept_rest true z x ys c = Contains-rest z x ys c
kept_rest false z x ys c = c

kept_first : {X : Type 0} (b : Bool) (z : X) (ys : List X) → b ≡ true → Contains (cond b (z ∷ ys) ys) z
kept_first true z ys e = Contains-first z ys
kept_first false z ys e = absurd (false≢true e)

kept_cases : {X : Type 0} (b : Bool) (z x : X) (ys : List X) → Contains (cond b (z ∷ ys) ys) x → ((b ≡ true) × (z ≡ x)) ⊎ Contains ys x
kept_cases true z x ys c = elim (Contains-cases z x ys c) [ inl same ↦ inl (refl, same) | inr rest ↦ inr rest ]
kept_cases false z x ys c = inr c

pub Contains-filter : {X : Type 0} (p : X → Bool) (xs : List X) (x : X) → Contains xs x → p x ≡ true → Contains (filter p xs) x
Contains-filter p [] x c e = absurd (Contains-none x c)
Contains-filter p (z ∷ zs) x c e = elim (Contains-cases z x zs c) [
  | inl same ↦ subst (λ y. Contains (filter p (z ∷ zs)) y) same (kept_first (p z) z (filter p zs) (ap p same ∙ e))
  | inr rest ↦ kept_rest (p z) z x (filter p zs) (Contains-filter p zs x rest e)
]

pub filter_contains : {X : Type 0} (p : X → Bool) (xs : List X) (x : X) → Contains (filter p xs) x → Contains xs x × (p x ≡ true)
filter_contains p [] x c = absurd (Contains-none x c)
filter_contains p (z ∷ zs) x c = elim (kept_cases (p z) z x (filter p zs) c) [
  | inl first ↦ (subst (λ y. Contains (z ∷ zs) y) first.1 (Contains-first z zs), sym (ap p first.1) ∙ first.0)
  | inr later ↦ let r = filter_contains p zs x later in (Contains-rest z x zs r.0, r.1)
]

pub filter_all : {X : Type 0} (p : X → Bool) → ((x : X) → p x ≡ true) → (xs : List X) → filter p xs ≡ xs
filter_all p h [] = refl
filter_all p h (x ∷ xs) = rw (h x) (ap (λ ys. x ∷ ys) (filter_all p h xs))

-- an element of a mapped list comes from one of the list
pub map_contains : {X Y : Type 0} (f : X → Y) (xs : List X) (y : Y) → Contains (map f xs) y → (x : X) × Contains xs x × (f x ≡ y)
map_contains f [] y c = absurd (Contains-none y c)
map_contains f (x ∷ xs) y c = elim (Contains-cases (f x) y (map f xs) c) [
  | inl same ↦ (x, Contains-first x xs, same)
  | inr rest ↦ let r = map_contains f xs y rest in (r.0, Contains-rest x r.0 xs r.1, r.2)
]

-- none passes, so none is found
pub find_none : {X : Type 0} (p : X → Bool) (xs : List X) → ((x : X) → Contains xs x → p x ≡ false) → find p xs ≡ None
find_none p [] h = refl
find_none p (x ∷ xs) h = rw (h x (Contains-first x xs)) (find_none p xs (λ y c. h y (Contains-rest x y xs c)))

-- ---- a walk that keeps what an element gives

All-cons_option : {Y : Type 0} (P : Y → Type 0) (o : Option Y) (ys : List Y) → ((y : Y) → o ≡ Some y → P y) → All P ys → All P (cons_option o ys)
All-cons_option P None ys h t = t
All-cons_option P (Some y) ys h t = All-cons P y ys (h y refl) t

pub All-filter_map : {X Y : Type 0} (P : Y → Type 0) (f : X → Option Y) (xs : List X) → ((x : X) → Contains xs x → (y : Y) → f x ≡ Some y → P y) → All P (filter_map f xs)
All-filter_map P f [] h = All-nil P
All-filter_map P f (x ∷ xs) h = All-cons_option P (f x) (filter_map f xs) (h x (Contains-first x xs)) (All-filter_map P f xs (λ y c. h y (Contains-rest x y xs c)))

later_kept : {Y : Type 0} (o : Option Y) (y : Y) (ys : List Y) → Contains ys y → Contains (cons_option o ys) y
later_kept None y ys c = c
later_kept (Some z) y ys c = Contains-rest z y ys c

pub Contains-filter_map : {X Y : Type 0} (f : X → Option Y) (xs : List X) (x : X) (y : Y) → Contains xs x → f x ≡ Some y → Contains (filter_map f xs) y
Contains-filter_map f [] x y c e = absurd (Contains-none x c)
Contains-filter_map f (z ∷ zs) x y c e = elim (Contains-cases z x zs c) [
  | inl same ↦ let w : f z ≡ Some y = ap f same ∙ e in rw w (Contains-first y (filter_map f zs))
  | inr rest ↦ later_kept (f z) y (filter_map f zs) (Contains-filter_map f zs x y rest e)
]

pub filter_map_none : {X Y : Type 0} (f : X → Option Y) (xs : List X) → All (λ x. f x ≡ None) xs → filter_map f xs ≡ []
filter_map_none f [] h = refl
filter_map_none f (x ∷ xs) h = let w : f x ≡ None = All-head (λ y. f y ≡ None) x xs h in rw w (filter_map_none f xs (All-tail (λ y. f y ≡ None) x xs h))

-- ---- order

pub AllPairs-nil : {X : Type 0} (R : X → X → Type 0) → AllPairs R []
AllPairs-nil R i j d h k = absurd (omega arith)

pub AllPairs-tail : {X : Type 0} (R : X → X → Type 0) (x : X) (xs : List X) → AllPairs R (x ∷ xs) → AllPairs R xs
AllPairs-tail R x xs p i j d h k = p (suc i) (suc j) d (omega arith) (omega arith)

pub AllPairs-head : {X : Type 0} (R : X → X → Type 0) (x : X) (xs : List X) → AllPairs R (x ∷ xs) → (y : X) → Contains xs y → R x y
AllPairs-head R x xs p y (k, h, e) = subst (λ z. R x z) e (p 0 (suc k) y (omega arith) (omega arith))

pub AllPairs-filter_map : {X Y : Type 0} (R : X → X → Type 0) (S : Y → Y → Type 0) (f : X → Option Y) (xs : List X) → AllPairs R xs →
    ((x y : X) (p q : Y) → R x y → f x ≡ Some p → f y ≡ Some q → S p q) → AllPairs S (filter_map f xs)
AllPairs-filter_map R S f [] p h = AllPairs-nil S
AllPairs-filter_map R S f (x ∷ xs) p h =
    pairs_cons S (f x) (filter_map f xs) (λ a e. All-filter_map (S a) f xs (λ y c b g. h x y a b (AllPairs-head R x xs p y c) e g))
    (AllPairs-filter_map R S f xs (AllPairs-tail R x xs p) h)
  where
    pairs_cons : {Y : Type 0} (S : Y → Y → Type 0) (o : Option Y) (ys : List Y) → ((y : Y) → o ≡ Some y → All (S y) ys) → AllPairs S ys → AllPairs S (cons_option o ys)
    pairs_cons S None ys h t = t
    pairs_cons S (Some y) ys h t = AllPairs-cons S y ys (h y refl) t

pub AllPairs-append : {X : Type 0} (R : X → X → Type 0) (xs ys : List X) → AllPairs R xs → AllPairs R ys → ((x y : X) → Contains xs x → Contains ys y → R x y) → AllPairs R (xs ++ ys)
AllPairs-append R [] ys p q h = q
AllPairs-append R (x ∷ xs) ys p q h =
    AllPairs-cons R x (xs ++ ys)
    (All-append (R x) xs ys (All-from_contains (R x) xs (AllPairs-head R x xs p)) (All-from_contains (R x) ys (λ y c. h x y (Contains-first x xs) c)))
    (AllPairs-append R xs ys (AllPairs-tail R x xs p) q (λ a b c d. h a b (Contains-rest x a xs c) d))

pub AllPairs-map : {X Y : Type 0} (R : Y → Y → Type 0) (f : X → Y) (xs : List X) → AllPairs (λ a b. R (f a) (f b)) xs → AllPairs R (map f xs)
AllPairs-map R f [] p = AllPairs-nil R
AllPairs-map R f (x ∷ xs) p =
    AllPairs-cons R (f x) (map f xs) (All-map (R (f x)) f xs (All-from_contains (λ y. R (f x) (f y)) xs (AllPairs-head (λ a b. R (f a) (f b)) x xs p)))
    (AllPairs-map R f xs (AllPairs-tail (λ a b. R (f a) (f b)) x xs p))

-- two elements with one key are one, where no two elements share that key
pub only_one : {X K : Type 0} (Q : X → X → Type 0) (f : X → K) (x : X) → ((a b : X) → Q a b → f a ≡ f x → f b ≡ f x → ⊥) →
    (xs : List X) → AllPairs Q xs → Contains xs x → (y : X) → Contains xs y → f y ≡ f x → y ≡ x
only_one Q f x clash [] p c y d e = absurd (Contains-none x c)
only_one Q f x clash (z ∷ zs) p c y d e = elim (Contains-cases z x zs c) [
  | inl here ↦ elim (Contains-cases z y zs d) [
    | inl there ↦ sym there ∙ here
    | inr later ↦ absurd (clash z y (AllPairs-head Q z zs p y later) (ap f here) e)
  ]
  | inr following ↦ elim (Contains-cases z y zs d) [
    | inl there ↦ absurd (clash z x (AllPairs-head Q z zs p x following) (ap f there ∙ e) refl)
    | inr later ↦ only_one Q f x clash zs (AllPairs-tail Q z zs p) following y later e
  ]
]

-- ---- what comes in kinds, one after another

-- a list whose elements are of the kinds from lo up to hi, each before the next
pub record Spans {X : Type 0} (R : X → X → Type 0) (kind : X → ℕ) (lo hi : ℕ) (xs : List X) : Type 0 where
  pub range : lo ≤ hi
  pub above : All (λ x. lo ≤ kind x) xs
  pub below : All (λ x. kind x < hi) xs
  pub pairs : AllPairs R xs

pub Spans-append : {X : Type 0} (R : X → X → Type 0) (kind : X → ℕ) → ((x y : X) → kind x < kind y → R x y) → (a b c : ℕ) (xs ys : List X) → Spans R kind a b xs → Spans R kind b c ys → Spans R kind a c (xs ++ ys)
Spans-append R kind lower a b c xs ys p q = record {
  range = omega (arith, p.range, q.range);
  above = All-append (λ x. a ≤ kind x) xs ys p.above (All-weaker (λ x. b ≤ kind x) (λ x. a ≤ kind x) (λ x h. omega (arith, p.range, h)) ys q.above);
  below = All-append (λ x. kind x < c) xs ys (All-weaker (λ x. kind x < b) (λ x. kind x < c) (λ x h. omega (arith, q.range, h)) xs p.below) q.below;
  pairs = AllPairs-append R xs ys p.pairs q.pairs (λ x y d e. lower x y (omega (arith, All-contains (λ x. kind x < b) xs x p.below d, All-contains (λ x. b ≤ kind x) ys y q.above e)));
}
