-- What a merge passes.
use Rattle.std.proofs.Common.{◌≡◌, ℕ, zero, suc, ◌<◌, ◌≤◌, ◌+◌, Bool, true, false, List, [], ◌∷◌, Option, Some, None, length, get_or, drop, refl, ap, ◌∙◌, inl, inr, arith}
use Rattle.std.specs.Prelude.{All, find, ◌==◌}
use Rattle.std.specs.List.Sorted.{IsNonDecreasingBy}
use Rattle.std.proofs.lemmas.Bool.{ne_eqb, cases_order}
use Rattle.std.proofs.lemmas.List.{get_or-drop, length-drop}
use Rattle.mailcore.specs.declared.listing.Item.{Item}
use Rattle.mailcore.specs.Listed.{IsRising}
use Rattle.rules.specs.Scene.{flags_at}
use Rattle.std.specs.Option.{option_map}

skip : {X : Type 0} (p : X → Bool) (xs : List X) (k : ℕ) (d : X) → k < length xs → p (get_or xs k d) ≡ false → find p (drop (suc k) xs) ≡ find p (drop k xs)
skip p [] k d l f = absurd (omega arith)
skip p (x ∷ xs) zero d l f = rw f refl
skip p (x ∷ xs) (suc k) d l f = skip p xs k d (omega arith) f

-- one that does not pass is skipped
pub skip_one : {X : Type 0} (p : X → Bool) (xs : List X) (k j : ℕ) (d : X) → j ≡ k + 1 → k < length xs → p (get_or xs k d) ≡ false → find p (drop j xs) ≡ find p (drop k xs)
skip_one p xs k j d e l f = let s : j ≡ suc k = omega arith in ap (λ (n : ℕ). find p (drop n xs)) s ∙ skip p xs k d l f

pub find_none_of : {X : Type 0} (test : X → Bool) (xs : List X) → All (λ x. test x ≡ false) xs → find test xs ≡ None
find_none_of test [] fail = refl
find_none_of test (x ∷ xs) fail =
    let first : test x ≡ false = fail 0 x (omega arith) in
    rw first (find_none_of test xs (λ j d a. fail (suc j) d (omega arith)))

pub find_here : {X : Type 0} (p : X → Bool) (xs : List X) (k : ℕ) (d : X) → k < length xs → p (get_or xs k d) ≡ true → find p (drop k xs) ≡ Some (get_or xs k d)
find_here p [] k d l t = absurd (omega arith)
find_here p (x ∷ xs) zero d l t = rw t refl
find_here p (x ∷ xs) (suc k) d l t = find_here p xs k d (omega arith) t

pub items_rise : (is : List Item) → IsRising is → IsNonDecreasingBy (λ (i : Item). i.uid) is
items_rise is rising i j d order within = elim (cases_order i j) [
  | inl same ↦ let alike : (get_or is i d).uid ≡ (get_or is j d).uid = ap (λ (k : ℕ). (get_or is k d).uid) same in omega arith
  | inr other ↦ elim other [
    | inl less ↦ let above = rising i j d less within in omega arith
    | inr more ↦ absurd (omega arith)
  ]
]

-- there is none from a place on where the first is above
pub none_above : {X : Type 0} (n : X → ℕ) (xs : List X) (k u : ℕ) → IsNonDecreasingBy n xs → (k < length xs → (d : X) → u < n (get_or xs k d)) → find (λ x. n x == u) (drop k xs) ≡ None
none_above n xs k u rising above = find_none_of (λ x. n x == u) (drop k xs) (λ j d within.
    let bound : k + j < length xs = omega (arith, length-drop k xs) in
    let place = get_or-drop k xs j d in
    let uid : n (get_or (drop k xs) j d) ≡ n (get_or xs (k + j) d) = ap n place in
    let first : u < n (get_or xs k d) = above (omega arith) d in
    let order : n (get_or xs k d) ≤ n (get_or xs (k + j) d) = rising k (k + j) d (omega arith) bound in
    ne_eqb (n (get_or (drop k xs) j d)) u (λ e. omega arith))

pub no_flags : (is : List Item) (k u : ℕ) → IsRising is → (k < length is → (d : Item) → u < (get_or is k d).uid) → flags_at (drop k is) u ≡ None
no_flags is k u rising above = ap (λ (o : Option Item). option_map (λ (i : Item). i.flags) o) (none_above (λ (i : Item). i.uid) is k u (items_rise is rising) above)

pub same_default : {X : Type 0} (xs : List X) (i : ℕ) (d e : X) → i < length xs → get_or xs i d ≡ get_or xs i e
same_default [] i d e l = absurd (omega arith)
same_default (x ∷ xs) zero d e l = refl
same_default (x ∷ xs) (suc i) d e l = same_default xs i d e (omega arith)

-- what a merge has passed for one key is passed for those after it
pub pass_on : {X Y : Type 0} (n : X → ℕ) (xs : List X) (new old whole : ℕ → Option Y) (i u : ℕ) → IsNonDecreasingBy n xs → ((d : X) → n (get_or xs i d) ≡ u) → ((v : ℕ) → u ≤ v → new v ≡ old v)
    → ((j : ℕ) (d : X) → i ≤ j → j < length xs → old (n (get_or xs j d)) ≡ whole (n (get_or xs j d))) → (j : ℕ) (d : X) → i + 1 ≤ j → j < length xs → new (n (get_or xs j d)) ≡ whole (n (get_or xs j d))
pass_on n xs new old whole i u rising at passed before j d a b =
    let here = at d in
    let order = rising i j d (omega arith) b in
    passed (n (get_or xs j d)) (omega arith) ∙ before j d (omega arith) b

pub same_lists : {X : Type 0} (xs ys : List X) → length xs ≡ length ys → ((k : ℕ) (d : X) → k < length xs → get_or xs k d ≡ get_or ys k d) → xs ≡ ys
same_lists [] [] l h = refl
same_lists [] (y ∷ ys) l h = absurd (omega arith)
same_lists (x ∷ xs) [] l h = absurd (omega arith)
same_lists (x ∷ xs) (y ∷ ys) l h =
    let first : x ≡ y = h 0 x (omega arith) in
    ap (λ zs. x ∷ zs) (same_lists xs ys (omega arith) (λ k d w. h (suc k) d (omega arith))) ∙ ap (λ z. z ∷ ys) first
