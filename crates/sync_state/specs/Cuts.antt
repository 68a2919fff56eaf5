-- A list is cut at the first of some number in one way.
use Rattle.std.specs.Prelude.{ℕ, suc, ◌≡◌, ◌≢◌, List, [], ◌∷◌, ◌++◌, All, length, get_or, refl}
use Rattle.std.proofs.Common.{ap, ◌∙◌, arith, length-append}
use Rattle.std.proofs.lemmas.List.{get_or_at}

-- the number stands nowhere in the list
abbrev pub Lacks : ℕ → List ℕ → Type 0
Lacks n xs = All (λ b. b ≢ n) xs

first_other : (n b : ℕ) (bs : List ℕ) → Lacks n (b ∷ bs) → b ≢ n
first_other n b bs h = h 0 0 (omega arith)

rest_lacks : (n b : ℕ) (bs : List ℕ) → Lacks n (b ∷ bs) → Lacks n bs
rest_lacks n b bs h = λ k d l. h (suc k) d (omega arith)

pub record SameCut (a b x y : List ℕ) : Type 0 where
  pub front : a ≡ b
  pub following : x ≡ y

more : (c : ℕ) (a b x y : List ℕ) → SameCut a b x y → SameCut (c ∷ a) (c ∷ b) x y
more c a b x y s = record { front = ap (λ (z : List ℕ). c ∷ z) s.front; following = s.following }

pub same_cut : (n : ℕ) (a b x y : List ℕ) → Lacks n a → Lacks n b → a ++ n ∷ x ≡ b ++ n ∷ y → SameCut a b x y
same_cut n [] [] x y la lb e = record { front = refl; following = cc }
same_cut n [] (d ∷ b) x y la lb e = let h : d ≡ n = cc in absurd (first_other n d b lb h)
same_cut n (c ∷ a) [] x y la lb e = let h : c ≡ n = cc in absurd (first_other n c a la h)
same_cut n (c ∷ a) (d ∷ b) x y la lb e =
    let same : c ≡ d = cc in
    let rest : a ++ n ∷ x ≡ b ++ n ∷ y = cc in
    let s = same_cut n a b x y (rest_lacks n c a la) (rest_lacks n d b lb) rest in
    let f = s.front in
    record { front = cc; following = s.following }

pub no_cut : (n : ℕ) (t a x : List ℕ) → Lacks n t → t ≢ a ++ n ∷ x
no_cut n t a x none e =
    let here : get_or t (length a) 0 ≡ n = ap (λ (z : List ℕ). get_or z (length a) 0) e ∙ get_or_at a n x 0 (length a) refl in
    let size : length t ≡ length (a ++ n ∷ x) = ap (λ (z : List ℕ). length z) e in
    none (length a) 0 (omega (arith, length-append a (n ∷ x))) here

-- a word, a space and more: both parts are known from the text
pub spaced-injective : {A B : Type 0} (fits : A → Type 0) (spelling : A → List ℕ) (fits_too : B → Type 0) (spelling_too : B → List ℕ)
    → ((a : A) → fits a → Lacks 32 (spelling a))
    → ((a b : A) → fits a → fits b → spelling a ≡ spelling b → a ≡ b)
    → ((a b : B) → fits_too a → fits_too b → spelling_too a ≡ spelling_too b → a ≡ b)
    → (p q : A × B) → fits p.0 × fits_too p.1 → fits q.0 × fits_too q.1
    → spelling p.0 ++ 32 ∷ spelling_too p.1 ≡ spelling q.0 ++ 32 ∷ spelling_too q.1 → p ≡ q
spaced-injective {A} {B} fits spelling fits_too spelling_too word one two p q fp fq e =
    let s = same_cut 32 (spelling p.0) (spelling q.0) (spelling_too p.1) (spelling_too q.1) (word p.0 fp.0) (word q.0 fq.0) e in
    let first : p.0 ≡ q.0 = one p.0 q.0 fp.0 fq.0 s.front in
    let second : p.1 ≡ q.1 = two p.1 q.1 fp.1 fq.1 s.following in
    ap (λ (x : A). let z : A × B = (x, p.1) in z) first ∙ ap (λ (y : B). let z : A × B = (q.0, y) in z) second
