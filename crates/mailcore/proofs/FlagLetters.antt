-- The letters of a set of flags: what the first of them says of the first place, and how they grow place by place.
use Rattle.std.proofs.Common.{lit<, ◌≡◌, ◌≢◌, ℕ, zero, suc, ◌+◌, ◌^◌, ◌<◌, ◌≤◌, Bool, true, false, cond, eqb, eq-eqb, rules, add-one, append-nil, List, [], ◌∷◌, ◌++◌, take, drop, length, get_or, take-suc, drop-cons, append_assoc, refl, sym, ap, ◌∙◌, inl, inr, arith}
use Rattle.std.specs.Prelude.{◌||◌}
use Rattle.std.specs.Int.{bit_at}
use Rattle.std.specs.List.Sorted.{IsStrictlyIncreasing}
use Rattle.std.proofs.lemmas.Nat.Bits.{bit_at-pow_same, bit_at-pow_other, bit_at-zero}
use Rattle.std.proofs.lemmas.Bool.{cases_eq}
use Rattle.std.proofs.lemmas.Bool.Decides.{nat_tests}
use Rattle.mailcore.specs.FlagSet.{FLAGS, has, union}
use Rattle.mailcore.specs.FlagNames.{LETTERS, letters_from, letters_of}
use Rattle.mailcore.proofs.FlagRules.{has-union, union-lt, set_from_flags}

-- whether a text begins with a letter
abbrev pub begins : ℕ → List ℕ → Bool
begins letter [] = false
begins letter (x ∷ xs) = eqb x letter

-- the text after its first letter if that has been taken
abbrev pub following : Bool → List ℕ → List ℕ
following taken text = cond taken (drop 1 text) text

-- the first letter, if there is one, is above this one
abbrev pub IsAbove : ℕ → List ℕ → Type 0
IsAbove x [] = Unit {0}
IsAbove x (y ∷ text) = x < y

-- letters that rise
abbrev pub Rise : List ℕ → Type 0
Rise [] = Unit {0}
Rise (x ∷ xs) = IsAbove x xs × Rise xs

pub all_rise : Rise LETTERS
all_rise = search rules

different : (a b : ℕ) → a ≢ b → eqb a b ≡ false
different a b apart = grind (arith, nat_tests)

above-later : (x y : ℕ) (ys : List ℕ) → x < y → IsAbove y ys → IsAbove x ys
above-later x y [] h k = tt
above-later x y (z ∷ ys) h k = omega (arith, h, k)

-- the letters of later places are above an earlier one
IsAbove-letters : (x i : ℕ) (ys : List ℕ) (flags : ℕ) → IsAbove x ys → Rise ys → IsAbove x (letters_from i ys flags)
IsAbove-letters x i [] flags h r = tt
IsAbove-letters x i (y ∷ ys) flags h r =
    let later : List ℕ = letters_from (suc i) ys flags in
    elim (has flags i) as (λ b. IsAbove x (cond b (y ∷ later) later)) [ true ↦ h | false ↦ IsAbove-letters x (suc i) ys flags (above-later x y ys h r.0) r.1 ]

begins-above : (x : ℕ) (text : List ℕ) → IsAbove x text → begins x text ≡ false
begins-above x [] h = refl
begins-above x (y ∷ text) h = different y x (omega arith)

-- a letter that is there or not, before later letters
first_letter : (b : Bool) (x : ℕ) (later : List ℕ) → begins x later ≡ false → (begins x (cond b (x ∷ later) later) ≡ b) × (following b (cond b (x ∷ later) later) ≡ later)
first_letter true x later h = (eq-eqb x x refl, refl)
first_letter false x later h = (h, refl)

-- a set has the first flag exactly if its letters begin with that flag's letter
pub begins-letters : (x i : ℕ) (xs : List ℕ) (flags : ℕ) → Rise (x ∷ xs) → begins x (letters_from i (x ∷ xs) flags) ≡ has flags i
begins-letters x i xs flags h = (first_letter (has flags i) x (letters_from (suc i) xs flags) (begins-above x _ (IsAbove-letters x (suc i) xs flags h.0 h.1))).0

-- the rest of its letters are those of the other flags
pub following-letters : (x i : ℕ) (xs : List ℕ) (flags : ℕ) → Rise (x ∷ xs) → following (begins x (letters_from i (x ∷ xs) flags)) (letters_from i (x ∷ xs) flags) ≡ letters_from (suc i) xs flags
following-letters x i xs flags h =
    ap (λ b. following b (letters_from i (x ∷ xs) flags)) (begins-letters x i xs flags h)
    ∙ (first_letter (has flags i) x (letters_from (suc i) xs flags) (begins-above x _ (IsAbove-letters x (suc i) xs flags h.0 h.1))).1

-- ---- reading letters, place after place

-- the letter at a place
abbrev pub letter_at : ℕ → ℕ
letter_at i = get_or LETTERS i 0

Rise-drop : (i : ℕ) (xs : List ℕ) → Rise xs → Rise (drop i xs)
Rise-drop zero xs h = h
Rise-drop (suc i) [] h = h
Rise-drop (suc i) (x ∷ xs) h = Rise-drop i xs h.1

rises_from : (i : ℕ) → i < FLAGS → Rise (letter_at i ∷ drop (suc i) LETTERS)
rises_from i h = rw (drop-cons LETTERS i 0 h) at (Rise-drop i LETTERS all_rise)

-- the same flags from a place on, as many as there are letters
abbrev pub Same : (from : ℕ) → List ℕ → (a b : ℕ) → Type 0
Same from [] a b = Unit {0}
Same from (x ∷ xs) a b = (has a from ≡ has b from) × Same (suc from) xs a b

-- sets that agree on them have the same letters
letters-same : (from : ℕ) (xs : List ℕ) (a b : ℕ) → Same from xs a b → letters_from from xs a ≡ letters_from from xs b
letters-same from [] a b h = refl
letters-same from (x ∷ xs) a b h =
    ap (λ t. cond t (x ∷ letters_from (suc from) xs a) (letters_from (suc from) xs a)) h.0
    ∙ ap (λ later. cond (has b from) (x ∷ later) later) (letters-same (suc from) xs a b h.1)

-- one letter more
letters-more : (from : ℕ) (xs : List ℕ) (y flags : ℕ) → letters_from from (xs ++ y ∷ []) flags ≡ letters_from from xs flags ++ cond (has flags (length xs + from)) (y ∷ []) []
letters-more from [] y flags = let e : from ≡ length {A = ℕ} [] + from = omega arith in ap (λ (n : ℕ). cond (has flags n) (y ∷ []) []) e
letters-more from (x ∷ xs) y flags =
    let here : length xs + suc from ≡ suc (length xs + from) = omega arith in
    let last : suc (length xs + from) ≡ length (x ∷ xs) + from = omega arith in
    let more : letters_from (suc from) (xs ++ y ∷ []) flags ≡ letters_from (suc from) xs flags ++ cond (has flags (suc (length xs + from))) (y ∷ []) []
    = letters-more (suc from) xs y flags ∙ ap (λ (n : ℕ). letters_from (suc from) xs flags ++ cond (has flags n) (y ∷ []) []) here in
    let all : letters_from from (x ∷ (xs ++ y ∷ [])) flags ≡ letters_from from (x ∷ xs) flags ++ cond (has flags (suc (length xs + from))) (y ∷ []) [] =
    elim (has flags from) as (λ b. cond b (x ∷ letters_from (suc from) (xs ++ y ∷ []) flags) (letters_from (suc from) (xs ++ y ∷ []) flags)
    ≡ cond b (x ∷ letters_from (suc from) xs flags) (letters_from (suc from) xs flags) ++ cond (has flags (suc (length xs + from))) (y ∷ []) [])
    [ true ↦ ap (λ (l : List ℕ). x ∷ l) more | false ↦ more ] in
    all ∙ ap (λ (n : ℕ). letters_from from (x ∷ xs) flags ++ cond (has flags n) (y ∷ []) []) last

-- the set with the flag at a place if its letter has been taken
abbrev pub with : Bool → ℕ → ℕ → ℕ
with taken flags i = cond taken (union flags (2 ^ i)) flags

-- the set of one flag
pub has-pow : (i k : ℕ) → has (2 ^ i) k ≡ eqb k i
has-pow i k = elim (cases_eq k i) [
  | inl same ↦ ap (λ k. eqb (bit_at (2 ^ i) k) 1) same ∙ ap (λ bit. eqb bit 1) (bit_at-pow_same i) ∙ sym (eq-eqb k i same)
  | inr apart ↦ ap (λ bit. eqb bit 1) (bit_at-pow_other i k apart) ∙ sym (different k i apart)
]

or_false : (a : Bool) → (a || false) ≡ a
or_false true = refl
or_false false = refl

has-with_other : (taken : Bool) (flags i k : ℕ) → k < FLAGS → k ≢ i → has (with taken flags i) k ≡ has flags k
has-with_other true flags i k h apart =
    has-union flags (2 ^ i) k h
    ∙ ap (λ e. has flags k || e) (has-pow i k ∙ different k i apart)
    ∙ or_false (has flags k)
has-with_other false flags i k h apart = refl

has-with_same : (taken : Bool) (flags i : ℕ) → i < FLAGS → has flags i ≡ false → has (with taken flags i) i ≡ taken
has-with_same true flags i h none =
    has-union flags (2 ^ i) i h
    ∙ ap (λ e. e || has (2 ^ i) i) none
    ∙ has-pow i i
    ∙ eq-eqb i i refl
has-with_same false flags i h none = none

-- flags below a place are as they were
same_below : (taken : Bool) (flags i from : ℕ) (xs : List ℕ) → length xs + from ≤ i → i < FLAGS → Same from xs (with taken flags i) flags
same_below taken flags i from [] h k = tt
same_below taken flags i from (x ∷ xs) h k =
    (has-with_other taken flags i from (omega (arith, h, k)) (λ e. omega (arith, h, e)), same_below taken flags i (suc from) xs (omega (arith, h)) k)

length-take-letters : (i : ℕ) → i ≤ FLAGS → length (take i LETTERS) ≡ i
length-take-letters i h = length-take i LETTERS h
  where
    length-take : (i : ℕ) (xs : List ℕ) → i ≤ length xs → length (take i xs) ≡ i
    length-take zero xs h = refl
    length-take (suc i) [] h = absurd (omega (arith, h))
    length-take (suc i) (x ∷ xs) h = ap suc (length-take i xs (omega (arith, h)))

-- the letters of the flags below a place grow by that of the next flag, if the set has it
letters-front : (i before : ℕ) (taken : Bool) → i < FLAGS → has before i ≡ false
    → letters_from 0 (take (suc i) LETTERS) (with taken before i) ≡ letters_from 0 (take i LETTERS) before ++ cond taken (letter_at i ∷ []) []
letters-front i before taken h none =
    let long = length-take-letters i (omega (arith, h)) in
    ap (λ some. letters_from 0 some (with taken before i)) (take-suc LETTERS i 0 h)
    ∙ letters-more 0 (take i LETTERS) (letter_at i) (with taken before i)
    ∙ ap (λ front. front ++ cond (has (with taken before i) (length (take i LETTERS) + 0)) (letter_at i ∷ []) [])
    (letters-same 0 (take i LETTERS) (with taken before i) before (same_below taken before i 0 (take i LETTERS) (omega (arith, long)) h))
    ∙ ap (λ n. letters_from 0 (take i LETTERS) before ++ cond (has (with taken before i) n) (letter_at i ∷ []) []) (let e : length (take i LETTERS) + 0 ≡ i = omega (arith, long) in e)
    ∙ ap (λ t. letters_from 0 (take i LETTERS) before ++ cond t (letter_at i ∷ []) []) (has-with_same taken before i h none)

-- a text is its first letter, if that is taken, and what follows
taken_text : (x : ℕ) (front rest : List ℕ) (taken : Bool) → begins x rest ≡ taken → (front ++ cond taken (x ∷ []) []) ++ following taken rest ≡ front ++ rest
taken_text x front rest false is = ap (λ f. f ++ rest) (append-nil front)
taken_text x front [] true is = cc
taken_text x front (y ∷ rest) true is =
    append_assoc front (x ∷ []) rest ∙ ap (λ z. front ++ (z ∷ rest)) (let same : y ≡ x = grind (arith, nat_tests) in sym same)

-- the flags below a place are found in letters, and the rest of the letters is to be read
pub record IsRead (i found : ℕ) (rest letters : List ℕ) : Type 0 where
  pub set : found < 2 ^ FLAGS
  pub read : letters_from 0 (take i LETTERS) found ++ rest ≡ letters
  pub none_above : (k : ℕ) → i ≤ k → k < FLAGS → has found k ≡ false
  pub unread : (flags : ℕ) → letters_of flags ≡ letters → letters_from i (drop i LETTERS) flags ≡ rest

-- the empty set has no flag
pub has-zero : (k : ℕ) → has 0 k ≡ false
has-zero k = ap (λ bit. eqb bit 1) (bit_at-zero k)

letters_of-is : (flags : ℕ) → letters_of flags ≡ letters_from 0 LETTERS flags
unfolding letters_of
letters_of-is flags = refl

-- nothing is read of the letters yet
pub start : (letters : List ℕ) → IsRead 0 0 letters letters
start letters = record {
  set = lit< tt;
  read = refl;
  none_above = λ k low h. has-zero k;
  unread = λ flags is. sym (letters_of-is flags) ∙ is;
}

with-lt : (taken : Bool) (flags i : ℕ) → flags < 2 ^ FLAGS → with taken flags i < 2 ^ FLAGS
with-lt true flags i h = union-lt flags (2 ^ i)
with-lt false flags i h = h

-- one more flag is read
pub turn : (i found : ℕ) (rest letters : List ℕ) (taken : Bool) → i < FLAGS → IsRead i found rest letters → begins (letter_at i) rest ≡ taken → IsRead (i + 1) (with taken found i) (following taken rest) letters
turn i found rest letters taken h was is =
    let none : has found i ≡ false = was.none_above i (omega arith) h in
    let x : ℕ = letter_at i in
    rw add-one (record {
      set = with-lt taken found i was.set;
      read =
          ap (λ front. front ++ following taken rest) (letters-front i found taken h none)
          ∙ taken_text x (letters_from 0 (take i LETTERS) found) rest taken is
          ∙ was.read;
      none_above = λ k low within. has-with_other taken found i k within (omega arith) ∙ was.none_above k (omega arith) within;
      unread = λ flags q.
          let e : letters_from i (letter_at i ∷ drop (suc i) LETTERS) flags ≡ rest = rw (drop-cons LETTERS i 0 h) at (was.unread flags q) in
          sym (following-letters (letter_at i) i (drop (suc i) LETTERS) flags (rises_from i h))
          ∙ ap (λ text. following (begins x text) text) e
          ∙ ap (λ b. following b rest) is;
    })

-- once all flags are read, the letters are those of the set that was found if nothing is left to read
pub read_whole : (i found : ℕ) (rest letters : List ℕ) → i ≡ FLAGS → IsRead i found rest letters → rest ≡ [] → letters ≡ letters_of found
unfolding letters_of
read_whole i found rest letters all was none =
    sym was.read
    ∙ ap (λ i. letters_from 0 (take i LETTERS) found ++ rest) all
    ∙ ap (λ rest. letters_from 0 LETTERS found ++ rest) none
    ∙ append-nil (letters_from 0 LETTERS found)

-- and those of no set if something is left
pub left_over : (i found : ℕ) (rest letters : List ℕ) → i ≡ FLAGS → IsRead i found rest letters → rest ≢ [] → (flags : ℕ) → letters_of flags ≢ letters
left_over i found rest letters all was some flags q =
    some (sym (was.unread flags q) ∙ ap (λ i. letters_from i (drop i LETTERS) flags) all)

-- ---- laws

-- the same letters come of the same flags
same_flags : (i : ℕ) (xs : List ℕ) (a b : ℕ) → Rise xs → letters_from i xs a ≡ letters_from i xs b → Same i xs a b
same_flags i [] a b h e = tt
same_flags i (x ∷ xs) a b h e = (
  sym (begins-letters x i xs a h) ∙ ap (λ text. begins x text) e ∙ begins-letters x i xs b h,
  same_flags (suc i) xs a b h.1 (sym (following-letters x i xs a h) ∙ ap (λ text. following (begins x text) text) e ∙ following-letters x i xs b h),
)

same_at : (from : ℕ) (xs : List ℕ) (a b k : ℕ) → Same from xs a b → from ≤ k → k < length xs + from → has a k ≡ has b k
same_at from [] a b k s low high = absurd (omega (arith, low, high))
same_at from (x ∷ xs) a b k s low high = elim (cases_eq k from) [
  | inl same ↦ ap (λ n. has a n) same ∙ s.0 ∙ ap (λ n. has b n) (sym same)
  | inr apart ↦ same_at (suc from) xs a b k s.1 (let l : suc from ≤ k = omega (arith, low, apart) in l) (omega (arith, high))
]

pub set_from_letters : (a b : ℕ) → a < 2 ^ FLAGS → b < 2 ^ FLAGS → letters_of a ≡ letters_of b → a ≡ b
set_from_letters a b p q e =
    let same = same_flags 0 LETTERS a b all_rise (sym (letters_of-is a) ∙ e ∙ letters_of-is b) in
    set_from_flags a b p q (λ k h. same_at 0 LETTERS a b k same (omega arith) h)

-- a letter before rising letters that are above it
rise : (x : ℕ) (text : List ℕ) → IsAbove x text → IsStrictlyIncreasing text → IsStrictlyIncreasing (x ∷ text)
rise x [] above up k within = absurd (omega arith)
rise x (y ∷ text) above up zero within = above
rise x (y ∷ text) above up (suc k) within =
    let next = rw (add-one k) at (up k (omega arith)) in
    rw (add-one (suc k)) next

letters-rise : (i : ℕ) (xs : List ℕ) (flags : ℕ) → Rise xs → IsStrictlyIncreasing (letters_from i xs flags)
letters-rise i [] flags h = λ k within. absurd (omega arith)
letters-rise i (x ∷ xs) flags h =
    let later : List ℕ = letters_from (suc i) xs flags in
    let above : IsAbove x later = IsAbove-letters x (suc i) xs flags h.0 h.1 in
    let up : IsStrictlyIncreasing later = letters-rise (suc i) xs flags h.1 in
    elim (has flags i) as (λ b. IsStrictlyIncreasing (cond b (x ∷ later) later)) [ true ↦ rise x later above up | false ↦ up ]

pub letters_of-rise : (flags : ℕ) → IsStrictlyIncreasing (letters_of flags)
unfolding letters_of
letters_of-rise flags = letters-rise 0 LETTERS flags all_rise
