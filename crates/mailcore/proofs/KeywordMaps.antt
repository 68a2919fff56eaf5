-- A map of keywords stays one where a keyword comes that is not refused.
use Rattle.std.proofs.Common.{◌≡◌, ℕ, suc, ◌+◌, ◌<◌, ◌≤◌, Bool, true, false, cond, not, All, List, [], ◌∷◌, length, None, Some, refl, sym, ap, ◌∙◌, inl, inr, arith}
use Rattle.std.specs.Prelude.{◌||◌, ◌&&◌, AllPairs, nat_eq, nat_lt}
use Rattle.std.specs.List.{insert, list_any, position, position_or_len}
use Rattle.std.specs.Str.{str_to_ascii_lowercase}
use Rattle.std.specs.Cmp.Lexicographic.{pointwise}
use Rattle.std.proofs.lemmas.Bool.{cases_Bool, false≢true}
use Rattle.std.proofs.lemmas.Bool.Decides.{nat_tests}
use Rattle.std.proofs.lemmas.List.Elements.{All-head, All-tail, All-cons, All-nil}
use Rattle.std.proofs.lemmas.List.Kept.{AllPairs-cons}
use Rattle.std.proofs.lemmas.List.Sums.{prefix_len-le-length}
use Rattle.mailcore.specs.declared.keywords.Keyword.{Keyword}
use Rattle.mailcore.specs.declared.keywords.KeywordFault.TheVariants.{BadLetter, BadName, Repeated}
use Rattle.mailcore.specs.KeywordNames.{IsMap, has_name, is_keyword_letter, is_keyword_name, is_like, keyword_refused, with_keyword}

-- ---- where it stands

-- above the letters before it
abbrev pub above : Keyword → Keyword → Bool
above k x = nat_lt k.letter x.letter

one_more : (n : ℕ) → 1 + n ≡ suc n
one_more n = omega arith

pub stands : (k : Keyword) (xs : List Keyword) → insert xs (position_or_len (above k) xs) k ≡ with_keyword k xs
stands k [] = refl
stands k (x ∷ xs) =
    let following = stands k xs in
    elim (nat_lt k.letter x.letter) as (λ b. insert (x ∷ xs) (cond (not b) (1 + position_or_len (above k) xs) 0) k ≡ cond b (k ∷ x ∷ xs) (x ∷ with_keyword k xs))
    [ true ↦ refl | false ↦ ap (λ (i : ℕ). insert (x ∷ xs) i k) (one_more (position_or_len (above k) xs)) ∙ ap (λ (l : List Keyword). x ∷ l) following ]

-- a search for the first letter above finds where
found_at : (b : Bool) (n i : ℕ) → cond b (Some n) None ≡ Some i → n ≡ i
found_at true n i h = cc
found_at false n i h = cc

found_none : (n l : ℕ) → n ≤ l → cond (nat_lt n l) (Some n) None ≡ None → n ≡ l
found_none n l h none = by_test (nat_lt n l) refl none
  where
    by_test : (b : Bool) → nat_lt n l ≡ b → cond b (Some n) None ≡ None → n ≡ l
    by_test true is none = let never : Some n ≡ None = none in cc
    by_test false is none = grind (arith, nat_tests)

pub stands_found : (letter i : ℕ) (xs : List Keyword) → position (λ x. nat_lt letter x.letter) xs ≡ Some i → (k : Keyword) → k.letter ≡ letter → insert xs i k ≡ with_keyword k xs
stands_found letter i xs found k same =
    ap (λ (n : ℕ). insert xs n k) (sym (found_at _ _ i found) ∙ ap (λ (l : ℕ). position_or_len (λ x. nat_lt l x.letter) xs) (sym same)) ∙ stands k xs

pub stands_last : (letter : ℕ) (xs : List Keyword) → position (λ x. nat_lt letter x.letter) xs ≡ None → (k : Keyword) → k.letter ≡ letter → insert xs (length xs) k ≡ with_keyword k xs
stands_last letter xs none k same =
    ap (λ (n : ℕ). insert xs n k) (sym (found_none _ (length xs) (prefix_len-le-length _ xs) none) ∙ ap (λ (l : ℕ). position_or_len (λ x. nat_lt l x.letter) xs) (sym same)) ∙ stands k xs

-- ---- what stays

All-with : (P : Keyword → Type 0) (k : Keyword) (xs : List Keyword) → P k → All P xs → All P (with_keyword k xs)
All-with P k [] here h = All-cons P k [] here h
All-with P k (x ∷ xs) here h =
    let following = All-with P k xs here (All-tail P x xs h) in
    elim (nat_lt k.letter x.letter) as (λ b. All P (cond b (k ∷ x ∷ xs) (x ∷ with_keyword k xs)))
    [ true ↦ All-cons P k (x ∷ xs) here h | false ↦ All-cons P x (with_keyword k xs) (All-head P x xs h) following ]

weaker : (P Q : Keyword → Type 0) → ((x : Keyword) → P x → Q x) → (xs : List Keyword) → All P xs → All Q xs
weaker P Q f [] h = All-nil Q
weaker P Q f (x ∷ xs) h = All-cons Q x xs (f x (All-head P x xs h)) (weaker P Q f xs (All-tail P x xs h))

-- what holds between neither and the new one keeps pairs
Pairs-with : (R : Keyword → Keyword → Type 0) (k : Keyword) (xs : List Keyword)
    → All (λ x. nat_lt k.letter x.letter ≡ true → R k x) xs → All (λ x. nat_lt k.letter x.letter ≡ false → R x k) xs
    → AllPairs (λ a b. a.letter < b.letter) xs → AllPairs R xs → AllPairs R (with_keyword k xs)
Pairs-with R k [] before following up h = AllPairs-cons R k [] (All-nil (R k)) h
Pairs-with R k (x ∷ xs) before following up h =
    let Before : Keyword → Type 0 = λ y. nat_lt k.letter y.letter ≡ true → R k y in
    let Following : Keyword → Type 0 = λ y. nat_lt k.letter y.letter ≡ false → R y k in
    let Up : Keyword → Keyword → Type 0 = λ a b. a.letter < b.letter in
    let later : All (Up x) xs = pairs_head Up x xs up in
    let rest = Pairs-with R k xs (All-tail Before x xs before) (All-tail Following x xs following) (pairs_tail Up x xs up) (pairs_tail R x xs h) in
    elim (cases_Bool (nat_lt k.letter x.letter)) [
      | inl below ↦
          let all_below : All (λ y. nat_lt k.letter y.letter ≡ true) (x ∷ xs) =
          All-cons (λ (y : Keyword). nat_lt k.letter y.letter ≡ true) x xs below (weaker (Up x) (λ (y : Keyword). nat_lt k.letter y.letter ≡ true) (λ y less. still_below k.letter x.letter y.letter below less) xs later)
          in
          rw below (AllPairs-cons R k (x ∷ xs) (both Before (λ (y : Keyword). nat_lt k.letter y.letter ≡ true) (R k) (λ y f b. f b) (x ∷ xs) before all_below) h)
      | inr none ↦
          rw none (AllPairs-cons R x (with_keyword k xs) (All-with (R x) k xs (All-head Following x xs following none) (pairs_head R x xs h)) rest)
    ]
  where
    still_below : (a b c : ℕ) → nat_lt a b ≡ true → b < c → nat_lt a c ≡ true
    still_below a b c below less = grind (arith, nat_tests)

    both : (P Q S : Keyword → Type 0) → ((y : Keyword) → P y → Q y → S y) → (ys : List Keyword) → All P ys → All Q ys → All S ys
    both P Q S f [] p q = All-nil S
    both P Q S f (y ∷ ys) p q = All-cons S y ys (f y (All-head P y ys p) (All-head Q y ys q)) (both P Q S f ys (All-tail P y ys p) (All-tail Q y ys q))

    pairs_head : (R : Keyword → Keyword → Type 0) (x : Keyword) (xs : List Keyword) → AllPairs R (x ∷ xs) → All (R x) xs
    pairs_head R x xs h = λ i d below. h 0 (suc i) d (omega arith) (omega (arith, below))

    pairs_tail : (R : Keyword → Keyword → Type 0) (x : Keyword) (xs : List Keyword) → AllPairs R (x ∷ xs) → AllPairs R xs
    pairs_tail R x xs h = λ i j d less below. h (suc i) (suc j) d (omega (arith, less)) (omega (arith, below))

-- ---- what is not refused

not_like : (letter : ℕ) (name : List ℕ) (xs : List Keyword) → list_any (is_like letter name) xs ≡ false → All (λ x. is_like letter name x ≡ false) xs
not_like letter name [] h = All-nil (λ (x : Keyword). is_like letter name x ≡ false)
not_like letter name (x ∷ xs) h =
    let parts = neither (is_like letter name x) (list_any (is_like letter name) xs) h in
    All-cons (λ (x : Keyword). is_like letter name x ≡ false) x xs parts.0 (not_like letter name xs parts.1)
  where
    neither : (a b : Bool) → (a || b) ≡ false → (a ≡ false) × (b ≡ false)
    neither true b h = absurd (false≢true (sym h))
    neither false b h = (refl, h)

-- names compare the same either way
bytes_turned : (xs ys : List ℕ) → pointwise nat_eq xs ys ≡ pointwise nat_eq ys xs
bytes_turned [] [] = refl
bytes_turned [] (y ∷ ys) = refl
bytes_turned (x ∷ xs) [] = refl
bytes_turned (x ∷ xs) (y ∷ ys) =
    ap (λ (b : Bool). b && pointwise nat_eq xs ys) (turned x y) ∙ ap (λ (b : Bool). nat_eq y x && b) (bytes_turned xs ys)
  where
    turned : (x y : ℕ) → nat_eq x y ≡ nat_eq y x
    turned x y = grind (arith, nat_tests)

pub map_with : (letter : ℕ) (name : List ℕ) (xs : List Keyword) → IsMap xs → keyword_refused letter name xs ≡ None → IsMap (with_keyword (record { letter = letter; name = name }) xs)
map_with letter name xs m none =
    let taken = taken_of (is_keyword_letter letter) (is_keyword_name name) (list_any (is_like letter name) xs) none in
    let k : Keyword = record { letter = letter; name = name } in
    let apart : All (λ x. is_like letter name x ≡ false) xs = not_like letter name xs taken.2 in
    record {
      letters = All-with (λ (x : Keyword). is_keyword_letter x.letter ≡ true) k xs taken.0 m.letters;
      rising = Pairs-with (λ a b. a.letter < b.letter) k xs
          (weaker (λ (x : Keyword). is_like letter name x ≡ false) (λ (x : Keyword). nat_lt letter x.letter ≡ true → letter < x.letter) (λ x h below. grind (arith, nat_tests)) xs apart)
          (weaker (λ (x : Keyword). is_like letter name x ≡ false) (λ (x : Keyword). nat_lt letter x.letter ≡ false → x.letter < letter) (λ x h below. lower x.letter letter (has_name name x) h below) xs apart)
          m.rising m.rising;
      names = All-with (λ (x : Keyword). is_keyword_name x.name ≡ true) k xs taken.1 m.names;
      apart = Pairs-with (λ a b. has_name b.name a ≡ false) k xs
          (weaker (λ (x : Keyword). is_like letter name x ≡ false) (λ (x : Keyword). nat_lt letter x.letter ≡ true → has_name x.name k ≡ false)
          (λ x h below. bytes_turned (str_to_ascii_lowercase x.name) (str_to_ascii_lowercase name) ∙ (other (nat_eq x.letter letter) (has_name name x) h)) xs apart)
          (weaker (λ (x : Keyword). is_like letter name x ≡ false) (λ (x : Keyword). nat_lt letter x.letter ≡ false → has_name name x ≡ false) (λ x h below. other (nat_eq x.letter letter) (has_name name x) h) xs apart)
          m.rising m.apart;
    }
  where
    lower : (a b : ℕ) (c : Bool) → (nat_eq a b || c) ≡ false → nat_lt b a ≡ false → a < b
    lower a b c h below = elim (cases_Bool (nat_eq a b)) [
      | inl same ↦ let no : (true || c) ≡ false = rw same at h in absurd (false≢true (sym no))
      | inr apart ↦ grind (arith, nat_tests)
    ]

    other : (a b : Bool) → (a || b) ≡ false → b ≡ false
    other true b h = absurd (false≢true (sym h))
    other false b h = h

    taken_of : (a b c : Bool) → cond (not a) (Some BadLetter) (cond (not b) (Some BadName) (cond c (Some Repeated) None)) ≡ None → (a ≡ true) × (b ≡ true) × (c ≡ false)
    taken_of false b c h = let no : Some BadLetter ≡ None = h in cc
    taken_of true false c h = let no : Some BadName ≡ None = h in cc
    taken_of true true true h = let no : Some Repeated ≡ None = h in cc
    taken_of true true false h = (refl, refl, refl)
