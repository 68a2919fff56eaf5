-- The letters of a name once its message has other flags, and what such a name says.
use Rattle.std.proofs.Common.{◌≡◌, ℕ, zero, suc, ◌+◌, ◌<◌, ◌^◌, Bool, true, false, cond, eqb, eq-eqb, get_or, length, ltb, List, [], ◌∷◌, filter, Option, Some, refl, sym, ap, subst, ◌∙◌, arith, lit<}
use Rattle.std.specs.Prelude.{◌&&◌, ◌||◌, fold, unwrap_or}
use Rattle.std.specs.Option.{option_map}
use Rattle.std.specs.List.{list_any}
use Rattle.std.proofs.lemmas.Bool.{and_parts, and_from, and_right, agree_below_at, eqb-true, false≢true}
use Rattle.std.proofs.lemmas.Bool.Decides.{nat_tests}
use Rattle.std.proofs.lemmas.Nat.{pow_below}
use Rattle.mailcore.specs.declared.keywords.Keyword.{Keyword}
use Rattle.mailcore.specs.FlagSet.{FLAGS, has}
use Rattle.mailcore.specs.FlagNames.{LETTERS as FLAG_LETTERS, all_flags, letter, letters_from, letters_of, place}
use Rattle.mailcore.specs.KeywordNames.{is_known, kept, place_of, written_order}
use Rattle.mailcore.proofs.FlagLetters.{IsAbove, Rise, all_rise, has-pow, has-zero, letter_at}
use Rattle.mailcore.proofs.FlagRules.{has-union, set_from_flags, union-lt}
use Rattle.mailcore.proofs.KnownFlags.{has-kept, kept-lt}
use Rattle.maildir.specs.Letters.{LETTERS, flag_from, flag_with, flags_in, has_letter, is_known_letter, letters_with, stays, with_letter}
use Rattle.maildir.specs.Names.{NameParts, name_of, is_letter, is_below, are_letters, uid_in}
use Rattle.maildir.specs.FlaggedNames.{letters_in, flags_by_name, flagged}
use Rattle.maildir.proofs.NameLemmas.{name_is_spelled, spelled_is_read}

-- ---- some of the letters

below_rest : (a x : ℕ) (xs : List ℕ) → ltb a x ≡ true → is_below x xs ≡ true → is_below a xs ≡ true
below_rest a x [] less below = refl
below_rest a x (y ∷ ys) less below = grind (arith, nat_tests)

below_some : (p : ℕ → Bool) (a : ℕ) (xs : List ℕ) → is_below a xs ≡ true → are_letters xs ≡ true → is_below a (filter p xs) ≡ true
below_some p a [] below rising = refl
below_some p a (x ∷ xs) below rising =
    let parts = and_parts (is_letter x && is_below x xs) (are_letters xs) rising in
    let first = and_parts (is_letter x) (is_below x xs) parts.0 in
    by_test (p x) (below_some p a xs (below_rest a x xs below first.1) parts.1)
  where
    by_test : (b : Bool) → is_below a (filter p xs) ≡ true → is_below a (cond b (x ∷ filter p xs) (filter p xs)) ≡ true
    by_test true later = below
    by_test false later = later

are_letters-filter : (p : ℕ → Bool) (xs : List ℕ) → are_letters xs ≡ true → are_letters (filter p xs) ≡ true
are_letters-filter p [] rising = refl
are_letters-filter p (x ∷ xs) rising =
    let parts = and_parts (is_letter x && is_below x xs) (are_letters xs) rising in
    let first = and_parts (is_letter x) (is_below x xs) parts.0 in
    by_test (p x) first.0 (below_some p x xs first.1 parts.1) (are_letters-filter p xs parts.1)
  where
    by_test : (b : Bool) → is_letter x ≡ true → is_below x (filter p xs) ≡ true → are_letters (filter p xs) ≡ true
        → are_letters (cond b (x ∷ filter p xs) (filter p xs)) ≡ true
    by_test true is below later = and_from (is_letter x && is_below x (filter p xs)) (are_letters (filter p xs)) (and_from (is_letter x) (is_below x (filter p xs)) is below) later
    by_test false is below later = later

has_letter-filter : (p : ℕ → Bool) (xs : List ℕ) (b : ℕ) → has_letter (filter p xs) b ≡ (p b && has_letter xs b)
has_letter-filter p [] b = sym (and_right (p b) false refl)
has_letter-filter p (x ∷ xs) b = by_tests (p x) refl (eqb x b) refl (has_letter-filter p xs b)
  where
    by_tests : (s : Bool) → p x ≡ s → (t : Bool) → eqb x b ≡ t → has_letter (filter p xs) b ≡ (p b && has_letter xs b)
        → has_letter (cond s (x ∷ filter p xs) (filter p xs)) b ≡ (p b && (eqb x b || has_letter xs b))
    by_tests true e true f later =
        let passes : p b ≡ true = subst (λ (y : ℕ). p y ≡ true) (eqb-true x b f) e in
        rw (f, passes) refl
    by_tests false e true f later =
        let fails : p b ≡ false = subst (λ (y : ℕ). p y ≡ false) (eqb-true x b f) e in
        later ∙ rw (f, fails) refl
    by_tests true e false f later = rw (f) later
    by_tests false e false f later = rw (f) later

-- ---- the letters of a name

and_true : (b : Bool) → (b && true) ≡ b
and_true true = refl
and_true false = refl

-- strictly rising letters
pub letters_with-rise : (keywords : List Keyword) (before : List ℕ) (flags : ℕ) → are_letters (letters_with keywords before flags) ≡ true
unfolding letters_with
letters_with-rise keywords before flags = are_letters-filter (stays keywords before flags) LETTERS refl

has_letter-with : (keywords : List Keyword) (before : List ℕ) (flags b : ℕ) → has_letter LETTERS b ≡ true
    → has_letter (letters_with keywords before flags) b ≡ stays keywords before flags b
unfolding letters_with
has_letter-with keywords before flags b is =
    has_letter-filter (stays keywords before flags) LETTERS b ∙ ap (λ (t : Bool). stays keywords before flags b && t) is ∙ and_true (stays keywords before flags b)

below_letters : (b : ℕ) → b < 123 → is_letter b ≡ has_letter LETTERS b
below_letters b small = agree_below_at is_letter (has_letter LETTERS) 123 b refl small

letter_stands : (b : ℕ) → is_letter b ≡ true → has_letter LETTERS b ≡ true
letter_stands b is = sym (below_letters b (small b is)) ∙ is
  where
    small : (b : ℕ) → is_letter b ≡ true → b < 123
    small b is = grind (arith, nat_tests)

-- letters that are not known are kept
pub letters_with-others : (keywords : List Keyword) (before : List ℕ) (flags b : ℕ) → is_letter b ≡ true → is_known_letter keywords b ≡ false
    → has_letter (letters_with keywords before flags) b ≡ has_letter before b
letters_with-others keywords before flags b is other =
    has_letter-with keywords before flags b (letter_stands b is)
    ∙ ap (λ (known : Bool). has_letter (cond known (letters_of flags) before) b) other

-- ---- the letters of a set

other_number : (a b : ℕ) → a < b → eqb b a ≡ false
other_number a b less = grind (arith, nat_tests)

above_all : (x y : ℕ) (ys : List ℕ) → x < y → IsAbove y ys → IsAbove x ys
above_all x y [] less above = tt
above_all x y (z ∷ ys) less above = omega (arith, less, above)

-- a letter below those of later places is none of them
not_later : (x from : ℕ) (xs : List ℕ) (flags : ℕ) → IsAbove x xs → Rise xs → has_letter (letters_from from xs flags) x ≡ false
not_later x from [] flags above rising = refl
not_later x from (y ∷ ys) flags above rising =
    let later = not_later x (suc from) ys flags (above_all x y ys above rising.0) rising.1 in
    elim (has flags from) as (λ b. has_letter (cond b (y ∷ letters_from (suc from) ys flags) (letters_from (suc from) ys flags)) x ≡ false) [
      | true ↦ ap (λ (t : Bool). t || has_letter (letters_from (suc from) ys flags) x) (other_number x y above) ∙ later
      | false ↦ later
    ]

above_at : (x : ℕ) (xs : List ℕ) (i : ℕ) → IsAbove x xs → Rise xs → i < length xs → x < get_or xs i 0
above_at x [] i above rising within = absurd (omega (arith, within))
above_at x (y ∷ ys) zero above rising within = above
above_at x (y ∷ ys) (suc i) above rising within = above_at x ys i (above_all x y ys above rising.0) rising.1 (omega (arith, within))

has_letter-from : (from : ℕ) (xs : List ℕ) (flags i k : ℕ) → Rise xs → i < length xs → k ≡ i + from → has_letter (letters_from from xs flags) (get_or xs i 0) ≡ has flags k
has_letter-from from [] flags i k rising within at = absurd (omega (arith, within))
has_letter-from from (x ∷ xs) flags zero k rising within at =
    let none = not_later x (suc from) xs flags rising.0 rising.1 in
    let here : k ≡ from = omega (arith, at) in
    elim (has flags from) as (λ b. has_letter (cond b (x ∷ letters_from (suc from) xs flags) (letters_from (suc from) xs flags)) x ≡ b) [
      | true ↦ ap (λ (t : Bool). t || has_letter (letters_from (suc from) xs flags) x) (eq-eqb x x refl)
      | false ↦ none
    ]
    ∙ ap (has flags) (sym here)
has_letter-from from (x ∷ xs) flags (suc i) k rising within at =
    let later = has_letter-from (suc from) xs flags i k rising.1 (omega (arith, within)) (omega (arith, at)) in
    let apart : eqb x (get_or xs i 0) ≡ false = lower x (get_or xs i 0) (above_at x xs i rising.0 rising.1 (omega (arith, within))) in
    elim (has flags from) as (λ b. has_letter (cond b (x ∷ letters_from (suc from) xs flags) (letters_from (suc from) xs flags)) (get_or xs i 0) ≡ has flags k) [
      | true ↦ ap (λ (t : Bool). t || has_letter (letters_from (suc from) xs flags) (get_or xs i 0)) apart ∙ later
      | false ↦ later
    ]
  where
    lower : (a b : ℕ) → a < b → eqb a b ≡ false
    lower a b less = grind (arith, nat_tests)

-- a flag is in a set exactly if its letter is one of the set's
pub has_letter-of : (flags k : ℕ) → k < FLAGS → has_letter (letters_of flags) (letter_at k) ≡ has flags k
unfolding letters_of
has_letter-of flags k within = has_letter-from 0 FLAG_LETTERS flags k k all_rise within (omega arith)

-- ---- the flag of a letter

-- a set whose flags are all below has none of these letters
none_from : (from : ℕ) (xs : List ℕ) (flags : ℕ) → ((k : ℕ) → from < suc k → has flags k ≡ false) → letters_from from xs flags ≡ []
none_from from [] flags none = refl
none_from from (x ∷ xs) flags none =
    ap (λ (b : Bool). cond b (x ∷ letters_from (suc from) xs flags) (letters_from (suc from) xs flags)) (none from (omega arith))
    ∙ none_from (suc from) xs flags (λ k less. none k (omega (arith, less)))

-- the flag of a letter of later places is none before
not_before : (from : ℕ) (xs : List ℕ) (b k : ℕ) → k < from → has (flag_from from xs b) k ≡ false
not_before from [] b k less = has-zero k
not_before from (x ∷ xs) b k less =
    let later = not_before (suc from) xs b k (omega (arith, less)) in
    elim (eqb x b) as (λ t. has (cond t (2 ^ from) (flag_from (suc from) xs b)) k ≡ false) [
      | true ↦ has-pow from k ∙ lower k from less
      | false ↦ later
    ]
  where
    lower : (a b : ℕ) → a < b → eqb a b ≡ false
    lower a b less = grind (arith, nat_tests)

flag_letters : (from : ℕ) (xs : List ℕ) (b : ℕ) → has_letter xs b ≡ true → letters_from from xs (flag_from from xs b) ≡ b ∷ []
flag_letters from [] b there = absurd (false≢true there)
flag_letters from (x ∷ xs) b there = by_test (eqb x b) refl there (flag_letters (suc from) xs b)
  where
    by_test : (t : Bool) → eqb x b ≡ t → (t || has_letter xs b) ≡ true → (has_letter xs b ≡ true → letters_from (suc from) xs (flag_from (suc from) xs b) ≡ b ∷ [])
        → letters_from from (x ∷ xs) (cond t (2 ^ from) (flag_from (suc from) xs b)) ≡ b ∷ []
    by_test true e there later =
        ap (λ (t : Bool). cond t (x ∷ letters_from (suc from) xs (2 ^ from)) (letters_from (suc from) xs (2 ^ from))) (has-pow from from ∙ eq-eqb from from refl)
        ∙ ap (λ (l : List ℕ). x ∷ l) (none_from (suc from) xs (2 ^ from) (λ k less. has-pow from k ∙ other_number from k (omega (arith, less))))
        ∙ ap (λ (l : ℕ). l ∷ []) (eqb-true x b e)
    by_test false e there later =
        ap (λ (t : Bool). cond t (x ∷ letters_from (suc from) xs (flag_from (suc from) xs b)) (letters_from (suc from) xs (flag_from (suc from) xs b)))
        (not_before (suc from) xs b from (omega arith))
        ∙ later there

no_flag : (from : ℕ) (xs : List ℕ) (b : ℕ) → has_letter xs b ≡ false → flag_from from xs b ≡ 0
no_flag from [] b none = refl
no_flag from (x ∷ xs) b none = by_test (eqb x b) none (no_flag (suc from) xs b)
  where
    by_test : (t : Bool) → (t || has_letter xs b) ≡ false → (has_letter xs b ≡ false → flag_from (suc from) xs b ≡ 0) → cond t (2 ^ from) (flag_from (suc from) xs b) ≡ 0
    by_test true none later = absurd (false≢true (sym none))
    by_test false none later = later none

-- so many places
flag_from-lt : (from : ℕ) (xs : List ℕ) (b : ℕ) → from + length xs ≡ FLAGS → flag_from from xs b < 2 ^ FLAGS
flag_from-lt from [] b all = lit< tt
flag_from-lt from (x ∷ xs) b all =
    let later = flag_from-lt (suc from) xs b (omega (arith, all)) in
    elim (eqb x b) as (λ t. cond t (2 ^ from) (flag_from (suc from) xs b) < 2 ^ FLAGS) [
      | true ↦ pow_below from FLAGS (omega (arith, all))
      | false ↦ later
    ]

pub flag_with-lt : (b : ℕ) → flag_with b < 2 ^ FLAGS
unfolding flag_with
flag_with-lt b = flag_from-lt 0 FLAG_LETTERS b refl

-- the letter of a flag has that flag alone
pub flag_with-letters : (b : ℕ) → has_letter FLAG_LETTERS b ≡ true → letters_of (flag_with b) ≡ b ∷ []
unfolding letters_of flag_with
flag_with-letters b there = flag_letters 0 FLAG_LETTERS b there

-- and other letters have none
pub flag_with-none : (b : ℕ) → has_letter FLAG_LETTERS b ≡ false → flag_with b ≡ 0
unfolding flag_with
flag_with-none b none = no_flag 0 FLAG_LETTERS b none

or_back : (a b : Bool) → b ≡ true → (a || b) ≡ true
or_back true b is = refl
or_back false b is = is

is_there : (xs : List ℕ) (i : ℕ) → i < length xs → has_letter xs (get_or xs i 0) ≡ true
is_there [] i within = absurd (omega (arith, within))
is_there (x ∷ xs) zero within = ap (λ (t : Bool). t || has_letter xs x) (eq-eqb x x refl)
is_there (x ∷ xs) (suc i) within = or_back (eqb x (get_or xs i 0)) (has_letter xs (get_or xs i 0)) (is_there xs i (omega (arith, within)))

or_false : (b : Bool) → (b || false) ≡ b
or_false true = refl
or_false false = refl

has-flag_with : (b k : ℕ) → k < FLAGS → has (flag_with b) k ≡ eqb b (letter_at k)
has-flag_with b k within = by_test (has_letter FLAG_LETTERS b) refl
  where
    by_test : (t : Bool) → has_letter FLAG_LETTERS b ≡ t → has (flag_with b) k ≡ eqb b (letter_at k)
    by_test true e =
        sym (has_letter-of (flag_with b) k within)
        ∙ ap (λ (l : List ℕ). has_letter l (letter_at k)) (flag_with-letters b e)
        ∙ or_false (eqb b (letter_at k))
    by_test false e =
        ap (λ (n : ℕ). has n k) (flag_with-none b e) ∙ has-zero k
        ∙ elim (eqb b (letter_at k)) as (λ t. eqb b (letter_at k) ≡ t → false ≡ t) [
          | true ↦ λ same. sym e ∙ ap (has_letter FLAG_LETTERS) (eqb-true b (letter_at k) same) ∙ is_there FLAG_LETTERS k within
          | false ↦ λ same. refl
        ] refl

-- the only set whose letters are this one
pub flag_with-only : (b flags : ℕ) → flags < 2 ^ FLAGS → b ∷ [] ≡ letters_of flags → flags ≡ flag_with b
flag_with-only b flags fits are =
    set_from_flags flags (flag_with b) fits (flag_with-lt b)
    (λ k within. sym (has_letter-of flags k within) ∙ ap (λ (l : List ℕ). has_letter l (letter_at k)) (sym are)
    ∙ or_false (eqb b (letter_at k)) ∙ sym (has-flag_with b k within))

-- ---- the flags of letters

or_assoc : (a b c : Bool) → ((a || b) || c) ≡ (a || (b || c))
or_assoc true b c = refl
or_assoc false b c = refl

found_more : (letters : List ℕ) (found k : ℕ) → k < FLAGS → has (fold with_letter found letters) k ≡ (has found k || has_letter letters (letter_at k))
found_more [] found k within = sym (or_false (has found k))
found_more (b ∷ letters) found k within =
    found_more letters (with_letter found b) k within
    ∙ ap (λ (t : Bool). t || has_letter letters (letter_at k)) (has-union found (flag_with b) k within ∙ ap (λ (t : Bool). has found k || t) (has-flag_with b k within))
    ∙ or_assoc (has found k) (eqb b (letter_at k)) (has_letter letters (letter_at k))

pub has-flags_in : (letters : List ℕ) (k : ℕ) → k < FLAGS → has (flags_in letters) k ≡ has_letter letters (letter_at k)
unfolding flags_in
has-flags_in letters k within = found_more letters 0 k within ∙ ap (λ (t : Bool). t || has_letter letters (letter_at k)) (has-zero k)

found-lt : (letters : List ℕ) (found : ℕ) → found < 2 ^ FLAGS → fold with_letter found letters < 2 ^ FLAGS
found-lt [] found fits = fits
found-lt (b ∷ letters) found fits = found-lt letters (with_letter found b) (union-lt found (flag_with b))

pub flags_in-lt : (letters : List ℕ) → flags_in letters < 2 ^ FLAGS
unfolding flags_in
flags_in-lt letters = found-lt letters 0 (lit< tt)

-- the letters of a set stand for it
pub flags_in-own : (flags : ℕ) → flags < 2 ^ FLAGS → flags_in (letters_of flags) ≡ flags
flags_in-own flags fits =
    set_from_flags (flags_in (letters_of flags)) flags (flags_in-lt (letters_of flags)) fits (λ k within. has-flags_in (letters_of flags) k within ∙ has_letter-of flags k within)

-- ---- known flags have known letters

six_at : ℕ → Bool
six_at k = list_any (λ flag. eqb k (place flag)) written_order

six_letter : ℕ → Bool
six_letter b = list_any (λ flag. eqb (letter flag) b) all_flags

six_by_letters : (k : ℕ) → k < FLAGS → six_at k ≡ six_letter (letter_at k)
unfolding six_at six_letter
six_by_letters k within = agree_below_at six_at (λ n. six_letter (letter_at n)) 32 k refl within

-- a letter is one of the six, or 91 above its place
letter_after : (k : ℕ) → k < FLAGS → (six_letter (letter_at k) || eqb (letter_at k) (k + 91)) ≡ true
unfolding six_letter
letter_after k within = agree_below_at (λ n. six_letter (letter_at n) || eqb (letter_at n) (n + 91)) (λ n. true) 32 k refl within

named_letter : (k l : ℕ) → k < FLAGS → six_letter (letter_at k) ≡ false → eqb k (place_of l) ≡ true → eqb l (letter_at k) ≡ true
unfolding six_letter
named_letter zero l within other same = absurd (false≢true (sym other))
named_letter (suc n) l within other same =
    let following : eqb (letter_at (suc n)) (suc n + 91) ≡ true = subst (λ (t : Bool). (t || eqb (letter_at (suc n)) (suc n + 91)) ≡ true) other (letter_after (suc n) within) in
    let at : letter_at (suc n) ≡ suc n + 91 = eqb-true (letter_at (suc n)) (suc n + 91) following in
    let place : suc n ≡ place_of l = eqb-true (suc n) (place_of l) same in
    let is : l ≡ suc n + 91 = omega (arith, place) in
    eq-eqb l (letter_at (suc n)) (is ∙ sym at)

keyword_letter : (keywords : List Keyword) (k : ℕ) → k < FLAGS → six_letter (letter_at k) ≡ false → list_any (λ x. eqb k (place_of x.letter)) keywords ≡ true
    → list_any (λ x. eqb x.letter (letter_at k)) keywords ≡ true
keyword_letter [] k within other there = absurd (false≢true there)
keyword_letter (x ∷ xs) k within other there = by_test (eqb k (place_of x.letter)) refl there (keyword_letter xs k within other)
  where
    by_test : (t : Bool) → eqb k (place_of x.letter) ≡ t → (t || list_any (λ x. eqb k (place_of x.letter)) xs) ≡ true
        → (list_any (λ x. eqb k (place_of x.letter)) xs ≡ true → list_any (λ x. eqb x.letter (letter_at k)) xs ≡ true)
        → (eqb x.letter (letter_at k) || list_any (λ x. eqb x.letter (letter_at k)) xs) ≡ true
    by_test true e there later = ap (λ (t : Bool). t || list_any (λ x. eqb x.letter (letter_at k)) xs) (named_letter k x.letter within other e)
    by_test false e there later = or_back (eqb x.letter (letter_at k)) (list_any (λ x. eqb x.letter (letter_at k)) xs) (later there)

known_letter : (keywords : List Keyword) (k : ℕ) → k < FLAGS → is_known keywords k ≡ true → is_known_letter keywords (letter_at k) ≡ true
unfolding six_at six_letter
known_letter keywords k within known = by_test (six_letter (letter_at k)) refl
  where
    by_test : (t : Bool) → six_letter (letter_at k) ≡ t → (t || list_any (λ x. eqb x.letter (letter_at k)) keywords) ≡ true
    by_test true e = refl
    by_test false e =
        keyword_letter keywords k within e
        (subst (λ (t : Bool). (t || list_any (λ (x : Keyword). eqb k (place_of x.letter)) keywords) ≡ true) (six_by_letters k within ∙ e) known)

letter_of_ascii : (k : ℕ) → k < FLAGS → has_letter LETTERS (letter_at k) ≡ true
letter_of_ascii k within = agree_below_at (λ n. has_letter LETTERS (letter_at n)) (λ n. true) 32 k refl within

-- the flags with a name that the letters stand for
pub flags_in-with : (keywords : List Keyword) (before : List ℕ) (flags : ℕ) → kept keywords (flags_in (letters_with keywords before flags)) ≡ kept keywords flags
flags_in-with keywords before flags =
    let now : ℕ = flags_in (letters_with keywords before flags) in
    set_from_flags (kept keywords now) (kept keywords flags) (kept-lt keywords now) (kept-lt keywords flags)
    (λ k within. has-kept keywords now k within ∙ same k within (is_known keywords k) refl ∙ sym (has-kept keywords flags k within))
  where
    and_false : (b : Bool) → (b && false) ≡ false
    and_false true = refl
    and_false false = refl

    same : (k : ℕ) → k < FLAGS → (t : Bool) → is_known keywords k ≡ t → (has (flags_in (letters_with keywords before flags)) k && t) ≡ (has flags k && t)
    same k within false e = and_false (has (flags_in (letters_with keywords before flags)) k) ∙ sym (and_false (has flags k))
    same k within true e =
        ap (λ (b : Bool). b && true)
        (has-flags_in (letters_with keywords before flags) k within
        ∙ has_letter-with keywords before flags (letter_at k) (letter_of_ascii k within)
        ∙ ap (λ (known : Bool). has_letter (cond known (letters_of flags) before) (letter_at k)) (known_letter keywords k within e)
        ∙ has_letter-of flags k within)

-- ---- names

abbrev pub reflagged : List Keyword → NameParts → ℕ → NameParts
reflagged keywords name flags = record { base = name.base; uid = name.uid; letters = Some (letters_with keywords (letters_in name) flags) }

-- base and UID are kept
pub name_of-flagged : (keywords : List Keyword) (text : List ℕ) (name : NameParts) (flags : ℕ) → name_of text ≡ Some name → name_of (flagged keywords name flags) ≡ Some (reflagged keywords name flags)
name_of-flagged keywords text name flags read =
    let spelled = name_is_spelled name text read in
    spelled_is_read (reflagged keywords name flags) (flagged keywords name flags) (record {
      parts = refl;
      base = spelled.base;
      uid = spelled.uid;
      letters = letters_with-rise keywords (letters_in name) flags;
    })

pub uid_in-flagged : (keywords : List Keyword) (text : List ℕ) (name : NameParts) (flags : ℕ) → name_of text ≡ Some name → uid_in (flagged keywords name flags) ≡ name.uid
uid_in-flagged keywords text name flags read = rw (name_of-flagged keywords text name flags read) refl

pub flags-flagged : (keywords : List Keyword) (text : List ℕ) (name : NameParts) (flags : ℕ) → name_of text ≡ Some name → flags_by_name keywords (flagged keywords name flags) ≡ kept keywords flags
flags-flagged keywords text name flags read =
    ap (λ (o : Option NameParts). kept keywords (flags_in (unwrap_or (option_map letters_in o) []))) (name_of-flagged keywords text name flags read)
    ∙ flags_in-with keywords (letters_in name) flags
