-- Keyword lines, and the maps that they give.
use Rattle.std.proofs.Common.{◌≡◌, ℕ, ◌-◌, ◌<◌, ◌≤◌, ◌≢◌, Bool, true, false, not, cond, All, List, [], ◌∷◌, ◌++◌, length, length-append, get_or, take, drop, None, Some, refl, sym, ap, subst, ◌∙◌, inl, inr, arith}
use Rattle.std.specs.Prelude.{◌||◌, ◌⊎◌, AllPairs, codes, nat_eq, nat_lt}
use Rattle.std.specs.List.{list_all, list_any}
use Rattle.std.proofs.lemmas.Bool.{and_parts, false≢true}
use Rattle.std.proofs.lemmas.Bool.Decides.{nat_tests}
use Rattle.std.proofs.lemmas.Grind.{common_steps}
use Rattle.std.proofs.lemmas.List.{get_or_at, get_or_append_left}
use Rattle.std.proofs.lemmas.List.Elements.{All-head, All-tail}
use Rattle.std.proofs.lemmas.List.Sums.{list_all-from_AllPass}
use Rattle.mailcore.specs.declared.keywords.Keyword.{Keyword}
use Rattle.mailcore.specs.declared.keywords.KeywordFault.{KeywordFault}
use Rattle.mailcore.specs.declared.keywords.KeywordFault.TheVariants.{BadLetter, BadName, NoMemory, Repeated}
use Rattle.mailcore.specs.KeywordNames.{IsMap, has_name, is_keyword_letter, is_keyword_name, is_like, keyword_refused, with_keyword}
use Rattle.mailcore.proofs.KeywordMaps.{map_with}
use Rattle.worlds.specs.Keywords.{Adds, HasNoNext, keyword_lines, keyword_text}
use Rattle.texts.specs.Lines.{IsLine}

-- ---- a list with one element more at its end

last_of : {X : Type 0} (P : X → Type 0) (xs : List X) (x : X) → All P (xs ++ x ∷ []) → P x
last_of P xs x h = subst P (get_or_at xs x [] x (length xs) refl) (h (length xs) x (omega (arith, length-append xs (x ∷ []))))

-- each element stands before the last one
before_last : {X : Type 0} (R : X → X → Type 0) (xs : List X) (x : X) → AllPairs R (xs ++ x ∷ []) → All (λ y. R y x) xs
before_last {X} R xs x h = λ i d within.
    let pair = h i (length xs) d within (omega (arith, length-append xs (x ∷ []))) in
    let First : X → Type 0 = λ y. R y x in
    let Second : X → Type 0 = λ y. R (get_or (xs ++ x ∷ []) i d) y in
    subst First (get_or_append_left xs (x ∷ []) d i within) (subst Second (get_or_at xs x [] d (length xs) refl) pair)

-- ---- the keyword that comes last in a map

abbrev below : ℕ → Keyword → Bool
below letter x = nat_lt x.letter letter

-- its letter is above the others
all_below : (xs : List Keyword) (k : Keyword) → IsMap (xs ++ k ∷ []) → list_all (below k.letter) xs ≡ true
all_below xs k m =
    let rising = before_last (λ a b. a.letter < b.letter) xs k m.rising in
    list_all-from_AllPass (below k.letter) xs (λ i d h. let less = rising i d h in grind (arith, nat_tests))

none_like : (letter : ℕ) (name : List ℕ) (xs : List Keyword) → All (λ x. x.letter < letter) xs → All (λ x. has_name name x ≡ false) xs
    → list_any (is_like letter name) xs ≡ false
none_like letter name [] less apart = refl
none_like letter name (x ∷ xs) less apart =
    let here = All-head (λ (x : Keyword). x.letter < letter) x xs less in
    let other : nat_eq x.letter letter ≡ false = grind (arith, nat_tests) in
    let Less : Keyword → Type 0 = λ x. x.letter < letter in
    let Apart : Keyword → Type 0 = λ x. has_name name x ≡ false in
    neither (nat_eq x.letter letter) (has_name name x) (list_any (is_like letter name) xs) other (All-head Apart x xs apart) (none_like letter name xs (All-tail Less x xs less) (All-tail Apart x xs apart))
  where
    neither : (a b c : Bool) → a ≡ false → b ≡ false → c ≡ false → ((a || b) || c) ≡ false
    neither true b c p q r = absurd (false≢true (sym p))
    neither false true c p q r = absurd (false≢true (sym q))
    neither false false c p q r = r

-- it is not refused
not_refused : (xs : List Keyword) (k : Keyword) → IsMap (xs ++ k ∷ []) → keyword_refused k.letter k.name xs ≡ None
not_refused xs k m =
    taken (is_keyword_letter k.letter) (is_keyword_name k.name) (list_any (is_like k.letter k.name) xs)
    (last_of (λ x. is_keyword_letter x.letter ≡ true) xs k m.letters) (last_of (λ x. is_keyword_name x.name ≡ true) xs k m.names)
    (none_like k.letter k.name xs (before_last (λ a b. a.letter < b.letter) xs k m.rising) (before_last (λ a b. has_name b.name a ≡ false) xs k m.apart))
  where
    taken : (a b c : Bool) → a ≡ true → b ≡ true → c ≡ false → cond (not a) (Some BadLetter) (cond (not b) (Some BadName) (cond c (Some Repeated) None)) ≡ None
    taken false b c p q r = absurd (false≢true p)
    taken true false c p q r = absurd (false≢true q)
    taken true true true p q r = absurd (false≢true (sym r))
    taken true true false p q r = refl

-- and it stands there, where its letter is above the others
stands_last : (k : Keyword) (xs : List Keyword) → list_all (below k.letter) xs ≡ true → with_keyword k xs ≡ xs ++ k ∷ []
stands_last k [] h = refl
stands_last k (x ∷ xs) h =
    let parts = and_parts (below k.letter x) (list_all (below k.letter) xs) h in
    ap (λ (b : Bool). cond b (k ∷ x ∷ xs) (x ∷ with_keyword k xs)) (not_above k.letter x.letter parts.0) ∙ ap (λ (l : List Keyword). x ∷ l) (stands_last k xs parts.1)
  where
    not_above : (a b : ℕ) → nat_lt b a ≡ true → nat_lt a b ≡ false
    not_above a b h = grind (arith, nat_tests)

-- ---- the text of a keyword's line

-- the letter and the name in a text
abbrev pub letter_in : List ℕ → ℕ
letter_in text = get_or text 0 0

abbrev pub name_in : List ℕ → List ℕ
name_in text = take (length text - 2) (drop 2 text)

name_in_text : (k : Keyword) → name_in (keyword_text k) ≡ k.name
name_in_text k = grind (arith, common_steps)

text_of : (text : List ℕ) → 2 ≤ length text → get_or text 1 0 ≡ 32 → letter_in text ∷ 32 ∷ name_in text ≡ text
text_of [] long space = absurd (omega (arith, long))
text_of (x ∷ []) long space = absurd (omega (arith, long))
text_of (x ∷ y ∷ ys) long space =
    let name : take (length (x ∷ y ∷ ys) - 2) ys ≡ ys = grind (arith, common_steps) in
    ap (λ (l : List ℕ). x ∷ 32 ∷ l) name ∙ ap (λ (n : ℕ). x ∷ n ∷ ys) (sym space)

pub adds : (old new : List Keyword) (text : List ℕ) → 2 ≤ length text → get_or text 1 0 ≡ 32 → IsMap old → list_all (below (letter_in text)) old ≡ true
    → keyword_refused (letter_in text) (name_in text) old ≡ None → new ≡ with_keyword (record { letter = letter_in text; name = name_in text }) old → Adds old text new
adds old new text long space m above none is = record {
  keyword = record { letter = letter_in text; name = name_in text };
  text = text_of text long space;
  following = is ∙ stands_last (record { letter = letter_in text; name = name_in text }) old above;
  is_map = subst IsMap (sym is) (map_with (letter_in text) (name_in text) old m none);
}

pub no_next_below : (keywords : List Keyword) (line : List ℕ) → list_all (below (letter_in line)) keywords ≡ false → HasNoNext keywords line
no_next_below keywords line out = λ k is m.
    false≢true (sym out ∙ ap (λ (t : List ℕ). list_all (below (letter_in t)) keywords) (sym is) ∙ all_below keywords k m)

-- of a refusal that is not `NoMemory`
pub no_next_refused : {A : Type 0} (keywords : List Keyword) (line : List ℕ) (fault : KeywordFault) → fault ≢ NoMemory
    → ((fault ≡ NoMemory) × A) ⊎ (keyword_refused (letter_in line) (name_in line) keywords ≡ Some fault) → HasNoNext keywords line
no_next_refused keywords line fault other (inl want) = absurd (other want.0)
no_next_refused keywords line fault other (inr refused) = λ k is m.
    let never : Some fault ≡ None =
    sym refused
    ∙ ap (λ (t : List ℕ). keyword_refused (letter_in t) (name_in t) keywords) (sym is)
    ∙ ap (λ (n : List ℕ). keyword_refused k.letter n keywords) (name_in_text k)
    ∙ not_refused keywords k m in
    cc

-- ---- one line more

pub lines_more : (keywords : List Keyword) (k : Keyword) (following : List ℕ) → keyword_lines (keywords ++ k ∷ []) following ≡ keyword_lines keywords (codes "keyword " ++ (keyword_text k ++ 10 ∷ following))
lines_more [] k following = refl
lines_more (x ∷ xs) k following = ap (λ (l : List ℕ). codes "keyword " ++ (keyword_text x ++ 10 ∷ l)) (lines_more xs k following)

pub given_more : (old new : List Keyword) (line following rest text : List ℕ) → text ≡ keyword_lines old rest → IsLine (codes "keyword ") line following rest → Adds old line new
    → text ≡ keyword_lines new following
given_more old new line following rest text is first adds =
    is
    ∙ ap (λ (t : List ℕ). keyword_lines old t) (first.parts ∙ ap (λ (t : List ℕ). codes "keyword " ++ (t ++ 10 ∷ following)) (sym adds.text))
    ∙ sym (lines_more old adds.keyword following)
    ∙ ap (λ (l : List Keyword). keyword_lines l following) (sym adds.following)
