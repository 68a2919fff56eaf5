-- The table of ends of a pattern and of a name.
use Rattle.std.proofs.Common.{◌≡◌, ◌<◌, ◌≤◌, ◌≢◌, inl, inr, ℕ, ◌+◌, Bool, true, false, not, cond, eqb, ◌&&◌, ◌||◌, List, [], ◌∷◌, length, drop, refl, sym, ◌∙◌, ap, subst, arith, get_or}
use Rattle.std.specs.Prelude.{slice_set}
use Rattle.std.specs.List.{list_any}
use Rattle.std.proofs.lemmas.Bool.{cases_Bool}
use Rattle.std.proofs.lemmas.Bool.Decides.{nat_tests}
use Rattle.std.proofs.lemmas.List.{at_drop_more, get_or-set_same, get_or-set_other, length-set}
use Rattle.mailcore.specs.MailboxPatterns.{matches, after_any, after_level, after_same}
use Rattle.mailcore.specs.PatternRows.{IsRow, reaches, reaches_end}

-- ---- one character more, at a character of the name and after the name

abbrev after_by : (star percent : Bool) (p : ℕ) (name : List ℕ) → List (List ℕ)
after_by star percent p name = cond star (after_any name) (cond percent (after_level name) (after_same p name))

abbrev reaches_by : (star percent : Bool) (p c : ℕ) (here after next : Bool) → Bool
reaches_by star percent p c here after next = cond star (here || next) (cond percent (here || not (eqb c 47) && next) (eqb c p && after))

or_false : (b : Bool) → (b || false) ≡ b
or_false true = refl
or_false false = refl

by_tests : (star percent : Bool) (p c : ℕ) (ps cs : List ℕ)
    → list_any (λ rest. matches ps rest) (after_by star percent p (c ∷ cs))
    ≡ reaches_by star percent p c (matches ps (c ∷ cs)) (matches ps cs) (list_any (λ rest. matches ps rest) (after_by star percent p cs))
by_tests true percent p c ps cs = refl
by_tests false true p c ps cs =
    elim (eqb c 47) as (λ b. (matches ps (c ∷ cs) || list_any (λ rest. matches ps rest) (cond b [] (after_level cs)))
    ≡ (matches ps (c ∷ cs) || not b && list_any (λ rest. matches ps rest) (after_level cs)))
    [ true ↦ refl | false ↦ refl ]
by_tests false false p c ps cs =
    elim (eqb c p) as (λ b. list_any (λ rest. matches ps rest) (cond b (cs ∷ []) []) ≡ (b && matches ps cs))
    [ true ↦ or_false (matches ps cs) | false ↦ refl ]

char_reaches : (p c : ℕ) (ps cs : List ℕ) → matches (p ∷ ps) (c ∷ cs) ≡ reaches p c (matches ps (c ∷ cs)) (matches ps cs) (matches (p ∷ ps) cs)
char_reaches p c ps cs = by_tests (eqb p 42) (eqb p 37) p c ps cs

end_by_tests : (star percent : Bool) (p : ℕ) (ps : List ℕ) → list_any (λ rest. matches ps rest) (after_by star percent p []) ≡ ((star || percent) && matches ps [])
end_by_tests true percent p ps = or_false (matches ps [])
end_by_tests false true p ps = or_false (matches ps [])
end_by_tests false false p ps = refl

end_reaches : (p : ℕ) (ps : List ℕ) → matches (p ∷ ps) [] ≡ reaches_end p (matches ps [])
end_reaches p ps = end_by_tests (eqb p 42) (eqb p 37) p ps

-- ---- at a place of the pattern

split_at : (pattern : List ℕ) (j : ℕ) → j < length pattern → drop j pattern ≡ get_or pattern j 0 ∷ drop (j + 1) pattern
split_at pattern j h = at_drop_more (λ (l : List ℕ). l) pattern j 0 h

place_reaches : (pattern : List ℕ) (c : ℕ) (cs : List ℕ) (j : ℕ) → j < length pattern
    → matches (drop j pattern) (c ∷ cs) ≡ reaches (get_or pattern j 0) c (matches (drop (j + 1) pattern) (c ∷ cs)) (matches (drop (j + 1) pattern) cs) (matches (drop j pattern) cs)
place_reaches pattern c cs j h =
    let e : drop j pattern ≡ get_or pattern j 0 ∷ drop (j + 1) pattern = split_at pattern j h in
    ap (λ (l : List ℕ). matches l (c ∷ cs)) e ∙ char_reaches (get_or pattern j 0) c (drop (j + 1) pattern) cs
    ∙ ap (λ (l : List ℕ). reaches (get_or pattern j 0) c (matches (drop (j + 1) pattern) (c ∷ cs)) (matches (drop (j + 1) pattern) cs) (matches l cs)) (sym e)

place_reaches_end : (pattern : List ℕ) (j : ℕ) → j < length pattern
    → matches (drop j pattern) [] ≡ reaches_end (get_or pattern j 0) (matches (drop (j + 1) pattern) [])
place_reaches_end pattern j h =
    ap (λ (l : List ℕ). matches l []) (split_at pattern j h) ∙ end_reaches (get_or pattern j 0) (drop (j + 1) pattern)

drop_all : (xs : List ℕ) → drop (length xs) xs ≡ []
drop_all [] = refl
drop_all (x ∷ xs) = drop_all xs

pub matches_none : (c : ℕ) (cs pattern : List ℕ) (j : ℕ) → j ≡ length pattern → matches (drop j pattern) (c ∷ cs) ≡ false
matches_none c cs pattern j e = ap (λ (n : ℕ). matches (drop n pattern) (c ∷ cs)) e ∙ ap (λ (l : List ℕ). matches l (c ∷ cs)) (drop_all pattern)

pub matches_end : (pattern : List ℕ) (j : ℕ) → j ≡ length pattern → matches (drop j pattern) [] ≡ true
matches_end pattern j e = ap (λ (n : ℕ). matches (drop n pattern) []) e ∙ ap (λ (l : List ℕ). matches l []) (drop_all pattern)

-- ---- the row of an empty name, made from its end, so many places of it

pub record IsEnd (pattern : List ℕ) (count : ℕ) (row : List Bool) : Type 0 where
  pub long : length row ≡ length pattern + 1
  pub new : (j : ℕ) → length pattern ≤ j + count → j ≤ length pattern → get_or row j false ≡ matches (drop j pattern) []

pub end_first : (pattern : List ℕ) (row : List Bool) → length row ≡ length pattern + 1 → IsEnd pattern 0 (slice_set row (length pattern) true)
end_first pattern row long = record {
  long = length-set row (length pattern) true ∙ long;
  new = λ j h within.
      let same : length pattern ≡ j = omega arith in
      let at : j ≡ length pattern = omega arith in
      subst (λ (n : ℕ). get_or (slice_set row (length pattern) true) n false ≡ matches (drop n pattern) []) same
      (get_or-set_same row (length pattern) true false (omega arith) ∙ sym (matches_end pattern (length pattern) refl));
}

pub end_more : (pattern : List ℕ) (count more j : ℕ) (v : Bool) (row : List Bool) → IsEnd pattern count row → j + 1 + count ≡ length pattern → more ≡ count + 1
    → v ≡ reaches_end (get_or pattern j 0) (get_or row (j + 1) false) → IsEnd pattern more (slice_set row j v)
end_more pattern count more j v row is at m f =
    let value : v ≡ matches (drop j pattern) [] =
    f ∙ ap (λ (b : Bool). reaches_end (get_or pattern j 0) b) (is.new (j + 1) (omega arith) (omega arith)) ∙ sym (place_reaches_end pattern j (omega arith)) in
    record {
      long = length-set row j v ∙ is.long;
      new = λ i h within. elim (cases_Bool (eqb i j)) [
        | inl here_it ↦
            let same : j ≡ i = grind (arith, nat_tests) in
            subst (λ (n : ℕ). get_or (slice_set row j v) n false ≡ matches (drop n pattern) []) same (get_or-set_same row j v false (let long = is.long in omega arith) ∙ value)
        | inr other ↦
            let apart : i ≢ j = grind (arith, nat_tests) in
            let far : length pattern ≤ i + count = grind (arith, nat_tests) in
            get_or-set_other row j i v false apart ∙ is.new i far within
      ];
    }

pub end_all : (pattern : List ℕ) (count : ℕ) (row : List Bool) → IsEnd pattern count row → length pattern ≤ count → IsRow pattern [] row
end_all pattern count row is h = record { long = is.long; at = λ k within. is.new k (omega arith) within }

-- ---- a row that is made from its end, so many places of it

pub record IsMade (pattern : List ℕ) (c : ℕ) (cs : List ℕ) (count : ℕ) (after : Bool) (row : List Bool) : Type 0 where
  pub long : length row ≡ length pattern + 1
  pub after_is : (j : ℕ) → j + count ≡ length pattern → after ≡ matches (drop j pattern) cs
  pub old : (j : ℕ) → j + count < length pattern → get_or row j false ≡ matches (drop j pattern) cs
  pub new : (j : ℕ) → length pattern ≤ j + count → j ≤ length pattern → get_or row j false ≡ matches (drop j pattern) (c ∷ cs)

pub made_first : (pattern : List ℕ) (c : ℕ) (cs : List ℕ) (after : Bool) (row : List Bool) → IsRow pattern cs row → after ≡ get_or row (length pattern) false
    → IsMade pattern c cs 0 after (slice_set row (length pattern) false)
made_first pattern c cs after row is e = record {
  long = length-set row (length pattern) false ∙ is.long;
  after_is = λ j h.
      let same : length pattern ≡ j = omega arith in
      subst (λ (n : ℕ). after ≡ matches (drop n pattern) cs) same (e ∙ is.at (length pattern) (omega arith));
  old = λ j h.
      let apart : j ≢ length pattern = λ same. omega arith in
      get_or-set_other row (length pattern) j false false apart ∙ is.at j (omega arith);
  new = λ j h within.
      let same : length pattern ≡ j = omega arith in
      subst (λ (n : ℕ). get_or (slice_set row (length pattern) false) n false ≡ matches (drop n pattern) (c ∷ cs)) same
      (get_or-set_same row (length pattern) false false (let long = is.long in omega arith) ∙ sym (matches_none c cs pattern (length pattern) refl));
}

pub made_more : (pattern : List ℕ) (c : ℕ) (cs : List ℕ) (count more j : ℕ) (after next v : Bool) (row : List Bool) → IsMade pattern c cs count after row → j + 1 + count ≡ length pattern → more ≡ count + 1
    → next ≡ get_or row j false → v ≡ reaches (get_or pattern j 0) c (get_or row (j + 1) false) after next → IsMade pattern c cs more next (slice_set row j v)
made_more pattern c cs count more j after next v row is at m e f =
    let was : next ≡ matches (drop j pattern) cs = e ∙ is.old j (omega arith) in
    let value : v ≡ matches (drop j pattern) (c ∷ cs) =
    f ∙ ap (λ (b : Bool). reaches (get_or pattern j 0) c b after next) (is.new (j + 1) (omega arith) (omega arith))
    ∙ ap (λ (b : Bool). reaches (get_or pattern j 0) c (matches (drop (j + 1) pattern) (c ∷ cs)) b next) (is.after_is (j + 1) at)
    ∙ ap (reaches (get_or pattern j 0) c (matches (drop (j + 1) pattern) (c ∷ cs)) (matches (drop (j + 1) pattern) cs)) was
    ∙ sym (place_reaches pattern c cs j (omega arith)) in
    record {
      long = length-set row j v ∙ is.long;
      after_is = λ i h. let same : j ≡ i = omega arith in subst (λ (n : ℕ). next ≡ matches (drop n pattern) cs) same was;
      old = λ i h. get_or-set_other row j i v false (let less : i + more < length pattern = h in omega arith) ∙ is.old i (omega arith);
      new = λ i h within. elim (cases_Bool (eqb i j)) [
        | inl here_it ↦
            let same : j ≡ i = grind (arith, nat_tests) in
            subst (λ (n : ℕ). get_or (slice_set row j v) n false ≡ matches (drop n pattern) (c ∷ cs)) same (get_or-set_same row j v false (let long = is.long in omega arith) ∙ value)
        | inr other ↦
            let apart : i ≢ j = grind (arith, nat_tests) in
            let far : length pattern ≤ i + count = grind (arith, nat_tests) in
            get_or-set_other row j i v false apart ∙ is.new i far within
      ];
    }

pub made_all : (pattern : List ℕ) (c : ℕ) (cs : List ℕ) (count : ℕ) (after : Bool) (row : List Bool) → IsMade pattern c cs count after row → length pattern ≤ count → IsRow pattern (c ∷ cs) row
made_all pattern c cs count after row is h = record { long = is.long; at = λ k within. is.new k (omega arith) within }

-- ---- the rows of all ends of a name

pub row_more : (pattern name : List ℕ) (j at : ℕ) (row : List Bool) → j < length name → at ≡ j → IsRow pattern (get_or name at 0 ∷ drop (j + 1) name) row → IsRow pattern (drop j name) row
row_more pattern name j at row h e is =
    subst (λ (cs : List ℕ). IsRow pattern cs row) (ap (λ (n : ℕ). get_or name n 0 ∷ drop (j + 1) name) e ∙ sym (at_drop_more (λ (l : List ℕ). l) name j 0 h)) is

drop_none : (xs : List ℕ) → drop 0 xs ≡ xs
drop_none [] = refl
drop_none (x ∷ xs) = refl

pub row_of_all : (pattern name : List ℕ) (row : List Bool) → IsRow pattern (drop 0 name) row → IsRow pattern name row
row_of_all pattern name row is = subst (λ (l : List ℕ). IsRow pattern l row) (drop_none name) is

pub first_of_row : (pattern name : List ℕ) (row : List Bool) → IsRow pattern name row → get_or row 0 false ≡ matches pattern name
first_of_row pattern name row is = is.at 0 (omega arith) ∙ ap (λ (l : List ℕ). matches l name) (drop_none pattern)

pub row_first : (pattern name : List ℕ) (j : ℕ) (row : List Bool) → j ≡ length name → IsRow pattern [] row → IsRow pattern (drop j name) row
row_first pattern name j row e is =
    subst (λ (l : List ℕ). IsRow pattern l row) (sym (ap (λ (n : ℕ). drop n name) e ∙ drop_all name)) is
