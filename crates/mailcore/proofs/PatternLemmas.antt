-- What is computed of a pattern and a name is whether the name can be cut into parts for the pattern.
use Rattle.std.proofs.Common.{◌≡◌, ◌≢◌, inl, inr, ℕ, Bool, true, false, cond, eqb, ◌||◌, List, [], ◌∷◌, ◌++◌, refl, sym, ◌∙◌, ap, subst, ◌↔◌}
use Rattle.std.specs.Prelude.{All, IsTrue, MatchBool, slice_index_or}
use Rattle.std.specs.List.{list_any, concat}
use Rattle.std.proofs.lemmas.Bool.{cases_Bool, or_cases, or_left, or_right, eqb-true, eqb-false, ne_eqb, eq-eqb, false≢true}
use Rattle.std.proofs.lemmas.List.Elements.{All-nil, All-cons, All-head, All-tail}
use Rattle.mailcore.specs.MailboxPatterns.{StandForEach, IsMatched, matches, after_any, after_level, after_same}
use Rattle.mailcore.specs.PatternRows.{IsRow}
use Rattle.mailcore.proofs.PatternRowLemmas.{first_of_row}

-- ---- a name in two parts, of which the second passes a test

record Parts (Stands : List ℕ → Type 0) (f : List ℕ → Bool) (name : List ℕ) : Type 0 where
  part : List ℕ
  rest : List ℕ
  whole : part ++ rest ≡ name
  stands : Stands part
  passes : f rest ≡ true

or_false : (b : Bool) → (b || false) ≡ true → b ≡ true
or_false true h = refl
or_false false h = h

any_found : (f : List ℕ → Bool) (name : List ℕ) → list_any f (after_any name) ≡ true → Parts (λ part. Unit {0}) f name
any_found f [] h = record { part = []; rest = []; whole = refl; stands = tt; passes = or_false (f []) h }
any_found f (c ∷ cs) h = elim (or_cases (f (c ∷ cs)) (list_any f (after_any cs)) h) [
  | inl here ↦ record { part = []; rest = c ∷ cs; whole = refl; stands = tt; passes = here }
  | inr there ↦
      let found = any_found f cs there in
      record { part = c ∷ found.part; rest = found.rest; whole = ap (λ (l : List ℕ). c ∷ l) found.whole; stands = tt; passes = found.passes }
]

any_there : (f : List ℕ → Bool) (part rest : List ℕ) → f rest ≡ true → list_any f (after_any (part ++ rest)) ≡ true
any_there f [] [] h = or_left (f []) false h
any_there f [] (c ∷ cs) h = or_left (f (c ∷ cs)) (list_any f (after_any cs)) h
any_there f (c ∷ part) rest h = or_right (f (c ∷ (part ++ rest))) (list_any f (after_any (part ++ rest))) (any_there f part rest h)

level_found : (f : List ℕ → Bool) (name : List ℕ) → list_any f (after_level name) ≡ true → Parts (λ part. All (λ c. c ≢ 47) part) f name
level_found f [] h = record { part = []; rest = []; whole = refl; stands = All-nil (λ (c : ℕ). c ≢ 47); passes = or_false (f []) h }
level_found f (c ∷ cs) h = elim (or_cases (f (c ∷ cs)) (list_any f (cond (eqb c 47) [] (after_level cs))) h) [
  | inl here ↦ record { part = []; rest = c ∷ cs; whole = refl; stands = All-nil (λ (c : ℕ). c ≢ 47); passes = here }
  | inr there ↦ elim (cases_Bool (eqb c 47)) [
    | inl slash ↦ absurd (false≢true (subst (λ (b : Bool). list_any f (cond b [] (after_level cs)) ≡ true) slash there))
    | inr other ↦
        let found = level_found f cs (subst (λ (b : Bool). list_any f (cond b [] (after_level cs)) ≡ true) other there) in
        record {
          part = c ∷ found.part;
          rest = found.rest;
          whole = ap (λ (l : List ℕ). c ∷ l) found.whole;
          stands = All-cons (λ (c : ℕ). c ≢ 47) c found.part (eqb-false c 47 other) found.stands;
          passes = found.passes;
        }
  ]
]

level_there : (f : List ℕ → Bool) (part rest : List ℕ) → All (λ c. c ≢ 47) part → f rest ≡ true → list_any f (after_level (part ++ rest)) ≡ true
level_there f [] [] none h = or_left (f []) false h
level_there f [] (c ∷ cs) none h = or_left (f (c ∷ cs)) (list_any f (cond (eqb c 47) [] (after_level cs))) h
level_there f (c ∷ part) rest none h =
    let other : eqb c 47 ≡ false = ne_eqb c 47 (All-head (λ (c : ℕ). c ≢ 47) c part none) in
    let more : list_any f (after_level (part ++ rest)) ≡ true = level_there f part rest (All-tail (λ (c : ℕ). c ≢ 47) c part none) h in
    or_right (f (c ∷ (part ++ rest))) (list_any f (cond (eqb c 47) [] (after_level (part ++ rest))))
    (subst (λ (b : Bool). list_any f (cond b [] (after_level (part ++ rest))) ≡ true) (sym other) more)

same_found : (f : List ℕ → Bool) (p : ℕ) (name : List ℕ) → list_any f (after_same p name) ≡ true → Parts (λ part. part ≡ p ∷ []) f name
same_found f p [] h = absurd (false≢true h)
same_found f p (c ∷ cs) h = elim (cases_Bool (eqb c p)) [
  | inl same ↦ record {
    part = c ∷ [];
    rest = cs;
    whole = refl;
    stands = ap (λ (x : ℕ). x ∷ []) (eqb-true c p same);
    passes = or_false (f cs) (subst (λ (b : Bool). list_any f (cond b (cs ∷ []) []) ≡ true) same h);
  }
  | inr other ↦ absurd (false≢true (subst (λ (b : Bool). list_any f (cond b (cs ∷ []) []) ≡ true) other h))
]

same_there : (f : List ℕ → Bool) (p : ℕ) (rest : List ℕ) → f rest ≡ true → list_any f (after_same p (p ∷ rest)) ≡ true
same_there f p rest h =
    subst (λ (b : Bool). list_any f (cond b (rest ∷ []) []) ≡ true) (sym (eq-eqb p p refl)) (or_left (f rest) false h)

-- ---- by the kind of the character

abbrev after_by : (star percent : Bool) (p : ℕ) (name : List ℕ) → List (List ℕ)
after_by star percent p name = cond star (after_any name) (cond percent (after_level name) (after_same p name))

found_by : (star percent : Bool) (f : List ℕ → Bool) (p : ℕ) (name : List ℕ) → list_any f (after_by star percent p name) ≡ true
    → Parts (λ part. MatchBool star (Unit {0}) (MatchBool percent (All (λ c. c ≢ 47) part) (part ≡ p ∷ []))) f name
found_by true percent f p name h = any_found f name h
found_by false true f p name h = level_found f name h
found_by false false f p name h = same_found f p name h

there_by : (star percent : Bool) (f : List ℕ → Bool) (p : ℕ) (part rest : List ℕ)
    → MatchBool star (Unit {0}) (MatchBool percent (All (λ c. c ≢ 47) part) (part ≡ p ∷ [])) → f rest ≡ true → list_any f (after_by star percent p (part ++ rest)) ≡ true
there_by true percent f p part rest stands h = any_there f part rest h
there_by false true f p part rest stands h = level_there f part rest stands h
there_by false false f p part rest stands h =
    subst (λ (l : List ℕ). list_any f (after_same p (l ++ rest)) ≡ true) (sym stands) (same_there f p rest h)

-- ---- the whole pattern

pub computed_is_matched : (pattern name : List ℕ) → matches pattern name ≡ true → IsMatched pattern name
computed_is_matched [] [] h = record { parts = []; stand = tt; whole = refl }
computed_is_matched [] (c ∷ cs) h = absurd (false≢true h)
computed_is_matched (p ∷ ps) name h =
    let found = found_by (eqb p 42) (eqb p 37) (λ rest. matches ps rest) p name h in
    let more = computed_is_matched ps found.rest found.passes in
    record {
      parts = found.part ∷ more.parts;
      stand = (found.stands, more.stand);
      whole = ap (λ (l : List ℕ). found.part ++ l) more.whole ∙ found.whole;
    }

parts_are_computed : (pattern : List ℕ) (parts : List (List ℕ)) → StandForEach pattern parts → matches pattern (concat parts) ≡ true
parts_are_computed [] [] stand = refl
parts_are_computed [] (part ∷ parts) stand = absurd stand
parts_are_computed (p ∷ ps) [] stand = absurd stand
parts_are_computed (p ∷ ps) (part ∷ parts) stand =
    there_by (eqb p 42) (eqb p 37) (λ rest. matches ps rest) p part (concat parts) stand.0 (parts_are_computed ps parts stand.1)

pub matched_is_computed : (pattern name : List ℕ) → IsMatched pattern name → matches pattern name ≡ true
matched_is_computed pattern name is =
    subst (λ (l : List ℕ). matches pattern l ≡ true) is.whole (parts_are_computed pattern is.parts is.stand)

-- ---- the first place of a row

pub row_decides : (pattern name : List ℕ) (row : List Bool) → IsRow pattern name row → IsTrue (slice_index_or row 0 false) ↔ IsMatched pattern name
row_decides pattern name row is =
    let e = first_of_row pattern name row is in
    (λ h. computed_is_matched pattern name (sym e ∙ h), λ m. e ∙ matched_is_computed pattern name m)
