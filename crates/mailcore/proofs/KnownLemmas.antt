-- The known marks, which show the same repeats as the list of the drawn ones.
use Rattle.std.proofs.Common.{◌≡◌, ℕ, Bool, true, false, cond, ◌||◌, List, [], ◌∷◌, ◌++◌, refl, sym, ap, ◌∙◌, inl, inr, Result, Ok, Err, is_ok, OnOk}
use Rattle.std.proofs.lemmas.Bool.{cases_Bool, or_right, both_ways, cond-true, cond-false}
use Rattle.std.proofs.lemmas.Slice.Eq.{bytes_eq-Decides}
use Rattle.std.proofs.Math.Bool.{or-false}
use Rattle.std.specs.List.{list_any}
use Rattle.std.specs.Str.{bytes_eq}
use Rattle.rand_core.specs.Stream.{Stream}
use Rattle.mailcore.specs.Draws.{is_listed, GivesListed, GivesNew}
use Rattle.mailcore.proofs.PairLemmas.{is_listed-push}

-- what is said of a call that has a value, where it has one
pub on_ok : {T E : Type 0} (r : Result T E) (P : Type 0) → is_ok r ≡ true → OnOk r P → P
on_ok (Ok value) P ok holds = holds
on_ok (Err fault) P ok holds = absurd (both_ways false refl ok)

-- two texts may change places
bytes_eq-flip : (a b : List ℕ) → bytes_eq a b ≡ bytes_eq b a
bytes_eq-flip a b = elim (cases_Bool (bytes_eq a b)) [
  | inl same ↦ same ∙ sym ((bytes_eq-Decides b a).1 (sym ((bytes_eq-Decides a b).0 same)))
  | inr other ↦ elim (cases_Bool (bytes_eq b a)) [
    | inl same ↦ absurd (both_ways (bytes_eq a b) other ((bytes_eq-Decides a b).1 (sym ((bytes_eq-Decides b a).0 same))))
    | inr neither ↦ other ∙ sym neither
  ]
]

-- a look-up finds what is listed
pub look_up-is_listed : (keys : List (List ℕ)) (mark : List ℕ) → list_any (bytes_eq mark) keys ≡ is_listed keys mark
look_up-is_listed [] mark = refl
look_up-is_listed (key ∷ keys) mark =
    ap (λ b. b || list_any (bytes_eq mark) keys) (bytes_eq-flip mark key) ∙ ap (λ b. bytes_eq key mark || b) (look_up-is_listed keys mark)

pub is_listed-look_up : (keys : List (List ℕ)) (mark : List ℕ) (b : Bool) → list_any (bytes_eq mark) keys ≡ b → is_listed keys mark ≡ b
is_listed-look_up keys mark b found = sym (look_up-is_listed keys mark) ∙ found

-- one more known mark
pub known-more : (old new : List (List ℕ)) (mark : List ℕ)
    → ((other : List ℕ) → list_any (bytes_eq other) new ≡ cond (bytes_eq mark other) true (list_any (bytes_eq other) old))
    → (other : List ℕ) → is_listed new other ≡ is_listed (old ++ mark ∷ []) other
known-more old new mark updates other =
    sym (look_up-is_listed new other) ∙ updates other ∙ elim (cases_Bool (bytes_eq mark other)) [
      | inl same ↦ cond-true (bytes_eq mark other) _ _ same ∙ sym (is_listed-push old other mark ∙ or_right _ _ same)
      | inr differs ↦
          cond-false (bytes_eq mark other) _ _ differs ∙ look_up-is_listed old other
          ∙ sym (is_listed-push old other mark ∙ rw differs (or-false (is_listed old other)))
    ]

-- a mark that becomes known and is listed
pub same-push : (known known_after marks : List (List ℕ)) (mark : List ℕ)
    → ((other : List ℕ) → is_listed known_after other ≡ is_listed (known ++ mark ∷ []) other)
    → ((other : List ℕ) → is_listed known other ≡ is_listed marks other)
    → (other : List ℕ) → is_listed known_after other ≡ is_listed (marks ++ mark ∷ []) other
same-push known known_after marks mark more same other =
    more other ∙ is_listed-push known other mark ∙ ap (λ b. b || bytes_eq mark other) (same other) ∙ sym (is_listed-push marks other mark)

-- what is drawn against the known marks is drawn against the listed ones
pub GivesNew-known : (s rest : Stream) (known marks : List (List ℕ)) (mark : List ℕ)
    → ((other : List ℕ) → is_listed known other ≡ is_listed marks other) → GivesNew s known mark rest → GivesNew s marks mark rest
GivesNew-known s rest known marks mark same gives = record {
  skipped = gives.skipped;
  are_few = gives.are_few;
  are_listed = λ j below. sym (same _) ∙ gives.are_listed j below;
  is_next = gives.is_next;
  is_new = sym (same mark) ∙ gives.is_new;
  is_rest = gives.is_rest;
}

pub GivesListed-known : (s rest : Stream) (known marks : List (List ℕ)) (n : ℕ)
    → ((other : List ℕ) → is_listed known other ≡ is_listed marks other) → GivesListed s known n rest → GivesListed s marks n rest
GivesListed-known s rest known marks n same gives = record {
  are_listed = λ j below. sym (same _) ∙ gives.are_listed j below;
  is_rest = gives.is_rest;
}
