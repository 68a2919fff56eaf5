-- What is in a list.
use Rattle.std.proofs.Common.{◌≡◌, ◌<◌, List, [], ◌∷◌, inl, inr, sym, subst, arith}
use Rattle.std.specs.Prelude.{◌⊎◌, Contains, flat_map}
use Rattle.std.proofs.lemmas.List.Elements.{Contains-append_left, Contains-append_right, Contains-append_cases, Contains-push, Contains-push_cases}

pub in_none : {X : Type 0} (x : X) → Contains [] x → ⊥
in_none x c = let below : c.0 < 0 = c.1 in absurd (omega arith)

pub in_first : {X : Type 0} (x : X) (xs : List X) → Contains (x ∷ xs) x
in_first x xs = Contains-append_left (x ∷ []) xs x (Contains-push [] x)

pub in_rest : {X : Type 0} (y : X) (xs : List X) (x : X) → Contains xs x → Contains (y ∷ xs) x
in_rest y xs x c = Contains-append_right (y ∷ []) xs x c

pub in_one : {X : Type 0} (y x : X) → Contains (y ∷ []) x → y ≡ x
in_one y x c = elim (Contains-push_cases [] y x c) [ inl none ↦ absurd (in_none x none) | inr same ↦ same ]

pub in_cases : {X : Type 0} (y : X) (xs : List X) (x : X) → Contains (y ∷ xs) x → (y ≡ x) ⊎ Contains xs x
in_cases y xs x c = elim (Contains-append_cases (y ∷ []) xs x c) [ inl first ↦ inl (in_one y x first) | inr rest ↦ inr rest ]

-- ---- lists end to end

pub in_flat : {X A : Type 0} (f : X → List A) (xs : List X) (x : X) (a : A) → Contains xs x → Contains (f x) a → Contains (flat_map f xs) a
in_flat f [] x a c d = absurd (in_none x c)
in_flat {X} f (y ∷ xs) x a c d =
    elim (in_cases y xs x c) [
      | inl same ↦ Contains-append_left (f y) (flat_map f xs) a (subst (λ (z : X). Contains (f z) a) (sym same) d)
      | inr rest ↦ Contains-append_right (f y) (flat_map f xs) a (in_flat f xs x a rest d)
    ]

-- from which item it comes
pub record Source {X A : Type 0} (f : X → List A) (xs : List X) (a : A) : Type 0 where
  pub of : X
  pub among : Contains xs of
  pub gives : Contains (f of) a

pub source : {X A : Type 0} (f : X → List A) (xs : List X) (a : A) → Contains (flat_map f xs) a → Source f xs a
source f [] a c = absurd (in_none a c)
source f (y ∷ xs) a c =
    elim (Contains-append_cases (f y) (flat_map f xs) a c) [
      | inl first ↦ record { of = y; among = in_first y xs; gives = first }
      | inr rest ↦ let s = source f xs a rest in record { of = s.of; among = in_rest y xs s.of s.among; gives = s.gives }
    ]
