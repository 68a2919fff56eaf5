-- A section has each keyword that it has to have, as a test that finds each of them among others.
use Rattle.std.proofs.Common.{◌≡◌, Bool, true, false, List, [], ◌∷◌, refl, sym}
use Rattle.std.specs.Prelude.{All, ◌&&◌}
use Rattle.std.specs.List.{Contains, list_all, list_any}
use Rattle.std.proofs.lemmas.List.Elements.{All-cons, All-head, All-nil, All-tail}
use Rattle.std.proofs.lemmas.List.Folds.{list_any_at}
use Rattle.std.proofs.lemmas.Map.Views.{Contains-from_any}
use denote.Enum.Bare.{same_true, sameb, true_same}
use Rattle.config_words.specs.contracts.keyword.FirstWord.{the_type}
use Rattle.config_words.specs.declared.keyword.FirstWord.{FirstWord}

abbrev pub stands_in : List FirstWord → FirstWord → Bool
stands_in seen k = list_any (λ y. sameb the_type y k) seen

same : (k y : FirstWord) → sameb the_type y k ≡ true → k ≡ y
same k y is = sym (same_true the_type tt y k is)

left : (a b : Bool) → (a && b) ≡ true → a ≡ true
left true b is = refl
left false b is = cc

right : (a b : Bool) → (a && b) ≡ true → b ≡ true
right true b is = is
right false b is = cc

both : (a b : Bool) → a ≡ true → b ≡ true → (a && b) ≡ true
both true b one other = other
both false b one other = cc

pub all_stand : (seen required : List FirstWord) → list_all (stands_in seen) required ≡ true → All (Contains seen) required
all_stand seen [] is = All-nil (Contains seen)
all_stand seen (k ∷ required) is =
    All-cons (Contains seen) k required
    (Contains-from_any {eq = λ x y. sameb the_type y x} same k seen (left (stands_in seen k) (list_all (stands_in seen) required) is))
    (all_stand seen required (right (stands_in seen k) (list_all (stands_in seen) required) is))

stands : (seen : List FirstWord) (k : FirstWord) → Contains seen k → stands_in seen k ≡ true
stands seen k has = list_any_at (λ y. sameb the_type y k) seen has.0 k has.1 (true_same the_type _ k has.2)

pub stand_all : (seen required : List FirstWord) → All (Contains seen) required → list_all (stands_in seen) required ≡ true
stand_all seen [] has = refl
stand_all seen (k ∷ required) has =
    both (stands_in seen k) (list_all (stands_in seen) required) (stands seen k (All-head (Contains seen) k required has))
    (stand_all seen required (All-tail (Contains seen) k required has))
