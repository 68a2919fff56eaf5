-- The order of numbers, and the order in which waiting files get their UIDs.
use Rattle.std.proofs.Common.{◌≡◌, ◌+◌, ◌<◌, ◌∙◌, ℕ, Bool, true, false, cond, ltb, eqb, List, All, get_or, Err, ⊎_elim, refl, sym, arith}
use Rattle.std.specs.Prelude.{AllPairs}
use Rattle.std.proofs.lemmas.Bool.{eqb-true, cases_lt}
use Rattle.std.proofs.lemmas.Bool.Decides.{nat_tests}
use Rattle.std.proofs.lemmas.Cmp.{nat_cmp_total}
use Rattle.std.proofs.lemmas.List.Sorted.{searchable_from_sorted}
use Rattle.std.specs.List.Sorted.{IsBinarySearchResult, IsSortedBy}
use Rattle.std.specs.Ordering.{nat_cmp, is_lt}
use Rattle.std.specs.Cmp.{IsTotalOrder, IsStrictWeakOrder, then_total, on_total}
use Rattle.std.specs.Cmp.Lexicographic.{on_texts}
use Rattle.std.specs.Ordering.{ordering_reverse}
use Rattle.std.specs.declared.cmp.Ordering.TheVariants.{Less, Equal, Greater}
use Rattle.std.proofs.lemmas.List.Sorted.{ranks_by}
use Rattle.maildir.specs.declared.folder.FileName.{FileName}
use Rattle.maildir.specs.declared.folder.Place.{Place}
use Rattle.maildir.specs.declared.folder.Place.TheVariants.{New, Cur}
use Rattle.near_box.specs.Mailboxes.{place_cmp}
use Rattle.near_box.specs.SurveyParts.{file_cmp, is_before}

pub equal_numbers : (x y : ℕ) → nat_cmp x y ≡ Equal → x ≡ y
equal_numbers x y e = by_tests (ltb x y) (eqb x y) refl e
  where
    by_tests : (a b : Bool) → eqb x y ≡ b → cond a Less (cond b Equal Greater) ≡ Equal → x ≡ y
    by_tests true b t f = cc
    by_tests false true t f = eqb-true x y t
    by_tests false false t f = cc

not_before : (x y : ℕ) → nat_cmp x y ≡ Less → x ≡ y → ⊥
not_before x y e same = grind (arith, nat_tests)

not_after : (x y : ℕ) → nat_cmp x y ≡ Greater → x ≡ y → ⊥
not_after x y e same = grind (arith, nat_tests)

not_above : (x y : ℕ) → x < y → is_lt (nat_cmp y x) ≡ false
not_above x y less = grind (arith, nat_tests)

-- a number that is not found where numbers rise is not there
module _ {A : Type 0} (key : A → ℕ) where
  in_order : (xs : List A) → AllPairs (λ a b. key a < key b) xs → IsSortedBy (λ a b. is_lt (nat_cmp (key a) (key b))) xs
  in_order xs rising = λ k d low below.
      not_above (key (get_or xs k d)) (key (get_or xs (k + 1) d)) (rising k (k + 1) d (omega arith) below)

  pub none_found : (xs : List A) (number b i : ℕ) → b ≡ number → IsBinarySearchResult (λ x. nat_cmp (key x) b) xs (Err i)
      → AllPairs (λ a b. key a < key b) xs → All (λ x. key x ≡ number → ⊥) xs
  none_found xs number b i same search_result rising =
      let parts = search_result (searchable_from_sorted nat_cmp_total key xs b (in_order xs rising)) in
      λ k d below e. ⊎_elim
      (λ before. not_before _ b (parts.0 k d (omega arith) before) (e ∙ sym same))
      (λ following. not_after _ b (parts.1 k d following below) (e ∙ sym same))
      (cases_lt k i)

places_antisymm : (x y : Place) → place_cmp x y ≡ ordering_reverse (place_cmp y x)
places_antisymm New New = refl
places_antisymm New Cur = refl
places_antisymm Cur New = refl
places_antisymm Cur Cur = refl

places_trans : (x y z : Place) → place_cmp x y ≡ Less → place_cmp y z ≡ Less → place_cmp x z ≡ Less
places_trans New New z e f = cc
places_trans New Cur New e f = cc
places_trans New Cur Cur e f = refl
places_trans Cur New z e f = cc
places_trans Cur Cur z e f = cc

places_congr : (x y z : Place) → place_cmp x y ≡ Equal → place_cmp x z ≡ place_cmp y z
places_congr New New z e = refl
places_congr Cur Cur z e = refl
places_congr New Cur z e = cc
places_congr Cur New z e = cc

places_total : IsTotalOrder place_cmp
places_total = record { antisymm = places_antisymm; trans = places_trans; congr = places_congr }

pub names_total : IsTotalOrder file_cmp
names_total = then_total (on_texts (λ (file : FileName). file.name)) (on_total (λ (file : FileName). file.place) places_total)

pub names_in_order : IsStrictWeakOrder is_before
names_in_order = ranks_by names_total (λ (file : FileName). file)
