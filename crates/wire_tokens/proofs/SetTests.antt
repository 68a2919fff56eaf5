-- What a set names, and the test that computes it.
use Rattle.std.proofs.Common.{rules, ◌≡◌, ℕ, Bool, true, false, None, Some, refl, sym}
use Rattle.std.proofs.lemmas.Bool.{true≢false}
use Rattle.std.proofs.lemmas.List.Folds.{Any-from_list_any, list_any-from_Any}
use Rattle.wire_tokens.specs.declared.uid_set.SetItem.{SetItem}
use Rattle.wire_tokens.specs.declared.uid_set.SetItem.TheVariants.{One, Range}
use Rattle.wire_tokens.specs.Sets.{ItemNames, item_names, NamesAreTested}

to_item : (g u : ℕ) (item : SetItem) → item_names g u item ≡ true → ItemNames g u item
to_item g u (One x) h = search rules
to_item g u (Range x y) h = search rules

from_item : (g u : ℕ) (item : SetItem) → ItemNames g u item → item_names g u item ≡ true
from_item g u (One x) h = search rules
from_item g u (Range x y) h = search rules

pub tested : NamesAreTested
tested None items uid = (λ h. true≢false (sym h), λ h. absurd h)
tested (Some g) items uid = (
  λ h. let a = Any-from_list_any (item_names g uid) items h in (a.0, a.1, a.2, a.3, to_item g uid a.1 a.4),
  λ a. list_any-from_Any (item_names g uid) items (a.0, a.1, a.2, a.3, from_item g uid a.1 a.4),
)

pub same_truth : (a b : Bool) → (a ≡ true → b ≡ true) → (b ≡ true → a ≡ true) → a ≡ b
same_truth true b f g = sym (f refl)
same_truth false true f g = g refl
same_truth false false f g = refl
