use Rattle.std.proofs.Common.{◌||◌, leb, ap, sym}
use Rattle.std.specs.Prelude.{◌==◌}
use Rattle.std.proofs.lemmas.List.Sorted.{IsNonDecreasingBy-from_sort, list_any-IsPermutation}
use Rattle.mailcore.proofs.spared.Spared.of.Goals as goal

pub invariant_of-result : goal.invariant_of-result
invariant_of-result c = record { in_order = IsNonDecreasingBy-from_sort (λ x. x) c.sort_unstable.new.self.items c.sort_unstable.ensures.sorted }

pub returns : goal.returns
returns c = λ uid. ap (λ b. leb uid c.args.up_to || b) (sym (list_any-IsPermutation (λ u. u == uid) _ _ c.sort_unstable.ensures.permutation))
