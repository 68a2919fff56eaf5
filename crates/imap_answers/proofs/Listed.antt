-- Listed messages rise by their UIDs, as the keys of a map do.
use Rattle.std.proofs.Common.{◌≡◌, ℕ, List, map, sym, subst, arith}
use Rattle.std.specs.List.Sorted.{IsStrictlySortedBy}
use Rattle.std.specs.Ordering.{nat_cmp}
use Rattle.std.proofs.Math.ListN.{get_or-map}
use Rattle.std.proofs.lemmas.List.{length-map}
use Rattle.std.proofs.lemmas.Map.Keys.{below_from_sorted}
use Rattle.mailcore.specs.declared.listing.Item.{Item}
use Rattle.mailcore.specs.Listed.{IsRising}

pub rising_by_keys : (items : List Item) (keys : List ℕ) → map (λ i. i.uid) items ≡ keys → IsStrictlySortedBy nat_cmp keys → IsRising items
rising_by_keys items keys e s =
    let sorted : IsStrictlySortedBy nat_cmp (map (λ (i : Item). i.uid) items) = subst (IsStrictlySortedBy nat_cmp) (sym e) s in
    λ i j d h k.
    let low = get_or-map (λ (x : Item). x.uid) items i d in
    let high = get_or-map (λ (x : Item). x.uid) items j d in
    let long = length-map items (λ (x : Item). x.uid) in
    let less = below_from_sorted (map (λ (x : Item). x.uid) items) i j d.uid sorted h (omega arith) in
    omega arith
