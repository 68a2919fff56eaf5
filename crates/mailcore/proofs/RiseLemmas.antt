-- UIDs that rise.
use Rattle.std.proofs.Common.{◌≡◌, ◌≤◌, ◌<◌, ◌+◌, ℕ, zero, suc, List, [], ◌∷◌, ◌++◌, length, subst, arith}
use Rattle.std.specs.Prelude.{All}
use Rattle.std.specs.List.{range_with_len}
use Rattle.std.proofs.lemmas.List.Elements.{All-nil, All-cons, All-weaker}
use Rattle.mailcore.specs.Rise.{Rise}

-- they end below what is next
pub rise-ends : (from : ℕ) (uids : List ℕ) (next : ℕ) → Rise from uids next → from ≤ next
rise-ends from [] next h = h
rise-ends from (u ∷ uids) next h = let l : from ≤ u = h.0 in let k = rise-ends (u + 1) uids next h.1 in omega arith

-- and are at least the first
pub rise-least : (from : ℕ) (uids : List ℕ) (next : ℕ) → Rise from uids next → All (λ u. from ≤ u) uids
rise-least from [] next h = All-nil (λ u. from ≤ u)
rise-least from (u ∷ uids) next h =
    let l : from ≤ u = h.0 in
    All-cons (λ v. from ≤ v) u uids l (All-weaker (λ v. u + 1 ≤ v) (λ v. from ≤ v) (λ v k. omega arith) uids (rise-least (u + 1) uids next h.1))

-- those from `next` on do
pub range_rises : (next count : ℕ) → Rise next (range_with_len next count) (next + count)
range_rises next zero = omega arith
range_rises next (suc count) = (omega arith, subst (λ b. Rise (next + 1) (range_with_len (next + 1) count) b) (let e : next + 1 + count ≡ next + suc count = omega arith in e) (range_rises (next + 1) count))
