-- Flags that are set and cleared again.
use Rattle.std.proofs.Common.{◌≡◌, ◌<◌, ℕ, Bool, true, false, not, ◌&&◌, ◌||◌, refl}
use Rattle.std.proofs.lemmas.Nat.Bits.{bit_at-zero}
use Rattle.mailcore.specs.FlagSet.{FLAGS, has, union, minus}
use Rattle.mailcore.proofs.FlagRules.{union-lt, minus-lt, has-union, has-minus, set_from_flags}

-- two sets without a flag in common
abbrev pub AreApart : (set cleared : ℕ) → Type 0
AreApart set cleared = (k : ℕ) → k < FLAGS → (has set k && has cleared k) ≡ false

or_twice : (a b : Bool) → ((a || b) || b) ≡ (a || b)
or_twice true b = refl
or_twice false true = refl
or_twice false false = refl

and_twice : (a b : Bool) → ((a && b) && b) ≡ (a && b)
and_twice false b = refl
and_twice true true = refl
and_twice true false = refl

set_again : (a s c : Bool) → (s && c) ≡ false → (((a || s) && not c) || s) ≡ ((a || s) && not c)
set_again true true true e = cc
set_again true true false e = refl
set_again true false true e = refl
set_again true false false e = refl
set_again false true true e = cc
set_again false true false e = refl
set_again false false true e = refl
set_again false false false e = refl

with_none : (a c : Bool) → (a && not c) ≡ ((a || false) && not c)
with_none true c = refl
with_none false c = refl

without_none : (a : Bool) → a ≡ (a && not false)
without_none true = refl
without_none false = refl

no_flag : (k : ℕ) → has 0 k ≡ false
no_flag k = rw (bit_at-zero k) refl

pub union_twice : (f s : ℕ) → union (union f s) s ≡ union f s
union_twice f s = set_from_flags _ _ (union-lt _ _) (union-lt _ _) (λ k lt. rw (has-union (union f s) s k lt, has-union f s k lt) (or_twice (has f k) (has s k)))

pub minus_twice : (f s : ℕ) → minus (minus f s) s ≡ minus f s
minus_twice f s = set_from_flags _ _ (minus-lt _ _) (minus-lt _ _) (λ k lt. rw (has-minus (minus f s) s k lt, has-minus f s k lt) (and_twice (has f k) (not (has s k))))

pub union_again : (f s c : ℕ) → AreApart s c → union (minus (union f s) c) s ≡ minus (union f s) c
union_again f s c apart = set_from_flags _ _ (union-lt _ _) (minus-lt _ _) (λ k lt. rw (has-union (minus (union f s) c) s k lt, has-minus (union f s) c k lt, has-union f s k lt) (set_again (has f k) (has s k) (has c k) (apart k lt)))

-- where none is set, and where none is cleared
pub none_set : (f c : ℕ) → minus f c ≡ minus (union f 0) c
none_set f c = set_from_flags _ _ (minus-lt _ _) (minus-lt _ _) (λ k lt. rw (has-minus f c k lt, has-minus (union f 0) c k lt, has-union f 0 k lt, no_flag k) (with_none (has f k) (has c k)))

pub none_cleared : (f s : ℕ) → union f s ≡ minus (union f s) 0
none_cleared f s = set_from_flags _ _ (union-lt _ _) (minus-lt _ _) (λ k lt. rw (has-minus (union f s) 0 k lt, no_flag k) (without_none (has (union f s) k)))
