-- The rules of single flags against operations on whole sets.
use Rattle.std.proofs.Common.{◌≡◌, ℕ, ◌<◌, ◌^◌, Bool, true, false, cond, refl, ap, ◌∙◌, arith}
use Rattle.std.specs.Int.{bit_at}
use Rattle.std.proofs.lemmas.Nat.Bits.{bit_at-lt}
use Rattle.mailcore.specs.FlagSet.{FLAGS, union, union_flag, minus, minus_flag}
use Rattle.mailcore.proofs.FlagRules.{eight, bit_at-each_flag, each_flag_lt, from_flags, union-at, minus-at, minus-lt}
use Rattle.rules.specs.FlagRule.{taken, taken_flag, recorded_after, recorded_flag}

taken_small : (x y z : ℕ) → x < 2 → y < 2 → z < 2 → taken_flag x y z < 2
taken_small = eight (λ x y z. taken_flag x y z < 2) (omega arith) (omega arith) (omega arith) (omega arith) (omega arith) (omega arith) (omega arith) (omega arith)

taken_one : (s t r : ℕ) → s < 2 → t < 2 → r < 2 → minus_flag (union_flag t (minus_flag s r 0) 0) (minus_flag r s 0) 0 ≡ taken_flag s t r
taken_one = eight (λ s t r. minus_flag (union_flag t (minus_flag s r 0) 0) (minus_flag r s 0) 0 ≡ taken_flag s t r) refl refl refl refl refl refl refl refl

-- what the source has gained is added, and what it has lost is taken away
pub taken_is : (s t r : ℕ) → minus (union t (minus s r)) (minus r s) ≡ taken s t r
unfolding taken
taken_is s t r =
    from_flags taken_flag taken_small FLAGS (minus (union t (minus s r)) (minus r s)) s t r (minus-lt (union t (minus s r)) (minus r s))
    (λ i h. minus-at (union t (minus s r)) (minus r s) i h
    ∙ ap (λ x. minus_flag x (bit_at (minus r s) i) 0) (union-at t (minus s r) i h ∙ ap (λ x. union_flag (bit_at t i) x 0) (minus-at s r i h))
    ∙ ap (λ x. minus_flag (union_flag (bit_at t i) (minus_flag (bit_at s i) (bit_at r i) 0) 0) x 0) (minus-at r s i h)
    ∙ taken_one (bit_at s i) (bit_at t i) (bit_at r i) (bit_at-lt s i) (bit_at-lt t i) (bit_at-lt r i))

pub taken-lt : (s t r : ℕ) → taken s t r < 2 ^ FLAGS
unfolding taken
taken-lt s t r = each_flag_lt taken_flag taken_small FLAGS s t r

pub taken-at : (s t r i : ℕ) → i < FLAGS → bit_at (taken s t r) i ≡ taken_flag (bit_at s i) (bit_at t i) (bit_at r i)
unfolding taken
taken-at s t r i h = bit_at-each_flag taken_flag taken_small FLAGS s t r i h

pub recorded_small : (pull push : Bool) → (x y z : ℕ) → x < 2 → y < 2 → z < 2 → recorded_flag pull push x y z < 2
recorded_small true true = eight (λ x y z. recorded_flag true true x y z < 2) (omega arith) (omega arith) (omega arith) (omega arith) (omega arith) (omega arith) (omega arith) (omega arith)
recorded_small true false = eight (λ x y z. recorded_flag true false x y z < 2) (omega arith) (omega arith) (omega arith) (omega arith) (omega arith) (omega arith) (omega arith) (omega arith)
recorded_small false true = eight (λ x y z. recorded_flag false true x y z < 2) (omega arith) (omega arith) (omega arith) (omega arith) (omega arith) (omega arith) (omega arith) (omega arith)
recorded_small false false = eight (λ x y z. recorded_flag false false x y z < 2) (omega arith) (omega arith) (omega arith) (omega arith) (omega arith) (omega arith) (omega arith) (omega arith)

-- what is taken: a changed value in the directions that are on
abbrev pub either_value : Bool → (value recorded : ℕ) → ℕ
either_value on value recorded = cond on value recorded

recorded_one : (pull push : Bool) → (x y z : ℕ) → x < 2 → y < 2 → z < 2 → taken_flag (either_value push y z) (either_value pull x z) z ≡ recorded_flag pull push x y z
recorded_one true true = eight (λ x y z. taken_flag (either_value true y z) (either_value true x z) z ≡ recorded_flag true true x y z) refl refl refl refl refl refl refl refl
recorded_one true false = eight (λ x y z. taken_flag (either_value false y z) (either_value true x z) z ≡ recorded_flag true false x y z) refl refl refl refl refl refl refl refl
recorded_one false true = eight (λ x y z. taken_flag (either_value true y z) (either_value false x z) z ≡ recorded_flag false true x y z) refl refl refl refl refl refl refl refl
recorded_one false false = eight (λ x y z. taken_flag (either_value false y z) (either_value false x z) z ≡ recorded_flag false false x y z) refl refl refl refl refl refl refl refl

bit_at-either_value : (on : Bool) (a r i : ℕ) → bit_at (either_value on a r) i ≡ either_value on (bit_at a i) (bit_at r i)
bit_at-either_value true a r i = refl
bit_at-either_value false a r i = refl

-- the recorded flags take what has changed on each side of which the direction is on
pub recorded_is : (pull push : Bool) (s n r : ℕ) → taken (either_value push n r) (either_value pull s r) r ≡ recorded_after pull push s n r
unfolding recorded_after
recorded_is pull push s n r =
    from_flags (recorded_flag pull push) (recorded_small pull push) FLAGS (taken (either_value push n r) (either_value pull s r) r) s n r (taken-lt (either_value push n r) (either_value pull s r) r)
    (λ i h. taken-at (either_value push n r) (either_value pull s r) r i h
    ∙ ap (λ x. taken_flag x (bit_at (either_value pull s r) i) (bit_at r i)) (bit_at-either_value push n r i)
    ∙ ap (λ x. taken_flag (either_value push (bit_at n i) (bit_at r i)) x (bit_at r i)) (bit_at-either_value pull s r i)
    ∙ recorded_one pull push (bit_at s i) (bit_at n i) (bit_at r i) (bit_at-lt s i) (bit_at-lt n i) (bit_at-lt r i))
