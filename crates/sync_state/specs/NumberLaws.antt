-- Each number is known from its text, and has no space.
use Rattle.std.specs.Prelude.{ℕ, ◌+◌, ◌<◌, ◌^◌, ◌≡◌, ◌≢◌, List, ◌∷◌, decimal, drop}
use Rattle.std.proofs.Common.{ap, arith}
use Rattle.std.proofs.lemmas.Fmt.{decimal_injective}
use Rattle.sync_state.specs.declared.words.Positive.{Positive}
use Rattle.sync_state.specs.declared.words.Highest.{Highest}
use Rattle.sync_state.specs.declared.words.RunNumber.{RunNumber}
use Rattle.sync_state.specs.declared.words.Number.{Number}
use Rattle.sync_state.specs.declared.words.Plus.{Plus}
use Rattle.sync_state.specs.declared.words.Minus.{Minus}
use Rattle.mailcore.specs.FlagSet.{FLAGS}
use Rattle.mailcore.specs.FlagNames.{letters_of}
use Rattle.mailcore.proofs.FlagLetters.{set_from_letters}
use Rattle.sync_state.specs.Cuts.{Lacks}
use Rattle.sync_state.specs.Words.{IsUid, IsPositive, IsRun}
use Rattle.sync_state.specs.WordLaws.{decimal-lacks, signed-lacks}

pub positive-injective : (a b : Positive) → IsPositive a.0 → IsPositive b.0 → decimal a.0 ≡ decimal b.0 → a ≡ b
positive-injective a b fa fb e = let s = decimal_injective a.0 b.0 (omega (arith, fa.fits)) (omega (arith, fb.fits)) e in ap (λ (n : ℕ). let p : Positive = record { 0 = n } in p) s

pub positive-lacks : (a : Positive) → IsPositive a.0 → Lacks 32 (decimal a.0)
positive-lacks a f = decimal-lacks 32 (omega arith) a.0 (omega (arith, f.fits))

pub highest-injective : (a b : Highest) → a.0 + 1 < 2 ^ 32 → b.0 + 1 < 2 ^ 32 → decimal a.0 ≡ decimal b.0 → a ≡ b
highest-injective a b fa fb e = let s = decimal_injective a.0 b.0 (omega arith) (omega arith) e in ap (λ (n : ℕ). let p : Highest = record { 0 = n } in p) s

pub highest-lacks : (a : Highest) → a.0 + 1 < 2 ^ 32 → Lacks 32 (decimal a.0)
highest-lacks a f = decimal-lacks 32 (omega arith) a.0 (omega arith)

pub run-injective : (a b : RunNumber) → IsRun a.0 → IsRun b.0 → decimal a.0 ≡ decimal b.0 → a ≡ b
run-injective a b fa fb e = let s = decimal_injective a.0 b.0 fa.fits fb.fits e in ap (λ (n : ℕ). let p : RunNumber = record { 0 = n } in p) s

pub number-injective : (a b : Number) → a.0 < 2 ^ 64 → b.0 < 2 ^ 64 → decimal a.0 ≡ decimal b.0 → a ≡ b
number-injective a b fa fb e = let s = decimal_injective a.0 b.0 fa fb e in ap (λ (n : ℕ). let p : Number = record { 0 = n } in p) s

pub number-lacks : (a : Number) → a.0 < 2 ^ 64 → Lacks 32 (decimal a.0)
number-lacks a f = decimal-lacks 32 (omega arith) a.0 f

pub uid-injective : (a b : ℕ) → IsUid a → IsUid b → decimal a ≡ decimal b → a ≡ b
uid-injective a b fa fb e = decimal_injective a b (omega (arith, fa.below_last)) (omega (arith, fb.below_last)) e

pub uid-lacks : (a : ℕ) → IsUid a → Lacks 32 (decimal a)
uid-lacks a f = decimal-lacks 32 (omega arith) a (omega (arith, f.below_last))

pub plus-injective : (a b : Plus) → (a.0 < 2 ^ FLAGS) × (a.0 ≢ 0) → (b.0 < 2 ^ FLAGS) × (b.0 ≢ 0) → 43 ∷ letters_of a.0 ≡ 43 ∷ letters_of b.0 → a ≡ b
plus-injective a b fa fb e = let s = set_from_letters a.0 b.0 fa.0 fb.0 (ap (λ (x : List ℕ). drop 1 x) e) in ap (λ (n : ℕ). let p : Plus = record { 0 = n } in p) s

pub plus-lacks : (a : Plus) → (a.0 < 2 ^ FLAGS) × (a.0 ≢ 0) → Lacks 32 (43 ∷ letters_of a.0)
plus-lacks a f = signed-lacks 43 a.0 (λ e. absurd (omega (arith, e)))

pub minus-injective : (a b : Minus) → (a.0 < 2 ^ FLAGS) × (a.0 ≢ 0) → (b.0 < 2 ^ FLAGS) × (b.0 ≢ 0) → 45 ∷ letters_of a.0 ≡ 45 ∷ letters_of b.0 → a ≡ b
minus-injective a b fa fb e = let s = set_from_letters a.0 b.0 fa.0 fb.0 (ap (λ (x : List ℕ). drop 1 x) e) in ap (λ (n : ℕ). let p : Minus = record { 0 = n } in p) s
