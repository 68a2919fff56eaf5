-- A place stands within the bytes.
use Rattle.std.proofs.Common.{◌≡◌, ◌≤◌, ℕ, ◌+◌, suc, Bool, true, false, List, [], ◌∷◌, length, arith, sym, Option, Some}
use Rattle.std.specs.Prelude.{if◌then◌else◌}
use Rattle.wire_reader.specs.declared.scanner.Scanner.{Scanner}
use Rattle.wire_reader.specs.Scanning.{after, is_place, place_from}

some_apart : (m n : ℕ) → (let x : Option ℕ = Some m in x) ≡ Some n → m ≡ n
some_apart m n e = cc

within_by : (p : Bool) (b : ℕ) (bytes : List ℕ) (at : ℕ) (s : Scanner) (n : ℕ) → (place_from (suc at) (after s b) bytes ≡ Some n → n ≤ suc at + length bytes)
    → (if p then Some (suc at) else place_from (suc at) (after s b) bytes) ≡ Some n → n ≤ at + suc (length bytes)
within_by true b bytes at s n next e = let same = some_apart (suc at) n e in omega (arith, same)
within_by false b bytes at s n next e = let h = next e in omega (arith, h)

within : (bytes : List ℕ) (at : ℕ) (s : Scanner) (n : ℕ) → place_from at s bytes ≡ Some n → n ≤ at + length bytes
within [] at s n e = cc
within (b ∷ bytes) at s n e = within_by (is_place s b) b bytes at s n (λ h. within bytes (suc at) (after s b) n h) e

pub place_within : (bytes following : List ℕ) (from n : ℕ) (s : Scanner) → length following + from ≡ length bytes → Some n ≡ place_from 0 s following → from + n ≤ length bytes
place_within bytes following from n s long e = let h = within following 0 s n (sym e) in omega (arith, h, long)
