-- Parts of the scanner.
use Rattle.std.specs.Prelude.{◌≡◌, ◌≢◌, ◌<◌, ◌≤◌, ◌+◌, ℕ, Bool, true, false, not, ◌&&◌, ◌==◌, List, ◌++◌, ◌∷◌, Some, length, take, drop, All, if◌then◌else◌}
use Rattle.wire_reader.specs.declared.scanner.Scanner.{Scanner}
use Rattle.wire_reader.specs.Scanning.{scanned, place_from}

-- so many of the bytes were scanned, and the last of them is a place or none is
pub record Advances (old : Scanner) (bytes : List ℕ) (found : ℕ × Bool) (new : Scanner) : Type 0 where
  pub some : 0 < found.0
  pub within : found.0 ≤ length bytes
  pub moves : new ≡ scanned old (take found.0 bytes)
  pub place : (at : ℕ) → place_from at old bytes ≡ (if found.1 then Some (at + found.0) else place_from (at + found.0) new (drop found.0 bytes))

-- a byte outside literals that is no LF and begins no length of one
abbrev pub is_plain : ℕ → Bool
is_plain b = not (b == 10) && not (b == 123)

-- before the first 0
pub record Before (octets : List ℕ) (count : ℕ) : Type 0 where
  pub front : List ℕ
  pub back : List ℕ
  pub parts : octets ≡ front ++ 0 ∷ back
  pub count_is : count ≡ length front + 1
  pub clean : All (λ b. b ≢ 0) front

abbrev pub Nul : List ℕ → ℕ × Bool → Type 0
Nul octets (count, true) = Before octets count
Nul octets (count, false) = All (λ b. b ≢ 0) octets × (count ≡ length octets)
