-- What a scanner finds, piece by piece.
use Rattle.std.proofs.Common.{◌≡◌, ◌<◌, ◌≤◌, ◌-◌, ℕ, suc, Bool, true, false, List, [], ◌∷◌, length, take, drop, Option, Some, sym, ap, ◌∙◌, arith, take-append-drop, length-drop}
use Rattle.std.specs.Prelude.{if◌then◌else◌}
use Rattle.wire_reader.specs.declared.scanner.Scanner.{Scanner}
use Rattle.wire_reader.specs.Scanning.{after, scanned, is_place, place_from, first_place}
use Rattle.wire_reader.proofs.Scanned.{scanned-append}
use Rattle.imap_link.proofs.Places.{place_within}
use Rattle.link_face.proofs.Pieces.{rest_is}

some_apart : (m n : ℕ) → (let x : Option ℕ = Some m in x) ≡ Some n → m ≡ n
some_apart m n e = cc

ahead_by : (p : Bool) (at n : ℕ) (s : Scanner) (bytes : List ℕ) → (place_from (suc at) s bytes ≡ Some n → suc at < n)
    → (if p then Some (suc at) else place_from (suc at) s bytes) ≡ Some n → at < n
ahead_by true at n s bytes next e = let same = some_apart (suc at) n e in omega (arith, same)
ahead_by false at n s bytes next e = let h = next e in omega (arith, h)

-- a place comes after at least one byte
ahead : (bytes : List ℕ) (at : ℕ) (s : Scanner) (n : ℕ) → place_from at s bytes ≡ Some n → at < n
ahead [] at s n e = cc
ahead (b ∷ bytes) at s n e = ahead_by (is_place s b) at n (after s b) bytes (λ h. ahead bytes (suc at) (after s b) n h) e

some_place : (bytes : List ℕ) (s : Scanner) (n : ℕ) → Some n ≡ first_place s bytes → 0 < n
some_place bytes s n e = ahead bytes 0 s n (sym e)

pub within_place : (bytes : List ℕ) (s : Scanner) (n : ℕ) → Some n ≡ first_place s bytes → n ≤ length bytes
within_place bytes s n e = let h = place_within bytes bytes 0 n s (omega arith) e in omega (arith, h)

pub shorter : (bytes : List ℕ) (s : Scanner) (n : ℕ) → Some n ≡ first_place s bytes → length (take (length bytes - n) (drop n bytes)) < length bytes
shorter bytes s n e =
    let some = some_place bytes s n e in
    let within = within_place bytes s n e in
    let same : length (take (length bytes - n) (drop n bytes)) ≡ length (drop n bytes) = ap length (rest_is bytes n) in
    omega (arith, same, some, within, length-drop n bytes)

-- `&bytes[n..]` after the first n bytes
pub scanned_on : (s : Scanner) (bytes : List ℕ) (n : ℕ) → scanned (scanned s (take n bytes)) (take (length bytes - n) (drop n bytes)) ≡ scanned s bytes
scanned_on s bytes n =
    ap (scanned (scanned s (take n bytes))) (rest_is bytes n)
    ∙ sym (scanned-append s (take n bytes) (drop n bytes))
    ∙ ap (scanned s) (take-append-drop n bytes)
