-- Tokens that are read byte by byte, by a state that steps.
use Rattle.std.specs.Prelude.{◌≡◌, ℕ, Bool, true, false, List, [], ◌∷◌, ◌++◌, length, Option, None, Some, Result, Ok, Err, ◌⊎◌, nat_lt, ◌==◌, if◌then◌else◌}
use Rattle.wire_reader.specs.declared.stop.Kind.{Kind}
use Rattle.wire_reader.specs.declared.stop.Kind.TheVariants.{Syntax}
use Rattle.wire_reader.specs.declared.stop.Stop.{Stop}
use Rattle.wire_reader.specs.declared.stop.Stop.TheVariants.{Ends, Fails}
use Rattle.wire_reader.specs.Reading.{stuck}

-- ---- a token that ends before the first byte outside its class

-- what is known so far goes on with a byte, and may or may not be a value
abbrev pub run_next : {S A : Type 0} → Result S Kind → (S → Result (A × List ℕ) Stop) → ℕ → Result (A × List ℕ) Stop
run_next (Ok t) f n = f t
run_next (Err k) f n = Err (Fails k n)

abbrev pub run_end : {A : Type 0} → Option A → List ℕ → Result (A × List ℕ) Stop
run_end None xs = stuck xs
run_end (Some a) xs = Ok (a, xs)

abbrev pub run : {S A : Type 0} → (ℕ → Bool) → (S → ℕ → Result S Kind) → (S → Option A) → S → List ℕ → Result (A × List ℕ) Stop
run class go out s [] = Err (Ends None)
run class go out s (b ∷ bs) = if class b then run_next (go s b) (λ t. run class go out t bs) (length (b ∷ bs)) else run_end (out s) (b ∷ bs)

-- its texts
abbrev pub RunText : {S A : Type 0} → (ℕ → Bool) → (S → ℕ → Result S Kind) → (S → Option A) → S → A → List ℕ → Type 0
RunText class go out s a [] = out s ≡ Some a
RunText {S} class go out s a (b ∷ bs) = (class b ≡ true) × ((t : S) × (go s b ≡ Ok t) × RunText class go out t a bs)

-- the bytes so far as the state, at most so many of them and at least one
abbrev pub text_go : ℕ → List ℕ → ℕ → Result (List ℕ) Kind
text_go limit acc b = if nat_lt (length acc) limit then Ok (acc ++ b ∷ []) else Err Syntax

abbrev pub text_out : List ℕ → Option (List ℕ)
text_out [] = None
text_out (b ∷ bs) = Some (b ∷ bs)

-- ---- a token that takes its last byte

-- a byte goes on, is the last, or is refused
pub data Step (S A : Type 0) : Type 0 where
  On : S → Step S A
  Take : A → Step S A
  Odd : Kind → Step S A

abbrev pub scan_next : {S A : Type 0} → Step S A → (S → Result (A × List ℕ) Stop) → ℕ → List ℕ → Result (A × List ℕ) Stop
scan_next (On t) f b bs = f t
scan_next (Take a) f b bs = Ok (a, bs)
scan_next (Odd k) f b bs = Err (Fails k (length (b ∷ bs)))

abbrev pub scan : {S A : Type 0} → (S → ℕ → Step S A) → S → List ℕ → Result (A × List ℕ) Stop
scan step s [] = Err (Ends None)
scan step s (b ∷ bs) = scan_next (step s b) (λ t. scan step t bs) b bs

-- its texts
abbrev pub ScanText : {S A : Type 0} → (S → ℕ → Step S A) → S → A → List ℕ → Type 0
ScanText step s a [] = ⊥
ScanText {S} step s a (b ∷ bs) = ((t : S) × (step s b ≡ On t) × ScanText step t a bs) ⊎ ((step s b ≡ Take a) × (bs ≡ []))

-- ---- the text that ends a line

-- the bytes so far, and whether CR follows them
abbrev pub line_step : (ℕ → Bool) → List ℕ × Bool → ℕ → Step (List ℕ × Bool) (List ℕ)
line_step class (acc, true) b = if b == 10 then Take acc else Odd Syntax
line_step class (acc, false) b = if b == 13 then On (acc, true) else (if class b then On (acc ++ b ∷ [], false) else Odd Syntax)

-- any number of bytes of the class, and the line end
abbrev pub line_at : (ℕ → Bool) → List ℕ → Result (List ℕ × List ℕ) Stop
line_at class = scan (line_step class) ([], false)
