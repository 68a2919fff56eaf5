-- Reading from left to right. A reader takes the bytes from a place on and answers a value and the bytes after it, or
-- where and why it stops. Readers are put together from others by the functions here.
use Rattle.std.specs.Prelude.{ℕ, Bool, List, [], ◌∷◌, length, None, Result, Ok, Err, ◌==◌, if◌then◌else◌}
use Rattle.wire_reader.specs.declared.stop.Kind.TheVariants.{Syntax}
use Rattle.wire_reader.specs.declared.stop.Stop.{Stop}
use Rattle.wire_reader.specs.declared.stop.Stop.TheVariants.{Ends, Fails}

-- what was read goes on to the next reader; a stop remains
infixl 10 ◌>>=◌
abbrev pub ◌>>=◌ : {A B : Type 0} → Result (A × List ℕ) Stop → (A × List ℕ → Result (B × List ℕ) Stop) → Result (B × List ℕ) Stop
(Ok x) >>= f = f x
(Err s) >>= f = Err s

-- the answer where the first byte does not go on
abbrev pub stuck : {A : Type 0} → List ℕ → Result (A × List ℕ) Stop
stuck [] = Err (Ends None)
stuck (c ∷ cs) = Err (Fails Syntax (length (c ∷ cs)))

-- one reader, and then one that may depend on what the first read
abbrev pub seq : {A B : Type 0} → (List ℕ → Result (A × List ℕ) Stop) → (A → List ℕ → Result (B × List ℕ) Stop) → List ℕ → Result (B × List ℕ) Stop
seq r f xs = r xs >>= λ x. f x.0 x.1

-- what was read, under a function
abbrev pub mapped : {A B : Type 0} → (A → B) → (List ℕ → Result (A × List ℕ) Stop) → List ℕ → Result (B × List ℕ) Stop
mapped f r xs = r xs >>= λ x. Ok (f x.0, x.1)

-- one after the other: the value of the second, of the first, of both
abbrev pub skip : {A : Type 0} → (List ℕ → Result (Unit {0} × List ℕ) Stop) → (List ℕ → Result (A × List ℕ) Stop) → List ℕ → Result (A × List ℕ) Stop
skip r s = seq r (λ _. s)

abbrev pub keep : {A : Type 0} → (List ℕ → Result (A × List ℕ) Stop) → (List ℕ → Result (Unit {0} × List ℕ) Stop) → List ℕ → Result (A × List ℕ) Stop
keep r s = seq r (λ a. mapped (λ _. a) s)

abbrev pub both : {A B : Type 0} → (List ℕ → Result (A × List ℕ) Stop) → (List ℕ → Result (B × List ℕ) Stop) → List ℕ → Result ((A × B) × List ℕ) Stop
both r s = seq r (λ a. mapped (λ b. (a, b)) s)

-- one of two readers, by the first byte
abbrev pub by_first : {A : Type 0} → (ℕ → Bool) → (List ℕ → Result (A × List ℕ) Stop) → (List ℕ → Result (A × List ℕ) Stop) → List ℕ → Result (A × List ℕ) Stop
by_first test r s [] = Err (Ends None)
by_first test r s (b ∷ bs) = if test b then r (b ∷ bs) else s (b ∷ bs)

-- this one byte
abbrev pub byte_at : ℕ → List ℕ → Result (Unit {0} × List ℕ) Stop
byte_at c [] = Err (Ends None)
byte_at c (b ∷ bs) = if b == c then Ok (tt, bs) else stuck (b ∷ bs)

-- the end of a line
abbrev pub crlf_at : List ℕ → Result (Unit {0} × List ℕ) Stop
crlf_at = skip (byte_at 13) (byte_at 10)
