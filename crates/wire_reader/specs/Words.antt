-- Reading of words in any case, and of one of several words.
use Rattle.std.specs.Prelude.{ℕ, List, [], ◌∷◌, None, Result, Ok, Err, ◌==◌, nat_lt, if◌then◌else◌}
use Rattle.wire_reader.specs.declared.stop.Stop.{Stop}
use Rattle.wire_reader.specs.declared.stop.Stop.TheVariants.{Ends, Fails}
use Rattle.wire_reader.specs.Reading.{stuck, mapped}
use Rattle.wire_reader.specs.Spelling.{upper}

-- a word in any case, given in upper case
abbrev pub word_at : List ℕ → List ℕ → Result (Unit {0} × List ℕ) Stop
word_at [] xs = Ok (tt, xs)
word_at (c ∷ cs) [] = Err (Ends None)
word_at (c ∷ cs) (b ∷ bs) = if upper b == c then word_at cs bs else stuck (b ∷ bs)

-- the first answer that is a value, else that the bytes end, else the later fault
abbrev pub either : {A : Type 0} → Result (A × List ℕ) Stop → Result (A × List ℕ) Stop → Result (A × List ℕ) Stop
either (Ok x) o = Ok x
either (Err s) (Ok y) = Ok y
either (Err (Ends w)) (Err s) = Err (Ends w)
either (Err (Fails k n)) (Err (Ends w)) = Err (Ends w)
either (Err (Fails k n)) (Err (Fails l m)) = if nat_lt m n then Err (Fails l m) else Err (Fails k n)

abbrev pub alt : {A : Type 0} → (List ℕ → Result (A × List ℕ) Stop) → (List ℕ → Result (A × List ℕ) Stop) → List ℕ → Result (A × List ℕ) Stop
alt r s xs = either (r xs) (s xs)

-- one of the words, by its key
abbrev pub keys_at : {K : Type 0} → (K → List ℕ) → K → List K → List ℕ → Result (K × List ℕ) Stop
keys_at word k [] xs = mapped (λ _. k) (word_at (word k)) xs
keys_at word k (l ∷ ks) xs = either (mapped (λ _. k) (word_at (word k)) xs) (keys_at word l ks xs)
