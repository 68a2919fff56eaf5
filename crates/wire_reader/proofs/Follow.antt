-- Readers that begin with one given byte, and so may follow a token that does not go on with it.
use Rattle.std.proofs.Common.{◌≡◌, ℕ, Bool, false, not, cond, eqb, List, [], ◌∷◌, Result, Ok, refl, sym, ap, ◌∙◌, inl, inr}
use Rattle.std.proofs.lemmas.Bool.{cases_Bool, true≢false, eqb-true}
use Rattle.wire_reader.specs.declared.stop.Stop.{Stop}
use Rattle.wire_reader.specs.Reading.{stuck, seq, mapped, byte_at}
use Rattle.wire_reader.proofs.Reader.{Open, stops}
use Rattle.wire_reader.proofs.Parts.{stuck_bind}

-- the bytes do not begin with c
abbrev pub NoHead : ℕ → List ℕ → Type 0
NoHead c [] = Unit {0}
NoHead c (b ∷ bs) = eqb b c ≡ false

-- a reader of texts that begin with c
pub record Starts {A : Type 0} (c : ℕ) (r : List ℕ → Result (A × List ℕ) Stop) : Type 0 where
  pub refuses : (xs : List ℕ) → NoHead c xs → r xs ≡ stuck xs

byte_refuses : (c : ℕ) (xs : List ℕ) → NoHead c xs → byte_at c xs ≡ stuck xs
byte_refuses c [] h = refl
byte_refuses c (b ∷ bs) h = ap (λ (x : Bool). cond x (Ok (tt, bs)) (stuck (b ∷ bs))) h

pub starts_byte : (c : ℕ) → Starts c (byte_at c)
starts_byte c = record { refuses = byte_refuses c }

pub starts_seq : {A B : Type 0} {c : ℕ} {r : List ℕ → Result (A × List ℕ) Stop} (f : A → List ℕ → Result (B × List ℕ) Stop) → Starts c r → Starts c (seq r f)
starts_seq {r} f s = record { refuses = λ xs h. stuck_bind (r xs) xs (λ x. f x.0 x.1) (s.refuses xs h) }

pub starts_mapped : {A B : Type 0} {c : ℕ} {r : List ℕ → Result (A × List ℕ) Stop} (f : A → B) → Starts c r → Starts c (mapped f r)
starts_mapped {r} f s = record { refuses = λ xs h. stuck_bind (r xs) xs (λ x. Ok (f x.0, x.1)) (s.refuses xs h) }

pub no_head : (g : ℕ → Bool) (c : ℕ) → g c ≡ false → (xs : List ℕ) → stops (Open g) xs ≡ false → NoHead c xs
no_head g c n [] h = tt
no_head g c n (b ∷ bs) h =
    elim (cases_Bool (eqb b c)) [
      | inl e ↦ let same : g b ≡ false = ap g (eqb-true b c e) ∙ n in absurd (true≢false (ap not (sym same) ∙ h))
      | inr e ↦ e
    ]

-- after a token that does not go on with c
pub after : {A : Type 0} {r : List ℕ → Result (A × List ℕ) Stop} (g : ℕ → Bool) (c : ℕ) → g c ≡ false → Starts c r → (xs : List ℕ) → stops (Open g) xs ≡ false → r xs ≡ stuck xs
after g c n s xs h = s.refuses xs (no_head g c n xs h)
