-- Parts whose values bear a constructor, and parts that may be left out at the end.
use Rattle.std.proofs.Common.{◌≡◌, ℕ, Bool, true, false, cond, eqb, List, [], ◌∷◌, ◌++◌, Option, None, Some, Result, Ok, refl, sym, ap, subst, ◌∙◌, inl, inr, ◌⊎◌}
use Rattle.wire_reader.specs.declared.side.Speaker.{Speaker}
use Rattle.wire_reader.specs.declared.stop.Stop.{Stop}
use Rattle.wire_reader.specs.Spelling.{◌⨾◌, Is}
use Rattle.wire_reader.specs.Reading.{stuck, mapped, skip, by_first, byte_at}
use Rattle.wire_reader.proofs.Reader.{Ender, Closed, Open, stops}
use Rattle.wire_reader.proofs.Parts.{stuck_bind, after_closed}
use Rattle.wire_reader.proofs.First.{Begins}
use Rattle.wire_reader.proofs.Follow.{Starts, NoHead, starts_byte, starts_seq, starts_mapped}
use Rattle.wire_reader.proofs.Part.{Part, same_part, mapped_part, skip_part, first_part, byte_part}
use Rattle.imap_replies.specs.Lines.{RestText, rest_at}
use Rattle.wire_reader.proofs.Follow.{no_head}

-- a text of a value under a function
pub record Made {A B : Type 0} (f : A → B) (L : A → List ℕ → Type 0) (b : B) (text : List ℕ) : Type 0 where
  pub value : A
  pub is : b ≡ f value
  pub spelled : L value text

pub made_part : {A B : Type 0} {side : Speaker} {k : Bool} {e : Ender} {L : A → List ℕ → Type 0} {r : List ℕ → Result (A × List ℕ) Stop} (f : A → B) → Part side k e L r → Part side k e (Made f L) (mapped f r)
made_part f p = mapped_part f (λ a t h. record { value = a; is = refl; spelled = h }) (λ b t h. (h.value, h.is, h.spelled)) p

-- ---- what may follow a token

-- a choice by the first byte, of which the one begins with c and the other with d
pub first_refuses : {A : Type 0} (r s : List ℕ → Result (A × List ℕ) Stop) (c d : ℕ) → Starts d s → (xs : List ℕ) → NoHead c xs → NoHead d xs → by_first (λ b. eqb b c) r s xs ≡ stuck xs
first_refuses r s c d st [] h k = refl
first_refuses {A} r s c d st (b ∷ bs) h k =
    ap (λ (t : Bool). let o : Result (A × List ℕ) Stop = cond t (r (b ∷ bs)) (s (b ∷ bs)) in o) h ∙ st.refuses (b ∷ bs) k

pub after_either : {A : Type 0} (r s : List ℕ → Result (A × List ℕ) Stop) (g : ℕ → Bool) (c d : ℕ) → g c ≡ false → g d ≡ false → Starts d s → (xs : List ℕ) → stops (Open g) xs ≡ false → by_first (λ b. eqb b c) r s xs ≡ stuck xs
after_either r s g c d gc gd st xs h = first_refuses r s c d st xs (no_head g c gc xs h) (no_head g d gd xs h)

-- ---- the end, or a space and a part

module _ {A : Type 0} {side : Speaker} {k : Bool} {L : A → List ℕ → Type 0} {end_at : List ℕ → Result (Unit {0} × List ℕ) Stop} {r : List ℕ → Result (A × List ℕ) Stop} (c : ℕ) (end : List ℕ) (apart : eqb 32 c ≡ false) (begins : Begins true (λ b. eqb b c) end) (p : Part side k Closed (λ _ t. Is end t) end_at) (q : Part side k Closed L r) where
  abbrev Ended : Option A → List ℕ → Type 0
  Ended None t = Is end t
  Ended (Some a) t = ⊥

  abbrev More : Option A → List ℕ → Type 0
  More None t = ⊥
  More (Some a) t = (Is (32 ∷ []) ⨾ L a) t

  from_ended : (v : Option A) (t : List ℕ) → Ended v t → (u : Unit {0}) × (v ≡ None) × Is end t
  from_ended None t h = (tt, refl, h)
  from_ended (Some a) t h = absurd h

  from_more : (v : Option A) (t : List ℕ) → More v t → (a : A) × (v ≡ Some a) × (Is (32 ∷ []) ⨾ L a) t
  from_more None t h = absurd h
  from_more (Some a) t h = (a, refl, h)

  ended_first : (v : Option A) (t : List ℕ) → Ended v t → Begins true (λ b. eqb b c) t
  ended_first None t h = subst (Begins true (λ b. eqb b c)) (sym h) begins
  ended_first (Some a) t h = absurd h

  more_first : (v : Option A) (t : List ℕ) → More v t → Begins false (λ b. eqb b c) t
  more_first None t h = absurd h
  more_first (Some a) t h = subst (Begins false (λ b. eqb b c)) (sym (h.parts ∙ ap (λ (x : List ℕ). x ++ h.back) h.first)) apart

  to_rest : (v : Option A) (t : List ℕ) → Ended v t ⊎ More v t → RestText end L v t
  to_rest None t (inl h) = h
  to_rest None t (inr h) = absurd h
  to_rest (Some a) t (inl h) = absurd h
  to_rest (Some a) t (inr h) = h

  from_rest : (v : Option A) (t : List ℕ) → RestText end L v t → Ended v t ⊎ More v t
  from_rest None t h = inl h
  from_rest (Some a) t h = inr h

  pub rest_part : Part side k Closed (RestText end L) (rest_at c end_at r)
  rest_part = same_part to_rest from_rest
      (first_part (λ b. eqb b c)
      (mapped_part {M = Ended} (λ _. None) (λ _ t h. h) from_ended p)
      (mapped_part {M = More} (λ a. Some a) (λ _ t h. h) from_more (skip_part (byte_part 32 refl) q (after_closed r)))
      ended_first more_first)

pub mapped_follows : {A B : Type 0} (r : List ℕ → Result (A × List ℕ) Stop) (f : A → B) (xs : List ℕ) → r xs ≡ stuck xs → mapped f r xs ≡ stuck xs
mapped_follows r f xs h = stuck_bind (r xs) xs (λ x. Ok (f x.0, x.1)) h

-- the end, or a space and a part, after an atom
pub rest_follows : {A : Type 0} (g : ℕ → Bool) (c : ℕ) (end_at : List ℕ → Result (Unit {0} × List ℕ) Stop) (r : List ℕ → Result (A × List ℕ) Stop) → g c ≡ false → g 32 ≡ false → (xs : List ℕ) → stops (Open g) xs ≡ false → rest_at c end_at r xs ≡ stuck xs
rest_follows g c end_at r gc gs = after_either (mapped (λ _. None) end_at) (mapped (λ a. Some a) (skip (byte_at 32) r)) g c 32 gc gs (starts_mapped (λ a. Some a) (starts_seq (λ _. r) (starts_byte 32)))
