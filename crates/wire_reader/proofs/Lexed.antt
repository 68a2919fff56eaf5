-- A reader that stops as the bytes alone say: it asks for a literal's octets where the phases do, and a fault is for a
-- literal's length where the phases say that the byte passes the limit.
use Rattle.std.proofs.Common.{◌≡◌, ℕ, suc, ◌<◌, ◌≤◌, ◌-◌, Bool, true, false, cond, eqb, leb, List, [], ◌∷◌, ◌++◌, length, Option, None, Result, Err, refl, sym, ap, ◌∙◌, inl, inr, arith}
use Rattle.std.proofs.lemmas.Bool.{cases_lt, false≢true, le-leb, lt-leb}
use Rattle.std.proofs.lemmas.List.{length-append}
use Rattle.wire_reader.specs.declared.side.Speaker.{Speaker}
use Rattle.wire_reader.specs.declared.lexical.Phase.{Phase}
use Rattle.wire_reader.specs.declared.stop.Kind.{Kind}
use Rattle.wire_reader.specs.declared.stop.Kind.TheVariants.{Syntax, TooLong}
use Rattle.wire_reader.specs.declared.stop.Stop.{Stop}
use Rattle.wire_reader.specs.declared.stop.Stop.TheVariants.{Ends, Fails}
use Rattle.wire_reader.specs.Lexical.{next, phase, is_in, asked, asks_from, kind_of, over_from}
use Rattle.wire_reader.proofs.Reader.{Ender, stops}

-- what a fault is at the byte from which on n bytes are left
abbrev pub kind_at : Speaker → Phase → ℕ → List ℕ → Kind
kind_at side p n [] = Syntax
kind_at side p n (b ∷ bs) = cond (leb n (length bs)) (kind_at side (next p b) n bs) (kind_of side p b)

-- Where the bytes end among the octets of a literal, any octet goes on.
abbrev pub TakesOctets : {A : Type 0} → Phase → (List ℕ → Result (A × List ℕ) Stop) → Type 0
TakesOctets p r = (xs : List ℕ) (w : Option ℕ) (b : ℕ) → r xs ≡ Err (Ends w) → is_in (phase p xs) ≡ true → eqb b 0 ≡ false → (v : Option ℕ) × (r (xs ++ b ∷ []) ≡ Err (Ends v))

pub record Lexed {A : Type 0} (side : Speaker) (p : Phase) (r : List ℕ → Result (A × List ℕ) Stop) : Type 0 where
  pub asks : (xs : List ℕ) (w : Option ℕ) → r xs ≡ Err (Ends w) → asks_from side p xs ≡ w
  pub kind : (xs : List ℕ) (k : Kind) (n : ℕ) → r xs ≡ Err (Fails k n) → kind_at side p n xs ≡ k
  pub octets : TakesOctets p r

-- The texts of a language lead from a phase to one that the value determines. After a text that ends by itself nobody
-- waits.
pub record Leads {A : Type 0} (side : Speaker) (e : Ender) (p : Phase) (L : A → List ℕ → Type 0) (q : A → Phase) : Type 0 where
  pub after : (a : A) (t : List ℕ) → L a t → phase p t ≡ q a
  pub quiet : (a : A) (t : List ℕ) → L a t → stops e [] ≡ true → asks_from side p t ≡ None

-- a reader whose bytes never end there
pub dry : {A : Type 0} (p : Phase) (r : List ℕ → Result (A × List ℕ) Stop) → ((xs : List ℕ) (w : Option ℕ) → r xs ≡ Err (Ends w) → is_in (phase p xs) ≡ false) → TakesOctets p r
dry p r out xs w b h i n = absurd (false≢true (sym (out xs w h) ∙ i))

-- ---- phases along a text

pub phase-append : (p : Phase) (s t : List ℕ) → phase p (s ++ t) ≡ phase (phase p s) t
phase-append p [] t = refl
phase-append p (b ∷ s) t = phase-append (next p b) s t

pub asks-append : (side : Speaker) (p : Phase) (s : List ℕ) (c : ℕ) (cs : List ℕ) → asks_from side p (s ++ c ∷ cs) ≡ asks_from side (phase p s) (c ∷ cs)
asks-append side p [] c cs = refl
asks-append side p (b ∷ []) c cs = refl
asks-append side p (b ∷ d ∷ s) c cs = asks-append side (next p b) (d ∷ s) c cs

-- a byte after which nobody waits
pub asks-step : (side : Speaker) (p : Phase) (b : ℕ) (bs : List ℕ) → asked side p b ≡ None → asks_from side p (b ∷ bs) ≡ asks_from side (next p b) bs
asks-step side p b [] h = h
asks-step side p b (c ∷ bs) h = refl

pub kind-first : (side : Speaker) (p : Phase) (b : ℕ) (bs : List ℕ) → kind_at side p (length (b ∷ bs)) (b ∷ bs) ≡ kind_of side p b
kind-first side p b bs = ap (λ (t : Bool). cond t (kind_at side (next p b) (length (b ∷ bs)) bs) (kind_of side p b)) (lt-leb _ _ (omega arith))

pub kind-step : (side : Speaker) (p : Phase) (n b : ℕ) (bs : List ℕ) → n ≤ length bs → kind_at side p n (b ∷ bs) ≡ kind_at side (next p b) n bs
kind-step side p n b bs le = ap (λ (t : Bool). cond t (kind_at side (next p b) n bs) (kind_of side p b)) (le-leb n (length bs) le)

pub kind-append : (side : Speaker) (p : Phase) (n : ℕ) (s t : List ℕ) → n ≤ length t → kind_at side p n (s ++ t) ≡ kind_at side (phase p s) n t
kind-append side p n [] t le = refl
kind-append side p n (b ∷ s) t le = kind-step side p n b (s ++ t) (omega (arith, le, length-append s t)) ∙ kind-append side (next p b) n s t le

-- ---- the kind of a fault, by its place

abbrev kind_if : Bool → Kind
kind_if t = cond t TooLong Syntax

pub kind-over : (side : Speaker) (p : Phase) (n : ℕ) (xs : List ℕ) → 0 < n → n ≤ length xs → kind_at side p n xs ≡ kind_if (over_from side p (length xs - n) xs)
kind-over side p n [] pos le = absurd (omega (arith, pos, le))
kind-over side p n (b ∷ bs) pos le =
    elim (cases_lt (length bs) n) [
      | inl lt ↦
          let here : length (b ∷ bs) - n ≡ 0 = omega (arith, lt) in
          ap (λ (t : Bool). cond t (kind_at side (next p b) n bs) (kind_of side p b)) (lt-leb _ _ lt)
          ∙ ap (λ (at : ℕ). kind_if (over_from side p at (b ∷ bs))) (sym here)
      | inr fits ↦
          let later : length (b ∷ bs) - n ≡ suc (length bs - n) = omega (arith, fits) in
          kind-step side p n b bs fits ∙ kind-over side (next p b) n bs pos fits
          ∙ ap (λ (at : ℕ). kind_if (over_from side p at (b ∷ bs))) (sym later)
    ]
