-- One of two readers, by the first byte; and a reader that answers as another.
use Rattle.std.proofs.Common.{◌≡◌, ℕ, Bool, true, false, cond, List, [], ◌∷◌, ◌++◌, length, Option, None, Result, Ok, Err, refl, sym, ap, ◌∙◌, inl, inr, ◌⊎◌}
use Rattle.std.proofs.lemmas.Bool.{cases_Bool}
use Rattle.wire_reader.specs.declared.stop.Kind.{Kind}
use Rattle.wire_reader.specs.declared.stop.Stop.{Stop}
use Rattle.wire_reader.specs.declared.stop.Stop.TheVariants.{Ends, Fails}
use Rattle.wire_reader.specs.Reading.{by_first}
use Rattle.wire_reader.proofs.Reader.{Ender, stops, Taken, Refused, Reader}

module _ {A : Type 0} {e : Ender} {L : A → List ℕ → Type 0} {r s : List ℕ → Result (A × List ℕ) Stop} (same : (xs : List ℕ) → s xs ≡ r xs) (p : Reader e L r) where
  pub as_reader : Reader e L s
  as_reader = record {
    start = (p.start.0, same [] ∙ p.start.1);
    sound = λ xs a rest h. p.sound xs a rest (sym (same xs) ∙ h);
    complete = λ a text rest l st. same (text ++ rest) ∙ p.complete a text rest l st;
    open_end = λ a text l st. let o = p.open_end a text l st in (o.0, same text ∙ o.1);
    more = λ xs w h. p.more xs w (sym (same xs) ∙ h);
    bad = λ xs k n h.
        let b = p.bad xs k n (sym (same xs) ∙ h) in
        record { front = b.front; byte = b.byte; rest = b.rest; parts = b.parts; left = b.left; ends = (b.ends.0, same b.front ∙ b.ends.1); stays = λ z. same (b.front ++ b.byte ∷ z) ∙ b.stays z };
  }

-- what a text begins with
abbrev pub Begins : Bool → (ℕ → Bool) → List ℕ → Type 0
Begins v test [] = ⊥
Begins v test (b ∷ bs) = test b ≡ v

module _ {A : Type 0} {e : Ender} {L M : A → List ℕ → Type 0} {r s : List ℕ → Result (A × List ℕ) Stop} (test : ℕ → Bool) (p : Reader e L r) (q : Reader e M s) (first : (a : A) (t : List ℕ) → L a t → Begins true test t) (second : (a : A) (t : List ℕ) → M a t → Begins false test t) where
  yes : (b : ℕ) (bs : List ℕ) → test b ≡ true → by_first test r s (b ∷ bs) ≡ r (b ∷ bs)
  yes b bs h = ap (λ (t : Bool). cond t (r (b ∷ bs)) (s (b ∷ bs))) h

  no : (b : ℕ) (bs : List ℕ) → test b ≡ false → by_first test r s (b ∷ bs) ≡ s (b ∷ bs)
  no b bs h = ap (λ (t : Bool). cond t (r (b ∷ bs)) (s (b ∷ bs))) h

  first_sound : (xs : List ℕ) (a : A) (rest : List ℕ) → by_first test r s xs ≡ Ok (a, rest) → Taken e (λ a t. L a t ⊎ M a t) a xs rest
  first_sound [] a rest h = absurd cc
  first_sound (b ∷ bs) a rest h =
      elim (cases_Bool (test b)) [
        | inl g ↦ let t = p.sound (b ∷ bs) a rest (sym (yes b bs g) ∙ h) in record { text = t.text; parts = t.parts; stop = t.stop; spelled = inl t.spelled }
        | inr g ↦ let t = q.sound (b ∷ bs) a rest (sym (no b bs g) ∙ h) in record { text = t.text; parts = t.parts; stop = t.stop; spelled = inr t.spelled }
      ]

  first_complete : (a : A) (text rest : List ℕ) → L a text ⊎ M a text → stops e rest ≡ true → by_first test r s (text ++ rest) ≡ Ok (a, rest)
  first_complete a [] rest (inl l) st = absurd (first a [] l)
  first_complete a [] rest (inr l) st = absurd (second a [] l)
  first_complete a (b ∷ text) rest (inl l) st = yes b (text ++ rest) (first a (b ∷ text) l) ∙ p.complete a (b ∷ text) rest l st
  first_complete a (b ∷ text) rest (inr l) st = no b (text ++ rest) (second a (b ∷ text) l) ∙ q.complete a (b ∷ text) rest l st

  first_open : (a : A) (text : List ℕ) → L a text ⊎ M a text → stops e [] ≡ false → (w : Option ℕ) × (by_first test r s text ≡ Err (Ends w))
  first_open a [] (inl l) st = absurd (first a [] l)
  first_open a [] (inr l) st = absurd (second a [] l)
  first_open a (b ∷ text) (inl l) st = let o = p.open_end a (b ∷ text) l st in (o.0, yes b text (first a (b ∷ text) l) ∙ o.1)
  first_open a (b ∷ text) (inr l) st = let o = q.open_end a (b ∷ text) l st in (o.0, no b text (second a (b ∷ text) l) ∙ o.1)

  first_more : (xs : List ℕ) (w : Option ℕ) → by_first test r s xs ≡ Err (Ends w) → (z : List ℕ) × (a : A) × (L a (xs ++ z) ⊎ M a (xs ++ z))
  first_more [] w h = let m = p.more [] p.start.0 p.start.1 in (m.0, m.1, inl m.2)
  first_more (b ∷ bs) w h =
      elim (cases_Bool (test b)) [
        | inl g ↦ let m = p.more (b ∷ bs) w (sym (yes b bs g) ∙ h) in (m.0, m.1, inl m.2)
        | inr g ↦ let m = q.more (b ∷ bs) w (sym (no b bs g) ∙ h) in (m.0, m.1, inr m.2)
      ]

  yes_bad : (b : ℕ) (bs : List ℕ) (k : Kind) (n : ℕ) (front : List ℕ) (byte : ℕ) (rest : List ℕ) → test b ≡ true → b ∷ bs ≡ front ++ byte ∷ rest → n ≡ length (byte ∷ rest) → (w : Option ℕ) → r front ≡ Err (Ends w) → ((z : List ℕ) → r (front ++ byte ∷ z) ≡ Err (Fails k (length (byte ∷ z)))) → Refused (by_first test r s) (b ∷ bs) k n
  yes_bad b bs k n [] byte rest g e left w ends stays =
      let head : b ≡ byte = cc in
      let test-is : test byte ≡ true = ap test (sym head) ∙ g in
      record { front = []; byte = byte; rest = rest; parts = e; left = left; ends = (None, refl); stays = λ z. yes byte z test-is ∙ stays z }
  yes_bad b bs k n (f ∷ front) byte rest g e left w ends stays =
      let head : b ≡ f = cc in
      let test-is : test f ≡ true = ap test (sym head) ∙ g in
      record { front = f ∷ front; byte = byte; rest = rest; parts = e; left = left; ends = (w, yes f front test-is ∙ ends); stays = λ z. yes f (front ++ byte ∷ z) test-is ∙ stays z }

  no_bad : (b : ℕ) (bs : List ℕ) (k : Kind) (n : ℕ) (front : List ℕ) (byte : ℕ) (rest : List ℕ) → test b ≡ false → b ∷ bs ≡ front ++ byte ∷ rest → n ≡ length (byte ∷ rest) → (w : Option ℕ) → s front ≡ Err (Ends w) → ((z : List ℕ) → s (front ++ byte ∷ z) ≡ Err (Fails k (length (byte ∷ z)))) → Refused (by_first test r s) (b ∷ bs) k n
  no_bad b bs k n [] byte rest g e left w ends stays =
      let head : b ≡ byte = cc in
      let test-is : test byte ≡ false = ap test (sym head) ∙ g in
      record { front = []; byte = byte; rest = rest; parts = e; left = left; ends = (None, refl); stays = λ z. no byte z test-is ∙ stays z }
  no_bad b bs k n (f ∷ front) byte rest g e left w ends stays =
      let head : b ≡ f = cc in
      let test-is : test f ≡ false = ap test (sym head) ∙ g in
      record { front = f ∷ front; byte = byte; rest = rest; parts = e; left = left; ends = (w, no f front test-is ∙ ends); stays = λ z. no f (front ++ byte ∷ z) test-is ∙ stays z }

  first_bad : (xs : List ℕ) (k : Kind) (n : ℕ) → by_first test r s xs ≡ Err (Fails k n) → Refused (by_first test r s) xs k n
  first_bad [] k n h = absurd cc
  first_bad (b ∷ bs) k n h =
      elim (cases_Bool (test b)) [
        | inl g ↦ let x = p.bad (b ∷ bs) k n (sym (yes b bs g) ∙ h) in yes_bad b bs k n x.front x.byte x.rest g x.parts x.left x.ends.0 x.ends.1 x.stays
        | inr g ↦ let x = q.bad (b ∷ bs) k n (sym (no b bs g) ∙ h) in no_bad b bs k n x.front x.byte x.rest g x.parts x.left x.ends.0 x.ends.1 x.stays
      ]

  pub first_reader : Reader e (λ a t. L a t ⊎ M a t) (by_first test r s)
  first_reader = record { start = (None, refl); sound = first_sound; complete = first_complete; open_end = first_open; more = first_more; bad = first_bad }
