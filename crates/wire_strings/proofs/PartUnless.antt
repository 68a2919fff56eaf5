-- A part whose texts may not begin with one byte.
use Rattle.std.proofs.Common.{◌≡◌, ℕ, Bool, true, false, cond, eqb, List, [], ◌∷◌, ◌++◌, length, Option, None, Result, Ok, Err, refl, sym, ap, ◌∙◌, inl, inr}
use Rattle.std.proofs.lemmas.Bool.{cases_Bool, false≢true}
use Rattle.wire_reader.specs.declared.side.Speaker.{Speaker}
use Rattle.wire_reader.specs.declared.lexical.Phase.TheVariants.{Plain}
use Rattle.wire_reader.specs.declared.stop.Kind.{Kind}
use Rattle.wire_reader.specs.declared.stop.Kind.TheVariants.{Syntax}
use Rattle.wire_reader.specs.declared.stop.Stop.{Stop}
use Rattle.wire_reader.specs.declared.stop.Stop.TheVariants.{Ends, Fails}
use Rattle.wire_reader.specs.Lexical.{phase, is_in, asks_from}
use Rattle.wire_reader.specs.Reading.{stuck}
use Rattle.wire_reader.proofs.Reader.{Ender, stops, Taken, Refused}
use Rattle.wire_reader.proofs.Lexed.{kind_at, kind-first}
use Rattle.wire_reader.proofs.Part.{Part}
use Rattle.wire_strings.specs.Texts.{begins_with, unless_at}

-- `sample` is a text that begins with another byte
module _ {A : Type 0} {side : Speaker} {k : Bool} {e : Ender} {L : A → List ℕ → Type 0} {r : List ℕ → Result (A × List ℕ) Stop} (c : ℕ) (sample : (a : A) × (t : List ℕ) × L a t × (begins_with c t ≡ false)) (some : (a : A) → L a [] → ⊥) (p : Part side k e L r) where
  abbrev M : A → List ℕ → Type 0
  M a t = L a t × (begins_with c t ≡ false)

  abbrev at : List ℕ → Bool → Result (A × List ℕ) Stop
  at xs t = cond t (stuck xs) (r xs)

  goes : (b : ℕ) (bs : List ℕ) → eqb b c ≡ false → unless_at c r (b ∷ bs) ≡ r (b ∷ bs)
  goes b bs h = ap (at (b ∷ bs)) h

  halts : (b : ℕ) (bs : List ℕ) → eqb b c ≡ true → unless_at c r (b ∷ bs) ≡ stuck (b ∷ bs)
  halts b bs h = ap (at (b ∷ bs)) h

  -- a text that is not empty begins as the bytes do
  head : (b : ℕ) (bs text rest : List ℕ) (a : A) → eqb b c ≡ false → b ∷ bs ≡ text ++ rest → L a text → begins_with c text ≡ false
  head b bs [] rest a h e l = absurd (some a l)
  head b bs (d ∷ text) rest a h e l = let same : b ≡ d = cc in ap (λ (x : ℕ). eqb x c) (sym same) ∙ h

  unless_sound : (xs : List ℕ) (a : A) (rest : List ℕ) → unless_at c r xs ≡ Ok (a, rest) → Taken e M a xs rest
  unless_sound [] a rest h = absurd cc
  unless_sound (b ∷ bs) a rest h =
      elim (cases_Bool (eqb b c)) [
        | inl g ↦ let wrong : stuck (b ∷ bs) ≡ Ok (a, rest) = sym (halts b bs g) ∙ h in absurd cc
        | inr g ↦ let t = p.reader.sound (b ∷ bs) a rest (sym (goes b bs g) ∙ h) in record { text = t.text; parts = t.parts; stop = t.stop; spelled = (t.spelled, head b bs t.text rest a g t.parts t.spelled) }
      ]

  unless_complete : (a : A) (text rest : List ℕ) → M a text → stops e rest ≡ true → unless_at c r (text ++ rest) ≡ Ok (a, rest)
  unless_complete a [] rest l s = absurd (some a l.0)
  unless_complete a (b ∷ text) rest l s = goes b (text ++ rest) l.1 ∙ p.reader.complete a (b ∷ text) rest l.0 s

  unless_open : (a : A) (text : List ℕ) → M a text → stops e [] ≡ false → (w : Option ℕ) × (unless_at c r text ≡ Err (Ends w))
  unless_open a [] l s = absurd (some a l.0)
  unless_open a (b ∷ text) l s = let o = p.reader.open_end a (b ∷ text) l.0 s in (o.0, goes b text l.1 ∙ o.1)

  unless_more : (xs : List ℕ) (w : Option ℕ) → unless_at c r xs ≡ Err (Ends w) → (z : List ℕ) × (a : A) × M a (xs ++ z)
  unless_more [] w h = (sample.1, sample.0, (sample.2, sample.3))
  unless_more (b ∷ bs) w h =
      elim (cases_Bool (eqb b c)) [
        | inl g ↦ let wrong : stuck (b ∷ bs) ≡ Err (Ends w) = sym (halts b bs g) ∙ h in absurd (stuck_fails b bs w wrong)
        | inr g ↦ let m = p.reader.more (b ∷ bs) w (sym (goes b bs g) ∙ h) in (m.0, m.1, (m.2, g))
      ]
    where
      stuck_fails : (b : ℕ) (bs : List ℕ) (w : Option ℕ) → (let o : Result (A × List ℕ) Stop = stuck (b ∷ bs) in o ≡ Err (Ends w)) → ⊥
      stuck_fails b bs w h = cc

  later : (b : ℕ) (bs : List ℕ) (i : Kind) (n : ℕ) (front : List ℕ) (byte : ℕ) (rest : List ℕ) → eqb b c ≡ false → b ∷ bs ≡ front ++ byte ∷ rest → n ≡ length (byte ∷ rest) → (w : Option ℕ) → r front ≡ Err (Ends w) → ((z : List ℕ) → r (front ++ byte ∷ z) ≡ Err (Fails i (length (byte ∷ z)))) → Refused (unless_at c r) (b ∷ bs) i n
  later b bs i n [] byte rest g parts left w ends stays =
      let same : b ≡ byte = cc in
      record { front = []; byte = byte; rest = rest; parts = parts; left = left; ends = (None, refl); stays = λ z. goes byte z (ap (λ (x : ℕ). eqb x c) (sym same) ∙ g) ∙ stays z }
  later b bs i n (f ∷ front) byte rest g parts left w ends stays =
      let same : b ≡ f = cc in
      let h : eqb f c ≡ false = ap (λ (x : ℕ). eqb x c) (sym same) ∙ g in
      record { front = f ∷ front; byte = byte; rest = rest; parts = parts; left = left; ends = (w, goes f front h ∙ ends); stays = λ z. goes f (front ++ byte ∷ z) h ∙ stays z }

  unless_bad : (xs : List ℕ) (i : Kind) (n : ℕ) → unless_at c r xs ≡ Err (Fails i n) → Refused (unless_at c r) xs i n
  unless_bad [] i n h = absurd cc
  unless_bad (b ∷ bs) i n h =
      elim (cases_Bool (eqb b c)) [
        | inl g ↦
            let read : (let o : Result (A × List ℕ) Stop = stuck (b ∷ bs) in o ≡ Err (Fails i n)) = sym (halts b bs g) ∙ h in
            let kind : Syntax ≡ i = cc in
            let left : length (b ∷ bs) ≡ n = cc in
            record { front = []; byte = b; rest = bs; parts = refl; left = sym left; ends = (None, refl); stays = λ z. halts b z g ∙ ap (λ (x : Kind). let o : Result (A × List ℕ) Stop = Err (Fails x (length (b ∷ z))) in o) kind }
        | inr g ↦ let x = p.reader.bad (b ∷ bs) i n (sym (goes b bs g) ∙ h) in later b bs i n x.front x.byte x.rest g x.parts x.left x.ends.0 x.ends.1 x.stays
      ]

  unless_asks : (xs : List ℕ) (w : Option ℕ) → unless_at c r xs ≡ Err (Ends w) → asks_from side Plain xs ≡ w
  unless_asks [] w h = cc
  unless_asks (b ∷ bs) w h =
      elim (cases_Bool (eqb b c)) [
        | inl g ↦ let wrong : (let o : Result (A × List ℕ) Stop = stuck (b ∷ bs) in o ≡ Err (Ends w)) = sym (halts b bs g) ∙ h in absurd cc
        | inr g ↦ p.lexed.asks (b ∷ bs) w (sym (goes b bs g) ∙ h)
      ]

  unless_kind : (xs : List ℕ) (i : Kind) (n : ℕ) → unless_at c r xs ≡ Err (Fails i n) → kind_at side Plain n xs ≡ i
  unless_kind [] i n h = absurd cc
  unless_kind (b ∷ bs) i n h =
      elim (cases_Bool (eqb b c)) [
        | inl g ↦
            let read : (let o : Result (A × List ℕ) Stop = stuck (b ∷ bs) in o ≡ Err (Fails i n)) = sym (halts b bs g) ∙ h in
            let kind : Syntax ≡ i = cc in
            let left : length (b ∷ bs) ≡ n = cc in
            ap (λ (m : ℕ). kind_at side Plain m (b ∷ bs)) (sym left) ∙ kind-first side Plain b bs ∙ kind
        | inr g ↦ p.lexed.kind (b ∷ bs) i n (sym (goes b bs g) ∙ h)
      ]

  unless_octets : (xs : List ℕ) (w : Option ℕ) (y : ℕ) → unless_at c r xs ≡ Err (Ends w) → is_in (phase Plain xs) ≡ true → eqb y 0 ≡ false → (v : Option ℕ) × (unless_at c r (xs ++ y ∷ []) ≡ Err (Ends v))
  unless_octets [] w y h i n = absurd (false≢true i)
  unless_octets (b ∷ bs) w y h i n =
      elim (cases_Bool (eqb b c)) [
        | inl g ↦ let wrong : (let o : Result (A × List ℕ) Stop = stuck (b ∷ bs) in o ≡ Err (Ends w)) = sym (halts b bs g) ∙ h in absurd cc
        | inr g ↦ let o = p.lexed.octets (b ∷ bs) w y (sym (goes b bs g) ∙ h) i n in (o.0, goes b (bs ++ y ∷ []) g ∙ o.1)
      ]

  pub unless_part : Part side k e (λ a t. L a t × (begins_with c t ≡ false)) (unless_at c r)
  unless_part = record {
    reader = record { start = (None, refl); sound = unless_sound; complete = unless_complete; open_end = unless_open; more = unless_more; bad = unless_bad };
    lexed = record { asks = unless_asks; kind = unless_kind; octets = unless_octets };
    leads = λ b. record { after = λ a t h. (p.leads b).after a t h.0; quiet = λ a t h s. (p.leads b).quiet a t h.0 s };
  }
