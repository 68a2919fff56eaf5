-- What a reader of a language is, and how readers are put together.
use Rattle.std.proofs.Common.{◌≡◌, ℕ, Bool, true, false, not, List, [], ◌∷◌, ◌++◌, length, Option, Result, Ok, Err, refl, sym, ap, ◌∙◌, append_assoc, inl, inr, ◌⊎◌}
use Rattle.std.proofs.lemmas.Bool.{cases_Bool, true_from_ne_false}
use Rattle.std.proofs.lemmas.List.{append-nil}
use Rattle.wire_reader.specs.declared.stop.Kind.{Kind}
use Rattle.wire_reader.specs.declared.stop.Kind.TheVariants.{Syntax}
use Rattle.wire_reader.specs.declared.stop.Stop.{Stop}
use Rattle.wire_reader.specs.declared.stop.Stop.TheVariants.{Ends, Fails}
use Rattle.wire_reader.specs.Reading.{◌>>=◌, stuck, seq}
use Rattle.wire_reader.specs.Spelling.{ThenBy}

-- Where a token ends: by itself, or before the first byte that does not go on with it.
pub data Ender : Type 0 where
  Closed : Ender
  Open : (ℕ → Bool) → Ender

-- these bytes do not go on with the token
abbrev pub stops : Ender → List ℕ → Bool
stops Closed xs = true
stops (Open g) [] = false
stops (Open g) (c ∷ cs) = not (g c)

pub record Taken {A : Type 0} (e : Ender) (L : A → List ℕ → Type 0) (a : A) (xs rest : List ℕ) : Type 0 where
  pub text : List ℕ
  pub parts : xs ≡ text ++ rest
  pub stop : stops e rest ≡ true
  pub spelled : L a text

-- The bytes up to the one refused can go on; with it, whatever follows, they cannot.
pub record Refused {A : Type 0} (r : List ℕ → Result (A × List ℕ) Stop) (xs : List ℕ) (k : Kind) (n : ℕ) : Type 0 where
  pub front : List ℕ
  pub byte : ℕ
  pub rest : List ℕ
  pub parts : xs ≡ front ++ byte ∷ rest
  pub left : n ≡ length (byte ∷ rest)
  pub ends : (w : Option ℕ) × (r front ≡ Err (Ends w))
  pub stays : (z : List ℕ) → r (front ++ byte ∷ z) ≡ Err (Fails k (length (byte ∷ z)))

pub record Reader {A : Type 0} (e : Ender) (L : A → List ℕ → Type 0) (r : List ℕ → Result (A × List ℕ) Stop) : Type 0 where
  pub start : (w : Option ℕ) × (r [] ≡ Err (Ends w))
  pub sound : (xs : List ℕ) (a : A) (rest : List ℕ) → r xs ≡ Ok (a, rest) → Taken e L a xs rest
  pub complete : (a : A) (text rest : List ℕ) → L a text → stops e rest ≡ true → r (text ++ rest) ≡ Ok (a, rest)
  pub open_end : (a : A) (text : List ℕ) → L a text → stops e [] ≡ false → (w : Option ℕ) × (r text ≡ Err (Ends w))
  pub more : (xs : List ℕ) (w : Option ℕ) → r xs ≡ Err (Ends w) → (z : List ℕ) × (a : A) × L a (xs ++ z)
  pub bad : (xs : List ℕ) (k : Kind) (n : ℕ) → r xs ≡ Err (Fails k n) → Refused r xs k n

-- ---- answers

pub bind_ok : {A B : Type 0} (o : Result (A × List ℕ) Stop) (g : A × List ℕ → Result (B × List ℕ) Stop) (y : B × List ℕ) → (o >>= g) ≡ Ok y → (x : A × List ℕ) × (o ≡ Ok x) × (g x ≡ Ok y)
bind_ok (Ok x) g y e = (x, refl, e)
bind_ok (Err s) g y e = absurd cc

pub bind_err : {A B : Type 0} (o : Result (A × List ℕ) Stop) (g : A × List ℕ → Result (B × List ℕ) Stop) (s : Stop) → (o >>= g) ≡ Err s → (o ≡ Err s) ⊎ ((x : A × List ℕ) × (o ≡ Ok x) × (g x ≡ Err s))
bind_err (Ok x) g s e = inr (x, refl, e)
bind_err (Err t) g s e = inl cc

pub stuck_not_ok : {A : Type 0} (xs : List ℕ) (y : A × List ℕ) → stuck xs ≡ Ok y → ⊥
stuck_not_ok [] y e = cc
stuck_not_ok (c ∷ cs) y e = cc

-- ---- ends

pub stops_same : (e : Ender) (front : List ℕ) (c : ℕ) (cs ds : List ℕ) → stops e (front ++ c ∷ cs) ≡ true → stops e (front ++ c ∷ ds) ≡ true
stops_same Closed front c cs ds h = refl
stops_same (Open g) [] c cs ds h = h
stops_same (Open g) (d ∷ front) c cs ds h = h

pub stops_front : (e : Ender) (d : ℕ) (front rest : List ℕ) → stops e ((d ∷ front) ++ rest) ≡ true → stops e (d ∷ front) ≡ true
stops_front Closed d front rest h = refl
stops_front (Open g) d front rest h = h

-- ---- one after the other

module _ {A B : Type 0} {e d : Ender} {L : A → List ℕ → Type 0} {M : A → B → List ℕ → Type 0} {r : List ℕ → Result (A × List ℕ) Stop} {f : A → List ℕ → Result (B × List ℕ) Stop} (p : Reader e L r) (q : (a : A) → Reader d (M a) (f a)) (follows : (a : A) (xs : List ℕ) → stops e xs ≡ false → f a xs ≡ stuck xs) where
  seq_start : (w : Option ℕ) × (seq r f [] ≡ Err (Ends w))
  seq_start = (p.start.0, ap (λ (o : Result (A × List ℕ) Stop). o >>= λ x. f x.0 x.1) p.start.1)

  seq_sound : (xs : List ℕ) (b : B) (rest : List ℕ) → seq r f xs ≡ Ok (b, rest) → Taken d (ThenBy L M) b xs rest
  seq_sound xs b rest h =
      let m = bind_ok (r xs) (λ x. f x.0 x.1) (b, rest) h in
      let t = p.sound xs m.0.0 m.0.1 m.1 in
      let u = (q m.0.0).sound m.0.1 b rest m.2 in
      record {
        text = t.text ++ u.text;
        parts = t.parts ∙ ap (λ (z : List ℕ). t.text ++ z) u.parts ∙ sym (append_assoc t.text u.text rest);
        stop = u.stop;
        spelled = record { value = m.0.0; front = t.text; back = u.text; parts = refl; first = t.spelled; second = u.spelled };
      }

  -- the second reader takes these bytes, so the first token ends before them
  must_stop : (a : A) (b : B) (xs rest : List ℕ) → f a xs ≡ Ok (b, rest) → stops e xs ≡ true
  must_stop a b xs rest h = true_from_ne_false (stops e xs) (λ s. stuck_not_ok xs (b, rest) (sym (follows a xs s) ∙ h))

  seq_complete : (b : B) (text rest : List ℕ) → ThenBy L M b text → stops d rest ≡ true → seq r f (text ++ rest) ≡ Ok (b, rest)
  seq_complete b text rest l s =
      let two = (q l.value).complete b l.back rest l.second s in
      let one = p.complete l.value l.front (l.back ++ rest) l.first (must_stop l.value b (l.back ++ rest) rest two) in
      ap (seq r f) (ap (λ (z : List ℕ). z ++ rest) l.parts ∙ append_assoc l.front l.back rest)
      ∙ ap (λ (o : Result (A × List ℕ) Stop). o >>= λ x. f x.0 x.1) one ∙ two

  seq_open_by : (b : B) (l-value : A) (l-front l-back : List ℕ) (first : L l-value l-front) (w : Option ℕ) → f l-value l-back ≡ Err (Ends w) → (w' : Option ℕ) × (seq r f (l-front ++ l-back) ≡ Err (Ends w'))
  seq_open_by b a front [] first w two =
      elim (cases_Bool (stops e [])) [
        | inl s ↦ (w, ap (λ (o : Result (A × List ℕ) Stop). o >>= λ x. f x.0 x.1) (p.complete a front [] first s) ∙ two)
        | inr s ↦ let o = p.open_end a front first s in (o.0, ap (seq r f) (append-nil front) ∙ ap (λ (o : Result (A × List ℕ) Stop). o >>= λ x. f x.0 x.1) o.1)
      ]
  seq_open_by b a front (c ∷ back) first w two =
      elim (cases_Bool (stops e (c ∷ back))) [
        | inl s ↦ (w, ap (λ (o : Result (A × List ℕ) Stop). o >>= λ x. f x.0 x.1) (p.complete a front (c ∷ back) first s) ∙ two)
        | inr s ↦ let wrong : Err (Fails Syntax (length (c ∷ back))) ≡ Err (Ends w) = sym (follows a (c ∷ back) s) ∙ two in absurd cc
      ]

  seq_open : (b : B) (text : List ℕ) → ThenBy L M b text → stops d [] ≡ false → (w : Option ℕ) × (seq r f text ≡ Err (Ends w))
  seq_open b text l s =
      let two = (q l.value).open_end b l.back l.second s in
      let o = seq_open_by b l.value l.front l.back l.first two.0 two.1 in
      (o.0, ap (seq r f) l.parts ∙ o.1)

  seq_more : (xs : List ℕ) (w : Option ℕ) → seq r f xs ≡ Err (Ends w) → (z : List ℕ) × (b : B) × ThenBy L M b (xs ++ z)
  seq_more xs w h =
      elim (bind_err (r xs) (λ x. f x.0 x.1) (Ends w) h) [
        | inl one ↦
            let m = p.more xs w one in
            let n = (q m.1).more [] (q m.1).start.0 (q m.1).start.1 in
            (m.0 ++ n.0, n.1, record { value = m.1; front = xs ++ m.0; back = n.0; parts = sym (append_assoc xs m.0 n.0); first = m.2; second = n.2 })
        | inr x ↦
            let t = p.sound xs x.0.0 x.0.1 x.1 in
            let n = (q x.0.0).more x.0.1 w x.2 in
            (n.0, n.1, record { value = x.0.0; front = t.text; back = x.0.1 ++ n.0; parts = ap (λ (z : List ℕ). z ++ n.0) t.parts ∙ append_assoc t.text x.0.1 n.0; first = t.spelled; second = n.2 })
      ]

  seq_ends : (a : A) (text front : List ℕ) (c : ℕ) (rest : List ℕ) (w : Option ℕ) → L a text → stops e (front ++ c ∷ rest) ≡ true → f a front ≡ Err (Ends w) → (w' : Option ℕ) × (seq r f (text ++ front) ≡ Err (Ends w'))
  seq_ends a text [] c rest w l s two = seq_open_by_any a text w l two
    where
      seq_open_by_any : (a : A) (text : List ℕ) (w : Option ℕ) → L a text → f a [] ≡ Err (Ends w) → (w' : Option ℕ) × (seq r f (text ++ []) ≡ Err (Ends w'))
      seq_open_by_any a text w l two =
          elim (cases_Bool (stops e [])) [
            | inl s ↦ (w, ap (λ (o : Result (A × List ℕ) Stop). o >>= λ x. f x.0 x.1) (p.complete a text [] l s) ∙ two)
            | inr s ↦ let o = p.open_end a text l s in (o.0, ap (seq r f) (append-nil text) ∙ ap (λ (o : Result (A × List ℕ) Stop). o >>= λ x. f x.0 x.1) o.1)
          ]
  seq_ends a text (g ∷ front) c rest w l s two =
      (w, ap (λ (o : Result (A × List ℕ) Stop). o >>= λ x. f x.0 x.1) (p.complete a text (g ∷ front) l (stops_front e g front (c ∷ rest) s)) ∙ two)

  seq_bad : (xs : List ℕ) (k : Kind) (n : ℕ) → seq r f xs ≡ Err (Fails k n) → Refused (seq r f) xs k n
  seq_bad xs k n h =
      elim (bind_err (r xs) (λ x. f x.0 x.1) (Fails k n) h) [
        | inl one ↦
            let b = p.bad xs k n one in
            record {
              front = b.front;
              byte = b.byte;
              rest = b.rest;
              parts = b.parts;
              left = b.left;
              ends = (b.ends.0, ap (λ (o : Result (A × List ℕ) Stop). o >>= λ x. f x.0 x.1) b.ends.1);
              stays = λ z. ap (λ (o : Result (A × List ℕ) Stop). o >>= λ x. f x.0 x.1) (b.stays z);
            }
        | inr x ↦
            let a = x.0.0 in
            let t = p.sound xs a x.0.1 x.1 in
            let b = (q a).bad x.0.1 k n x.2 in
            let s : stops e (b.front ++ b.byte ∷ b.rest) ≡ true = ap (stops e) (sym b.parts) ∙ t.stop in
            record {
              front = t.text ++ b.front;
              byte = b.byte;
              rest = b.rest;
              parts = t.parts ∙ ap (λ (z : List ℕ). t.text ++ z) b.parts ∙ sym (append_assoc t.text b.front (b.byte ∷ b.rest));
              left = b.left;
              ends = seq_ends a t.text b.front b.byte b.rest b.ends.0 t.spelled s b.ends.1;
              stays = λ z.
                  ap (seq r f) (append_assoc t.text b.front (b.byte ∷ z))
                  ∙ ap (λ (o : Result (A × List ℕ) Stop). o >>= λ x. f x.0 x.1) (p.complete a t.text (b.front ++ b.byte ∷ z) t.spelled (stops_same e b.front b.byte b.rest z s))
                  ∙ b.stays z;
            }
      ]

  pub seq_reader : Reader d (ThenBy L M) (seq r f)
  seq_reader = record { start = seq_start; sound = seq_sound; complete = seq_complete; open_end = seq_open; more = seq_more; bad = seq_bad }
