-- Readers of the same language, of a value under a function, and of joined texts.
use Rattle.std.proofs.Common.{◌≡◌, ℕ, Bool, true, false, not, cond, eqb, List, [], ◌∷◌, ◌++◌, length, Option, None, Result, Ok, Err, refl, sym, ap, subst, ◌∙◌, inl, inr}
use Rattle.std.proofs.lemmas.Bool.{cases_Bool, true≢false, eqb-true, eq-eqb}
use Rattle.wire_reader.specs.declared.stop.Kind.{Kind}
use Rattle.wire_reader.specs.declared.stop.Kind.TheVariants.{Syntax}
use Rattle.wire_reader.specs.declared.stop.Stop.{Stop}
use Rattle.wire_reader.specs.declared.stop.Stop.TheVariants.{Ends, Fails}
use Rattle.wire_reader.specs.Reading.{◌>>=◌, stuck, mapped, skip, keep, both, byte_at}
use Rattle.wire_reader.specs.Spelling.{◌⨾◌, Is}
use Rattle.wire_reader.proofs.Reader.{Ender, Closed, Open, stops, Taken, Refused, Reader, bind_ok, bind_err, seq_reader}

-- ---- the same language, said otherwise

module _ {A : Type 0} {e : Ender} {L M : A → List ℕ → Type 0} {r : List ℕ → Result (A × List ℕ) Stop} (to : (a : A) (t : List ℕ) → L a t → M a t) (from : (a : A) (t : List ℕ) → M a t → L a t) (p : Reader e L r) where
  pub same_reader : Reader e M r
  same_reader = record {
    start = p.start;
    sound = λ xs a rest h. let t = p.sound xs a rest h in record { text = t.text; parts = t.parts; stop = t.stop; spelled = to a t.text t.spelled };
    complete = λ a text rest l s. p.complete a text rest (from a text l) s;
    open_end = λ a text l s. p.open_end a text (from a text l) s;
    more = λ xs w h. let m = p.more xs w h in (m.0, m.1, to m.1 (xs ++ m.0) m.2);
    bad = p.bad;
  }

-- ---- a value under a function

pub pair_is : {A : Type 0} (x y : A × List ℕ) → (let done : A × List ℕ → Result (A × List ℕ) Stop = λ p. Ok p in done x ≡ done y) → x ≡ y
pair_is x y e = cc

module _ {A B : Type 0} {e : Ender} {L : A → List ℕ → Type 0} {M : B → List ℕ → Type 0} {r : List ℕ → Result (A × List ℕ) Stop} (f : A → B) (to : (a : A) (t : List ℕ) → L a t → M (f a) t) (from : (b : B) (t : List ℕ) → M b t → (a : A) × (b ≡ f a) × L a t) (p : Reader e L r) where
  mapped_sound : (xs : List ℕ) (b : B) (rest : List ℕ) → mapped f r xs ≡ Ok (b, rest) → Taken e M b xs rest
  mapped_sound xs b rest h =
      let m = bind_ok (r xs) (λ x. Ok (f x.0, x.1)) (b, rest) h in
      let same : (f m.0.0, m.0.1) ≡ (b, rest) = pair_is (f m.0.0, m.0.1) (b, rest) m.2 in
      let t = p.sound xs m.0.0 m.0.1 m.1 in
      subst (λ (y : B × List ℕ). Taken e M y.0 xs y.1) same (record { text = t.text; parts = t.parts; stop = t.stop; spelled = to m.0.0 t.text t.spelled })

  mapped_complete : (b : B) (text rest : List ℕ) → M b text → stops e rest ≡ true → mapped f r (text ++ rest) ≡ Ok (b, rest)
  mapped_complete b text rest l s =
      let a = from b text l in
      ap (λ (o : Result (A × List ℕ) Stop). o >>= λ x. Ok (f x.0, x.1)) (p.complete a.0 text rest a.2 s) ∙ ap (λ (y : B). Ok (y, rest)) (sym a.1)

  mapped_ends : (xs : List ℕ) → (w : Option ℕ) × (r xs ≡ Err (Ends w)) → (w : Option ℕ) × (mapped f r xs ≡ Err (Ends w))
  mapped_ends xs h = (h.0, ap (λ (o : Result (A × List ℕ) Stop). o >>= λ x. Ok (f x.0, x.1)) h.1)

  mapped_err : (xs : List ℕ) (s : Stop) → mapped f r xs ≡ Err s → r xs ≡ Err s
  mapped_err xs s h =
      elim (bind_err (r xs) (λ x. Ok (f x.0, x.1)) s h) [
        | inl one ↦ one
        | inr x ↦ absurd (let wrong = x.2 in cc)
      ]

  mapped_bad : (xs : List ℕ) (k : Kind) (n : ℕ) → mapped f r xs ≡ Err (Fails k n) → Refused (mapped f r) xs k n
  mapped_bad xs k n h =
      let b = p.bad xs k n (mapped_err xs (Fails k n) h) in
      record {
        front = b.front;
        byte = b.byte;
        rest = b.rest;
        parts = b.parts;
        left = b.left;
        ends = mapped_ends b.front b.ends;
        stays = λ z. ap (λ (o : Result (A × List ℕ) Stop). o >>= λ x. Ok (f x.0, x.1)) (b.stays z);
      }

  pub mapped_reader : Reader e M (mapped f r)
  mapped_reader = record {
    start = mapped_ends [] p.start;
    sound = mapped_sound;
    complete = mapped_complete;
    open_end = λ b text l s. let a = from b text l in mapped_ends text (p.open_end a.0 text a.2 s);
    more = λ xs w h. let m = p.more xs w (mapped_err xs (Ends w) h) in (m.0, f m.1, to m.1 (xs ++ m.0) m.2);
    bad = mapped_bad;
  }

-- ---- joined texts

module _ {A : Type 0} {e d : Ender} {P : List ℕ → Type 0} {L : A → List ℕ → Type 0} {r : List ℕ → Result (Unit {0} × List ℕ) Stop} {s : List ℕ → Result (A × List ℕ) Stop} (p : Reader e (λ _ t. P t) r) (q : Reader d L s) (follows : (xs : List ℕ) → stops e xs ≡ false → s xs ≡ stuck xs) where
  pub skip_reader : Reader d (λ a. P ⨾ L a) (skip r s)
  skip_reader = same_reader
      (λ a t h. record { front = h.front; back = h.back; parts = h.parts; first = h.first; second = h.second })
      (λ a t h. record { value = tt; front = h.front; back = h.back; parts = h.parts; first = h.first; second = h.second })
      (seq_reader p (λ _. q) (λ _. follows))

pub stuck_bind : {A B : Type 0} (o : Result (A × List ℕ) Stop) (xs : List ℕ) (g : A × List ℕ → Result (B × List ℕ) Stop) → o ≡ stuck xs → (o >>= g) ≡ stuck xs
stuck_bind {A} o [] g h = ap (λ (o : Result (A × List ℕ) Stop). o >>= g) h
stuck_bind {A} o (c ∷ cs) g h = ap (λ (o : Result (A × List ℕ) Stop). o >>= g) h

module _ {A : Type 0} {e d : Ender} {L : A → List ℕ → Type 0} {Q : List ℕ → Type 0} {r : List ℕ → Result (A × List ℕ) Stop} {s : List ℕ → Result (Unit {0} × List ℕ) Stop} (p : Reader e L r) (q : Reader d (λ _ t. Q t) s) (follows : (xs : List ℕ) → stops e xs ≡ false → s xs ≡ stuck xs) where
  pub keep_reader : Reader d (λ a. L a ⨾ Q) (keep r s)
  keep_reader = same_reader
      (λ a t h. let back : Q h.back = h.second.1 in let front : L a h.front = subst (λ (v : A). L v h.front) (sym h.second.0) h.first in record { front = h.front; back = h.back; parts = h.parts; first = front; second = back })
      (λ a t h. record { value = a; front = h.front; back = h.back; parts = h.parts; first = h.first; second = (refl, h.second) })
      (seq_reader {M = λ a b t. (b ≡ a) × Q t} p (λ a. mapped_reader {M = λ b t. (b ≡ a) × Q t} (λ _. a) (λ _ t h. (refl, h)) (λ b t h. (tt, h.0, h.1)) q) (λ a xs h. stuck_bind (s xs) xs (λ x. Ok (a, x.1)) (follows xs h)))

module _ {A B : Type 0} {e d : Ender} {L : A → List ℕ → Type 0} {M : B → List ℕ → Type 0} {r : List ℕ → Result (A × List ℕ) Stop} {s : List ℕ → Result (B × List ℕ) Stop} (p : Reader e L r) (q : Reader d M s) (follows : (xs : List ℕ) → stops e xs ≡ false → s xs ≡ stuck xs) where
  pub both_reader : Reader d (λ v. L v.0 ⨾ M v.1) (both r s)
  both_reader = same_reader
      (λ v t h. let front : L v.0 h.front = subst (λ (x : A). L x h.front) (sym h.second.0) h.first in record { front = h.front; back = h.back; parts = h.parts; first = front; second = h.second.1 })
      (λ v t h. record { value = v.0; front = h.front; back = h.back; parts = h.parts; first = h.first; second = (refl, h.second) })
      (seq_reader {M = λ a v t. (v.0 ≡ a) × M v.1 t} p (λ a. mapped_reader {M = λ v t. (v.0 ≡ a) × M v.1 t} (λ b. (a, b)) (λ _ t h. (refl, h)) (λ v t h. (v.1, ap (λ (x : A). (x, v.1)) h.0, h.1)) q) (λ a xs h. stuck_bind (s xs) xs (λ x. Ok ((a, x.0), x.1)) (follows xs h)))

-- ---- what may follow

-- after a text that ends by itself anything may follow
pub after_closed : {A : Type 0} (s : List ℕ → Result (A × List ℕ) Stop) (xs : List ℕ) → stops Closed xs ≡ false → s xs ≡ stuck xs
after_closed s xs h = absurd (true≢false h)

-- a byte that does not go on with a token may follow it
pub after_open : (g : ℕ → Bool) (c : ℕ) → g c ≡ false → (xs : List ℕ) → stops (Open g) xs ≡ false → byte_at c xs ≡ stuck xs
after_open g c n [] h = refl
after_open g c n (b ∷ bs) h =
    elim (cases_Bool (eqb b c)) [
      | inl e ↦ let same : g b ≡ false = ap g (eqb-true b c e) ∙ n in absurd (true≢false (ap not (sym same) ∙ h))
      | inr e ↦ ap (λ (x : Bool). cond x (Ok (tt, bs)) (stuck (b ∷ bs))) e
    ]

-- ---- one byte

byte_sound : (c : ℕ) (xs : List ℕ) (u : Unit {0}) (rest : List ℕ) → byte_at c xs ≡ Ok (u, rest) → Taken Closed (λ _ t. Is (c ∷ []) t) u xs rest
byte_sound c [] u rest h = absurd cc
byte_sound c (b ∷ bs) u rest h =
    elim (cases_Bool (eqb b c)) [
      | inl e ↦
          let read : Ok (tt, bs) ≡ Ok (u, rest) = sym (ap (λ (x : Bool). cond x (Ok (tt, bs)) (stuck (b ∷ bs))) e) ∙ h in
          let same : bs ≡ rest = ap (λ (x : Unit {0} × List ℕ). x.1) (pair_is (tt, bs) (u, rest) read) in
          record { text = c ∷ []; parts = ap (λ (x : ℕ). x ∷ bs) (eqb-true b c e) ∙ ap (λ (x : List ℕ). c ∷ x) same; stop = refl; spelled = refl }
      | inr e ↦
          let read : Err (Fails Syntax (length (b ∷ bs))) ≡ Ok (u, rest) = sym (ap (λ (x : Bool). cond x (Ok (tt, bs)) (stuck (b ∷ bs))) e) ∙ h in absurd cc
    ]

byte_more : (c : ℕ) (xs : List ℕ) (w : Option ℕ) → byte_at c xs ≡ Err (Ends w) → (z : List ℕ) × (u : Unit {0}) × Is (c ∷ []) (xs ++ z)
byte_more c [] w h = (c ∷ [], tt, refl)
byte_more c (b ∷ bs) w h =
    elim (cases_Bool (eqb b c)) [
      | inl e ↦ let read : Ok (tt, bs) ≡ Err (Ends w) = sym (ap (λ (x : Bool). cond x (Ok (tt, bs)) (stuck (b ∷ bs))) e) ∙ h in absurd cc
      | inr e ↦ let read : Err (Fails Syntax (length (b ∷ bs))) ≡ Err (Ends w) = sym (ap (λ (x : Bool). cond x (Ok (tt, bs)) (stuck (b ∷ bs))) e) ∙ h in absurd cc
    ]

byte_bad : (c : ℕ) (xs : List ℕ) (k : Kind) (n : ℕ) → byte_at c xs ≡ Err (Fails k n) → Refused (byte_at c) xs k n
byte_bad c [] k n h = absurd cc
byte_bad c (b ∷ bs) k n h =
    elim (cases_Bool (eqb b c)) [
      | inl e ↦ let read : Ok (tt, bs) ≡ Err (Fails k n) = sym (ap (λ (x : Bool). cond x (Ok (tt, bs)) (stuck (b ∷ bs))) e) ∙ h in absurd cc
      | inr e ↦
          let read : Err (Fails Syntax (length (b ∷ bs))) ≡ Err (Fails k n) = sym (ap (λ (x : Bool). cond x (Ok (tt, bs)) (stuck (b ∷ bs))) e) ∙ h in
          let kind : Syntax ≡ k = cc in
          let left : length (b ∷ bs) ≡ n = cc in
          record {
            front = [];
            byte = b;
            rest = bs;
            parts = refl;
            left = sym left;
            ends = (None, refl);
            stays = λ z. ap (λ (x : Bool). cond x (Ok (tt, z)) (stuck (b ∷ z))) e ∙ ap (λ (x : Kind). Err (Fails x (length (b ∷ z)))) kind;
          }
    ]

byte_complete : (c : ℕ) (u : Unit {0}) (text rest : List ℕ) → Is (c ∷ []) text → byte_at c (text ++ rest) ≡ Ok (u, rest)
byte_complete c u text rest l = ap (λ (t : List ℕ). byte_at c (t ++ rest)) l ∙ ap (λ (x : Bool). cond x (Ok (u, rest)) (stuck (c ∷ rest))) (eq-eqb c c refl)

pub byte_reader : (c : ℕ) → Reader Closed (λ _ t. Is (c ∷ []) t) (byte_at c)
byte_reader c = record {
  start = (None, refl);
  sound = byte_sound c;
  complete = λ u text rest l s. byte_complete c u text rest l;
  open_end = λ u text l s. absurd (true≢false s);
  more = byte_more c;
  bad = byte_bad c;
}
