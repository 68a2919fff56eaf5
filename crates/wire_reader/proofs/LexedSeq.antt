-- One reader after another stops as the bytes say, if both do and the texts of the first lead to where the second begins.
use Rattle.std.proofs.Common.{◌≡◌, ℕ, ◌≤◌, true, false, eqb, List, [], ◌∷◌, ◌++◌, length, Option, None, Result, Ok, Err, refl, sym, ap, ◌∙◌, append_assoc, inl, inr, arith}
use Rattle.std.proofs.lemmas.Bool.{false≢true}
use Rattle.std.proofs.lemmas.List.{append-nil, length-append}
use Rattle.wire_reader.specs.declared.side.Speaker.{Speaker}
use Rattle.wire_reader.specs.declared.lexical.Phase.{Phase}
use Rattle.wire_reader.specs.declared.stop.Kind.{Kind}
use Rattle.wire_reader.specs.declared.stop.Stop.{Stop}
use Rattle.wire_reader.specs.declared.stop.Stop.TheVariants.{Ends, Fails}
use Rattle.wire_reader.specs.Lexical.{phase, is_in, asks_from}
use Rattle.wire_reader.specs.Reading.{◌>>=◌, seq, mapped}
use Rattle.wire_reader.proofs.Reader.{Ender, Closed, Open, stops, Reader, bind_err}
use Rattle.wire_reader.proofs.Lexed.{Lexed, Leads, kind_at, phase-append, asks-append, kind-append}

-- ---- along a text in two parts

pub two-phases : (p q : Phase) (front back : List ℕ) → phase p front ≡ q → phase p (front ++ back) ≡ phase q back
two-phases p q front back h = phase-append p front back ∙ ap (λ (x : Phase). phase x back) h

pub two-quiet : (side : Speaker) (p q : Phase) (front back : List ℕ) → phase p front ≡ q → asks_from side q back ≡ None → (back ≡ [] → ⊥) → asks_from side p (front ++ back) ≡ None
two-quiet side p q front [] h none some = absurd (some refl)
two-quiet side p q front (c ∷ cs) h none some = asks-append side p front c cs ∙ ap (λ (x : Phase). asks_from side x (c ∷ cs)) h ∙ none

no_value : {A : Type 0} (x : A × List ℕ) (s : Stop) → (let o : Result (A × List ℕ) Stop = Ok x in o ≡ Err s) → ⊥
no_value x s h = cc

-- a text that ends by itself has a byte
pub some_byte : {A : Type 0} {e : Ender} {L : A → List ℕ → Type 0} {r : List ℕ → Result (A × List ℕ) Stop} → Reader e L r → (a : A) (t : List ℕ) → L a t → stops e [] ≡ true → t ≡ [] → ⊥
some_byte {A} {e} {L} {r} p a [] l s n = no_value (a, []) (Ends p.start.0) (sym (p.complete a [] [] l s) ∙ p.start.1)
some_byte {A} {e} {L} {r} p a (b ∷ t) l s n = absurd cc

-- no more bytes are left than there were
pub left_within : {A : Type 0} {e : Ender} {L : A → List ℕ → Type 0} {r : List ℕ → Result (A × List ℕ) Stop} → Reader e L r → (xs : List ℕ) (k : Kind) (n : ℕ) → r xs ≡ Err (Fails k n) → n ≤ length xs
left_within p xs k n h = let b = p.bad xs k n h in let l = b.left in omega (arith, ap length b.parts, length-append b.front (b.byte ∷ b.rest))

-- more may follow what ends a token
pub stops_on : (e : Ender) (xs ys : List ℕ) → stops e xs ≡ true → stops e (xs ++ ys) ≡ true
stops_on Closed xs ys h = refl
stops_on (Open g) [] ys h = absurd (false≢true h)
stops_on (Open g) (c ∷ cs) ys h = h

-- ---- one after the other

module _ {A B : Type 0} {side : Speaker} {e d : Ender} {p : Phase} {q : A → Phase} {L : A → List ℕ → Type 0} {M : A → B → List ℕ → Type 0} {r : List ℕ → Result (A × List ℕ) Stop} {f : A → List ℕ → Result (B × List ℕ) Stop} (first : Reader e L r) (x : Lexed side p r) (l : Leads side e p L q) (second : (a : A) → Reader d (M a) (f a)) (y : (a : A) → Lexed side (q a) (f a)) where
  following : (a : A) (text mid : List ℕ) (w : Option ℕ) → L a text → stops e mid ≡ true → f a mid ≡ Err (Ends w) → asks_from side p (text ++ mid) ≡ w
  following a text [] w t s h = ap (asks_from side p) (append-nil text) ∙ l.quiet a text t s ∙ (y a).asks [] w h
  following a text (c ∷ cs) w t s h = asks-append side p text c cs ∙ ap (λ (ph : Phase). asks_from side ph (c ∷ cs)) (l.after a text t) ∙ (y a).asks (c ∷ cs) w h

  seq_asks : (xs : List ℕ) (w : Option ℕ) → seq r f xs ≡ Err (Ends w) → asks_from side p xs ≡ w
  seq_asks xs w h =
      elim (bind_err (r xs) (λ x. f x.0 x.1) (Ends w) h) [
        | inl one ↦ x.asks xs w one
        | inr m ↦ let t = first.sound xs m.0.0 m.0.1 m.1 in ap (asks_from side p) t.parts ∙ following m.0.0 t.text m.0.1 w t.spelled t.stop m.2
      ]

  seq_kind : (xs : List ℕ) (k : Kind) (n : ℕ) → seq r f xs ≡ Err (Fails k n) → kind_at side p n xs ≡ k
  seq_kind xs k n h =
      elim (bind_err (r xs) (λ x. f x.0 x.1) (Fails k n) h) [
        | inl one ↦ x.kind xs k n one
        | inr m ↦
            let a = m.0.0 in
            let t = first.sound xs a m.0.1 m.1 in
            ap (kind_at side p n) t.parts ∙ kind-append side p n t.text m.0.1 (left_within (second a) m.0.1 k n m.2)
            ∙ ap (λ (ph : Phase). kind_at side ph n m.0.1) (l.after a t.text t.spelled) ∙ (y a).kind m.0.1 k n m.2
      ]

  seq_octets : (xs : List ℕ) (w : Option ℕ) (b : ℕ) → seq r f xs ≡ Err (Ends w) → is_in (phase p xs) ≡ true → eqb b 0 ≡ false → (v : Option ℕ) × (seq r f (xs ++ b ∷ []) ≡ Err (Ends v))
  seq_octets xs w b h i n =
      elim (bind_err (r xs) (λ x. f x.0 x.1) (Ends w) h) [
        | inl one ↦ let o = x.octets xs w b one i n in (o.0, ap (λ (o : Result (A × List ℕ) Stop). o >>= λ x. f x.0 x.1) o.1)
        | inr m ↦
            let a = m.0.0 in
            let t = first.sound xs a m.0.1 m.1 in
            let inside : is_in (phase (q a) m.0.1) ≡ true = ap is_in (sym (ap (phase p) t.parts ∙ two-phases p (q a) t.text m.0.1 (l.after a t.text t.spelled))) ∙ i in
            let o = (y a).octets m.0.1 w b m.2 inside n in (
              o.0,
              ap (seq r f) (ap (λ (z : List ℕ). z ++ b ∷ []) t.parts ∙ append_assoc t.text m.0.1 (b ∷ []))
                  ∙ ap (λ (o : Result (A × List ℕ) Stop). o >>= λ x. f x.0 x.1) (first.complete a t.text (m.0.1 ++ b ∷ []) t.spelled (stops_on e m.0.1 (b ∷ []) t.stop)) ∙ o.1,
            )
      ]

  pub seq_lexed : Lexed side p (seq r f)
  seq_lexed = record { asks = seq_asks; kind = seq_kind; octets = seq_octets }

-- ---- a value under a function

pub mapped_stop : {A B : Type 0} (f : A → B) (r : List ℕ → Result (A × List ℕ) Stop) (xs : List ℕ) (s : Stop) → mapped f r xs ≡ Err s → r xs ≡ Err s
mapped_stop f r xs s h =
    elim (bind_err (r xs) (λ x. Ok (f x.0, x.1)) s h) [
      | inl one ↦ one
      | inr x ↦ absurd (let wrong = x.2 in cc)
    ]

pub mapped_lexed : {A B : Type 0} {side : Speaker} {p : Phase} {r : List ℕ → Result (A × List ℕ) Stop} (f : A → B) → Lexed side p r → Lexed side p (mapped f r)
mapped_lexed {A} {r} f x = record {
  asks = λ xs w h. x.asks xs w (mapped_stop f r xs (Ends w) h);
  kind = λ xs k n h. x.kind xs k n (mapped_stop f r xs (Fails k n) h);
  octets = λ xs w b h i n. let o = x.octets xs w b (mapped_stop f r xs (Ends w) h) i n in (o.0, ap (λ (o : Result (A × List ℕ) Stop). o >>= λ x. Ok (f x.0, x.1)) o.1);
}
