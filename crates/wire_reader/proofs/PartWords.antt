-- Words in any case, and one of several words, as parts of a grammar.
use Rattle.std.proofs.Common.{◌≡◌, ℕ, ◌≤◌, Bool, true, false, cond, eqb, List, [], ◌∷◌, length, Option, Result, Err, refl, sym, ap, ◌∙◌, inl, inr, arith}
use Rattle.std.proofs.lemmas.Bool.{cases_Bool, eqb-true, and_parts}
use Rattle.wire_reader.specs.declared.side.Speaker.{Speaker}
use Rattle.wire_reader.specs.declared.lexical.Phase.{Phase}
use Rattle.wire_reader.specs.declared.lexical.Phase.TheVariants.{Plain}
use Rattle.wire_reader.specs.declared.stop.Kind.{Kind}
use Rattle.wire_reader.specs.declared.stop.Kind.TheVariants.{Syntax}
use Rattle.wire_reader.specs.declared.stop.Stop.{Stop}
use Rattle.wire_reader.specs.declared.stop.Stop.TheVariants.{Ends, Fails}
use Rattle.wire_reader.specs.Lexical.{phase, is_in, asks_from}
use Rattle.wire_reader.specs.Spelling.{upper, Word}
use Rattle.wire_reader.specs.Reading.{stuck, mapped}
use Rattle.wire_reader.specs.Words.{word_at, alt, keys_at}
use Rattle.wire_reader.proofs.Reader.{Closed}
use Rattle.wire_reader.proofs.Words.{IsUpperWord, any_word_reader, keys_reader, Among, distinct, either_ends, either_fails}
use Rattle.wire_reader.proofs.Lexed.{Lexed, kind_at, dry, asks-step, kind-first, kind-step}
use Rattle.wire_reader.proofs.LexedSeq.{mapped_stop, mapped_lexed}
use Rattle.wire_reader.proofs.Braceless.{braceless, stays_plain, upper_braceless, word_braceless, braceless-phase, braceless-asks}
use Rattle.wire_reader.proofs.Part.{Part}

-- a word of at least one byte, in upper case, without `{`
abbrev pub IsKeyword : List ℕ → Type 0
IsKeyword w = IsUpperWord w × (braceless w ≡ true)

abbrev at_byte : List ℕ → ℕ → List ℕ → Bool → Result (Unit {0} × List ℕ) Stop
at_byte cs b bs t = cond t (word_at cs bs) (stuck (b ∷ bs))

word_asks : (side : Speaker) (w xs : List ℕ) (v : Option ℕ) → braceless w ≡ true → word_at w xs ≡ Err (Ends v) → asks_from side Plain xs ≡ v
word_asks side [] xs v plain h = absurd cc
word_asks side (c ∷ cs) [] v plain h = cc
word_asks side (c ∷ cs) (b ∷ bs) v plain h =
    elim (cases_Bool (eqb (upper b) c)) [
      | inl e ↦
          let p = and_parts _ _ plain in
          let same = stays_plain b (upper_braceless b c (eqb-true (upper b) c e) p.0) in
          asks-step side Plain b bs refl ∙ ap (λ (x : Phase). asks_from side x bs) same ∙ word_asks side cs bs v p.1 (sym (ap (at_byte cs b bs) e) ∙ h)
      | inr e ↦ let wrong : at_byte cs b bs false ≡ Err (Ends v) = sym (ap (at_byte cs b bs) e) ∙ h in absurd cc
    ]

word_out : (w xs : List ℕ) (v : Option ℕ) → braceless w ≡ true → word_at w xs ≡ Err (Ends v) → is_in (phase Plain xs) ≡ false
word_out [] xs v plain h = absurd cc
word_out (c ∷ cs) [] v plain h = refl
word_out (c ∷ cs) (b ∷ bs) v plain h =
    elim (cases_Bool (eqb (upper b) c)) [
      | inl e ↦
          let p = and_parts _ _ plain in
          let same = stays_plain b (upper_braceless b c (eqb-true (upper b) c e) p.0) in
          ap (λ (x : Phase). is_in (phase x bs)) same ∙ word_out cs bs v p.1 (sym (ap (at_byte cs b bs) e) ∙ h)
      | inr e ↦ let wrong : at_byte cs b bs false ≡ Err (Ends v) = sym (ap (at_byte cs b bs) e) ∙ h in absurd cc
    ]

word_left : (w xs : List ℕ) (k : Kind) (n : ℕ) → word_at w xs ≡ Err (Fails k n) → n ≤ length xs
word_left [] xs k n h = absurd cc
word_left (c ∷ cs) [] k n h = absurd cc
word_left (c ∷ cs) (b ∷ bs) k n h =
    elim (cases_Bool (eqb (upper b) c)) [
      | inl e ↦ let l = word_left cs bs k n (sym (ap (at_byte cs b bs) e) ∙ h) in omega (arith, l)
      | inr e ↦
          let read : at_byte cs b bs false ≡ Err (Fails k n) = sym (ap (at_byte cs b bs) e) ∙ h in
          let left : length (b ∷ bs) ≡ n = cc in omega (arith, left)
    ]

word_kind : (side : Speaker) (w xs : List ℕ) (k : Kind) (n : ℕ) → braceless w ≡ true → word_at w xs ≡ Err (Fails k n) → kind_at side Plain n xs ≡ k
word_kind side [] xs k n plain h = absurd cc
word_kind side (c ∷ cs) [] k n plain h = absurd cc
word_kind side (c ∷ cs) (b ∷ bs) k n plain h =
    elim (cases_Bool (eqb (upper b) c)) [
      | inl e ↦
          let p = and_parts _ _ plain in
          let same = stays_plain b (upper_braceless b c (eqb-true (upper b) c e) p.0) in
          let there = sym (ap (at_byte cs b bs) e) ∙ h in
          kind-step side Plain n b bs (word_left cs bs k n there) ∙ ap (λ (x : Phase). kind_at side x n bs) same ∙ word_kind side cs bs k n p.1 there
      | inr e ↦
          let read : at_byte cs b bs false ≡ Err (Fails k n) = sym (ap (at_byte cs b bs) e) ∙ h in
          let kind : Syntax ≡ k = cc in
          let left : length (b ∷ bs) ≡ n = cc in
          ap (λ (m : ℕ). kind_at side Plain m (b ∷ bs)) (sym left) ∙ kind-first side Plain b bs ∙ kind
    ]

word_lexed : (side : Speaker) (w : List ℕ) → braceless w ≡ true → Lexed side Plain (word_at w)
word_lexed side w plain = record { asks = λ xs v h. word_asks side w xs v plain h; kind = λ xs k n h. word_kind side w xs k n plain h; octets = dry Plain (word_at w) (λ xs v h. word_out w xs v plain h) }

-- a word in any case
pub word_part : {side : Speaker} (w : List ℕ) → IsKeyword w → Part side true Closed (λ _ t. Word w t) (word_at w)
word_part {side} w good = record {
  reader = any_word_reader w good.0;
  lexed = word_lexed side w good.1;
  leads = λ _. record {
    after = λ _ t h. braceless-phase t (word_braceless w t good.1 h);
    quiet = λ _ t h s. braceless-asks side t (word_braceless w t good.1 h);
  };
}

-- ---- one of two

-- the bytes end outside literals
abbrev Out : {A : Type 0} → (List ℕ → Result (A × List ℕ) Stop) → Type 0
Out r = (xs : List ℕ) (w : Option ℕ) → r xs ≡ Err (Ends w) → is_in (phase Plain xs) ≡ false

alt_out : {A : Type 0} (r s : List ℕ → Result (A × List ℕ) Stop) → Out r → Out s → Out (alt r s)
alt_out r s p q xs w h = elim (either_ends (r xs) (s xs) w h) [ inl e ↦ p xs w e | inr e ↦ q xs w e ]

alt_lexed : {A : Type 0} {side : Speaker} {r s : List ℕ → Result (A × List ℕ) Stop} → Lexed side Plain r → Lexed side Plain s → Out (alt r s) → Lexed side Plain (alt r s)
alt_lexed {A} {side} {r} {s} p q out = record { asks = alt_asks; kind = alt_kind; octets = dry Plain (alt r s) out }
  where
    alt_asks : (xs : List ℕ) (w : Option ℕ) → alt r s xs ≡ Err (Ends w) → asks_from side Plain xs ≡ w
    alt_asks xs w h = elim (either_ends (r xs) (s xs) w h) [ inl e ↦ p.asks xs w e | inr e ↦ q.asks xs w e ]

    alt_kind : (xs : List ℕ) (k : Kind) (n : ℕ) → alt r s xs ≡ Err (Fails k n) → kind_at side Plain n xs ≡ k
    alt_kind xs k n h =
        let b = either_fails (r xs) (s xs) k n h in
        elim b.which [
          | inl w ↦ ap (λ (m : ℕ). kind_at side Plain m xs) (sym w.2) ∙ q.kind xs b.k2 b.n2 b.two ∙ w.1
          | inr w ↦ ap (λ (m : ℕ). kind_at side Plain m xs) (sym w.2) ∙ p.kind xs b.k1 b.n1 b.one ∙ w.1
        ]

-- ---- one of several words

module _ {K : Type 0} (word : K → List ℕ) (good : (k : K) → IsKeyword (word k)) where
  key_out : (k : K) → Out (mapped (λ _. k) (word_at (word k)))
  key_out k xs w h = word_out (word k) xs w (good k).1 (mapped_stop (λ _. k) (word_at (word k)) xs (Ends w) h)

  keys_out : (k : K) (ks : List K) → Out (keys_at word k ks)
  keys_out k [] = key_out k
  keys_out k (l ∷ ks) = alt_out (mapped (λ _. k) (word_at (word k))) (keys_at word l ks) (key_out k) (keys_out l ks)

module _ {K : Type 0} {side : Speaker} (word : K → List ℕ) (good : (k : K) → IsKeyword (word k)) where
  keys_lexed : (k : K) (ks : List K) → Lexed side Plain (keys_at word k ks)
  keys_lexed k [] = mapped_lexed (λ _. k) (word_lexed side (word k) (good k).1)
  keys_lexed k (l ∷ ks) = alt_lexed (mapped_lexed (λ _. k) (word_lexed side (word k) (good k).1)) (keys_lexed l ks) (keys_out word good k (l ∷ ks))

  pub keys_part : (k : K) (ks : List K) → distinct word (λ k. (good k).0) k ks ≡ true → Part side true Closed (λ x t. Among word (λ k. (good k).0) k ks x × Word (word x) t) (keys_at word k ks)
  keys_part k ks d = record {
    reader = keys_reader word (λ k. (good k).0) k ks d;
    lexed = keys_lexed k ks;
    leads = λ _. record {
      after = λ x t h. braceless-phase t (word_braceless (word x) t (good x).1 h.1);
      quiet = λ x t h s. braceless-asks side t (word_braceless (word x) t (good x).1 h.1);
    };
  }
