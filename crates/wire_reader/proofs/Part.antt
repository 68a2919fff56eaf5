-- A part of a line's grammar: a reader of its language that stops as the bytes alone say. Parts are put together here;
-- a part whose texts lead back to where no literal is under way (`true`) may stand before others, and any may stand last.
use Rattle.std.proofs.Common.{◌≡◌, ℕ, Bool, true, false, cond, eqb, List, [], ◌∷◌, ◌++◌, length, Option, Result, Ok, Err, refl, sym, ap, ◌∙◌, inl, inr, ◌⊎◌}
use Rattle.std.proofs.lemmas.Bool.{cases_Bool, false≢true}
use Rattle.wire_reader.specs.declared.side.Speaker.{Speaker}
use Rattle.wire_reader.specs.declared.lexical.Phase.{Phase}
use Rattle.wire_reader.specs.declared.lexical.Phase.TheVariants.{Plain, Brace}
use Rattle.wire_reader.specs.declared.stop.Kind.{Kind}
use Rattle.wire_reader.specs.declared.stop.Kind.TheVariants.{Syntax}
use Rattle.wire_reader.specs.declared.stop.Stop.{Stop}
use Rattle.wire_reader.specs.declared.stop.Stop.TheVariants.{Ends, Fails}
use Rattle.wire_reader.specs.Lexical.{phase, is_in, asks_from, kind_of}
use Rattle.wire_reader.specs.Spelling.{◌⨾◌, ThenBy, Is, crlf}
use Rattle.wire_reader.specs.Reading.{stuck, seq, mapped, skip, keep, both, by_first, byte_at, crlf_at}
use Rattle.wire_reader.proofs.Reader.{Ender, Closed, stops, Reader, seq_reader}
use Rattle.wire_reader.proofs.Parts.{same_reader, mapped_reader, keep_reader, both_reader, byte_reader, after_closed}
use Rattle.wire_reader.proofs.First.{Begins, as_reader, first_reader}
use Rattle.wire_reader.proofs.Lexed.{Lexed, Leads, kind_at, dry, kind-first}
use Rattle.wire_reader.proofs.LexedSeq.{two-phases, two-quiet, some_byte, seq_lexed, mapped_lexed}

pub record Part {A : Type 0} (side : Speaker) (back : Bool) (e : Ender) (L : A → List ℕ → Type 0) (r : List ℕ → Result (A × List ℕ) Stop) : Type 0 where
  pub reader : Reader e L r
  pub lexed : Lexed side Plain r
  pub leads : back ≡ true → Leads side e Plain L (λ _. Plain)

-- a part that may stand anywhere may stand last
pub last_part : {A : Type 0} {side : Speaker} {back : Bool} {e : Ender} {L : A → List ℕ → Type 0} {r : List ℕ → Result (A × List ℕ) Stop} → Part side back e L r → Part side false e L r
last_part p = record { reader = p.reader; lexed = p.lexed; leads = λ h. absurd (false≢true h) }

-- ---- the same language or function, said otherwise

module _ {A : Type 0} {side : Speaker} {k : Bool} {e : Ender} {L M : A → List ℕ → Type 0} {r : List ℕ → Result (A × List ℕ) Stop} (to : (a : A) (t : List ℕ) → L a t → M a t) (from : (a : A) (t : List ℕ) → M a t → L a t) (p : Part side k e L r) where
  pub same_part : Part side k e M r
  same_part = record {
    reader = same_reader to from p.reader;
    lexed = p.lexed;
    leads = λ b. let l = p.leads b in record { after = λ a t h. l.after a t (from a t h); quiet = λ a t h s. l.quiet a t (from a t h) s };
  }

module _ {A : Type 0} {side : Speaker} {k : Bool} {e : Ender} {L : A → List ℕ → Type 0} {r s : List ℕ → Result (A × List ℕ) Stop} (same : (xs : List ℕ) → s xs ≡ r xs) (p : Part side k e L r) where
  pub as_part : Part side k e L s
  as_part = record {
    reader = as_reader same p.reader;
    lexed = record { asks = λ xs w h. p.lexed.asks xs w (sym (same xs) ∙ h); kind = λ xs i n h. p.lexed.kind xs i n (sym (same xs) ∙ h); octets = λ xs w b h i n. let o = p.lexed.octets xs w b (sym (same xs) ∙ h) i n in (o.0, same (xs ++ b ∷ []) ∙ o.1) };
    leads = p.leads;
  }

-- ---- a value under a function

module _ {A B : Type 0} {side : Speaker} {k : Bool} {e : Ender} {L : A → List ℕ → Type 0} {M : B → List ℕ → Type 0} {r : List ℕ → Result (A × List ℕ) Stop} (f : A → B) (to : (a : A) (t : List ℕ) → L a t → M (f a) t) (from : (b : B) (t : List ℕ) → M b t → (a : A) × (b ≡ f a) × L a t) (p : Part side k e L r) where
  pub mapped_part : Part side k e M (mapped f r)
  mapped_part = record {
    reader = mapped_reader f to from p.reader;
    lexed = mapped_lexed f p.lexed;
    leads = λ b. let l = p.leads b in record { after = λ v t h. let a = from v t h in l.after a.0 t a.2; quiet = λ v t h s. let a = from v t h in l.quiet a.0 t a.2 s };
  }

-- ---- one after the other

module _ {A B : Type 0} {side : Speaker} {k : Bool} {e d : Ender} {L : A → List ℕ → Type 0} {M : A → B → List ℕ → Type 0} {r : List ℕ → Result (A × List ℕ) Stop} {f : A → List ℕ → Result (B × List ℕ) Stop} (p : Part side true e L r) (q : (a : A) → Part side k d (M a) (f a)) (follows : (a : A) (xs : List ℕ) → stops e xs ≡ false → f a xs ≡ stuck xs) where
  seq_leads : k ≡ true → Leads side d Plain (ThenBy L M) (λ _. Plain)
  seq_leads b =
      let l = p.leads refl in
      record {
        after = λ v t h. ap (phase Plain) h.parts ∙ two-phases Plain Plain h.front h.back (l.after h.value h.front h.first) ∙ ((q h.value).leads b).after v h.back h.second;
        quiet = λ v t h s. ap (asks_from side Plain) h.parts ∙ two-quiet side Plain Plain h.front h.back (l.after h.value h.front h.first) (((q h.value).leads b).quiet v h.back h.second s) (some_byte (q h.value).reader v h.back h.second s);
      }

  pub seq_part : Part side k d (ThenBy L M) (seq r f)
  seq_part = record {
    reader = seq_reader p.reader (λ a. (q a).reader) follows;
    lexed = seq_lexed p.reader p.lexed (p.leads refl) (λ a. (q a).reader) (λ a. (q a).lexed);
    leads = seq_leads;
  }

module _ {A : Type 0} {side : Speaker} {k : Bool} {e d : Ender} {P : List ℕ → Type 0} {L : A → List ℕ → Type 0} {r : List ℕ → Result (Unit {0} × List ℕ) Stop} {s : List ℕ → Result (A × List ℕ) Stop} (p : Part side true e (λ _ t. P t) r) (q : Part side k d L s) (follows : (xs : List ℕ) → stops e xs ≡ false → s xs ≡ stuck xs) where
  pub skip_part : Part side k d (λ a. P ⨾ L a) (skip r s)
  skip_part = same_part
      (λ a t h. record { front = h.front; back = h.back; parts = h.parts; first = h.first; second = h.second })
      (λ a t h. record { value = tt; front = h.front; back = h.back; parts = h.parts; first = h.first; second = h.second })
      (seq_part p (λ _. q) (λ _. follows))

module _ {A B : Type 0} {side : Speaker} {k : Bool} {e d : Ender} {L : A → List ℕ → Type 0} {M : B → List ℕ → Type 0} {r : List ℕ → Result (A × List ℕ) Stop} {s : List ℕ → Result (B × List ℕ) Stop} (p : Part side true e L r) (q : Part side k d M s) (follows : (xs : List ℕ) → stops e xs ≡ false → s xs ≡ stuck xs) where
  pub both_part : Part side k d (λ v. L v.0 ⨾ M v.1) (both r s)
  both_part = record {
    reader = both_reader p.reader q.reader follows;
    lexed = seq_lexed {M = λ a v t. (v.0 ≡ a) × M v.1 t} p.reader p.lexed (p.leads refl)
        (λ a. mapped_reader {M = λ v t. (v.0 ≡ a) × M v.1 t} (λ b. (a, b)) (λ _ t h. (refl, h)) (λ v t h. (v.1, ap (λ (x : A). (x, v.1)) h.0, h.1)) q.reader)
        (λ a. mapped_lexed (λ b. (a, b)) q.lexed);
    leads = λ b. record {
      after = λ v t h. ap (phase Plain) h.parts ∙ two-phases Plain Plain h.front h.back ((p.leads refl).after v.0 h.front h.first) ∙ (q.leads b).after v.1 h.back h.second;
      quiet = λ v t h st. ap (asks_from side Plain) h.parts ∙ two-quiet side Plain Plain h.front h.back ((p.leads refl).after v.0 h.front h.first) ((q.leads b).quiet v.1 h.back h.second st) (some_byte q.reader v.1 h.back h.second st);
    };
  }

module _ {A : Type 0} {side : Speaker} {k : Bool} {e d : Ender} {L : A → List ℕ → Type 0} {Q : List ℕ → Type 0} {r : List ℕ → Result (A × List ℕ) Stop} {s : List ℕ → Result (Unit {0} × List ℕ) Stop} (p : Part side true e L r) (q : Part side k d (λ _ t. Q t) s) (follows : (xs : List ℕ) → stops e xs ≡ false → s xs ≡ stuck xs) where
  pub keep_part : Part side k d (λ a. L a ⨾ Q) (keep r s)
  keep_part = record {
    reader = keep_reader p.reader q.reader follows;
    lexed = seq_lexed {M = λ a b t. (b ≡ a) × Q t} p.reader p.lexed (p.leads refl)
        (λ a. mapped_reader {M = λ b t. (b ≡ a) × Q t} (λ _. a) (λ _ t h. (refl, h)) (λ b t h. (tt, h.0, h.1)) q.reader)
        (λ a. mapped_lexed (λ _. a) q.lexed);
    leads = λ b. record {
      after = λ a t h. ap (phase Plain) h.parts ∙ two-phases Plain Plain h.front h.back ((p.leads refl).after a h.front h.first) ∙ (q.leads b).after tt h.back h.second;
      quiet = λ a t h st. ap (asks_from side Plain) h.parts ∙ two-quiet side Plain Plain h.front h.back ((p.leads refl).after a h.front h.first) ((q.leads b).quiet tt h.back h.second st) (some_byte q.reader tt h.back h.second st);
    };
  }

-- ---- one of two, by the first byte

module _ {A : Type 0} {side : Speaker} {k : Bool} {e : Ender} {L M : A → List ℕ → Type 0} {r s : List ℕ → Result (A × List ℕ) Stop} (test : ℕ → Bool) (p : Part side k e L r) (q : Part side k e M s) (first : (a : A) (t : List ℕ) → L a t → Begins true test t) (second : (a : A) (t : List ℕ) → M a t → Begins false test t) where
  abbrev at : List ℕ → Bool → Result (A × List ℕ) Stop
  at xs t = cond t (r xs) (s xs)

  first_asks : (xs : List ℕ) (w : Option ℕ) → by_first test r s xs ≡ Err (Ends w) → asks_from side Plain xs ≡ w
  first_asks [] w h = cc
  first_asks (b ∷ bs) w h =
      elim (cases_Bool (test b)) [
        | inl g ↦ p.lexed.asks (b ∷ bs) w (sym (ap (at (b ∷ bs)) g) ∙ h)
        | inr g ↦ q.lexed.asks (b ∷ bs) w (sym (ap (at (b ∷ bs)) g) ∙ h)
      ]

  first_kind : (xs : List ℕ) (i : Kind) (n : ℕ) → by_first test r s xs ≡ Err (Fails i n) → kind_at side Plain n xs ≡ i
  first_kind [] i n h = absurd cc
  first_kind (b ∷ bs) i n h =
      elim (cases_Bool (test b)) [
        | inl g ↦ p.lexed.kind (b ∷ bs) i n (sym (ap (at (b ∷ bs)) g) ∙ h)
        | inr g ↦ q.lexed.kind (b ∷ bs) i n (sym (ap (at (b ∷ bs)) g) ∙ h)
      ]

  first_octets : (xs : List ℕ) (w : Option ℕ) (c : ℕ) → by_first test r s xs ≡ Err (Ends w) → is_in (phase Plain xs) ≡ true → eqb c 0 ≡ false → (v : Option ℕ) × (by_first test r s (xs ++ c ∷ []) ≡ Err (Ends v))
  first_octets [] w c h i n = absurd (false≢true i)
  first_octets (b ∷ bs) w c h i n =
      elim (cases_Bool (test b)) [
        | inl g ↦ let o = p.lexed.octets (b ∷ bs) w c (sym (ap (at (b ∷ bs)) g) ∙ h) i n in (o.0, ap (at (b ∷ bs ++ c ∷ [])) g ∙ o.1)
        | inr g ↦ let o = q.lexed.octets (b ∷ bs) w c (sym (ap (at (b ∷ bs)) g) ∙ h) i n in (o.0, ap (at (b ∷ bs ++ c ∷ [])) g ∙ o.1)
      ]

  pub first_part : Part side k e (λ a t. L a t ⊎ M a t) (by_first test r s)
  first_part = record {
    reader = first_reader test p.reader q.reader first second;
    lexed = record { asks = first_asks; kind = first_kind; octets = first_octets };
    leads = λ b. record {
      after = λ a t h. elim h [ inl l ↦ (p.leads b).after a t l | inr l ↦ (q.leads b).after a t l ];
      quiet = λ a t h st. elim h [ inl l ↦ (p.leads b).quiet a t l st | inr l ↦ (q.leads b).quiet a t l st ];
    };
  }

-- ---- one byte

abbrev byte_case : ℕ → ℕ → List ℕ → Bool → Result (Unit {0} × List ℕ) Stop
byte_case c b bs t = cond t (Ok (tt, bs)) (stuck (b ∷ bs))

-- from a phase in which no number stands and no octets are to come
pub byte_lexed : (side : Speaker) (p : Phase) (c : ℕ) → ((b : ℕ) → kind_of side p b ≡ Syntax) → is_in p ≡ false → Lexed side p (byte_at c)
byte_lexed side p c calm out = record { asks = byte_asks; kind = byte_kind; octets = dry p (byte_at c) byte_out }
  where
    byte_out : (xs : List ℕ) (w : Option ℕ) → byte_at c xs ≡ Err (Ends w) → is_in (phase p xs) ≡ false
    byte_out [] w h = out
    byte_out (b ∷ bs) w h =
        elim (cases_Bool (eqb b c)) [
          | inl e ↦ let read : byte_case c b bs true ≡ Err (Ends w) = sym (ap (byte_case c b bs) e) ∙ h in absurd cc
          | inr e ↦ let read : byte_case c b bs false ≡ Err (Ends w) = sym (ap (byte_case c b bs) e) ∙ h in absurd cc
        ]

    byte_asks : (xs : List ℕ) (w : Option ℕ) → byte_at c xs ≡ Err (Ends w) → asks_from side p xs ≡ w
    byte_asks [] w h = cc
    byte_asks (b ∷ bs) w h =
        elim (cases_Bool (eqb b c)) [
          | inl e ↦ let read : byte_case c b bs true ≡ Err (Ends w) = sym (ap (byte_case c b bs) e) ∙ h in absurd cc
          | inr e ↦ let read : byte_case c b bs false ≡ Err (Ends w) = sym (ap (byte_case c b bs) e) ∙ h in absurd cc
        ]

    byte_kind : (xs : List ℕ) (i : Kind) (n : ℕ) → byte_at c xs ≡ Err (Fails i n) → kind_at side p n xs ≡ i
    byte_kind [] i n h = absurd cc
    byte_kind (b ∷ bs) i n h =
        elim (cases_Bool (eqb b c)) [
          | inl e ↦ let read : byte_case c b bs true ≡ Err (Fails i n) = sym (ap (byte_case c b bs) e) ∙ h in absurd cc
          | inr e ↦
              let read : byte_case c b bs false ≡ Err (Fails i n) = sym (ap (byte_case c b bs) e) ∙ h in
              let kind : Syntax ≡ i = cc in
              let left : length (b ∷ bs) ≡ n = cc in
              ap (λ (m : ℕ). kind_at side p m (b ∷ bs)) (sym left) ∙ kind-first side p b bs ∙ calm b ∙ kind
        ]

-- a byte that begins no literal
pub byte_part : {side : Speaker} (c : ℕ) → eqb c 123 ≡ false → Part side true Closed (λ _ t. Is (c ∷ []) t) (byte_at c)
byte_part {side} c plain = record {
  reader = byte_reader c;
  lexed = byte_lexed side Plain c (λ b. refl) refl;
  leads = λ _. record {
    after = λ _ t h. ap (phase Plain) h ∙ ap (λ (x : Bool). cond x Brace Plain) plain;
    quiet = λ _ t h s. ap (asks_from side Plain) h;
  };
}

pub crlf_part : {side : Speaker} → Part side true Closed (λ _ t. Is crlf t) crlf_at
crlf_part {side} = same_part
    (λ _ t h. h.parts ∙ ap (λ (x : List ℕ). x ++ h.back) h.first ∙ ap (λ (x : List ℕ). 13 ∷ x) h.second)
    (λ _ t h. record { front = 13 ∷ []; back = 10 ∷ []; parts = h; first = refl; second = refl })
    (skip_part (byte_part 13 refl) (byte_part 10 refl) (after_closed (byte_at 10)))
