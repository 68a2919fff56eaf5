-- A literal of at least one octet, as a part of a grammar.
use Rattle.std.proofs.Common.{◌≡◌, ℕ, ◌+◌, ◌*◌, ◌-◌, ◌<◌, ◌≤◌, Bool, true, false, cond, eqb, List, [], ◌∷◌, ◌++◌, length, Option, Result, Ok, Err, refl, sym, ap, subst, ◌∙◌, inl, inr, arith}
use Rattle.std.proofs.lemmas.Bool.{cases_Bool, cases_lt, true≢false, false≢true, eqb-false, ne_eqb, and_parts}
use Rattle.wire_reader.specs.declared.side.Speaker.{Speaker}
use Rattle.wire_reader.specs.declared.side.Speaker.TheVariants.{Commands, Replies}
use Rattle.wire_reader.specs.declared.lexical.Phase.{Phase}
use Rattle.wire_reader.specs.declared.lexical.Phase.TheVariants.{Plain, Brace, Close}
use Rattle.wire_reader.specs.declared.stop.Kind.{Kind}
use Rattle.wire_reader.specs.declared.stop.Kind.TheVariants.{Syntax}
use Rattle.wire_reader.specs.declared.stop.Stop.{Stop}
use Rattle.wire_reader.specs.declared.stop.Stop.TheVariants.{Ends, Fails}
use Rattle.wire_reader.specs.Spelling.{◌⨾◌, ThenBy, Is}
use Rattle.wire_reader.specs.Lexical.{phase, is_in, asks_from, kind_of}
use Rattle.wire_reader.specs.Reading.{stuck, seq}
use Rattle.wire_reader.specs.Literal.{value, Number, MayPlus, LengthText, close_text, Literal, length_at, literal_at, octets_of}
use Rattle.wire_reader.specs.Filled.{FilledLiteral, barred, filled_literal_at}
use Rattle.wire_reader.proofs.Reader.{Closed, Taken, Refused, Reader, seq_reader}
use Rattle.wire_reader.proofs.First.{Begins}
use Rattle.wire_reader.proofs.Parts.{skip_reader, byte_reader, after_closed, same_reader}
use Rattle.wire_reader.proofs.Octets.{waits}
use Rattle.wire_reader.proofs.Lengths.{length_reader}
use Rattle.wire_reader.proofs.LengthSteps.{digit_is}
use Rattle.wire_reader.proofs.LiteralPhases.{Following, of_reader, of_lexed, length_lexed, length_leads, brace_leads, literal_part}
use Rattle.wire_reader.proofs.Lexed.{Lexed, Leads, kind_at, kind-first}
use Rattle.wire_reader.proofs.LexedSeq.{seq_lexed, some_byte}
use Rattle.wire_reader.proofs.Part.{Part, byte_lexed}

-- ---- a reader that goes no further where a byte stands first

abbrev pub NotFirst : ℕ → List ℕ → Type 0
NotFirst c t = Begins false (λ b. eqb b c) t

module _ {A : Type 0} {L : A → List ℕ → Type 0} {r : List ℕ → Result (A × List ℕ) Stop} (c : ℕ) (p : Reader Closed L r) (other : (t : List ℕ) × (a : A) × (L a t × NotFirst c t)) where
  abbrev at : ℕ → List ℕ → Bool → Result (A × List ℕ) Stop
  at b bs t = cond t (stuck (b ∷ bs)) (r (b ∷ bs))

  abbrev M : A → List ℕ → Type 0
  M a t = L a t × NotFirst c t

  begins : (b : ℕ) (bs text rest : List ℕ) (a : A) → b ∷ bs ≡ text ++ rest → eqb b c ≡ false → L a text → NotFirst c text
  begins b bs [] rest a e g l = absurd (some_byte p a [] l refl refl)
  begins b bs (d ∷ text) rest a e g l = let same : b ≡ d = cc in ap (λ (x : ℕ). eqb x c) (sym same) ∙ g

  barred_sound : (xs : List ℕ) (a : A) (rest : List ℕ) → barred c r xs ≡ Ok (a, rest) → Taken Closed M a xs rest
  barred_sound [] a rest h = absurd (let o = p.start.1 in let w : Ok (a, rest) ≡ Err (Ends p.start.0) = sym h ∙ o in cc)
  barred_sound (b ∷ bs) a rest h =
      elim (cases_Bool (eqb b c)) [
        | inl g ↦ let wrong : at b bs true ≡ Ok (a, rest) = sym (ap (at b bs) g) ∙ h in absurd cc
        | inr g ↦
            let t = p.sound (b ∷ bs) a rest (sym (ap (at b bs) g) ∙ h) in
            record { text = t.text; parts = t.parts; stop = t.stop; spelled = (t.spelled, begins b bs t.text rest a t.parts g t.spelled) }
      ]

  barred_complete : (a : A) (text rest : List ℕ) → M a text → barred c r (text ++ rest) ≡ Ok (a, rest)
  barred_complete a [] rest l = absurd l.1
  barred_complete a (b ∷ text) rest l = ap (at b (text ++ rest)) l.1 ∙ p.complete a (b ∷ text) rest l.0 refl

  barred_more : (xs : List ℕ) (w : Option ℕ) → barred c r xs ≡ Err (Ends w) → (z : List ℕ) × (a : A) × M a (xs ++ z)
  barred_more [] w h = other
  barred_more (b ∷ bs) w h =
      elim (cases_Bool (eqb b c)) [
        | inl g ↦ let wrong : at b bs true ≡ Err (Ends w) = sym (ap (at b bs) g) ∙ h in absurd cc
        | inr g ↦ let m = p.more (b ∷ bs) w (sym (ap (at b bs) g) ∙ h) in (m.0, m.1, (m.2, g))
      ]

  -- what r says where another byte stands first
  same : (b d : ℕ) (bs front rest : List ℕ) → b ∷ bs ≡ front ++ d ∷ rest → eqb b c ≡ false → (barred c r front ≡ r front) × ((z : List ℕ) → barred c r (front ++ d ∷ z) ≡ r (front ++ d ∷ z))
  same b d bs [] rest e g = let first : b ≡ d = cc in (refl, λ z. ap (at d z) (ap (λ (x : ℕ). eqb x c) (sym first) ∙ g))
  same b d bs (f ∷ front) rest e g =
      let first : b ≡ f = cc in
      let h : eqb f c ≡ false = ap (λ (x : ℕ). eqb x c) (sym first) ∙ g in
      (ap (at f front) h, λ z. ap (at f (front ++ d ∷ z)) h)

  barred_bad : (xs : List ℕ) (k : Kind) (n : ℕ) → barred c r xs ≡ Err (Fails k n) → Refused (barred c r) xs k n
  barred_bad [] k n h = absurd (let o = p.start.1 in let w : Err (Fails k n) ≡ Err (Ends p.start.0) = sym h ∙ o in cc)
  barred_bad (b ∷ bs) k n h =
      elim (cases_Bool (eqb b c)) [
        | inl g ↦
            let read : at b bs true ≡ Err (Fails k n) = sym (ap (at b bs) g) ∙ h in
            let kind : Syntax ≡ k = cc in
            let left : length (b ∷ bs) ≡ n = cc in
            record {
              front = [];
              byte = b;
              rest = bs;
              parts = refl;
              left = sym left;
              ends = p.start;
              stays = λ z. ap (at b z) g ∙ ap (λ (i : Kind). let o : Result (A × List ℕ) Stop = Err (Fails i (length (b ∷ z))) in o) kind;
            }
        | inr g ↦
            let x = p.bad (b ∷ bs) k n (sym (ap (at b bs) g) ∙ h) in
            let s = same b x.byte bs x.front x.rest x.parts g in
            record { front = x.front; byte = x.byte; rest = x.rest; parts = x.parts; left = x.left; ends = (x.ends.0, s.0 ∙ x.ends.1); stays = λ z. s.1 z ∙ x.stays z }
      ]

  pub barred_reader : Reader Closed M (barred c r)
  barred_reader = record {
    start = p.start;
    sound = barred_sound;
    complete = λ a text rest l s. barred_complete a text rest l;
    open_end = λ a text l s. absurd (true≢false s);
    more = barred_more;
    bad = barred_bad;
  }

  module _ {side : Speaker} {ph : Phase} (calm : (b : ℕ) → kind_of side ph b ≡ Syntax) (out : is_in ph ≡ false) (x : Lexed side ph r) where
    barred_asks : (xs : List ℕ) (w : Option ℕ) → barred c r xs ≡ Err (Ends w) → asks_from side ph xs ≡ w
    barred_asks [] w h = x.asks [] w h
    barred_asks (b ∷ bs) w h =
        elim (cases_Bool (eqb b c)) [
          | inl g ↦ let wrong : at b bs true ≡ Err (Ends w) = sym (ap (at b bs) g) ∙ h in absurd cc
          | inr g ↦ x.asks (b ∷ bs) w (sym (ap (at b bs) g) ∙ h)
        ]

    barred_kind : (xs : List ℕ) (k : Kind) (n : ℕ) → barred c r xs ≡ Err (Fails k n) → kind_at side ph n xs ≡ k
    barred_kind [] k n h = x.kind [] k n h
    barred_kind (b ∷ bs) k n h =
        elim (cases_Bool (eqb b c)) [
          | inl g ↦
              let read : at b bs true ≡ Err (Fails k n) = sym (ap (at b bs) g) ∙ h in
              let kind : Syntax ≡ k = cc in
              let left : length (b ∷ bs) ≡ n = cc in
              ap (λ (m : ℕ). kind_at side ph m (b ∷ bs)) (sym left) ∙ kind-first side ph b bs ∙ calm b ∙ kind
          | inr g ↦ x.kind (b ∷ bs) k n (sym (ap (at b bs) g) ∙ h)
        ]

    barred_octets : (xs : List ℕ) (w : Option ℕ) (y : ℕ) → barred c r xs ≡ Err (Ends w) → is_in (phase ph xs) ≡ true → eqb y 0 ≡ false → (v : Option ℕ) × (barred c r (xs ++ y ∷ []) ≡ Err (Ends v))
    barred_octets [] w y h i n = absurd (false≢true (sym out ∙ i))
    barred_octets (b ∷ bs) w y h i n =
        elim (cases_Bool (eqb b c)) [
          | inl g ↦ let wrong : at b bs true ≡ Err (Ends w) = sym (ap (at b bs) g) ∙ h in absurd cc
          | inr g ↦ let o = x.octets (b ∷ bs) w y (sym (ap (at b bs) g) ∙ h) i n in (o.0, ap (at b (bs ++ y ∷ [])) g ∙ o.1)
        ]

    pub barred_lexed : Lexed side ph (barred c r)
    barred_lexed = record { asks = barred_asks; kind = barred_kind; octets = barred_octets }

-- ---- the length of a literal that has octets

pub value_le : (ds : List ℕ) (v : ℕ) → v ≤ value v ds
value_le [] v = omega arith
value_le (d ∷ ds) v = let r = value_le ds (10 * v + (d - 48)) in omega (arith, r)

-- a number above 0 does not begin with 0
number_not_0 : (n : ℕ) (digits back : List ℕ) → Number n digits → 0 < n → NotFirst 48 (digits ++ back)
number_not_0 n [] back m pos = absurd m.plain
number_not_0 n (d ∷ ds) back m pos = ne_eqb d 48 (λ e. zero e (m.plain e) m.is)
  where
    zero : d ≡ 48 → ds ≡ [] → value 0 (d ∷ ds) ≡ n → ⊥
    zero e none is =
        let v : value 0 (d ∷ ds) ≡ value 0 (48 ∷ []) = ap (λ (x : ℕ). value 0 (x ∷ ds)) e ∙ ap (λ (x : List ℕ). value 0 (48 ∷ x)) none in
        omega (arith, v, is, pos)

-- what does not begin with 0 is a number above 0
number_above_0 : (n : ℕ) (digits back : List ℕ) → Number n digits → NotFirst 48 (digits ++ back) → 0 < n
number_above_0 n [] back m f = absurd m.plain
number_above_0 n (d ∷ ds) back m f =
    let q = digit_is d (and_parts _ _ m.each).0 in
    let v = value_le ds (10 * 0 + (d - 48)) in
    elim (cases_lt 48 d) [ inl above ↦ omega (arith, v, m.is, above) | inr le ↦ absurd (eqb-false d 48 f (omega (arith, le, q.0))) ]

-- ---- the literal

module _ (side : Speaker) where
  abbrev FilledLength : ℕ × Bool → List ℕ → Type 0
  FilledLength p t = LengthText side p t × NotFirst 48 t

  abbrev length_1 : List ℕ → Result ((ℕ × Bool) × List ℕ) Stop
  length_1 = barred 48 (length_at side)

  -- the length of one octet
  one : (t : List ℕ) × (p : ℕ × Bool) × FilledLength p t
  one = (49 ∷ 125 ∷ [], (1, false), (record { digits = 49 ∷ []; parts = refl; number = record { each = refl; plain = λ e. refl; is = refl }; plus = may side; most = omega arith }, refl))
    where
      may : (s : Speaker) → MayPlus s false
      may Commands = tt
      may Replies = tt

  filled_length : Reader Closed FilledLength length_1
  filled_length = barred_reader 48 (length_reader side) one

  filled_leads : Leads side Closed Brace FilledLength (λ p. Close p.0 p.1)
  filled_leads = record { after = λ p t h. (length_leads side).after p t h.0; quiet = λ p t h s. (length_leads side).quiet p t h.0 s }

  measured_reader : Reader waits (ThenBy FilledLength (Following side)) (seq length_1 (octets_of side))
  measured_reader = seq_reader filled_length (λ p. of_reader side p.0 p.1) (λ p. after_closed (octets_of side p))

  measured_lexed : Lexed side Brace (seq length_1 (octets_of side))
  measured_lexed = seq_lexed {M = Following side} filled_length (barred_lexed 48 (length_reader side) one (λ b. refl) refl (length_lexed side)) filled_leads (λ p. of_reader side p.0 p.1) (λ p. of_lexed side p.0 p.1)

  abbrev Steps : List ℕ → List ℕ → Type 0
  Steps o = Is (123 ∷ []) ⨾ ThenBy FilledLength (Following side) o

  to_filled : (o t : List ℕ) → Steps o t → FilledLiteral side o t
  to_filled o t h =
      let m = h.second in
      let l = m.first.0 in
      let positive = number_above_0 m.value.0 l.digits (close_text m.value.1) l.number (subst (NotFirst 48) l.parts m.first.1) in
      let long = m.second.second.second in (
        record { front = h.front; back = h.back; parts = h.parts; first = h.first; second = record { value = m.value; front = m.front; back = m.back; parts = m.parts; first = l; second = m.second } },
        subst (λ (k : ℕ). 0 < k) (sym (ap length (sym long.0) ∙ long.1.long)) positive,
      )

  from_filled : (o t : List ℕ) → FilledLiteral side o t → Steps o t
  from_filled o t f =
      let h = f.0 in
      let m = h.second in
      let l = m.first in
      let long = m.second.second.second in
      let positive : 0 < m.value.0 = subst (λ (k : ℕ). 0 < k) (ap length (sym long.0) ∙ long.1.long) f.1 in
      let first : NotFirst 48 m.front = subst (NotFirst 48) (sym l.parts) (number_not_0 m.value.0 l.digits (close_text m.value.1) l.number positive) in
      record { front = h.front; back = h.back; parts = h.parts; first = h.first; second = record { value = m.value; front = m.front; back = m.back; parts = m.parts; first = (l, first); second = m.second } }

  -- a literal of at least one octet, which is read once a byte has come after it
  pub filled_literal_part : Part side true waits (FilledLiteral side) (filled_literal_at side)
  filled_literal_part = record {
    reader = same_reader to_filled from_filled (skip_reader (byte_reader 123) measured_reader (after_closed (seq length_1 (octets_of side))));
    lexed = seq_lexed {M = λ _. ThenBy FilledLength (Following side)} (byte_reader 123) (byte_lexed side Plain 123 (λ _. refl) refl) (brace_leads side) (λ _. measured_reader) (λ _. measured_lexed);
    leads = λ b. let whole : Part side true waits (Literal side) (literal_at side) = literal_part _ in let l = whole.leads b in record { after = λ o t h. l.after o t h.0; quiet = λ o t h s. l.quiet o t h.0 s };
  }
