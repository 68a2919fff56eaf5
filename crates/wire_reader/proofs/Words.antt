-- Words in any case, and one of several of them.
use Rattle.std.proofs.Common.{◌≡◌, ℕ, ◌<◌, ◌≤◌, Bool, true, false, cond, eqb, ltb, List, [], ◌∷◌, ◌++◌, length, map, Option, None, Result, Ok, Err, refl, sym, ap, subst, ◌∙◌, append_assoc, inl, inr, ◌⊎◌, ◌&&◌, arith}
use Rattle.std.proofs.lemmas.Bool.{cases_Bool, true≢false, eqb-true, eq-eqb, lt-ltb, le-ltb, ltb-true, ltb-false, and_parts}
use Rattle.std.proofs.lemmas.List.{length-append}
use Rattle.wire_reader.specs.declared.stop.Kind.{Kind}
use Rattle.wire_reader.specs.declared.stop.Kind.TheVariants.{Syntax}
use Rattle.wire_reader.specs.declared.stop.Stop.{Stop}
use Rattle.wire_reader.specs.declared.stop.Stop.TheVariants.{Ends, Fails}
use Rattle.wire_reader.specs.Reading.{stuck, mapped}
use Rattle.wire_reader.specs.Words.{word_at, either, alt, keys_at}
use Rattle.wire_reader.specs.Spelling.{upper, Word}
use Rattle.wire_reader.proofs.Reader.{Closed, Taken, Refused, Reader}
use Rattle.wire_reader.proofs.Parts.{pair_is, same_reader, mapped_reader}

abbrev Read : Type 0
Read = Result (Unit {0} × List ℕ) Stop

-- the answer at a byte, by the test
abbrev at_byte : List ℕ → ℕ → List ℕ → Bool → Read
at_byte cs b bs t = cond t (word_at cs bs) (stuck (b ∷ bs))

word_sound : (w xs rest : List ℕ) (u : Unit {0}) → word_at w xs ≡ Ok (u, rest) → (text : List ℕ) × (xs ≡ text ++ rest) × Word w text
word_sound [] xs rest u h = ([], ap (λ (x : Unit {0} × List ℕ). x.1) (pair_is (tt, xs) (u, rest) h), refl)
word_sound (c ∷ cs) [] rest u h = absurd cc
word_sound (c ∷ cs) (b ∷ bs) rest u h =
    elim (cases_Bool (eqb (upper b) c)) [
      | inl e ↦
          let t = word_sound cs bs rest u (sym (ap (at_byte cs b bs) e) ∙ h) in
          (b ∷ t.0, ap (λ (x : List ℕ). b ∷ x) t.1, ap (λ (x : List ℕ). upper b ∷ x) t.2 ∙ ap (λ (x : ℕ). x ∷ cs) (eqb-true (upper b) c e))
      | inr e ↦ let wrong : at_byte cs b bs false ≡ Ok (u, rest) = sym (ap (at_byte cs b bs) e) ∙ h in absurd cc
    ]

word_complete : (w text rest : List ℕ) → Word w text → word_at w (text ++ rest) ≡ Ok (tt, rest)
word_complete [] [] rest l = refl
word_complete [] (b ∷ bs) rest l = absurd cc
word_complete (c ∷ cs) [] rest l = absurd cc
word_complete (c ∷ cs) (b ∷ bs) rest l =
    let head : upper b ≡ c = cc in
    let tail : map upper bs ≡ cs = cc in
    ap (at_byte cs b (bs ++ rest)) (eq-eqb (upper b) c head) ∙ word_complete cs bs rest tail

word_more : (w xs : List ℕ) (v : Option ℕ) → map upper w ≡ w → word_at w xs ≡ Err (Ends v) → (z : List ℕ) × Word w (xs ++ z)
word_more [] xs v up h = absurd cc
word_more (c ∷ cs) [] v up h = (c ∷ cs, up)
word_more (c ∷ cs) (b ∷ bs) v up h =
    elim (cases_Bool (eqb (upper b) c)) [
      | inl e ↦
          let tail : map upper cs ≡ cs = cc in
          let t = word_more cs bs v tail (sym (ap (at_byte cs b bs) e) ∙ h) in
          (t.0, ap (λ (x : List ℕ). upper b ∷ x) t.1 ∙ ap (λ (x : ℕ). x ∷ cs) (eqb-true (upper b) c e))
      | inr e ↦ let wrong : at_byte cs b bs false ≡ Err (Ends v) = sym (ap (at_byte cs b bs) e) ∙ h in absurd cc
    ]

word_bad : (w xs : List ℕ) (k : Kind) (n : ℕ) → word_at w xs ≡ Err (Fails k n) → Refused (word_at w) xs k n
word_bad [] xs k n h = absurd cc
word_bad (c ∷ cs) [] k n h = absurd cc
word_bad (c ∷ cs) (b ∷ bs) k n h =
    elim (cases_Bool (eqb (upper b) c)) [
      | inl e ↦
          let r = word_bad cs bs k n (sym (ap (at_byte cs b bs) e) ∙ h) in
          record {
            front = b ∷ r.front;
            byte = r.byte;
            rest = r.rest;
            parts = ap (λ (x : List ℕ). b ∷ x) r.parts;
            left = r.left;
            ends = (r.ends.0, ap (at_byte cs b r.front) e ∙ r.ends.1);
            stays = λ z. ap (at_byte cs b (r.front ++ r.byte ∷ z)) e ∙ r.stays z;
          }
      | inr e ↦
          let read : at_byte cs b bs false ≡ Err (Fails k n) = sym (ap (at_byte cs b bs) e) ∙ h in
          let kind : Syntax ≡ k = cc in
          let left : length (b ∷ bs) ≡ n = cc in
          record {
            front = [];
            byte = b;
            rest = bs;
            parts = refl;
            left = sym left;
            ends = (None, refl);
            stays = λ z. ap (at_byte cs b z) e ∙ ap (λ (x : Kind). Err (Fails x (length (b ∷ z)))) kind;
          }
    ]

-- a word of at least one byte, given in upper case
pub word_reader : (c : ℕ) (cs : List ℕ) → map upper (c ∷ cs) ≡ c ∷ cs → Reader Closed (λ _ t. Word (c ∷ cs) t) (word_at (c ∷ cs))
word_reader c cs up = record {
  start = (None, refl);
  sound = λ xs u rest h. let t = word_sound (c ∷ cs) xs rest u h in record { text = t.0; parts = t.1; stop = refl; spelled = t.2 };
  complete = λ u text rest l s. word_complete (c ∷ cs) text rest l;
  open_end = λ u text l s. absurd (true≢false s);
  more = λ xs w h. let t = word_more (c ∷ cs) xs w up h in (t.0, tt, t.1);
  bad = word_bad (c ∷ cs);
}

-- ---- one or the other

-- of two places where a list splits, one is the other or stands before it
splits : (f g : List ℕ) (b c : ℕ) (r s : List ℕ) → f ++ b ∷ r ≡ g ++ c ∷ s → length s ≤ length r → ((f ≡ g) × (b ≡ c) × (r ≡ s)) ⊎ ((m : List ℕ) × (g ≡ f ++ b ∷ m) × (r ≡ m ++ c ∷ s))
splits [] [] b c r s e le = inl (refl, cc, cc)
splits [] (x ∷ g) b c r s e le = let head : b ≡ x = cc in let tail : r ≡ g ++ c ∷ s = cc in inr (g, ap (λ (y : ℕ). y ∷ g) (sym head), tail)
splits (x ∷ f) [] b c r s e le =
    let tail : f ++ b ∷ r ≡ s = cc in
    absurd (omega (arith, ap length tail, length-append f (b ∷ r)))
splits (x ∷ f) (y ∷ g) b c r s e le =
    let head : x ≡ y = cc in
    let tail : f ++ b ∷ r ≡ g ++ c ∷ s = cc in
    elim (splits f g b c r s tail le) [
      | inl h ↦ inl (ap (λ (z : List ℕ). x ∷ z) h.0 ∙ ap (λ (z : ℕ). z ∷ g) head, h.1, h.2)
      | inr m ↦ inr (m.0, ap (λ (z : List ℕ). y ∷ z) m.1 ∙ ap (λ (z : ℕ). z ∷ (f ++ b ∷ m.0)) (sym head), m.2)
    ]

abbrev Answer : Type 0 → Type 0
Answer A = Result (A × List ℕ) Stop

either_by : {A : Type 0} (o o' p p' : Result (A × List ℕ) Stop) → o ≡ o' → p ≡ p' → either o p ≡ either o' p'
either_by {A} o o' p p' e f = ap (λ (x : Result (A × List ℕ) Stop). either x p) e ∙ ap (λ (x : Result (A × List ℕ) Stop). either o' x) f

either_ok : {A : Type 0} (o p : Result (A × List ℕ) Stop) (y : A × List ℕ) → either o p ≡ Ok y → (o ≡ Ok y) ⊎ (p ≡ Ok y)
either_ok (Ok x) p y h = inl h
either_ok (Err s) (Ok x) y h = inr h
either_ok (Err (Ends w)) (Err s) y h = absurd cc
either_ok (Err (Fails k n)) (Err (Ends w)) y h = absurd cc
either_ok {A} (Err (Fails k n)) (Err (Fails l m)) y h =
    elim (cases_Bool (ltb m n)) [
      | inl e ↦ let read : Err (Fails l m) ≡ Ok y = sym (ap (λ (t : Bool). let r : Result (A × List ℕ) Stop = cond t (Err (Fails l m)) (Err (Fails k n)) in r) e) ∙ h in absurd cc
      | inr e ↦ let read : Err (Fails k n) ≡ Ok y = sym (ap (λ (t : Bool). let r : Result (A × List ℕ) Stop = cond t (Err (Fails l m)) (Err (Fails k n)) in r) e) ∙ h in absurd cc
    ]

either_right : {A : Type 0} (o p : Result (A × List ℕ) Stop) (y : A × List ℕ) → p ≡ Ok y → ((x : A × List ℕ) → o ≡ Ok x → ⊥) → either o p ≡ Ok y
either_right (Ok x) p y h n = absurd (n x refl)
either_right (Err s) p y h n = ap (either (Err s)) h

pub either_ends : {A : Type 0} (o p : Result (A × List ℕ) Stop) (w : Option ℕ) → either o p ≡ Err (Ends w) → (o ≡ Err (Ends w)) ⊎ (p ≡ Err (Ends w))
either_ends (Ok x) p w h = absurd cc
either_ends (Err s) (Ok x) w h = absurd cc
either_ends (Err (Ends v)) (Err s) w h = inl h
either_ends (Err (Fails k n)) (Err (Ends v)) w h = inr h
either_ends {A} (Err (Fails k n)) (Err (Fails l m)) w h =
    elim (cases_Bool (ltb m n)) [
      | inl e ↦ let read : Err (Fails l m) ≡ Err (Ends w) = sym (ap (λ (t : Bool). let r : Result (A × List ℕ) Stop = cond t (Err (Fails l m)) (Err (Fails k n)) in r) e) ∙ h in absurd cc
      | inr e ↦ let read : Err (Fails k n) ≡ Err (Ends w) = sym (ap (λ (t : Bool). let r : Result (A × List ℕ) Stop = cond t (Err (Fails l m)) (Err (Fails k n)) in r) e) ∙ h in absurd cc
    ]

-- both fail, and the later fault is answered
pub record Both {A : Type 0} (o p : Result (A × List ℕ) Stop) (k : Kind) (n : ℕ) : Type 0 where
  pub k1 : Kind
  pub n1 : ℕ
  pub k2 : Kind
  pub n2 : ℕ
  pub one : o ≡ Err (Fails k1 n1)
  pub two : p ≡ Err (Fails k2 n2)
  pub which : ((n2 < n1) × (k2 ≡ k) × (n2 ≡ n)) ⊎ ((n1 ≤ n2) × (k1 ≡ k) × (n1 ≡ n))

pub either_fails : {A : Type 0} (o p : Result (A × List ℕ) Stop) (k : Kind) (n : ℕ) → either o p ≡ Err (Fails k n) → Both o p k n
either_fails (Ok x) p k n h = absurd cc
either_fails (Err s) (Ok x) k n h = absurd cc
either_fails (Err (Ends v)) (Err s) k n h = absurd cc
either_fails (Err (Fails l m)) (Err (Ends v)) k n h = absurd cc
either_fails {A} (Err (Fails k1 n1)) (Err (Fails k2 n2)) k n h =
    record {
      k1 = k1;
      n1 = n1;
      k2 = k2;
      n2 = n2;
      one = refl;
      two = refl;
      which = elim (cases_Bool (ltb n2 n1)) [
        | inl e ↦ let read : Err (Fails k2 n2) ≡ Err (Fails k n) = sym (ap (λ (t : Bool). let r : Result (A × List ℕ) Stop = cond t (Err (Fails k2 n2)) (Err (Fails k1 n1)) in r) e) ∙ h in inl (ltb-true n2 n1 e, cc, cc)
        | inr e ↦ let read : Err (Fails k1 n1) ≡ Err (Fails k n) = sym (ap (λ (t : Bool). let r : Result (A × List ℕ) Stop = cond t (Err (Fails k2 n2)) (Err (Fails k1 n1)) in r) e) ∙ h in inr (ltb-false n2 n1 e, cc, cc)
      ];
    }

module _ {A : Type 0} {L M : A → List ℕ → Type 0} {r s : List ℕ → Result (A × List ℕ) Stop} (p : Reader Closed L r) (q : Reader Closed M s) (apart : (a b : A) (t u y z : List ℕ) → L a t → M b u → t ++ y ≡ u ++ z → ⊥) where
  not_first : (b : A) (text rest : List ℕ) → M b text → (x : A × List ℕ) → r (text ++ rest) ≡ Ok x → ⊥
  not_first b text rest l x h = let t = p.sound (text ++ rest) x.0 x.1 h in apart x.0 b t.text text x.1 rest t.spelled l (sym t.parts)

  alt_sound : (xs : List ℕ) (a : A) (rest : List ℕ) → alt r s xs ≡ Ok (a, rest) → Taken Closed (λ a t. L a t ⊎ M a t) a xs rest
  alt_sound xs a rest h =
      elim (either_ok (r xs) (s xs) (a, rest) h) [
        | inl e ↦ let t = p.sound xs a rest e in record { text = t.text; parts = t.parts; stop = refl; spelled = inl t.spelled }
        | inr e ↦ let t = q.sound xs a rest e in record { text = t.text; parts = t.parts; stop = refl; spelled = inr t.spelled }
      ]

  alt_complete : (a : A) (text rest : List ℕ) → L a text ⊎ M a text → alt r s (text ++ rest) ≡ Ok (a, rest)
  alt_complete a text rest (inl l) = ap (λ (o : Result (A × List ℕ) Stop). either o (s (text ++ rest))) (p.complete a text rest l refl)
  alt_complete a text rest (inr l) = either_right (r (text ++ rest)) (s (text ++ rest)) (a, rest) (q.complete a text rest l refl) (not_first a text rest l)

  alt_more : (xs : List ℕ) (w : Option ℕ) → alt r s xs ≡ Err (Ends w) → (z : List ℕ) × (a : A) × (L a (xs ++ z) ⊎ M a (xs ++ z))
  alt_more xs w h =
      elim (either_ends (r xs) (s xs) w h) [
        | inl e ↦ let m = p.more xs w e in (m.0, m.1, inl m.2)
        | inr e ↦ let m = q.more xs w e in (m.0, m.1, inr m.2)
      ]

  -- the second fails later
  alt_bad_second : (xs : List ℕ) (k1 : Kind) (n1 : ℕ) (k2 : Kind) (n2 : ℕ) → Refused r xs k1 n1 → Refused s xs k2 n2 → n2 < n1 → Refused (alt r s) xs k2 n2
  alt_bad_second xs k1 n1 k2 n2 b c lt =
      elim (splits b.front c.front b.byte c.byte b.rest c.rest (sym b.parts ∙ c.parts) (let x = b.left in let y = c.left in omega arith)) [
        | inl h ↦ absurd (let x = b.left in let y = c.left in omega (arith, ap length h.2))
        | inr m ↦ record {
          front = c.front;
          byte = c.byte;
          rest = c.rest;
          parts = c.parts;
          left = c.left;
          ends = (c.ends.0, either_by _ _ _ _ (ap r m.1 ∙ b.stays m.0) c.ends.1);
          stays = λ z.
              let first : r (c.front ++ c.byte ∷ z) ≡ Err (Fails k1 (length (b.byte ∷ (m.0 ++ c.byte ∷ z)))) =
              ap (λ (f : List ℕ). r (f ++ c.byte ∷ z)) m.1 ∙ ap r (append_assoc b.front (b.byte ∷ m.0) (c.byte ∷ z)) ∙ b.stays (m.0 ++ c.byte ∷ z) in
              let less : ltb (length (c.byte ∷ z)) (length (b.byte ∷ (m.0 ++ c.byte ∷ z))) ≡ true = lt-ltb _ _ (omega (arith, length-append m.0 (c.byte ∷ z))) in
              either_by _ _ _ _ first (c.stays z) ∙ ap (λ (t : Bool). let o : Result (A × List ℕ) Stop = cond t (Err (Fails k2 (length (c.byte ∷ z)))) (Err (Fails k1 (length (b.byte ∷ (m.0 ++ c.byte ∷ z))))) in o) less;
        }
      ]

  -- the first fails there or later
  alt_bad_first : (xs : List ℕ) (k1 : Kind) (n1 : ℕ) (k2 : Kind) (n2 : ℕ) → Refused r xs k1 n1 → Refused s xs k2 n2 → n1 ≤ n2 → Refused (alt r s) xs k1 n1
  alt_bad_first xs k1 n1 k2 n2 b c le =
      elim (splits c.front b.front c.byte b.byte c.rest b.rest (sym c.parts ∙ b.parts) (let x = b.left in let y = c.left in omega arith)) [
        | inl h ↦ record {
          front = b.front;
          byte = b.byte;
          rest = b.rest;
          parts = b.parts;
          left = b.left;
          ends = (b.ends.0, either_by _ _ _ _ b.ends.1 (ap s (sym h.0) ∙ c.ends.1));
          stays = λ z.
              let second : s (b.front ++ b.byte ∷ z) ≡ Err (Fails k2 (length (b.byte ∷ z))) =
              ap (λ (f : List ℕ). s (f ++ b.byte ∷ z)) (sym h.0) ∙ ap (λ (x : ℕ). s (c.front ++ x ∷ z)) (sym h.1) ∙ c.stays z in
              let less : ltb (length (b.byte ∷ z)) (length (b.byte ∷ z)) ≡ false = le-ltb _ _ (omega arith) in
              either_by _ _ _ _ (b.stays z) second ∙ ap (λ (t : Bool). let o : Result (A × List ℕ) Stop = cond t (Err (Fails k2 (length (b.byte ∷ z)))) (Err (Fails k1 (length (b.byte ∷ z)))) in o) less;
        }
        | inr m ↦ record {
          front = b.front;
          byte = b.byte;
          rest = b.rest;
          parts = b.parts;
          left = b.left;
          ends = (b.ends.0, either_by _ _ _ _ b.ends.1 (ap s m.1 ∙ c.stays m.0));
          stays = λ z.
              let second : s (b.front ++ b.byte ∷ z) ≡ Err (Fails k2 (length (c.byte ∷ (m.0 ++ b.byte ∷ z)))) =
              ap (λ (f : List ℕ). s (f ++ b.byte ∷ z)) m.1 ∙ ap s (append_assoc c.front (c.byte ∷ m.0) (b.byte ∷ z)) ∙ c.stays (m.0 ++ b.byte ∷ z) in
              let less : ltb (length (c.byte ∷ (m.0 ++ b.byte ∷ z))) (length (b.byte ∷ z)) ≡ false = le-ltb _ _ (omega (arith, length-append m.0 (b.byte ∷ z))) in
              either_by _ _ _ _ (b.stays z) second ∙ ap (λ (t : Bool). let o : Result (A × List ℕ) Stop = cond t (Err (Fails k2 (length (c.byte ∷ (m.0 ++ b.byte ∷ z))))) (Err (Fails k1 (length (b.byte ∷ z)))) in o) less;
        }
      ]

  alt_bad : (xs : List ℕ) (k : Kind) (n : ℕ) → alt r s xs ≡ Err (Fails k n) → Refused (alt r s) xs k n
  alt_bad xs k n h =
      let b = either_fails (r xs) (s xs) k n h in
      elim b.which [
        | inl w ↦
            let f = alt_bad_second xs b.k1 b.n1 b.k2 b.n2 (p.bad xs b.k1 b.n1 b.one) (q.bad xs b.k2 b.n2 b.two) w.0 in
            subst (λ (x : Kind). Refused (alt r s) xs x n) w.1 (subst (λ (x : ℕ). Refused (alt r s) xs b.k2 x) w.2 f)
        | inr w ↦
            let f = alt_bad_first xs b.k1 b.n1 b.k2 b.n2 (p.bad xs b.k1 b.n1 b.one) (q.bad xs b.k2 b.n2 b.two) w.0 in
            subst (λ (x : Kind). Refused (alt r s) xs x n) w.1 (subst (λ (x : ℕ). Refused (alt r s) xs b.k1 x) w.2 f)
      ]

  pub alt_reader : Reader Closed (λ a t. L a t ⊎ M a t) (alt r s)
  alt_reader = record {
    start = (p.start.0, either_by _ _ _ _ p.start.1 q.start.1);
    sound = alt_sound;
    complete = λ a text rest l e. alt_complete a text rest l;
    open_end = λ a text l e. absurd (true≢false e);
    more = alt_more;
    bad = alt_bad;
  }

-- ---- one of several words

-- the words differ in a byte
abbrev pub differ : List ℕ → List ℕ → Bool
differ [] w = false
differ (c ∷ cs) [] = false
differ (c ∷ cs) (d ∷ ds) = cond (eqb c d) (differ cs ds) true

-- then no text begins with both
differ_apart : (w v t u y z : List ℕ) → differ w v ≡ true → Word w t → Word v u → t ++ y ≡ u ++ z → ⊥
differ_apart [] v t u y z d a b e = absurd cc
differ_apart (c ∷ cs) [] t u y z d a b e = absurd cc
differ_apart (c ∷ cs) (g ∷ gs) [] u y z d a b e = absurd cc
differ_apart (c ∷ cs) (g ∷ gs) (x ∷ t) [] y z d a b e = absurd cc
differ_apart (c ∷ cs) (g ∷ gs) (x ∷ t) (v ∷ u) y z d a b e =
    let heads : upper x ≡ c = cc in
    let heads' : upper v ≡ g = cc in
    let one : x ≡ v = cc in
    let same : c ≡ g = sym heads ∙ ap upper one ∙ heads' in
    let rest : differ cs gs ≡ true = sym (ap (λ (k : Bool). cond k (differ cs gs) true) (eq-eqb c g same)) ∙ d in
    let ta : map upper t ≡ cs = cc in
    let ua : map upper u ≡ gs = cc in
    let ea : t ++ y ≡ u ++ z = cc in
    differ_apart cs gs t u y z rest ta ua ea

-- at least one byte, in upper case
abbrev pub IsUpperWord : List ℕ → Type 0
IsUpperWord [] = ⊥
IsUpperWord (c ∷ cs) = map upper (c ∷ cs) ≡ c ∷ cs

pub any_word_reader : (w : List ℕ) → IsUpperWord w → Reader Closed (λ _ t. Word w t) (word_at w)
any_word_reader [] up = absurd up
any_word_reader (c ∷ cs) up = word_reader c cs up

module _ {K : Type 0} (word : K → List ℕ) (good : (k : K) → IsUpperWord (word k)) where
  abbrev pub Among : K → List K → K → Type 0
  Among k [] x = x ≡ k
  Among k (l ∷ ks) x = (x ≡ k) ⊎ Among l ks x

  abbrev pub differs : K → K → List K → Bool
  differs k l [] = differ (word k) (word l)
  differs k l (m ∷ ks) = differ (word k) (word l) && differs k m ks

  abbrev pub distinct : K → List K → Bool
  distinct k [] = true
  distinct k (l ∷ ks) = differs k l ks && distinct l ks

  key_reader : (k : K) → Reader Closed (λ x t. (x ≡ k) × Word (word k) t) (mapped (λ _. k) (word_at (word k)))
  key_reader k = mapped_reader (λ _. k) (λ _ t h. (refl, h)) (λ x t h. (tt, h.0, h.1)) (any_word_reader (word k) (good k))

  differs_from : (k l : K) (ks : List K) (x : K) → differs k l ks ≡ true → Among l ks x → differ (word k) (word x) ≡ true
  differs_from k l [] x d a = ap (λ (y : K). differ (word k) (word y)) a ∙ d
  differs_from k l (m ∷ ks) x d (inl a) = ap (λ (y : K). differ (word k) (word y)) a ∙ (and_parts _ _ d).0
  differs_from k l (m ∷ ks) x d (inr a) = differs_from k m ks x (and_parts _ _ d).1 a

  pub keys_reader : (k : K) (ks : List K) → distinct k ks ≡ true → Reader Closed (λ x t. Among k ks x × Word (word x) t) (keys_at word k ks)
  keys_reader k [] d = same_reader (λ x t h. (h.0, subst (λ (y : K). Word (word y) t) (sym h.0) h.1)) (λ x t h. (h.0, subst (λ (y : K). Word (word y) t) h.0 h.1)) (key_reader k)
  keys_reader k (l ∷ ks) d =
      let p = and_parts _ _ d in
      same_reader {L = λ x t. ((x ≡ k) × Word (word k) t) ⊎ (Among l ks x × Word (word x) t)}
      (λ x t h. elim h [ inl g ↦ (inl g.0, subst (λ (y : K). Word (word y) t) (sym g.0) g.1) | inr g ↦ (inr g.0, g.1) ])
      (λ x t h. elim h.0 [ inl g ↦ inl (g, subst (λ (y : K). Word (word y) t) g h.1) | inr g ↦ inr (g, h.1) ])
      (alt_reader (key_reader k) (keys_reader l ks p.1) (λ a b t u y z s m e. differ_apart (word k) (word b) t u y z (differs_from k l ks b p.0 m.0) s.1 m.1 e))
