-- A part that no byte of a class may follow: so parts that end by themselves, and literals, end as a token of the class does, and may be
-- put beside it.
use Rattle.std.proofs.Common.{◌≡◌, ℕ, Bool, true, false, not, cond, eqb, ◌||◌, List, [], ◌∷◌, ◌++◌, length, Option, None, Result, Ok, Err, refl, sym, ap, subst, ◌∙◌, inl, inr, ◌⊎◌, arith}
use Rattle.std.proofs.lemmas.Bool.{cases_Bool, false≢true, not-true, or_parts, or_from}
use Rattle.std.proofs.lemmas.List.{append-nil}
use Rattle.wire_reader.specs.declared.side.Speaker.{Speaker}
use Rattle.wire_reader.specs.declared.lexical.Phase.{Phase}
use Rattle.wire_reader.specs.declared.lexical.Phase.TheVariants.{Plain}
use Rattle.wire_reader.specs.declared.stop.Kind.{Kind}
use Rattle.wire_reader.specs.declared.stop.Kind.TheVariants.{Syntax}
use Rattle.wire_reader.specs.declared.stop.Stop.{Stop}
use Rattle.wire_reader.specs.declared.stop.Stop.TheVariants.{Ends, Fails}
use Rattle.wire_reader.specs.Lexical.{phase, is_in, asks_from}
use Rattle.wire_reader.specs.Reading.{◌>>=◌, stuck}
use Rattle.wire_reader.specs.Listing.{ended_by, ended}
use Rattle.wire_reader.proofs.Reader.{Ender, Closed, Open, stops, Taken, Refused, Reader, bind_ok, bind_err}
use Rattle.wire_reader.proofs.Parts.{pair_is}
use Rattle.wire_reader.proofs.Lexed.{Lexed, Leads, kind_at, kind-append, kind-first}
use Rattle.wire_reader.proofs.Part.{Part}

-- a text ends where it did, and before no byte of the class
abbrev pub with_class : Ender → (ℕ → Bool) → Ender
with_class Closed class = Open class
with_class (Open g) class = Open (λ b. g b || class b)

both_stop : (e : Ender) (class : ℕ → Bool) (xs : List ℕ) → stops e xs ≡ true → stops (Open class) xs ≡ true → stops (with_class e class) xs ≡ true
both_stop Closed class xs a b = b
both_stop (Open g) class [] a b = b
both_stop (Open g) class (c ∷ cs) a b = ap not (or_from _ _ (not-true _ a) (not-true _ b))

none_stops : (e : Ender) (class : ℕ → Bool) → stops (with_class e class) [] ≡ true → ⊥
none_stops Closed class h = false≢true h
none_stops (Open g) class h = false≢true h

stop_parts : (e : Ender) (class : ℕ → Bool) (c : ℕ) (cs : List ℕ) → stops (with_class e class) (c ∷ cs) ≡ true → (stops e (c ∷ cs) ≡ true) × (class c ≡ false)
stop_parts Closed class c cs h = (refl, not-true _ h)
stop_parts (Open g) class c cs h = let p = or_parts _ _ (not-true _ h) in (ap not p.0, p.1)

stops_head : (e : Ender) (c : ℕ) (xs ys : List ℕ) → stops e (c ∷ xs) ≡ true → stops e (c ∷ ys) ≡ true
stops_head Closed c xs ys h = refl
stops_head (Open g) c xs ys h = h

module _ {A : Type 0} {e : Ender} {L : A → List ℕ → Type 0} {r : List ℕ → Result (A × List ℕ) Stop} (class : ℕ → Bool) (p : Reader e L r) where
  abbrev go : Result (A × List ℕ) Stop → Result (A × List ℕ) Stop
  go o = o >>= λ x. ended_by class x.0 x.1

  abbrev at : A → ℕ → List ℕ → Bool → Result (A × List ℕ) Stop
  at a c cs t = cond t (stuck (c ∷ cs)) (Ok (a, c ∷ cs))

  by_ok : (b a : A) (mid rest : List ℕ) → ended_by class b mid ≡ Ok (a, rest) → (b ≡ a) × (mid ≡ rest) × (stops (Open class) rest ≡ true)
  by_ok b a [] rest h = absurd cc
  by_ok b a (c ∷ cs) rest h =
      elim (cases_Bool (class c)) [
        | inl g ↦ let wrong : at b c cs true ≡ Ok (a, rest) = sym (ap (at b c cs) g) ∙ h in absurd cc
        | inr g ↦
            let same = pair_is (b, c ∷ cs) (a, rest) (sym (ap (at b c cs) g) ∙ h) in
            let back : c ∷ cs ≡ rest = ap (λ (y : A × List ℕ). y.1) same in
            (ap (λ (y : A × List ℕ). y.0) same, back, ap (stops (Open class)) (sym back) ∙ ap not g)
      ]

  ended_sound : (xs : List ℕ) (a : A) (rest : List ℕ) → ended class r xs ≡ Ok (a, rest) → Taken (with_class e class) L a xs rest
  ended_sound xs a rest h =
      let m = bind_ok (r xs) (λ x. ended_by class x.0 x.1) (a, rest) h in
      let o = by_ok m.0.0 a m.0.1 rest m.2 in
      let t = p.sound xs m.0.0 m.0.1 m.1 in
      record { text = t.text; parts = t.parts ∙ ap (λ (y : List ℕ). t.text ++ y) o.1; stop = both_stop e class rest (ap (stops e) (sym o.1) ∙ t.stop) o.2; spelled = subst (λ (v : A). L v t.text) o.0 t.spelled }

  -- a text and a byte after it
  met : (a : A) (text : List ℕ) (c : ℕ) (cs : List ℕ) (t : Bool) → L a text → stops e (c ∷ cs) ≡ true → class c ≡ t → ended class r (text ++ c ∷ cs) ≡ at a c cs t
  met a text c cs t l s g = ap go (p.complete a text (c ∷ cs) l s) ∙ ap (at a c cs) g

  ended_complete : (a : A) (text rest : List ℕ) → L a text → stops (with_class e class) rest ≡ true → ended class r (text ++ rest) ≡ Ok (a, rest)
  ended_complete a text [] l s = absurd (none_stops e class s)
  ended_complete a text (c ∷ cs) l s = let q = stop_parts e class c cs s in met a text c cs false l q.0 q.1

  ended_open : (a : A) (text : List ℕ) → L a text → (w : Option ℕ) × (ended class r text ≡ Err (Ends w))
  ended_open a text l =
      elim (cases_Bool (stops e [])) [
        | inl s ↦ (None, ap (ended class r) (sym (append-nil text)) ∙ ap go (p.complete a text [] l s))
        | inr s ↦ let o = p.open_end a text l s in (o.0, ap go o.1)
      ]

  by_err : (b : A) (mid : List ℕ) (s : Stop) → ended_by class b mid ≡ Err s → ((mid ≡ []) × (Ends None ≡ s)) ⊎ ((c : ℕ) × (cs : List ℕ) × (mid ≡ c ∷ cs) × (class c ≡ true) × (Fails Syntax (length (c ∷ cs)) ≡ s))
  by_err b [] s h = inl (refl, cc)
  by_err b (c ∷ cs) s h =
      elim (cases_Bool (class c)) [
        | inl g ↦ let read : at b c cs true ≡ Err s = sym (ap (at b c cs) g) ∙ h in inr (c, cs, refl, g, cc)
        | inr g ↦ let wrong : at b c cs false ≡ Err s = sym (ap (at b c cs) g) ∙ h in absurd cc
      ]

  ended_more : (xs : List ℕ) (w : Option ℕ) → ended class r xs ≡ Err (Ends w) → (z : List ℕ) × (a : A) × L a (xs ++ z)
  ended_more xs w h =
      elim (bind_err (r xs) (λ x. ended_by class x.0 x.1) (Ends w) h) [
        | inl o ↦ p.more xs w o
        | inr x ↦
            let t = p.sound xs x.0.0 x.0.1 x.1 in
            elim (by_err x.0.0 x.0.1 (Ends w) x.2) [
              | inl y ↦ ([], x.0.0, subst (L x.0.0) (sym (append-nil xs ∙ t.parts ∙ ap (λ (z : List ℕ). t.text ++ z) y.0 ∙ append-nil t.text)) t.spelled)
              | inr y ↦ absurd (let o = y.4 in cc)
            ]
      ]

  ended_bad : (xs : List ℕ) (k : Kind) (n : ℕ) → ended class r xs ≡ Err (Fails k n) → Refused (ended class r) xs k n
  ended_bad xs k n h =
      elim (bind_err (r xs) (λ x. ended_by class x.0 x.1) (Fails k n) h) [
        | inl o ↦
            let b = p.bad xs k n o in
            record { front = b.front; byte = b.byte; rest = b.rest; parts = b.parts; left = b.left; ends = (b.ends.0, ap go b.ends.1); stays = λ z. ap go (b.stays z) }
        | inr x ↦
            let t = p.sound xs x.0.0 x.0.1 x.1 in
            elim (by_err x.0.0 x.0.1 (Fails k n) x.2) [
              | inl y ↦ absurd (let o = y.1 in cc)
              | inr y ↦
                  let same = y.4 in
                  let kind : Syntax ≡ k = cc in
                  let left : length (y.0 ∷ y.1) ≡ n = cc in
                  record {
                    front = t.text;
                    byte = y.0;
                    rest = y.1;
                    parts = t.parts ∙ ap (λ (z : List ℕ). t.text ++ z) y.2;
                    left = sym left;
                    ends = ended_open x.0.0 t.text t.spelled;
                    stays = λ z. met x.0.0 t.text y.0 z true t.spelled (stops_head e y.0 y.1 z (ap (stops e) (sym y.2) ∙ t.stop)) y.3 ∙ ap (λ (i : Kind). let o : Result (A × List ℕ) Stop = Err (Fails i (length (y.0 ∷ z))) in o) kind;
                  }
            ]
      ]

  pub ended_reader : Reader (with_class e class) L (ended class r)
  ended_reader = record {
    start = (p.start.0, ap go p.start.1);
    sound = ended_sound;
    complete = ended_complete;
    open_end = λ a text l s. ended_open a text l;
    more = ended_more;
    bad = ended_bad;
  }

  module _ {side : Speaker} (x : Lexed side Plain r) (l : Leads side e Plain L (λ _. Plain)) where
    ended_asks : (xs : List ℕ) (w : Option ℕ) → ended class r xs ≡ Err (Ends w) → asks_from side Plain xs ≡ w
    ended_asks xs w h =
        elim (bind_err (r xs) (λ x. ended_by class x.0 x.1) (Ends w) h) [
          | inl o ↦ x.asks xs w o
          | inr m ↦
              let t = p.sound xs m.0.0 m.0.1 m.1 in
              elim (by_err m.0.0 m.0.1 (Ends w) m.2) [
                | inl y ↦
                    let none : None ≡ w = (let o = y.1 in cc) in
                    ap (asks_from side Plain) (t.parts ∙ ap (λ (z : List ℕ). t.text ++ z) y.0 ∙ append-nil t.text)
                    ∙ l.quiet m.0.0 t.text t.spelled (ap (stops e) (sym y.0) ∙ t.stop) ∙ none
                | inr y ↦ absurd (let o = y.4 in cc)
              ]
        ]

    ended_kind : (xs : List ℕ) (k : Kind) (n : ℕ) → ended class r xs ≡ Err (Fails k n) → kind_at side Plain n xs ≡ k
    ended_kind xs k n h =
        elim (bind_err (r xs) (λ x. ended_by class x.0 x.1) (Fails k n) h) [
          | inl o ↦ x.kind xs k n o
          | inr m ↦
              let t = p.sound xs m.0.0 m.0.1 m.1 in
              elim (by_err m.0.0 m.0.1 (Fails k n) m.2) [
                | inl y ↦ absurd (let o = y.1 in cc)
                | inr y ↦
                    let same = y.4 in
                    let kind : Syntax ≡ k = cc in
                    let left : length (y.0 ∷ y.1) ≡ n = cc in
                    ap (kind_at side Plain n) (t.parts ∙ ap (λ (z : List ℕ). t.text ++ z) y.2)
                    ∙ kind-append side Plain n t.text (y.0 ∷ y.1) (omega (arith, left))
                    ∙ ap (λ (ph : Phase). kind_at side ph n (y.0 ∷ y.1)) (l.after m.0.0 t.text t.spelled)
                    ∙ ap (λ (i : ℕ). kind_at side Plain i (y.0 ∷ y.1)) (sym left) ∙ kind-first side Plain y.0 y.1 ∙ kind
              ]
        ]

    ended_octets : (xs : List ℕ) (w : Option ℕ) (b : ℕ) → ended class r xs ≡ Err (Ends w) → is_in (phase Plain xs) ≡ true → eqb b 0 ≡ false → (v : Option ℕ) × (ended class r (xs ++ b ∷ []) ≡ Err (Ends v))
    ended_octets xs w b h i n =
        elim (bind_err (r xs) (λ x. ended_by class x.0 x.1) (Ends w) h) [
          | inl o ↦ let y = x.octets xs w b o i n in (y.0, ap go y.1)
          | inr m ↦
              let t = p.sound xs m.0.0 m.0.1 m.1 in
              elim (by_err m.0.0 m.0.1 (Ends w) m.2) [
                | inl y ↦
                    let whole : xs ≡ t.text = t.parts ∙ ap (λ (z : List ℕ). t.text ++ z) y.0 ∙ append-nil t.text in
                    absurd (false≢true (sym (ap (λ (z : List ℕ). is_in (phase Plain z)) whole ∙ ap is_in (l.after m.0.0 t.text t.spelled)) ∙ i))
                | inr y ↦ absurd (let o = y.4 in cc)
              ]
        ]

    pub ended_lexed : Lexed side Plain (ended class r)
    ended_lexed = record { asks = ended_asks; kind = ended_kind; octets = ended_octets }

-- a part that ends by itself, or waits for a byte, ends as a token of the class does; `with_class` computes
pub ended_part : {A : Type 0} {side : Speaker} {e : Ender} {L : A → List ℕ → Type 0} {r : List ℕ → Result (A × List ℕ) Stop} (class : ℕ → Bool) → Part side true e L r → Part side true (with_class e class) L (ended class r)
ended_part {e} class p = record {
  reader = ended_reader class p.reader;
  lexed = ended_lexed class p.reader p.lexed (p.leads refl);
  leads = λ _. record { after = (p.leads refl).after; quiet = λ a t h s. absurd (none_stops e class s) };
}
