-- A part that may be left out, after a token: as `:x` after `x`.
use Rattle.std.proofs.Common.{◌≡◌, ℕ, Bool, true, false, not, cond, eqb, ◌||◌, List, [], ◌∷◌, ◌++◌, length, Option, None, Some, Result, Ok, Err, refl, sym, ap, subst, ◌∙◌, inl, inr}
use Rattle.std.proofs.lemmas.Bool.{cases_Bool, true≢false, false≢true, eqb-true, eq-eqb, not-true, or_parts, or_from}
use Rattle.wire_reader.specs.declared.side.Speaker.{Speaker}
use Rattle.wire_reader.specs.declared.lexical.Phase.{Phase}
use Rattle.wire_reader.specs.declared.lexical.Phase.TheVariants.{Plain, Brace}
use Rattle.wire_reader.specs.declared.stop.Kind.{Kind}
use Rattle.wire_reader.specs.declared.stop.Kind.TheVariants.{Syntax}
use Rattle.wire_reader.specs.declared.stop.Stop.{Stop}
use Rattle.wire_reader.specs.declared.stop.Stop.TheVariants.{Ends, Fails}
use Rattle.wire_reader.specs.Lexical.{next, phase, is_in, restart, asks_from}
use Rattle.wire_reader.specs.Spelling.{OptText}
use Rattle.wire_reader.specs.Reading.{◌>>=◌, stuck, mapped}
use Rattle.wire_reader.specs.Listing.{opt_at}
use Rattle.wire_reader.proofs.Reader.{Open, stops, Taken, Refused, Reader, bind_ok}
use Rattle.wire_reader.proofs.Parts.{pair_is}
use Rattle.wire_reader.proofs.Lexed.{Lexed, Leads, kind_at, asks-step, kind-first, kind-step}
use Rattle.wire_reader.proofs.LexedSeq.{mapped_stop, left_within}
use Rattle.wire_reader.proofs.Part.{Part}

-- before which bytes neither the token nor the part ends
abbrev pub goes_on : (ℕ → Bool) → ℕ → ℕ → Bool
goes_on g c b = g b || eqb b c

-- the answer at a byte
abbrev at : {A : Type 0} → (ℕ → Bool) → (List ℕ → Result (A × List ℕ) Stop) → ℕ → List ℕ → Bool → Result (Option A × List ℕ) Stop
at g s b bs t = cond t (mapped (λ a. Some a) s bs) (cond (g b) (stuck (b ∷ bs)) (Ok (None, b ∷ bs)))

abbrev at_none : {A : Type 0} → ℕ → List ℕ → Bool → Result (Option A × List ℕ) Stop
at_none b bs t = cond t (stuck (b ∷ bs)) (Ok (None, b ∷ bs))

-- such a part may follow the token
pub opt_follows : {A : Type 0} (g : ℕ → Bool) (c : ℕ) (s : List ℕ → Result (A × List ℕ) Stop) → g c ≡ false → (xs : List ℕ) → stops (Open g) xs ≡ false → opt_at g c s xs ≡ stuck xs
opt_follows g c s n [] h = refl
opt_follows {A} g c s n (b ∷ bs) h =
    elim (cases_Bool (g b)) [
      | inl e ↦
          elim (cases_Bool (eqb b c)) [
            | inl f ↦ absurd (true≢false (sym e ∙ ap g (eqb-true b c f) ∙ n))
            | inr f ↦ ap (at g s b bs) f ∙ ap (at_none {A = A} b bs) e
          ]
      | inr e ↦ absurd (true≢false (sym (ap not e) ∙ h))
    ]

module _ {A : Type 0} {L : A → List ℕ → Type 0} {s : List ℕ → Result (A × List ℕ) Stop} (g : ℕ → Bool) (c : ℕ) (p : Reader (Open (goes_on g c)) L s) where
  abbrev O : Option A → List ℕ → Type 0
  O v t = OptText c L v t

  abbrev done : Result (A × List ℕ) Stop → Result (Option A × List ℕ) Stop
  done o = o >>= λ x. Ok (Some x.0, x.1)

  opt_sound : (xs : List ℕ) (v : Option A) (rest : List ℕ) → opt_at g c s xs ≡ Ok (v, rest) → Taken (Open (goes_on g c)) O v xs rest
  opt_sound [] v rest h = absurd cc
  opt_sound (b ∷ bs) v rest h =
      elim (cases_Bool (eqb b c)) [
        | inl e ↦
            let m = bind_ok (s bs) (λ x. Ok (Some x.0, x.1)) (v, rest) (sym (ap (at g s b bs) e) ∙ h) in
            let same : (Some m.0.0, m.0.1) ≡ (v, rest) = pair_is (Some m.0.0, m.0.1) (v, rest) m.2 in
            let t = p.sound bs m.0.0 m.0.1 m.1 in
            subst (λ (y : Option A × List ℕ). Taken (Open (goes_on g c)) O y.0 (b ∷ bs) y.1) same
            (record { text = b ∷ t.text; parts = ap (λ (z : List ℕ). b ∷ z) t.parts; stop = t.stop; spelled = record { front = b ∷ []; back = t.text; parts = refl; first = ap (λ (x : ℕ). x ∷ []) (eqb-true b c e); second = t.spelled } })
        | inr e ↦
            elim (cases_Bool (g b)) [
              | inl f ↦ let wrong : at_none b bs true ≡ Ok (v, rest) = sym (ap (at g s b bs) e ∙ ap (at_none b bs) f) ∙ h in absurd cc
              | inr f ↦
                  let same : (None, b ∷ bs) ≡ (v, rest) = pair_is (None, b ∷ bs) (v, rest) (sym (ap (at g s b bs) e ∙ ap (at_none b bs) f) ∙ h) in
                  subst (λ (y : Option A × List ℕ). Taken (Open (goes_on g c)) O y.0 (b ∷ bs) y.1) same
                  (record { text = []; parts = refl; stop = ap not (or_from _ _ f e); spelled = refl })
            ]
      ]

  -- the byte and what follows it
  following : (text front back rest : List ℕ) → text ≡ front ++ back → front ≡ c ∷ [] → opt_at g c s (text ++ rest) ≡ done (s (back ++ rest))
  following text front back rest e f =
      ap (λ (x : List ℕ). opt_at g c s (x ++ rest)) (e ∙ ap (λ (x : List ℕ). x ++ back) f) ∙ ap (at g s c (back ++ rest)) (eq-eqb c c refl)

  opt_complete : (v : Option A) (text rest : List ℕ) → O v text → stops (Open (goes_on g c)) rest ≡ true → opt_at g c s (text ++ rest) ≡ Ok (v, rest)
  opt_complete (Some a) text rest l st = following text l.front l.back rest l.parts l.first ∙ ap done (p.complete a l.back rest l.second st)
  opt_complete None text [] l st = absurd (false≢true st)
  opt_complete None text (b ∷ bs) l st =
      let q = or_parts _ _ (not-true _ st) in
      ap (λ (x : List ℕ). opt_at g c s (x ++ b ∷ bs)) l ∙ ap (at g s b bs) q.1 ∙ ap (at_none b bs) q.0

  opt_open : (v : Option A) (text : List ℕ) → O v text → (w : Option ℕ) × (opt_at g c s text ≡ Err (Ends w))
  opt_open None text l = (None, ap (opt_at g c s) l)
  opt_open (Some a) text l =
      let o = p.open_end a l.back l.second refl in
      (o.0, ap (opt_at g c s) (l.parts ∙ ap (λ (x : List ℕ). x ++ l.back) l.first) ∙ ap (at g s c l.back) (eq-eqb c c refl) ∙ ap done o.1)

  opt_more : (xs : List ℕ) (w : Option ℕ) → opt_at g c s xs ≡ Err (Ends w) → (z : List ℕ) × (v : Option A) × O v (xs ++ z)
  opt_more [] w h = ([], None, refl)
  opt_more (b ∷ bs) w h =
      elim (cases_Bool (eqb b c)) [
        | inl e ↦
            let m = p.more bs w (mapped_stop (λ a. Some a) s bs (Ends w) (sym (ap (at g s b bs) e) ∙ h)) in
            (m.0, Some m.1, record { front = b ∷ []; back = bs ++ m.0; parts = refl; first = ap (λ (x : ℕ). x ∷ []) (eqb-true b c e); second = m.2 })
        | inr e ↦
            elim (cases_Bool (g b)) [
              | inl f ↦ let wrong : at_none {A = A} b bs true ≡ Err (Ends w) = sym (ap (at g s b bs) e ∙ ap (at_none b bs) f) ∙ h in absurd cc
              | inr f ↦ let wrong : at_none {A = A} b bs false ≡ Err (Ends w) = sym (ap (at g s b bs) e ∙ ap (at_none b bs) f) ∙ h in absurd cc
            ]
      ]

  opt_bad : (xs : List ℕ) (k : Kind) (n : ℕ) → opt_at g c s xs ≡ Err (Fails k n) → Refused (opt_at g c s) xs k n
  opt_bad [] k n h = absurd cc
  opt_bad (b ∷ bs) k n h =
      elim (cases_Bool (eqb b c)) [
        | inl e ↦
            let r = p.bad bs k n (mapped_stop (λ a. Some a) s bs (Fails k n) (sym (ap (at g s b bs) e) ∙ h)) in
            record {
              front = b ∷ r.front;
              byte = r.byte;
              rest = r.rest;
              parts = ap (λ (z : List ℕ). b ∷ z) r.parts;
              left = r.left;
              ends = (r.ends.0, ap (at g s b r.front) e ∙ ap done r.ends.1);
              stays = λ z. ap (at g s b (r.front ++ r.byte ∷ z)) e ∙ ap done (r.stays z);
            }
        | inr e ↦
            elim (cases_Bool (g b)) [
              | inl f ↦
                  let read : at_none {A = A} b bs true ≡ Err (Fails k n) = sym (ap (at g s b bs) e ∙ ap (at_none b bs) f) ∙ h in
                  let kind : Syntax ≡ k = cc in
                  let left : length (b ∷ bs) ≡ n = cc in
                  record {
                    front = [];
                    byte = b;
                    rest = bs;
                    parts = refl;
                    left = sym left;
                    ends = (None, refl);
                    stays = λ z. ap (at g s b z) e ∙ ap (at_none b z) f ∙ ap (λ (i : Kind). let o : Result (Option A × List ℕ) Stop = Err (Fails i (length (b ∷ z))) in o) kind;
                  }
              | inr f ↦ let wrong : at_none {A = A} b bs false ≡ Err (Fails k n) = sym (ap (at g s b bs) e ∙ ap (at_none b bs) f) ∙ h in absurd cc
            ]
      ]

  pub opt_reader : Reader (Open (goes_on g c)) O (opt_at g c s)
  opt_reader = record {
    start = (None, refl);
    sound = opt_sound;
    complete = opt_complete;
    open_end = λ v text l st. opt_open v text l;
    more = opt_more;
    bad = opt_bad;
  }

  module _ {side : Speaker} (plain : eqb c 123 ≡ false) (x : Lexed side Plain s) (l : Leads side (Open (goes_on g c)) Plain L (λ _. Plain)) where
    c_plain : (b : ℕ) → eqb b c ≡ true → next Plain b ≡ Plain
    c_plain b e = ap restart (eqb-true b c e) ∙ ap (λ (t : Bool). cond t Brace Plain) plain

    opt_asks : (xs : List ℕ) (w : Option ℕ) → opt_at g c s xs ≡ Err (Ends w) → asks_from side Plain xs ≡ w
    opt_asks [] w h = cc
    opt_asks (b ∷ bs) w h =
        elim (cases_Bool (eqb b c)) [
          | inl e ↦
              asks-step side Plain b bs refl ∙ ap (λ (ph : Phase). asks_from side ph bs) (c_plain b e)
              ∙ x.asks bs w (mapped_stop (λ a. Some a) s bs (Ends w) (sym (ap (at g s b bs) e) ∙ h))
          | inr e ↦
              elim (cases_Bool (g b)) [
                | inl f ↦ let wrong : at_none {A = A} b bs true ≡ Err (Ends w) = sym (ap (at g s b bs) e ∙ ap (at_none b bs) f) ∙ h in absurd cc
                | inr f ↦ let wrong : at_none {A = A} b bs false ≡ Err (Ends w) = sym (ap (at g s b bs) e ∙ ap (at_none b bs) f) ∙ h in absurd cc
              ]
        ]

    opt_kind : (xs : List ℕ) (k : Kind) (n : ℕ) → opt_at g c s xs ≡ Err (Fails k n) → kind_at side Plain n xs ≡ k
    opt_kind [] k n h = absurd cc
    opt_kind (b ∷ bs) k n h =
        elim (cases_Bool (eqb b c)) [
          | inl e ↦
              let there = mapped_stop (λ a. Some a) s bs (Fails k n) (sym (ap (at g s b bs) e) ∙ h) in
              kind-step side Plain n b bs (left_within p bs k n there) ∙ ap (λ (ph : Phase). kind_at side ph n bs) (c_plain b e) ∙ x.kind bs k n there
          | inr e ↦
              elim (cases_Bool (g b)) [
                | inl f ↦
                    let read : at_none {A = A} b bs true ≡ Err (Fails k n) = sym (ap (at g s b bs) e ∙ ap (at_none b bs) f) ∙ h in
                    let kind : Syntax ≡ k = cc in
                    let left : length (b ∷ bs) ≡ n = cc in
                    ap (λ (i : ℕ). kind_at side Plain i (b ∷ bs)) (sym left) ∙ kind-first side Plain b bs ∙ kind
                | inr f ↦ let wrong : at_none {A = A} b bs false ≡ Err (Fails k n) = sym (ap (at g s b bs) e ∙ ap (at_none b bs) f) ∙ h in absurd cc
              ]
        ]

    opt_octets : (xs : List ℕ) (w : Option ℕ) (y : ℕ) → opt_at g c s xs ≡ Err (Ends w) → is_in (phase Plain xs) ≡ true → eqb y 0 ≡ false → (v : Option ℕ) × (opt_at g c s (xs ++ y ∷ []) ≡ Err (Ends v))
    opt_octets [] w y h i n = absurd (false≢true i)
    opt_octets (b ∷ bs) w y h i n =
        elim (cases_Bool (eqb b c)) [
          | inl e ↦
              let o = x.octets bs w y (mapped_stop (λ a. Some a) s bs (Ends w) (sym (ap (at g s b bs) e) ∙ h)) (ap (λ (ph : Phase). is_in (phase ph bs)) (sym (c_plain b e)) ∙ i) n in
              (o.0, ap (at g s b (bs ++ y ∷ [])) e ∙ ap done o.1)
          | inr e ↦
              elim (cases_Bool (g b)) [
                | inl f ↦ let wrong : at_none {A = A} b bs true ≡ Err (Ends w) = sym (ap (at g s b bs) e ∙ ap (at_none b bs) f) ∙ h in absurd cc
                | inr f ↦ let wrong : at_none {A = A} b bs false ≡ Err (Ends w) = sym (ap (at g s b bs) e ∙ ap (at_none b bs) f) ∙ h in absurd cc
              ]
        ]

    opt_after : (v : Option A) (t : List ℕ) → O v t → phase Plain t ≡ Plain
    opt_after None t h = ap (phase Plain) h
    opt_after (Some a) t h =
        ap (phase Plain) (h.parts ∙ ap (λ (z : List ℕ). z ++ h.back) h.first) ∙ ap (λ (ph : Phase). phase ph h.back) (c_plain c (eq-eqb c c refl)) ∙ l.after a h.back h.second

    opt_lexed : Lexed side Plain (opt_at g c s)
    opt_lexed = record { asks = opt_asks; kind = opt_kind; octets = opt_octets }

    pub opt_of : Part side true (Open (goes_on g c)) O (opt_at g c s)
    opt_of = record { reader = opt_reader; lexed = opt_lexed; leads = λ _. record { after = opt_after; quiet = λ v t h st. absurd (false≢true st) } }

-- The part s follows the byte c, and ends before no byte of the token's class g and not before c: by `ended_part`.
pub opt_part : {A : Type 0} {side : Speaker} {L : A → List ℕ → Type 0} {s : List ℕ → Result (A × List ℕ) Stop} (g : ℕ → Bool) (c : ℕ) → eqb c 123 ≡ false → Part side true (Open (goes_on g c)) L s → Part side true (Open (goes_on g c)) (OptText c L) (opt_at g c s)
opt_part g c plain p = opt_of g c p.reader plain p.lexed (p.leads refl)
