-- Tokens that end before the first byte outside their class.
use Rattle.std.proofs.Common.{◌≡◌, ℕ, Bool, true, not, cond, List, [], ◌∷◌, ◌++◌, length, Option, None, Some, Result, Ok, Err, refl, sym, ap, ◌∙◌, inl, inr, ◌⊎◌}
use Rattle.std.proofs.lemmas.Bool.{cases_Bool, false≢true}
use Rattle.wire_reader.specs.declared.stop.Kind.{Kind}
use Rattle.wire_reader.specs.declared.stop.Kind.TheVariants.{Syntax}
use Rattle.wire_reader.specs.declared.stop.Stop.{Stop}
use Rattle.wire_reader.specs.declared.stop.Stop.TheVariants.{Ends, Fails}
use Rattle.wire_reader.specs.Machine.{RunText, run, run_next, run_end}
use Rattle.wire_reader.proofs.Reader.{Open, stops, Taken, Refused, Reader}
use Rattle.wire_reader.proofs.Parts.{pair_is}

module _ {S A : Type 0} (class : ℕ → Bool) (go : S → ℕ → Result S Kind) (out : S → Option A) where
  abbrev Text : S → A → List ℕ → Type 0
  Text s a t = RunText class go out s a t

  -- the answer at a byte
  abbrev at_byte : S → ℕ → List ℕ → Bool → Result (A × List ℕ) Stop
  at_byte s b bs t = cond t (run_next (go s b) (λ t. run class go out t bs) (length (b ∷ bs))) (run_end (out s) (b ∷ bs))

  end_ok : (o : Option A) (xs : List ℕ) (a : A) (rest : List ℕ) → run_end o xs ≡ Ok (a, rest) → (o ≡ Some a) × (xs ≡ rest)
  end_ok None [] a rest h = absurd cc
  end_ok None (b ∷ bs) a rest h = absurd cc
  end_ok (Some x) xs a rest h = let p = pair_is (x, xs) (a, rest) h in (ap (λ (y : A × List ℕ). Some (y.0)) p, ap (λ (y : A × List ℕ). y.1) p)

  next_ok : (o : Result S Kind) (f : S → Result (A × List ℕ) Stop) (n : ℕ) (x : A × List ℕ) → run_next o f n ≡ Ok x → (t : S) × (o ≡ Ok t) × (f t ≡ Ok x)
  next_ok (Ok t) f n x h = (t, refl, h)
  next_ok (Err k) f n x h = absurd cc

  run_sound : (xs : List ℕ) (s : S) (a : A) (rest : List ℕ) → run class go out s xs ≡ Ok (a, rest) → Taken (Open class) (Text s) a xs rest
  run_sound [] s a rest h = absurd cc
  run_sound (b ∷ bs) s a rest h =
      elim (cases_Bool (class b)) [
        | inl e ↦
            let m = next_ok (go s b) (λ t. run class go out t bs) (length (b ∷ bs)) (a, rest) (sym (ap (at_byte s b bs) e) ∙ h) in
            let t = run_sound bs m.0 a rest m.2 in
            record { text = b ∷ t.text; parts = ap (λ (z : List ℕ). b ∷ z) t.parts; stop = t.stop; spelled = (e, (m.0, m.1, t.spelled)) }
        | inr e ↦
            let m = end_ok (out s) (b ∷ bs) a rest (sym (ap (at_byte s b bs) e) ∙ h) in
            record { text = []; parts = m.1; stop = ap (stops (Open class)) (sym m.1) ∙ ap not e; spelled = m.0 }
      ]

  run_complete : (text : List ℕ) (s : S) (a : A) (rest : List ℕ) → Text s a text → stops (Open class) rest ≡ true → run class go out s (text ++ rest) ≡ Ok (a, rest)
  run_complete [] s a [] l st = absurd (false≢true st)
  run_complete [] s a (c ∷ rest) l st =
      elim (cases_Bool (class c)) [
        | inl e ↦ absurd (false≢true (sym (ap not e) ∙ st))
        | inr e ↦ ap (at_byte s c rest) e ∙ ap (λ (o : Option A). run_end o (c ∷ rest)) l
      ]
  run_complete (b ∷ bs) s a rest l st =
      ap (at_byte s b (bs ++ rest)) l.0
      ∙ ap (λ (o : Result S Kind). run_next o (λ t. run class go out t (bs ++ rest)) (length (b ∷ (bs ++ rest)))) l.1.1
      ∙ run_complete bs l.1.0 a rest l.1.2 st

  run_open : (text : List ℕ) (s : S) (a : A) → Text s a text → run class go out s text ≡ Err (Ends None)
  run_open [] s a l = refl
  run_open (b ∷ bs) s a l =
      ap (at_byte s b bs) l.0
      ∙ ap (λ (o : Result S Kind). run_next o (λ t. run class go out t bs) (length (b ∷ bs))) l.1.1
      ∙ run_open bs l.1.0 a l.1.2

  pub next_err : (o : Result S Kind) (f : S → Result (A × List ℕ) Stop) (n : ℕ) (x : Stop) → run_next o f n ≡ Err x → ((t : S) × (o ≡ Ok t) × (f t ≡ Err x)) ⊎ ((k : Kind) × (o ≡ Err k) × (Fails k n ≡ x))
  next_err (Ok t) f n x h = inl (t, refl, h)
  next_err (Err k) f n x h = inr (k, refl, cc)

  pub end_err : (o : Option A) (b : ℕ) (bs : List ℕ) (x : Stop) → run_end o (b ∷ bs) ≡ Err x → (o ≡ None) × (Fails Syntax (length (b ∷ bs)) ≡ x)
  end_err None b bs x h = (refl, cc)
  end_err (Some a) b bs x h = absurd cc

  module _ (completes : (s : S) → (z : List ℕ) × (a : A) × Text s a z) where
    run_more : (xs : List ℕ) (s : S) (w : Option ℕ) → run class go out s xs ≡ Err (Ends w) → (z : List ℕ) × (a : A) × Text s a (xs ++ z)
    run_more [] s w h = completes s
    run_more (b ∷ bs) s w h =
        elim (cases_Bool (class b)) [
          | inl e ↦
              elim (next_err (go s b) (λ t. run class go out t bs) (length (b ∷ bs)) (Ends w) (sym (ap (at_byte s b bs) e) ∙ h)) [
                | inl m ↦ let t = run_more bs m.0 w m.2 in (t.0, t.1, (e, (m.0, m.1, t.2)))
                | inr m ↦ absurd (let x = m.2 in cc)
              ]
          | inr e ↦ absurd (let x = (end_err (out s) b bs (Ends w) (sym (ap (at_byte s b bs) e) ∙ h)).1 in cc)
        ]

    run_bad : (xs : List ℕ) (s : S) (k : Kind) (n : ℕ) → run class go out s xs ≡ Err (Fails k n) → Refused (run class go out s) xs k n
    run_bad [] s k n h = absurd cc
    run_bad (b ∷ bs) s k n h =
        elim (cases_Bool (class b)) [
          | inl e ↦
              elim (next_err (go s b) (λ t. run class go out t bs) (length (b ∷ bs)) (Fails k n) (sym (ap (at_byte s b bs) e) ∙ h)) [
                | inl m ↦
                    let r = run_bad bs m.0 k n m.2 in
                    record {
                      front = b ∷ r.front;
                      byte = r.byte;
                      rest = r.rest;
                      parts = ap (λ (z : List ℕ). b ∷ z) r.parts;
                      left = r.left;
                      ends = (r.ends.0, ap (at_byte s b r.front) e ∙ ap (λ (o : Result S Kind). run_next o (λ t. run class go out t r.front) (length (b ∷ r.front))) m.1 ∙ r.ends.1);
                      stays = λ z. ap (at_byte s b (r.front ++ r.byte ∷ z)) e ∙ ap (λ (o : Result S Kind). run_next o (λ t. run class go out t (r.front ++ r.byte ∷ z)) (length (b ∷ (r.front ++ r.byte ∷ z)))) m.1 ∙ r.stays z;
                    }
                | inr m ↦
                    let same = m.2 in
                    let kind : m.0 ≡ k = cc in
                    let left : length (b ∷ bs) ≡ n = cc in
                    record {
                      front = [];
                      byte = b;
                      rest = bs;
                      parts = refl;
                      left = sym left;
                      ends = (None, refl);
                      stays = λ z. ap (at_byte s b z) e ∙ ap (λ (o : Result S Kind). run_next o (λ t. run class go out t z) (length (b ∷ z))) m.1 ∙ ap (λ (x : Kind). let o : Result (A × List ℕ) Stop = Err (Fails x (length (b ∷ z))) in o) kind;
                    }
              ]
          | inr e ↦
              let m = end_err (out s) b bs (Fails k n) (sym (ap (at_byte s b bs) e) ∙ h) in
              let same = m.1 in
              let kind : Syntax ≡ k = cc in
              let left : length (b ∷ bs) ≡ n = cc in
              record {
                front = [];
                byte = b;
                rest = bs;
                parts = refl;
                left = sym left;
                ends = (None, refl);
                stays = λ z. ap (at_byte s b z) e ∙ ap (λ (o : Option A). run_end o (b ∷ z)) m.0 ∙ ap (λ (x : Kind). let o : Result (A × List ℕ) Stop = Err (Fails x (length (b ∷ z))) in o) kind;
              }
        ]

    pub run_reader : (s : S) → Reader (Open class) (Text s) (run class go out s)
    run_reader s = record {
      start = (None, refl);
      sound = λ xs a rest h. run_sound xs s a rest h;
      complete = λ a text rest l st. run_complete text s a rest l st;
      open_end = λ a text l st. (None, run_open text s a l);
      more = λ xs w h. run_more xs s w h;
      bad = λ xs k n h. run_bad xs s k n h;
    }
