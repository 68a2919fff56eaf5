-- Tokens that take their last byte.
use Rattle.std.proofs.Common.{◌≡◌, ℕ, List, [], ◌∷◌, ◌++◌, length, Option, None, Result, Ok, Err, refl, sym, ap, ◌∙◌, inl, inr, ◌⊎◌}
use Rattle.std.proofs.lemmas.Bool.{true≢false}
use Rattle.wire_reader.specs.declared.stop.Kind.{Kind}
use Rattle.wire_reader.specs.declared.stop.Stop.{Stop}
use Rattle.wire_reader.specs.declared.stop.Stop.TheVariants.{Ends, Fails}
use Rattle.wire_reader.specs.Machine.{ScanText, Step, On, Take, Odd, scan, scan_next}
use Rattle.wire_reader.proofs.Reader.{Closed, Taken, Refused, Reader}
use Rattle.wire_reader.proofs.Parts.{pair_is}

module _ {S A : Type 0} (step : S → ℕ → Step S A) where
  abbrev Text : S → A → List ℕ → Type 0
  Text s a t = ScanText step s a t

  pub next_ok : (o : Step S A) (f : S → Result (A × List ℕ) Stop) (b : ℕ) (bs : List ℕ) (x : A × List ℕ) → scan_next o f b bs ≡ Ok x → ((t : S) × (o ≡ On t) × (f t ≡ Ok x)) ⊎ ((o ≡ Take x.0) × (bs ≡ x.1))
  next_ok (On t) f b bs x h = inl (t, refl, h)
  next_ok (Take a) f b bs x h = let p = pair_is (a, bs) x h in inr (ap (λ (y : A × List ℕ). let o : Step S A = Take (y.0) in o) p, ap (λ (y : A × List ℕ). y.1) p)
  next_ok (Odd k) f b bs x h = absurd cc

  pub next_err : (o : Step S A) (f : S → Result (A × List ℕ) Stop) (b : ℕ) (bs : List ℕ) (x : Stop) → scan_next o f b bs ≡ Err x → ((t : S) × (o ≡ On t) × (f t ≡ Err x)) ⊎ ((k : Kind) × (o ≡ Odd k) × (Fails k (length (b ∷ bs)) ≡ x))
  next_err (On t) f b bs x h = inl (t, refl, h)
  next_err (Take a) f b bs x h = absurd cc
  next_err (Odd k) f b bs x h = inr (k, refl, cc)

  scan_sound : (xs : List ℕ) (s : S) (a : A) (rest : List ℕ) → scan step s xs ≡ Ok (a, rest) → Taken Closed (Text s) a xs rest
  scan_sound [] s a rest h = absurd cc
  scan_sound (b ∷ bs) s a rest h =
      elim (next_ok (step s b) (λ t. scan step t bs) b bs (a, rest) h) [
        | inl m ↦ let t = scan_sound bs m.0 a rest m.2 in record { text = b ∷ t.text; parts = ap (λ (z : List ℕ). b ∷ z) t.parts; stop = refl; spelled = inl (m.0, m.1, t.spelled) }
        | inr m ↦ record { text = b ∷ []; parts = ap (λ (z : List ℕ). b ∷ z) m.1; stop = refl; spelled = inr (m.0, refl) }
      ]

  scan_complete : (text : List ℕ) (s : S) (a : A) (rest : List ℕ) → Text s a text → scan step s (text ++ rest) ≡ Ok (a, rest)
  scan_complete [] s a rest l = absurd l
  scan_complete (b ∷ bs) s a rest (inl l) = ap (λ (o : Step S A). scan_next o (λ t. scan step t (bs ++ rest)) b (bs ++ rest)) l.1 ∙ scan_complete bs l.0 a rest l.2
  scan_complete (b ∷ bs) s a rest (inr l) = ap (λ (o : Step S A). scan_next o (λ t. scan step t (bs ++ rest)) b (bs ++ rest)) l.0 ∙ ap (λ (x : List ℕ). Ok (a, x ++ rest)) l.1

  module _ (completes : (s : S) → (z : List ℕ) × (a : A) × Text s a z) where
    scan_more : (xs : List ℕ) (s : S) (w : Option ℕ) → scan step s xs ≡ Err (Ends w) → (z : List ℕ) × (a : A) × Text s a (xs ++ z)
    scan_more [] s w h = completes s
    scan_more (b ∷ bs) s w h =
        elim (next_err (step s b) (λ t. scan step t bs) b bs (Ends w) h) [
          | inl m ↦ let t = scan_more bs m.0 w m.2 in (t.0, t.1, inl (m.0, m.1, t.2))
          | inr m ↦ absurd (let x = m.2 in cc)
        ]

    scan_bad : (xs : List ℕ) (s : S) (k : Kind) (n : ℕ) → scan step s xs ≡ Err (Fails k n) → Refused (scan step s) xs k n
    scan_bad [] s k n h = absurd cc
    scan_bad (b ∷ bs) s k n h =
        elim (next_err (step s b) (λ t. scan step t bs) b bs (Fails k n) h) [
          | inl m ↦
              let r = scan_bad bs m.0 k n m.2 in
              record {
                front = b ∷ r.front;
                byte = r.byte;
                rest = r.rest;
                parts = ap (λ (z : List ℕ). b ∷ z) r.parts;
                left = r.left;
                ends = (r.ends.0, ap (λ (o : Step S A). scan_next o (λ t. scan step t r.front) b r.front) m.1 ∙ r.ends.1);
                stays = λ z. ap (λ (o : Step S A). scan_next o (λ t. scan step t (r.front ++ r.byte ∷ z)) b (r.front ++ r.byte ∷ z)) m.1 ∙ r.stays z;
              }
          | inr m ↦
              let same = m.2 in
              let kind : m.0 ≡ k = cc in
              let left : length (b ∷ bs) ≡ n = cc in
              record {
                front = [];
                byte = b;
                rest = bs;
                parts = refl;
                left = sym left;
                ends = (None, refl);
                stays = λ z. ap (λ (o : Step S A). scan_next o (λ t. scan step t z) b z) m.1 ∙ ap (λ (x : Kind). let o : Result (A × List ℕ) Stop = Err (Fails x (length (b ∷ z))) in o) kind;
              }
        ]

    pub scan_reader : (s : S) → Reader Closed (Text s) (scan step s)
    scan_reader s = record {
      start = (None, refl);
      sound = λ xs a rest h. scan_sound xs s a rest h;
      complete = λ a text rest l st. scan_complete text s a rest l;
      open_end = λ a text l st. absurd (true≢false st);
      more = λ xs w h. scan_more xs s w h;
      bad = λ xs k n h. scan_bad xs s k n h;
    }
