-- The octets of a literal, which are read once a byte has come after them.
use Rattle.std.proofs.Common.{◌≡◌, ℕ, zero, suc, Bool, true, false, not, cond, eqb, List, [], ◌∷◌, ◌++◌, length, Option, None, Result, Ok, Err, refl, sym, ap, subst, ◌∙◌, inl, inr, arith}
use Rattle.std.proofs.lemmas.Bool.{cases_Bool, false≢true, and_parts, and_from}
use Rattle.std.proofs.lemmas.List.{append-nil}
use Rattle.wire_reader.specs.declared.stop.Kind.{Kind}
use Rattle.wire_reader.specs.declared.stop.Kind.TheVariants.{Syntax}
use Rattle.wire_reader.specs.declared.stop.Stop.{Stop}
use Rattle.wire_reader.specs.declared.stop.Stop.TheVariants.{Ends, Fails}
use Rattle.wire_reader.specs.Reading.{◌>>=◌, stuck}
use Rattle.wire_reader.specs.Literal.{IsOctets, with_byte, octets_at, followed, wait_at}
use Rattle.wire_reader.proofs.Reader.{Ender, Open, stops, Taken, Refused, Reader, bind_ok, bind_err}
use Rattle.wire_reader.proofs.Parts.{pair_is}

-- ---- one byte in front of what is read

with_ok : (b : ℕ) (o : Result (List ℕ × List ℕ) Stop) (a rest : List ℕ) → with_byte b o ≡ Ok (a, rest) → (v : List ℕ) × (o ≡ Ok (v, rest)) × (a ≡ b ∷ v)
with_ok b (Ok x) a rest h = let p = pair_is (b ∷ x.0, x.1) (a, rest) h in (x.0, ap (λ (y : List ℕ). Ok (x.0, y)) (ap (λ (y : List ℕ × List ℕ). y.1) p), sym (ap (λ (y : List ℕ × List ℕ). y.0) p))
with_ok b (Err s) a rest h = absurd cc

pub with_err : (b : ℕ) (o : Result (List ℕ × List ℕ) Stop) (s : Stop) → with_byte b o ≡ Err s → o ≡ Err s
with_err b (Ok x) s h = absurd cc
with_err b (Err t) s h = cc

-- ---- octets

abbrev pub octet_case : ℕ → ℕ → List ℕ → Bool → Result (List ℕ × List ℕ) Stop
octet_case n b bs t = cond t (stuck (b ∷ bs)) (with_byte b (octets_at n bs))

pub octets_sound : (n : ℕ) (xs a rest : List ℕ) → octets_at n xs ≡ Ok (a, rest) → (xs ≡ a ++ rest) × IsOctets n a
octets_sound zero xs a rest h =
    let p = pair_is ([], xs) (a, rest) h in
    let e : [] ≡ a = ap (λ (y : List ℕ × List ℕ). y.0) p in
    (ap (λ (y : List ℕ × List ℕ). y.1) p ∙ ap (λ (x : List ℕ). x ++ rest) e, subst (IsOctets 0) e (record { each = refl; long = refl }))
octets_sound (suc n) [] a rest h = absurd cc
octets_sound (suc n) (b ∷ bs) a rest h =
    elim (cases_Bool (eqb b 0)) [
      | inl e ↦ let wrong : octet_case n b bs true ≡ Ok (a, rest) = sym (ap (octet_case n b bs) e) ∙ h in absurd cc
      | inr e ↦
          let w = with_ok b (octets_at n bs) a rest (sym (ap (octet_case n b bs) e) ∙ h) in
          let i = octets_sound n bs w.0 rest w.1 in
          (ap (λ (x : List ℕ). b ∷ x) i.0 ∙ ap (λ (x : List ℕ). x ++ rest) (sym w.2), subst (IsOctets (suc n)) (sym w.2) (record { each = and_from _ _ (ap not e) i.1.each; long = ap suc i.1.long }))
    ]

octet_is : (b : ℕ) → not (eqb b 0) ≡ true → eqb b 0 ≡ false
octet_is b h = elim (cases_Bool (eqb b 0)) [ inl e ↦ absurd (false≢true (sym (ap not e) ∙ h)) | inr e ↦ e ]

octets_complete : (n : ℕ) (t rest : List ℕ) → IsOctets n t → octets_at n (t ++ rest) ≡ Ok (t, rest)
octets_complete zero [] rest l = refl
octets_complete zero (b ∷ bs) rest l = absurd (let x = l.long in omega arith)
octets_complete (suc n) [] rest l = absurd (let x = l.long in omega arith)
octets_complete (suc n) (b ∷ bs) rest l =
    let p = and_parts _ _ l.each in
    let long : length bs ≡ n = (let x = l.long in omega arith) in
    ap (octet_case n b (bs ++ rest)) (octet_is b p.0) ∙ ap (with_byte b) (octets_complete n bs rest (record { each = p.1; long = long }))

-- some octets
abbrev ones : ℕ → List ℕ
ones zero = []
ones (suc n) = 97 ∷ ones n

ones_are : (n : ℕ) → IsOctets n (ones n)
ones_are zero = record { each = refl; long = refl }
ones_are (suc n) = let i = ones_are n in record { each = i.each; long = ap suc i.long }

octets_more : (n : ℕ) (xs : List ℕ) (w : Option ℕ) → octets_at n xs ≡ Err (Ends w) → (z : List ℕ) × IsOctets n (xs ++ z)
octets_more zero xs w h = absurd cc
octets_more (suc n) [] w h = (ones (suc n), ones_are (suc n))
octets_more (suc n) (b ∷ bs) w h =
    elim (cases_Bool (eqb b 0)) [
      | inl e ↦ let wrong : octet_case n b bs true ≡ Err (Ends w) = sym (ap (octet_case n b bs) e) ∙ h in absurd cc
      | inr e ↦
          let m = octets_more n bs w (with_err b (octets_at n bs) (Ends w) (sym (ap (octet_case n b bs) e) ∙ h)) in
          (m.0, record { each = and_from _ _ (ap not e) m.1.each; long = ap suc m.1.long })
    ]

octets_bad : (n : ℕ) (xs : List ℕ) (k : Kind) (m : ℕ) → octets_at n xs ≡ Err (Fails k m) → Refused (octets_at n) xs k m
octets_bad zero xs k m h = absurd cc
octets_bad (suc n) [] k m h = absurd cc
octets_bad (suc n) (b ∷ bs) k m h =
    elim (cases_Bool (eqb b 0)) [
      | inl e ↦
          let read : octet_case n b bs true ≡ Err (Fails k m) = sym (ap (octet_case n b bs) e) ∙ h in
          let kind : Syntax ≡ k = cc in
          let left : length (b ∷ bs) ≡ m = cc in
          record {
            front = [];
            byte = b;
            rest = bs;
            parts = refl;
            left = sym left;
            ends = (None, refl);
            stays = λ z. ap (octet_case n b z) e ∙ ap (λ (x : Kind). let o : Result (List ℕ × List ℕ) Stop = Err (Fails x (length (b ∷ z))) in o) kind;
          }
      | inr e ↦
          let r = octets_bad n bs k m (with_err b (octets_at n bs) (Fails k m) (sym (ap (octet_case n b bs) e) ∙ h)) in
          record {
            front = b ∷ r.front;
            byte = r.byte;
            rest = r.rest;
            parts = ap (λ (x : List ℕ). b ∷ x) r.parts;
            left = r.left;
            ends = (r.ends.0, ap (octet_case n b r.front) e ∙ ap (with_byte b) r.ends.1);
            stays = λ z. ap (octet_case n b (r.front ++ r.byte ∷ z)) e ∙ ap (with_byte b) (r.stays z);
          }
    ]

-- a token that needs a byte after it
abbrev pub waits : Ender
waits = Open (λ _. false)

followed_ok : (v xs a rest : List ℕ) → followed v xs ≡ Ok (a, rest) → (v ≡ a) × (xs ≡ rest) × (stops waits rest ≡ true)
followed_ok v [] a rest h = absurd cc
followed_ok v (c ∷ cs) a rest h =
    let p = pair_is (v, c ∷ cs) (a, rest) h in
    let e : c ∷ cs ≡ rest = ap (λ (y : List ℕ × List ℕ). y.1) p in
    (ap (λ (y : List ℕ × List ℕ). y.0) p, e, ap (stops waits) (sym e))

pub followed_err : (v xs : List ℕ) (s : Stop) → followed v xs ≡ Err s → (xs ≡ []) × (Ends None ≡ s)
followed_err v [] s h = (refl, cc)
followed_err v (c ∷ cs) s h = absurd cc

wait_sound : (w : Option ℕ) (n : ℕ) (xs a rest : List ℕ) → wait_at w n xs ≡ Ok (a, rest) → Taken waits (λ a t. (t ≡ a) × IsOctets n t) a xs rest
wait_sound w n [] a rest h = absurd cc
wait_sound w n (b ∷ bs) a rest h =
    let m = bind_ok (octets_at n (b ∷ bs)) (λ x. followed x.0 x.1) (a, rest) h in
    let f = followed_ok m.0.0 m.0.1 a rest m.2 in
    let o = octets_sound n (b ∷ bs) m.0.0 m.0.1 m.1 in
    record { text = m.0.0; parts = o.0 ∙ ap (λ (x : List ℕ). m.0.0 ++ x) f.1; stop = f.2; spelled = (f.0, o.1) }

after_octets : (n : ℕ) (t rest : List ℕ) → IsOctets n t → (octets_at n (t ++ rest) >>= λ x. followed x.0 x.1) ≡ followed t rest
after_octets n t rest l = ap (λ (o : Result (List ℕ × List ℕ) Stop). o >>= λ x. followed x.0 x.1) (octets_complete n t rest l)

wait_complete : (w : Option ℕ) (n : ℕ) (t rest : List ℕ) → IsOctets n t → stops waits rest ≡ true → wait_at w n (t ++ rest) ≡ Ok (t, rest)
wait_complete w n t [] l st = absurd (false≢true st)
wait_complete w n [] (c ∷ rest) l st = after_octets n [] (c ∷ rest) l
wait_complete w n (b ∷ bs) (c ∷ rest) l st = after_octets n (b ∷ bs) (c ∷ rest) l

wait_open : (w : Option ℕ) (n : ℕ) (t : List ℕ) → IsOctets n t → (v : Option ℕ) × (wait_at w n t ≡ Err (Ends v))
wait_open w n [] l = (w, refl)
wait_open w n (b ∷ bs) l = (None, ap (wait_at w n) (sym (append-nil (b ∷ bs))) ∙ after_octets n (b ∷ bs) [] l)

wait_more : (w : Option ℕ) (n : ℕ) (xs : List ℕ) (v : Option ℕ) → wait_at w n xs ≡ Err (Ends v) → (z : List ℕ) × IsOctets n (xs ++ z)
wait_more w n [] v h = (ones n, ones_are n)
wait_more w n (b ∷ bs) v h =
    elim (bind_err (octets_at n (b ∷ bs)) (λ x. followed x.0 x.1) (Ends v) h) [
      | inl e ↦ octets_more n (b ∷ bs) v e
      | inr m ↦
          let o = octets_sound n (b ∷ bs) m.0.0 m.0.1 m.1 in
          let f = followed_err m.0.0 m.0.1 (Ends v) m.2 in
          ([], subst (IsOctets n) (sym (append-nil (b ∷ bs) ∙ o.0 ∙ ap (λ (x : List ℕ). m.0.0 ++ x) f.0 ∙ append-nil m.0.0)) o.1)
    ]

wait_ends : (w : Option ℕ) (n : ℕ) (front : List ℕ) (v : Option ℕ) → octets_at n front ≡ Err (Ends v) → (v' : Option ℕ) × (wait_at w n front ≡ Err (Ends v'))
wait_ends w n [] v h = (w, refl)
wait_ends w n (b ∷ bs) v h = (v, ap (λ (o : Result (List ℕ × List ℕ) Stop). o >>= λ x. followed x.0 x.1) h)

wait_stays : (w : Option ℕ) (n : ℕ) (front : List ℕ) (c : ℕ) (z : List ℕ) (s : Stop) → octets_at n (front ++ c ∷ z) ≡ Err s → wait_at w n (front ++ c ∷ z) ≡ Err s
wait_stays w n [] c z s h = ap (λ (o : Result (List ℕ × List ℕ) Stop). o >>= λ x. followed x.0 x.1) h
wait_stays w n (b ∷ bs) c z s h = ap (λ (o : Result (List ℕ × List ℕ) Stop). o >>= λ x. followed x.0 x.1) h

wait_bad : (w : Option ℕ) (n : ℕ) (xs : List ℕ) (k : Kind) (m : ℕ) → wait_at w n xs ≡ Err (Fails k m) → Refused (wait_at w n) xs k m
wait_bad w n [] k m h = absurd cc
wait_bad w n (b ∷ bs) k m h =
    elim (bind_err (octets_at n (b ∷ bs)) (λ x. followed x.0 x.1) (Fails k m) h) [
      | inl e ↦
          let r = octets_bad n (b ∷ bs) k m e in
          record {
            front = r.front;
            byte = r.byte;
            rest = r.rest;
            parts = r.parts;
            left = r.left;
            ends = wait_ends w n r.front r.ends.0 r.ends.1;
            stays = λ z. wait_stays w n r.front r.byte z (Fails k (length (r.byte ∷ z))) (r.stays z);
          }
      | inr x ↦ absurd (let f = (followed_err x.0.0 x.0.1 (Fails k m) x.2).1 in cc)
    ]

pub wait_reader : (w : Option ℕ) (n : ℕ) → Reader waits (λ a t. (t ≡ a) × IsOctets n t) (wait_at w n)
wait_reader w n = record {
  start = (w, refl);
  sound = wait_sound w n;
  complete = λ a text rest l st. ap (λ (x : List ℕ). wait_at w n (x ++ rest)) refl ∙ wait_complete w n text rest l.1 st ∙ ap (λ (x : List ℕ). Ok (x, rest)) l.0;
  open_end = λ a text l st. wait_open w n text l.1;
  more = λ xs v h. let m = wait_more w n xs v h in (m.0, xs ++ m.0, (refl, m.1));
  bad = wait_bad w n;
}
