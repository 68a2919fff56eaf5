-- Items with a separator between.
use Rattle.std.proofs.Common.{◌≡◌, ℕ, zero, suc, ◌<◌, ◌≤◌, Bool, true, false, not, cond, eqb, ◌||◌, List, [], ◌∷◌, ◌++◌, length, Option, None, Result, Ok, Err, refl, sym, ap, subst, ◌∙◌, append_assoc, inl, inr, arith}
use Rattle.std.proofs.lemmas.Bool.{cases_Bool, false≢true, eqb-true, eq-eqb, or_parts, or_from, not-true}
use Rattle.std.proofs.lemmas.List.{append-nil, length-append}
use Rattle.wire_reader.specs.declared.stop.Kind.{Kind}
use Rattle.wire_reader.specs.declared.stop.Stop.{Stop}
use Rattle.wire_reader.specs.declared.stop.Stop.TheVariants.{Ends, Fails}
use Rattle.wire_reader.specs.Spelling.{ItemsText}
use Rattle.wire_reader.specs.Reading.{◌>>=◌}
use Rattle.wire_reader.specs.Listing.{go_on, items_by, items_at}
use Rattle.wire_reader.proofs.Reader.{Ender, Closed, Open, stops, Taken, Refused, Reader, bind_ok, bind_err}
use Rattle.wire_reader.proofs.Parts.{pair_is}

-- a list ends where its last item ends, and no separator stands
abbrev pub with_sep : Ender → ℕ → Ender
with_sep Closed sep = Open (λ b. eqb b sep)
with_sep (Open g) sep = Open (λ b. g b || eqb b sep)

ends_item : (e : Ender) (sep : ℕ) (rest : List ℕ) → stops (with_sep e sep) rest ≡ true → stops e rest ≡ true
ends_item Closed sep rest h = refl
ends_item (Open g) sep [] h = h
ends_item (Open g) sep (b ∷ bs) h = ap not (or_parts _ _ (not-true _ h)).0

no_sep : (e : Ender) (sep b : ℕ) (bs : List ℕ) → stops (with_sep e sep) (b ∷ bs) ≡ true → eqb b sep ≡ false
no_sep Closed sep b bs h = not-true _ h
no_sep (Open g) sep b bs h = (or_parts _ _ (not-true _ h)).1

ends_list : (e : Ender) (sep b : ℕ) (bs : List ℕ) → stops e (b ∷ bs) ≡ true → eqb b sep ≡ false → stops (with_sep e sep) (b ∷ bs) ≡ true
ends_list Closed sep b bs s h = ap not h
ends_list (Open g) sep b bs s h = ap not (or_from _ _ (not-true _ s) h)

pub not_ended : (e : Ender) (sep : ℕ) → stops (with_sep e sep) [] ≡ true → ⊥
not_ended Closed sep h = false≢true h
not_ended (Open g) sep h = false≢true h

stops_at : (e : Ender) (sep : ℕ) (xs ys : List ℕ) → stops e (sep ∷ xs) ≡ true → stops e (sep ∷ ys) ≡ true
stops_at Closed sep xs ys h = refl
stops_at (Open g) sep xs ys h = h

-- the bytes up to the one refused can go on, at any bound on the items
pub record RefusedBy {A : Type 0} (I : ℕ → List ℕ → Result (A × List ℕ) Stop) (xs : List ℕ) (k : Kind) (m : ℕ) : Type 0 where
  pub front : List ℕ
  pub byte : ℕ
  pub rest : List ℕ
  pub parts : xs ≡ front ++ byte ∷ rest
  pub left : m ≡ length (byte ∷ rest)
  pub ends : (n : ℕ) → length front < n → (w : Option ℕ) × (I n front ≡ Err (Ends w))
  pub stays : (n : ℕ) (z : List ℕ) → length front < n → I n (front ++ byte ∷ z) ≡ Err (Fails k (length (byte ∷ z)))

module _ {A : Type 0} {e : Ender} {L : A → List ℕ → Type 0} {r : List ℕ → Result (A × List ℕ) Stop} (sep : ℕ) (apart : stops e (sep ∷ []) ≡ true) (p : Reader e L r) where
  abbrev I : ℕ → List A → List ℕ → Result (List A × List ℕ) Stop
  I n acc xs = items_by sep r n acc xs

  -- what comes after an item
  abbrev then' : ℕ → List A → A × List ℕ → Result (List A × List ℕ) Stop
  then' n acc x = go_on sep (acc ++ x.0 ∷ []) (I n (acc ++ x.0 ∷ [])) x.1

  abbrev at : ℕ → List A → ℕ → List ℕ → Bool → Result (List A × List ℕ) Stop
  at n acc b bs t = cond t (I n acc bs) (Ok (acc, b ∷ bs))

  items_sound : (n : ℕ) (acc : List A) (xs : List ℕ) (all : List A) (rest : List ℕ) → I n acc xs ≡ Ok (all, rest) → (items : List A) × (all ≡ acc ++ items) × Taken (with_sep e sep) (ItemsText sep L) items xs rest
  items_sound zero acc xs all rest h = absurd cc
  items_sound (suc n) acc xs all rest h =
      let m = bind_ok (r xs) (then' n acc) (all, rest) h in
      let t = p.sound xs m.0.0 m.0.1 m.1 in
      after_one (λ acc' ys o. items_sound n acc' ys all rest o) m.0.0 m.0.1 t m.2
    where
      after_one : ((acc' : List A) (ys : List ℕ) → I n acc' ys ≡ Ok (all, rest) → (items : List A) × (all ≡ acc' ++ items) × Taken (with_sep e sep) (ItemsText sep L) items ys rest) → (x : A) (mid : List ℕ) → Taken e L x xs mid → then' n acc (x, mid) ≡ Ok (all, rest) → (items : List A) × (all ≡ acc ++ items) × Taken (with_sep e sep) (ItemsText sep L) items xs rest
      after_one next x [] t g = absurd cc
      after_one next x (b ∷ bs) t g =
          elim (cases_Bool (eqb b sep)) [
            | inl s ↦
                let i = next (acc ++ x ∷ []) bs (sym (ap (at n (acc ++ x ∷ []) b bs) s) ∙ g) in
                joined x b bs t s i.0 i.1 i.2
            | inr s ↦
                let same : (acc ++ x ∷ [], b ∷ bs) ≡ (all, rest) = pair_is (acc ++ x ∷ [], b ∷ bs) (all, rest) (sym (ap (at n (acc ++ x ∷ []) b bs) s) ∙ g) in
                let back : b ∷ bs ≡ rest = ap (λ (y : List A × List ℕ). y.1) same in (
                  x ∷ [],
                  sym (ap (λ (y : List A × List ℕ). y.0) same),
                  record { text = t.text; parts = t.parts ∙ ap (λ (y : List ℕ). t.text ++ y) back; stop = ap (stops (with_sep e sep)) (sym back) ∙ ends_list e sep b bs t.stop s; spelled = t.spelled },
                )
          ]
        where
          joined : (x : A) (b : ℕ) (bs : List ℕ) → Taken e L x xs (b ∷ bs) → eqb b sep ≡ true → (items : List A) → all ≡ (acc ++ x ∷ []) ++ items → Taken (with_sep e sep) (ItemsText sep L) items bs rest → (items : List A) × (all ≡ acc ++ items) × Taken (with_sep e sep) (ItemsText sep L) items xs rest
          joined x b bs t s [] same u = absurd u.spelled
          joined x b bs t s (y ∷ items) same u = (
            x ∷ y ∷ items,
            same ∙ append_assoc acc (x ∷ []) (y ∷ items),
            record {
              text = t.text ++ b ∷ u.text;
              parts = t.parts ∙ ap (λ (z : List ℕ). t.text ++ b ∷ z) u.parts ∙ sym (append_assoc t.text (b ∷ u.text) rest);
              stop = u.stop;
              spelled = record { front = t.text; back = b ∷ u.text; parts = refl; first = t.spelled; second = record { front = b ∷ []; back = u.text; parts = refl; first = ap (λ (c : ℕ). c ∷ []) (eqb-true b sep s); second = u.spelled } };
            },
          )

  -- an item, and then the separator
  step : (n : ℕ) (acc : List A) (x : A) (text more : List ℕ) → L x text → I (suc n) acc (text ++ sep ∷ more) ≡ I n (acc ++ x ∷ []) more
  step n acc x text more l =
      ap (λ (o : Result (A × List ℕ) Stop). o >>= then' n acc) (p.complete x text (sep ∷ more) l (stops_at e sep [] more apart))
      ∙ ap (at n (acc ++ x ∷ []) sep more) (eq-eqb sep sep refl)

  last_item : (n : ℕ) (acc : List A) (x : A) (text rest : List ℕ) → L x text → stops (with_sep e sep) rest ≡ true → I (suc n) acc (text ++ rest) ≡ Ok (acc ++ x ∷ [], rest)
  last_item n acc x text [] l s = absurd (not_ended e sep s)
  last_item n acc x text (b ∷ rest) l s =
      ap (λ (o : Result (A × List ℕ) Stop). o >>= then' n acc) (p.complete x text (b ∷ rest) l (ends_item e sep (b ∷ rest) s))
      ∙ ap (at n (acc ++ x ∷ []) b rest) (no_sep e sep b rest s)

  last_open : (n : ℕ) (acc : List A) (x : A) (text : List ℕ) → L x text → (w : Option ℕ) × (I (suc n) acc text ≡ Err (Ends w))
  last_open n acc x text l =
      elim (cases_Bool (stops e [])) [
        | inl s ↦ (None, ap (I (suc n) acc) (sym (append-nil text)) ∙ ap (λ (o : Result (A × List ℕ) Stop). o >>= then' n acc) (p.complete x text [] l s))
        | inr s ↦ let o = p.open_end x text l s in (o.0, ap (λ (o : Result (A × List ℕ) Stop). o >>= then' n acc) o.1)
      ]

  items_complete : (items : List A) (n : ℕ) (acc : List A) (text rest : List ℕ) → ItemsText sep L items text → length items ≤ n → stops (with_sep e sep) rest ≡ true → I n acc (text ++ rest) ≡ Ok (acc ++ items, rest)
  items_complete [] n acc text rest l le s = absurd l
  items_complete (x ∷ []) zero acc text rest l le s = absurd (omega (arith, le))
  items_complete (x ∷ []) (suc n) acc text rest l le s = last_item n acc x text rest l s
  items_complete (x ∷ y ∷ items) zero acc text rest l le s = absurd (omega (arith, le))
  items_complete (x ∷ y ∷ items) (suc n) acc text rest l le s =
      let split : text ++ rest ≡ l.front ++ sep ∷ (l.second.back ++ rest) =
      ap (λ (t : List ℕ). t ++ rest) (l.parts ∙ ap (λ (t : List ℕ). l.front ++ t) (l.second.parts ∙ ap (λ (t : List ℕ). t ++ l.second.back) l.second.first)) ∙ append_assoc l.front (sep ∷ l.second.back) rest in
      ap (I (suc n) acc) split ∙ step n acc x l.front (l.second.back ++ rest) l.first
      ∙ items_complete (y ∷ items) n (acc ++ x ∷ []) l.second.back rest l.second.second (omega (arith, le)) s
      ∙ ap (λ (z : List A). Ok (z, rest)) (append_assoc acc (x ∷ []) (y ∷ items))

  items_open : (items : List A) (n : ℕ) (acc : List A) (text : List ℕ) → ItemsText sep L items text → length items ≤ n → (w : Option ℕ) × (I n acc text ≡ Err (Ends w))
  items_open [] n acc text l le = absurd l
  items_open (x ∷ items) zero acc text l le = (None, refl)
  items_open (x ∷ []) (suc n) acc text l le = last_open n acc x text l
  items_open (x ∷ y ∷ items) (suc n) acc text l le =
      let split : text ≡ l.front ++ sep ∷ l.second.back = l.parts ∙ ap (λ (t : List ℕ). l.front ++ t) (l.second.parts ∙ ap (λ (t : List ℕ). t ++ l.second.back) l.second.first) in
      let o = items_open (y ∷ items) n (acc ++ x ∷ []) l.second.back l.second.second (omega (arith, le)) in
      (o.0, ap (I (suc n) acc) split ∙ step n acc x l.front l.second.back l.first ∙ o.1)

  items_le : (items : List A) (text : List ℕ) → ItemsText sep L items text → length items ≤ suc (length text)
  items_le [] text l = absurd l
  items_le (x ∷ []) text l = omega arith
  items_le (x ∷ y ∷ items) text l =
      let i = items_le (y ∷ items) l.second.back l.second.second in
      omega (arith, i, ap length l.parts, length-append l.front l.back, ap length l.second.parts, length-append l.second.front l.second.back, ap length l.second.first)

  items_more : (n : ℕ) (acc : List A) (xs : List ℕ) (w : Option ℕ) → I n acc xs ≡ Err (Ends w) → length xs < n → (z : List ℕ) × (items : List A) × ItemsText sep L items (xs ++ z)
  items_more zero acc xs w h lt = absurd (omega (arith, lt))
  items_more (suc n) acc xs w h lt =
      elim (bind_err (r xs) (then' n acc) (Ends w) h) [
        | inl o ↦ let m = p.more xs w o in (m.0, m.1 ∷ [], m.2)
        | inr x ↦ after_one (λ acc' ys o l. items_more n acc' ys w o l) x.0.0 x.0.1 (p.sound xs x.0.0 x.0.1 x.1) x.2
      ]
    where
      joined : (x : A) (b : ℕ) (bs : List ℕ) → Taken e L x xs (b ∷ bs) → eqb b sep ≡ true → (z : List ℕ) (items : List A) → ItemsText sep L items (bs ++ z) → (z : List ℕ) × (items : List A) × ItemsText sep L items (xs ++ z)
      joined x b bs t s z [] l = absurd l
      joined x b bs t s z (y ∷ items) l = (
        z,
        x ∷ y ∷ items,
        record {
          front = t.text;
          back = b ∷ (bs ++ z);
          parts = ap (λ (k : List ℕ). k ++ z) t.parts ∙ append_assoc t.text (b ∷ bs) z;
          first = t.spelled;
          second = record { front = b ∷ []; back = bs ++ z; parts = refl; first = ap (λ (c : ℕ). c ∷ []) (eqb-true b sep s); second = l };
        },
      )

      after_one : ((acc' : List A) (ys : List ℕ) → I n acc' ys ≡ Err (Ends w) → length ys < n → (z : List ℕ) × (items : List A) × ItemsText sep L items (ys ++ z)) → (x : A) (mid : List ℕ) → Taken e L x xs mid → then' n acc (x, mid) ≡ Err (Ends w) → (z : List ℕ) × (items : List A) × ItemsText sep L items (xs ++ z)
      after_one next x [] t g = ([], x ∷ [], subst (L x) (sym (append-nil xs ∙ t.parts ∙ append-nil t.text)) t.spelled)
      after_one next x (b ∷ bs) t g =
          elim (cases_Bool (eqb b sep)) [
            | inl s ↦
                let m = next (acc ++ x ∷ []) bs (sym (ap (at n (acc ++ x ∷ []) b bs) s) ∙ g) (omega (arith, lt, ap length t.parts, length-append t.text (b ∷ bs))) in
                joined x b bs t s m.0 m.1 m.2
            | inr s ↦ absurd (let o = sym (ap (at n (acc ++ x ∷ []) b bs) s) ∙ g in cc)
          ]

  -- the same bytes up to a byte, and then others
  again_at : (n : ℕ) (acc : List A) (x : A) (text front : List ℕ) (c : ℕ) (z : List ℕ) → L x text → I (suc n) acc (text ++ sep ∷ (front ++ c ∷ z)) ≡ I n (acc ++ x ∷ []) (front ++ c ∷ z)
  again_at n acc x text front c z l = step n acc x text (front ++ c ∷ z) l

  pub items_bad : (n : ℕ) (acc : List A) (xs : List ℕ) (k : Kind) (m : ℕ) → I n acc xs ≡ Err (Fails k m) → RefusedBy (λ n xs. I n acc xs) xs k m
  items_bad zero acc xs k m h = absurd cc
  items_bad (suc n) acc xs k m h =
      elim (bind_err (r xs) (then' n acc) (Fails k m) h) [
        | inl o ↦ first_bad (p.bad xs k m o)
        | inr x ↦ after_one (λ acc' ys o. items_bad n acc' ys k m o) x.0.0 x.0.1 (p.sound xs x.0.0 x.0.1 x.1) x.2
      ]
    where
      first_ends : (i : ℕ) (front : List ℕ) (w : Option ℕ) → r front ≡ Err (Ends w) → length front < i → (w : Option ℕ) × (I i acc front ≡ Err (Ends w))
      first_ends zero front w o lt = absurd (omega (arith, lt))
      first_ends (suc i) front w o lt = (w, ap (λ (o : Result (A × List ℕ) Stop). o >>= then' i acc) o)

      first_stays : (i : ℕ) (xs : List ℕ) (s : Stop) → r xs ≡ Err s → 0 < i → I i acc xs ≡ Err s
      first_stays zero xs s o lt = absurd (omega (arith, lt))
      first_stays (suc i) xs s o lt = ap (λ (o : Result (A × List ℕ) Stop). o >>= then' i acc) o

      first_bad : Refused r xs k m → RefusedBy (λ n xs. I n acc xs) xs k m
      first_bad b = record {
        front = b.front;
        byte = b.byte;
        rest = b.rest;
        parts = b.parts;
        left = b.left;
        ends = λ i lt. first_ends i b.front b.ends.0 b.ends.1 lt;
        stays = λ i z lt. first_stays i (b.front ++ b.byte ∷ z) (Fails k (length (b.byte ∷ z))) (b.stays z) (omega (arith, lt));
      }

      later : (x : A) (text bs : List ℕ) → L x text → xs ≡ text ++ sep ∷ bs → RefusedBy (λ n xs. I n (acc ++ x ∷ []) xs) bs k m → RefusedBy (λ n xs. I n acc xs) xs k m
      later x text bs l e b = record {
        front = text ++ sep ∷ b.front;
        byte = b.byte;
        rest = b.rest;
        parts = e ∙ ap (λ (y : List ℕ). text ++ sep ∷ y) b.parts ∙ sym (append_assoc text (sep ∷ b.front) (b.byte ∷ b.rest));
        left = b.left;
        ends = λ i lt. later_ends i lt;
        stays = λ i z lt. later_stays i z lt;
      }
        where
          later_ends : (i : ℕ) → length (text ++ sep ∷ b.front) < i → (w : Option ℕ) × (I i acc (text ++ sep ∷ b.front) ≡ Err (Ends w))
          later_ends zero lt = absurd (omega (arith, lt))
          later_ends (suc i) lt = let o = b.ends i (omega (arith, lt, length-append text (sep ∷ b.front))) in (o.0, step i acc x text b.front l ∙ o.1)

          later_stays : (i : ℕ) (z : List ℕ) → length (text ++ sep ∷ b.front) < i → I i acc ((text ++ sep ∷ b.front) ++ b.byte ∷ z) ≡ Err (Fails k (length (b.byte ∷ z)))
          later_stays zero z lt = absurd (omega (arith, lt))
          later_stays (suc i) z lt =
              ap (I (suc i) acc) (append_assoc text (sep ∷ b.front) (b.byte ∷ z)) ∙ again_at i acc x text b.front b.byte z l
              ∙ b.stays i z (omega (arith, lt, length-append text (sep ∷ b.front)))

      after_one : ((acc' : List A) (ys : List ℕ) → I n acc' ys ≡ Err (Fails k m) → RefusedBy (λ n xs. I n acc' xs) ys k m) → (x : A) (mid : List ℕ) → Taken e L x xs mid → then' n acc (x, mid) ≡ Err (Fails k m) → RefusedBy (λ n xs. I n acc xs) xs k m
      after_one next x [] t g = absurd cc
      after_one next x (b ∷ bs) t g =
          elim (cases_Bool (eqb b sep)) [
            | inl s ↦ later x t.text bs t.spelled (t.parts ∙ ap (λ (c : ℕ). t.text ++ c ∷ bs) (eqb-true b sep s)) (next (acc ++ x ∷ []) bs (sym (ap (at n (acc ++ x ∷ []) b bs) s) ∙ g))
            | inr s ↦ absurd (let o = sym (ap (at n (acc ++ x ∷ []) b bs) s) ∙ g in cc)
          ]

  pub items_reader : Reader (with_sep e sep) (ItemsText sep L) (items_at sep r)
  items_reader = record {
    start = (p.start.0, ap (λ (o : Result (A × List ℕ) Stop). o >>= then' 0 []) p.start.1);
    sound = λ xs all rest h.
        let i = items_sound (suc (length xs)) [] xs all rest h in
        let same : all ≡ i.0 = i.1 in
        subst (λ (v : List A). Taken (with_sep e sep) (ItemsText sep L) v xs rest) (sym same) i.2;
    complete = λ all text rest l s. items_complete all (suc (length (text ++ rest))) [] text rest l (omega (arith, items_le all text l, length-append text rest)) s;
    open_end = λ all text l s. items_open all (suc (length text)) [] text l (items_le all text l);
    more = λ xs w h. items_more (suc (length xs)) [] xs w h (omega arith);
    bad = λ xs k n h.
        let b = items_bad (suc (length xs)) [] xs k n h in
        record {
          front = b.front;
          byte = b.byte;
          rest = b.rest;
          parts = b.parts;
          left = b.left;
          ends = b.ends (suc (length b.front)) (omega arith);
          stays = λ z. b.stays (suc (length (b.front ++ b.byte ∷ z))) z (omega (arith, length-append b.front (b.byte ∷ z)));
        };
  }
