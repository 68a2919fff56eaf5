-- Items with a separator between, as a part of a grammar.
use Rattle.std.proofs.Common.{◌≡◌, ℕ, zero, suc, ◌+◌, ◌<◌, ◌≤◌, Bool, true, false, cond, eqb, List, [], ◌∷◌, ◌++◌, length, Option, Result, Ok, Err, refl, sym, ap, ◌∙◌, append_assoc, inl, inr, arith}
use Rattle.std.proofs.lemmas.Bool.{cases_Bool, false≢true, eqb-true, eq-eqb}
use Rattle.std.proofs.lemmas.List.{append-nil, length-append}
use Rattle.wire_reader.specs.declared.side.Speaker.{Speaker}
use Rattle.wire_reader.specs.declared.lexical.Phase.{Phase}
use Rattle.wire_reader.specs.declared.lexical.Phase.TheVariants.{Plain, Brace}
use Rattle.wire_reader.specs.declared.stop.Kind.{Kind}
use Rattle.wire_reader.specs.declared.stop.Stop.{Stop}
use Rattle.wire_reader.specs.declared.stop.Stop.TheVariants.{Ends, Fails}
use Rattle.wire_reader.specs.Lexical.{next, phase, is_in, asks_from, restart}
use Rattle.wire_reader.specs.Spelling.{ItemsText}
use Rattle.wire_reader.specs.Reading.{◌>>=◌}
use Rattle.wire_reader.specs.Listing.{go_on, items_by, items_at}
use Rattle.wire_reader.proofs.Reader.{Ender, stops, bind_err}
use Rattle.wire_reader.proofs.Items.{with_sep, items_reader, items_bad, not_ended}
use Rattle.wire_reader.proofs.Lexed.{Leads, kind_at, asks-append, asks-step, kind-append, kind-step}
use Rattle.wire_reader.proofs.LexedSeq.{two-phases, stops_on}
use Rattle.wire_reader.proofs.Part.{Part}

module _ {A : Type 0} (side : Speaker) {e : Ender} {L : A → List ℕ → Type 0} {r : List ℕ → Result (A × List ℕ) Stop} (sep : ℕ) (apart : stops e (sep ∷ []) ≡ true) (plain : eqb sep 123 ≡ false) (p : Part side true e L r) where
  l : Leads side e Plain L (λ _. Plain)
  l = p.leads refl

  -- after an item
  abbrev following : ℕ → List A → A × List ℕ → Result (List A × List ℕ) Stop
  following n acc x = go_on sep (acc ++ x.0 ∷ []) (items_by sep r n (acc ++ x.0 ∷ [])) x.1

  abbrev at : ℕ → List A → ℕ → List ℕ → Bool → Result (List A × List ℕ) Stop
  at n acc b bs t = cond t (items_by sep r n acc bs) (Ok (acc, b ∷ bs))

  sep_plain : (b : ℕ) → eqb b sep ≡ true → next Plain b ≡ Plain
  sep_plain b s = ap restart (eqb-true b sep s) ∙ ap (λ (x : Bool). cond x Brace Plain) plain

  items_asks : (n : ℕ) (acc : List A) (xs : List ℕ) (w : Option ℕ) → length xs < n → items_by sep r n acc xs ≡ Err (Ends w) → asks_from side Plain xs ≡ w
  items_asks zero acc xs w lt h = absurd (omega (arith, lt))
  items_asks (suc n) acc xs w lt h =
      elim (bind_err (r xs) (following n acc) (Ends w) h) [
        | inl one ↦ p.lexed.asks xs w one
        | inr x ↦
            let t = p.reader.sound xs x.0.0 x.0.1 x.1 in
            ap (asks_from side Plain) t.parts
            ∙ after_one (λ acc' ys le o. items_asks n acc' ys w le o) x.0.0 t.text x.0.1 t.spelled t.stop (omega (arith, lt, ap length t.parts, length-append t.text x.0.1)) x.2
      ]
    where
      after_one : ((acc' : List A) (ys : List ℕ) → length ys < n → items_by sep r n acc' ys ≡ Err (Ends w) → asks_from side Plain ys ≡ w) → (a : A) (text mid : List ℕ) → L a text → stops e mid ≡ true → length text + length mid < suc n → following n acc (a, mid) ≡ Err (Ends w) → asks_from side Plain (text ++ mid) ≡ w
      after_one rec a text [] t st le g = ap (asks_from side Plain) (append-nil text) ∙ l.quiet a text t st ∙ cc
      after_one rec a text (b ∷ bs) t st le g =
          elim (cases_Bool (eqb b sep)) [
            | inl s ↦
                asks-append side Plain text b bs ∙ ap (λ (x : Phase). asks_from side x (b ∷ bs)) (l.after a text t)
                ∙ asks-step side Plain b bs refl ∙ ap (λ (x : Phase). asks_from side x bs) (sep_plain b s)
                ∙ rec (acc ++ a ∷ []) bs (omega (arith, le)) (sym (ap (at n (acc ++ a ∷ []) b bs) s) ∙ g)
            | inr s ↦ absurd (let o = sym (ap (at n (acc ++ a ∷ []) b bs) s) ∙ g in cc)
          ]

  items_kind : (n : ℕ) (acc : List A) (xs : List ℕ) (k : Kind) (m : ℕ) → items_by sep r n acc xs ≡ Err (Fails k m) → kind_at side Plain m xs ≡ k
  items_kind zero acc xs k m h = absurd cc
  items_kind (suc n) acc xs k m h =
      elim (bind_err (r xs) (following n acc) (Fails k m) h) [
        | inl one ↦ p.lexed.kind xs k m one
        | inr x ↦
            let t = p.reader.sound xs x.0.0 x.0.1 x.1 in
            ap (kind_at side Plain m) t.parts ∙ after_one (λ acc' ys o. items_kind n acc' ys k m o) x.0.0 t.text x.0.1 t.spelled x.2
      ]
    where
      left : (acc' : List A) (ys : List ℕ) → items_by sep r n acc' ys ≡ Err (Fails k m) → m ≤ length ys
      left acc' ys o = let b = items_bad sep apart p.reader n acc' ys k m o in let z = b.left in omega (arith, ap length b.parts, length-append b.front (b.byte ∷ b.rest))

      after_one : ((acc' : List A) (ys : List ℕ) → items_by sep r n acc' ys ≡ Err (Fails k m) → kind_at side Plain m ys ≡ k) → (a : A) (text mid : List ℕ) → L a text → following n acc (a, mid) ≡ Err (Fails k m) → kind_at side Plain m (text ++ mid) ≡ k
      after_one rec a text [] t g = absurd cc
      after_one rec a text (b ∷ bs) t g =
          elim (cases_Bool (eqb b sep)) [
            | inl s ↦
                let o = sym (ap (at n (acc ++ a ∷ []) b bs) s) ∙ g in
                let le = left (acc ++ a ∷ []) bs o in
                kind-append side Plain m text (b ∷ bs) (omega (arith, le)) ∙ ap (λ (x : Phase). kind_at side x m (b ∷ bs)) (l.after a text t)
                ∙ kind-step side Plain m b bs le ∙ ap (λ (x : Phase). kind_at side x m bs) (sep_plain b s)
                ∙ rec (acc ++ a ∷ []) bs o
            | inr s ↦ absurd (let o = sym (ap (at n (acc ++ a ∷ []) b bs) s) ∙ g in cc)
          ]

  items_octets : (n m : ℕ) (acc : List A) (xs : List ℕ) (w : Option ℕ) (c : ℕ) → suc (length xs) < m → items_by sep r n acc xs ≡ Err (Ends w) → length xs < n → is_in (phase Plain xs) ≡ true → eqb c 0 ≡ false → (v : Option ℕ) × (items_by sep r m acc (xs ++ c ∷ []) ≡ Err (Ends v))
  items_octets zero m acc xs w c more h lt i z = absurd (omega (arith, lt))
  items_octets (suc n) zero acc xs w c more h lt i z = absurd (omega (arith, more))
  items_octets (suc n) (suc m) acc xs w c more h lt i z =
      elim (bind_err (r xs) (following n acc) (Ends w) h) [
        | inl one ↦ let o = p.lexed.octets xs w c one i z in (o.0, ap (λ (o : Result (A × List ℕ) Stop). o >>= following m acc) o.1)
        | inr x ↦
            let t = p.reader.sound xs x.0.0 x.0.1 x.1 in
            let long : length xs ≡ length t.text + length x.0.1 = ap length t.parts ∙ length-append t.text x.0.1 in
            let inside : is_in (phase Plain x.0.1) ≡ true = ap is_in (sym (ap (phase Plain) t.parts ∙ two-phases Plain Plain t.text x.0.1 (l.after x.0.0 t.text t.spelled))) ∙ i in
            let o = after_one (λ acc' ys le g j. items_octets n m acc' ys w c (omega (arith, le, more)) g (omega (arith, le, lt)) j z) x.0.0 x.0.1 (omega (arith, long)) inside x.2 in (
              o.0,
              ap (items_by sep r (suc m) acc) (ap (λ (y : List ℕ). y ++ c ∷ []) t.parts ∙ append_assoc t.text x.0.1 (c ∷ []))
                  ∙ ap (λ (o : Result (A × List ℕ) Stop). o >>= following m acc) (p.reader.complete x.0.0 t.text (x.0.1 ++ c ∷ []) t.spelled (stops_on e x.0.1 (c ∷ []) t.stop)) ∙ o.1,
            )
      ]
    where
      after_one : ((acc' : List A) (ys : List ℕ) → suc (length ys) ≤ length xs → items_by sep r n acc' ys ≡ Err (Ends w) → is_in (phase Plain ys) ≡ true → (v : Option ℕ) × (items_by sep r m acc' (ys ++ c ∷ []) ≡ Err (Ends v))) → (a : A) (mid : List ℕ) → length mid ≤ length xs → is_in (phase Plain mid) ≡ true → following n acc (a, mid) ≡ Err (Ends w) → (v : Option ℕ) × (following m acc (a, mid ++ c ∷ []) ≡ Err (Ends v))
      after_one rec a [] le j g = absurd (false≢true j)
      after_one rec a (b ∷ bs) le j g =
          elim (cases_Bool (eqb b sep)) [
            | inl s ↦
                let o = rec (acc ++ a ∷ []) bs (omega (arith, le)) (sym (ap (at n (acc ++ a ∷ []) b bs) s) ∙ g) (ap (λ (x : Phase). is_in (phase x bs)) (sym (sep_plain b s)) ∙ j) in
                (o.0, ap (at m (acc ++ a ∷ []) b (bs ++ c ∷ [])) s ∙ o.1)
            | inr s ↦ absurd (let o = sym (ap (at n (acc ++ a ∷ []) b bs) s) ∙ g in cc)
          ]

  items_after : (items : List A) (t : List ℕ) → ItemsText sep L items t → phase Plain t ≡ Plain
  items_after [] t h = absurd h
  items_after (a ∷ []) t h = l.after a t h
  items_after (a ∷ b ∷ items) t h =
      let j = h.second in
      ap (phase Plain) h.parts ∙ two-phases Plain Plain h.front h.back (l.after a h.front h.first)
      ∙ ap (phase Plain) j.parts ∙ two-phases Plain Plain j.front j.back (ap (phase Plain) j.first ∙ sep_plain sep (eq-eqb sep sep refl))
      ∙ items_after (b ∷ items) j.back j.second

  pub items_part : Part side true (with_sep e sep) (ItemsText sep L) (items_at sep r)
  items_part = record {
    reader = items_reader sep apart p.reader;
    lexed = record { asks = λ xs w h. items_asks (suc (length xs)) [] xs w (omega arith) h; kind = λ xs k m h. items_kind (suc (length xs)) [] xs k m h; octets = λ xs w c h i z. items_octets (suc (length xs)) (suc (length (xs ++ c ∷ []))) [] xs w c (omega (arith, length-append xs (c ∷ []))) h (omega arith) i z };
    leads = λ _. record { after = items_after; quiet = λ a t h st. absurd (not_ended e sep st) };
  }
