-- What stands between places, for a reader of whole lines that is a part of a grammar.
use Rattle.std.proofs.Common.{◌≡◌, ℕ, suc, ◌-◌, ◌≤◌, ◌⊎◌, Bool, true, false, not, eqb, List, [], ◌∷◌, ◌++◌, length, take, Option, None, Result, Ok, Err, refl, sym, ap, subst, ◌∙◌, append_assoc, inl, inr, arith}
use Rattle.std.specs.List.{list_all}
use Rattle.std.proofs.Math.Seq.{take-append_seam, drop-append_seam}
use Rattle.std.proofs.lemmas.Bool.{false≢true, true≢false, eq-eqb, and_parts}
use Rattle.std.proofs.lemmas.List.{append-nil, length-append, take_at}
use Rattle.wire_reader.specs.declared.side.Speaker.{Speaker}
use Rattle.wire_reader.specs.declared.lexical.Phase.TheVariants.{Plain}
use Rattle.wire_reader.specs.declared.scanner.Scanner.{Scanner}
use Rattle.wire_reader.specs.declared.stop.Kind.{Kind}
use Rattle.wire_reader.specs.declared.stop.Stop.{Stop}
use Rattle.wire_reader.specs.declared.stop.Stop.TheVariants.{Ends, Fails}
use Rattle.wire_reader.specs.Lexical.{phase, is_in, outside}
use Rattle.wire_reader.specs.Scanning.{start, scanned, place_from}
use Rattle.wire_reader.specs.Answers.{Begins, NoneBegins}
use Rattle.wire_reader.specs.Places.{Found, Faulty, EachIsDecided, EndAtPlaces, Opens, Drops, WaitsBetween}
use Rattle.wire_reader.specs.Spelling.{crlf}
use Rattle.wire_reader.proofs.Reader.{Closed}
use Rattle.wire_reader.proofs.Part.{Part}
use Rattle.wire_reader.proofs.Feeds.{EndsFeed}
use Rattle.wire_reader.proofs.Top.{whole_is, begins_is, fault_is, none_begins}
use Rattle.wire_reader.proofs.Limits.{one_is}
use Rattle.wire_reader.proofs.Scanned.{scanned-append, no_place}
use Rattle.wire_reader.proofs.Positions.{phase-scanned, outside-append, outside-scanned, Octet, Outside, no_place_at, no_feed}

-- ---- lists

-- a list that ends with a byte: nothing follows the front, or the byte is also the last one of what follows it
pub record LastOf (b : ℕ) (ys text : List ℕ) (zs : List ℕ) : Type 0 where
  pub rest : List ℕ
  pub following : zs ≡ rest ++ b ∷ []
  pub before : ys ≡ text ++ rest

no_back : (text zs : List ℕ) → [] ≡ text ++ zs → zs ≡ []
no_back [] zs e = sym e
no_back (c ∷ text) zs e = absurd cc

last_of : (b : ℕ) (ys text zs : List ℕ) → ys ++ b ∷ [] ≡ text ++ zs → (zs ≡ []) ⊎ LastOf b ys text zs
last_of b ys [] zs e = inr (record { rest = ys; following = sym e; before = refl })
last_of b [] (c ∷ text) zs e = inl (no_back text zs (let tail : [] ≡ text ++ zs = cc in tail))
last_of b (y ∷ ys) (c ∷ text) zs e =
    let head : y ≡ c = cc in
    let tail : ys ++ b ∷ [] ≡ text ++ zs = cc in
    elim (last_of b ys text zs tail) [
      | inl z ↦ inl z
      | inr l ↦ inr (record { rest = l.rest; following = l.following; before = ap (λ (x : ℕ). x ∷ ys) head ∙ ap (λ (x : List ℕ). c ∷ x) l.before })
    ]

single : (c b : ℕ) (rest : List ℕ) → c ∷ [] ≡ rest ++ b ∷ [] → b ≡ c
single c b [] e = cc
single c b (d ∷ rest) e = absurd (omega (arith, ap length e, length-append rest (b ∷ [])))

same_last : (b c : ℕ) (xs ys : List ℕ) → xs ++ b ∷ [] ≡ ys ++ c ∷ [] → b ≡ c
same_last b c xs ys e = elim (last_of b xs ys (c ∷ []) e) [ inl z ↦ absurd cc | inr l ↦ single c b l.rest l.following ]

-- ---- what the reader says

module _ {A : Type 0} {side : Speaker} {k : Bool} {L : A → List ℕ → Type 0} {r : List ℕ → Result (A × List ℕ) Stop} (p : Part side k Closed L r) where
  ok_not_err : (x : A × List ℕ) (s : Stop) → (let o : Result (A × List ℕ) Stop = Ok x in o ≡ Err s) → ⊥
  ok_not_err x s h = cc

  stop_is : (s t : Stop) → (let o : Result (A × List ℕ) Stop = Err s in o ≡ Err t) → s ≡ t
  stop_is s t h = cc

  -- a spelling is read as such
  again : (a : A) (text rest : List ℕ) → L a text → r (text ++ rest) ≡ Ok (a, rest)
  again a text rest l = p.reader.complete a text rest l refl

  -- where a fault is reported, no spelling begins
  none_there : (xs : List ℕ) (i : Kind) (n : ℕ) → r xs ≡ Err (Fails i n) → NoneBegins L xs
  none_there xs i n h a more l =
      let b = p.reader.bad xs i n h in
      let here : r (xs ++ more) ≡ Err (Fails i (length (b.byte ∷ (b.rest ++ more)))) = ap (λ (x : List ℕ). r (x ++ more)) b.parts ∙ ap r (append_assoc b.front (b.byte ∷ b.rest) more) ∙ b.stays (b.rest ++ more) in
      ok_not_err (a, []) (Fails i (length (b.byte ∷ (b.rest ++ more)))) (sym (again a (xs ++ more) [] l) ∙ ap r (append-nil (xs ++ more)) ∙ here)

  -- where a spelling begins, and goes on, the reader waits
  waits_by : (xs : List ℕ) → Begins L xs → (o : Result (A × List ℕ) Stop) → r xs ≡ o → (w : Option ℕ) × (r xs ≡ Err (Ends w))
  waits_by xs b (Ok x) h =
      let t = p.reader.sound xs x.0 x.1 h in
      let same = none_begins p.reader x.0 b.value t.text (xs ++ b.more) (x.1 ++ b.more) t.spelled b.spelled (sym (ap (λ (z : List ℕ). z ++ b.more) t.parts ∙ append_assoc t.text x.1 b.more)) in
      let s = b.some in
      absurd (omega (arith, s, ap length same.0, length-append x.1 b.more))
  waits_by xs b (Err (Ends w)) h = (w, h)
  waits_by xs b (Err (Fails i n)) h = absurd (none_there xs i n h b.value b.more b.spelled)

  pub waits : (xs : List ℕ) → Begins L xs → (w : Option ℕ) × (r xs ≡ Err (Ends w))
  waits xs b = waits_by xs b (r xs) refl

  -- ---- each text is decided

  decided_by : (xs : List ℕ) (o : Result (A × List ℕ) Stop) → r xs ≡ o → Found L xs ⊎ Begins L xs ⊎ Faulty L xs
  decided_by xs (Ok x) h = inl (record { value = x.0; used = length xs - length x.1; whole = whole_is p.reader xs x.0 x.1 h })
  decided_by xs (Err (Ends w)) h = inr (inl (begins_is p.reader xs w h))
  decided_by xs (Err (Fails i n)) h = inr (inr (record { at = length xs - n; fault = fault_is p.reader xs i n h }))

  pub decided_law : EachIsDecided L
  decided_law xs = decided_by xs (r xs) refl

  module _ (feeds : (a : A) (text : List ℕ) → L a text → EndsFeed text) where
    -- ---- a spelling ends at a place

    -- among octets a LF goes on, and so ends nothing
    out_by : (a : A) (front : List ℕ) → L a (front ++ 10 ∷ []) → (w : Option ℕ) → r front ≡ Err (Ends w) → (t : Bool) → is_in (phase Plain front) ≡ t → is_in (phase Plain front) ≡ false
    out_by a front l w h true i =
        let o = p.lexed.octets front w 10 h i refl in
        absurd (ok_not_err (a, []) (Ends o.0) (sym (again a (front ++ 10 ∷ []) [] l) ∙ ap r (append-nil (front ++ 10 ∷ [])) ∙ o.1))
    out_by a front l w h false i = i

    pub end_law : EndAtPlaces L
    end_law a text l =
        let f = feeds a text l in
        let whole : L a (f.front ++ 10 ∷ []) = subst (L a) f.parts l in
        let w = waits f.front (record { more = 10 ∷ []; value = a; some = omega arith; spelled = whole }) in
        record { front = f.front; parts = f.parts; outside = out_by a f.front whole w.0 w.1 (is_in (phase Plain f.front)) refl }

    -- ---- up to the next place

    -- one byte more that is no LF makes nothing whole
    not_whole : (xs : List ℕ) (b : ℕ) (w : Option ℕ) (x : A × List ℕ) → r xs ≡ Err (Ends w) → eqb b 10 ≡ false → r (xs ++ b ∷ []) ≡ Ok x → ⊥
    not_whole xs b w x h n g =
        let t = p.reader.sound (xs ++ b ∷ []) x.0 x.1 g in
        elim (last_of b xs t.text x.1 t.parts) [
          | inl e ↦
              let f = feeds x.0 t.text t.spelled in
              let same : b ≡ 10 = same_last b 10 xs f.front (t.parts ∙ ap (λ (z : List ℕ). t.text ++ z) e ∙ append-nil t.text ∙ f.parts) in
              true≢false (sym (eq-eqb b 10 same) ∙ n)
          | inr l ↦ ok_not_err (x.0, l.rest) (Ends w) (sym (again x.0 t.text l.rest t.spelled) ∙ ap r (sym l.before) ∙ h)
        ]

    -- no LF, and so no line end
    no_line_end : (bs a b : List ℕ) → list_all (λ c. not (eqb c 10)) bs ≡ true → bs ≡ a ++ (crlf ++ b) → ⊥
    no_line_end [] [] b all e = cc
    no_line_end [] (c ∷ a) b all e = cc
    no_line_end (d ∷ ds) [] b all e = let tail : ds ≡ 10 ∷ b = cc in false≢true (sym (ap (list_all (λ c. not (eqb c 10))) tail) ∙ (and_parts _ _ all).1)
    no_line_end (d ∷ ds) (c ∷ a) b all e = no_line_end ds a b (and_parts _ _ all).1 (let same : ds ≡ a ++ (crlf ++ b) = cc in same)

    -- a fault at the first of these bytes
    drops : (xs : List ℕ) (b : ℕ) (bs : List ℕ) (w : Option ℕ) (i : Kind) (n : ℕ) → r xs ≡ Err (Ends w) → r (xs ++ b ∷ []) ≡ Err (Fails i n) → outside (xs ++ b ∷ []) ≤ 65536 → list_all (λ c. not (eqb c 10)) (b ∷ bs) ≡ true → Drops L xs (xs ++ b ∷ bs)
    drops xs b bs w i n h g fits all =
        let front : take (length xs) (xs ++ b ∷ bs) ≡ xs = take-append_seam xs (b ∷ bs) in
        let with_byte : take (suc (length xs)) (xs ++ b ∷ bs) ≡ xs ++ b ∷ [] =
        ap (take (suc (length xs))) (sym (append_assoc xs (b ∷ []) bs)) ∙ take_at (xs ++ b ∷ []) bs (suc (length xs)) (omega (arith, length-append xs (b ∷ []))) in
        record {
          at = length xs;
          following = omega arith;
          fault = record {
            within = omega (arith, length-append xs (b ∷ bs));
            before = subst (Begins L) (sym front) (begins_is p.reader xs w h);
            none = subst (NoneBegins L) (sym with_byte) (none_there (xs ++ b ∷ []) i n g);
          };
          fits = omega (arith, ap outside with_byte, fits);
          no_end = λ c d e. no_line_end (b ∷ bs) c d all (sym (drop-append_seam xs (b ∷ bs)) ∙ e);
        }

    abbrev State : List ℕ → List ℕ → Type 0
    State xs text = Opens L text ⊎ Drops L xs text

    earlier : (xs : List ℕ) (b : ℕ) (text : List ℕ) → State (xs ++ b ∷ []) text → State xs text
    earlier xs b text (inl o) = inl o
    earlier xs b text (inr d) = inr (record { at = d.at; following = (let e = d.following in omega (arith, e, length-append xs (b ∷ []))); fault = d.fault; fits = d.fits; no_end = d.no_end })

    between : (ys xs : List ℕ) (at : ℕ) (w : Option ℕ) → r xs ≡ Err (Ends w) → outside xs ≤ 65536 → place_from at (scanned start xs) ys ≡ None → State xs (xs ++ ys)
    between [] xs at w h fits n = subst (State xs) (sym (append-nil xs)) (inl (record { begins = begins_is p.reader xs w h; fits = fits }))
    between (b ∷ bs) xs at w h fits n =
        let s = scanned start xs in
        let m = no_place at s b bs n in
        let later : place_from (suc at) (scanned start (xs ++ b ∷ [])) bs ≡ None = ap (λ (t : Scanner). place_from (suc at) t bs) (scanned-append start xs (b ∷ [])) ∙ m.1 in
        let count = outside-scanned xs start (omega (arith, fits)) in
        let more = outside-append Plain xs (b ∷ []) in
        elim (no_place_at s b m.0) [
          | Octet e z ↦
              let inside : is_in (phase Plain xs) ≡ true = ap is_in (sym (phase-scanned start xs)) ∙ e in
              let one = one_is (phase Plain xs) true inside in
              let o = p.lexed.octets xs w b h inside z in
              later_on (between bs (xs ++ b ∷ []) (suc at) o.0 o.1 (omega (arith, more, one, fits)) later)
          | Outside e f room ↦
              let out : is_in (phase Plain xs) ≡ false = ap is_in (sym (phase-scanned start xs)) ∙ e in
              let one = one_is (phase Plain xs) false out in
              let fits' : outside (xs ++ b ∷ []) ≤ 65536 = omega (arith, more, one, count, room) in
              goes (λ v g. between bs (xs ++ b ∷ []) (suc at) v g fits' later) fits' f (no_feed (b ∷ bs) at s e n) (r (xs ++ b ∷ [])) refl
        ]
      where
        later_on : State (xs ++ b ∷ []) ((xs ++ b ∷ []) ++ bs) → State xs (xs ++ b ∷ bs)
        later_on d = earlier xs b (xs ++ b ∷ bs) (subst (State (xs ++ b ∷ [])) (append_assoc xs (b ∷ []) bs) d)

        goes : ((v : Option ℕ) → r (xs ++ b ∷ []) ≡ Err (Ends v) → State (xs ++ b ∷ []) ((xs ++ b ∷ []) ++ bs)) → outside (xs ++ b ∷ []) ≤ 65536 → eqb b 10 ≡ false → list_all (λ c. not (eqb c 10)) (b ∷ bs) ≡ true → (o : Result (A × List ℕ) Stop) → r (xs ++ b ∷ []) ≡ o → State xs (xs ++ b ∷ bs)
        goes rec fits f all (Ok x) g = absurd (not_whole xs b w x h f g)
        goes rec fits f all (Err (Ends v)) g = later_on (rec v g)
        goes rec fits f all (Err (Fails i n)) g = inr (drops xs b bs w i n h g fits all)

    pub waits_law : WaitsBetween L
    waits_law = record {
      begin = record { begins = begins_is p.reader [] p.reader.start.0 p.reader.start.1; fits = omega arith };
      between = λ xs ys o n. let w = waits xs o.begins in between ys xs 0 w.0 w.1 o.fits n;
    }
