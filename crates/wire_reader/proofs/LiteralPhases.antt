-- A literal stops as the bytes alone say, and its texts lead back to where no literal is under way.
use Rattle.std.proofs.Common.{◌≡◌, ℕ, zero, suc, ◌+◌, ◌*◌, ◌-◌, ◌<◌, ◌≤◌, Bool, true, false, cond, eqb, not, List, [], ◌∷◌, ◌++◌, length, Option, None, Some, Result, Ok, Err, refl, sym, ap, subst, ◌∙◌, inl, inr, arith}
use Rattle.std.proofs.lemmas.Bool.{cases_Bool, false≢true, eqb-true, ne_eqb, le-leb, lt-leb}
use Rattle.std.proofs.lemmas.List.{length-append}
use Rattle.wire_reader.specs.declared.side.Speaker.{Speaker}
use Rattle.wire_reader.specs.declared.side.Speaker.TheVariants.{Commands, Replies}
use Rattle.wire_reader.specs.declared.lexical.Phase.{Phase}
use Rattle.wire_reader.specs.declared.lexical.Phase.TheVariants.{Plain, Brace, Digits, Plus, Close, Return, In}
use Rattle.wire_reader.specs.declared.stop.Kind.{Kind}
use Rattle.wire_reader.specs.declared.stop.Kind.TheVariants.{Syntax}
use Rattle.wire_reader.specs.declared.stop.Stop.{Stop}
use Rattle.wire_reader.specs.declared.stop.Stop.TheVariants.{Ends, Fails}
use Rattle.wire_reader.specs.Spelling.{◌⨾◌, ThenBy, Is, is_digit}
use Rattle.wire_reader.specs.Lexical.{next, phase, is_in, restart, asked, asks_from, kind_of}
use Rattle.wire_reader.specs.Reading.{◌>>=◌, stuck, seq, skip, byte_at}
use Rattle.wire_reader.specs.Machine.{On, Take, Odd}
use Rattle.wire_reader.specs.Literal.{LengthText, Octets, Literal, length_step, length_at, octets_at, with_byte, followed, wait_at, waits_for, octets_of, literal_at}
use Rattle.wire_reader.proofs.Reader.{Closed, Reader, seq_reader, bind_err}
use Rattle.wire_reader.proofs.Parts.{skip_reader, byte_reader, after_closed}
use Rattle.wire_reader.proofs.Octets.{waits, wait_reader, octets_sound, followed_err, with_err}
use Rattle.wire_reader.proofs.LengthSteps.{LengthStep, Closes, Pluses, Counts, Refuses, stepped, digit_is}
use Rattle.wire_reader.proofs.Lengths.{length_reader, length_scanned, on_is, take_is, on_not_take, odd_not_on, odd_not_take}
use Rattle.wire_reader.proofs.PartTokens.{scan_lexed, scan_leads}
use Rattle.wire_reader.proofs.Lexed.{Lexed, Leads, kind_at, asks-step, kind-first, kind-step}
use Rattle.wire_reader.proofs.LexedSeq.{two-phases, seq_lexed}
use Rattle.wire_reader.proofs.Part.{Part, byte_lexed}
use Rattle.wire_reader.proofs.Octets.{octet_case}

-- ---- the length

-- in which phase the length so far stands
abbrev Stands : Option (ℕ × Bool) → Phase → Type 0
Stands None p = p ≡ Brace
Stands (Some (n, true)) p = p ≡ Plus n
Stands (Some (n, false)) p = (p ≡ Digits n) × (n ≤ 16777238)

module _ (side : Speaker) where
  abbrev at_first : ℕ → Bool → LengthStep
  at_first b t = cond t (On (Some (b - 48, false))) (Odd Syntax)

  abbrev at_end : ℕ → Bool → LengthStep
  at_end n t = cond t (Take (n, true)) (Odd Syntax)

  next_digit : (n b : ℕ) → is_digit b ≡ true → n ≤ 16777238 → next (Digits n) b ≡ Digits (10 * n + (b - 48))
  next_digit n b d le =
      let r = digit_is b d in
      let no_close : eqb b 125 ≡ false = ne_eqb b 125 (λ e. omega (arith, e)) in
      let no_plus : eqb b 43 ≡ false = ne_eqb b 43 (λ e. omega (arith, e)) in
      rw (no_close, no_plus, d, le-leb n 16777238 le) refl

  stands_out : (s : Option (ℕ × Bool)) (p : Phase) → Stands s p → is_in p ≡ false
  stands_out None p i = ap is_in i
  stands_out (Some (n, true)) p i = ap is_in i
  stands_out (Some (n, false)) p i = ap is_in i.0

  length_keeps : (s t : Option (ℕ × Bool)) (p : Phase) (b : ℕ) → Stands s p → length_step side s b ≡ On t → Stands t (next p b) × (asked side p b ≡ None)
  length_keeps None t p b i h =
      elim (cases_Bool (is_digit b)) [
        | inl d ↦
            let r = digit_is b d in
            let same : Some (b - 48, false) ≡ t = on_is side (Some (b - 48, false)) t (sym (ap (at_first b) d) ∙ h) in
            let there : Stands (Some (b - 48, false)) (next Brace b) = (ap (λ (x : Bool). cond x (Digits (b - 48)) (restart b)) d, omega arith) in
            subst (λ (x : Phase). Stands t (next x b) × (asked side x b ≡ None)) (sym i) (subst (λ (x : Option (ℕ × Bool)). Stands x (next Brace b)) same there, refl)
        | inr d ↦ absurd (odd_not_on side Syntax t (sym (ap (at_first b) d) ∙ h))
      ]
  length_keeps (Some (n, true)) t p b i h =
      elim (cases_Bool (eqb b 125)) [
        | inl e ↦ absurd (on_not_take side t (n, true) (sym h ∙ ap (at_end n) e))
        | inr e ↦ absurd (odd_not_on side Syntax t (sym (ap (at_end n) e) ∙ h))
      ]
  length_keeps (Some (n, false)) t p b i h = elim (stepped side n b) [
    | Closes e g ↦ absurd (on_not_take side t (n, false) (sym h ∙ g))
    | Pluses e m s g ↦
        let there : Stands (Some (n, true)) (next (Digits n) b) = ap (next (Digits n)) e in
        subst (λ (x : Phase). Stands t (next x b) × (asked side x b ≡ None)) (sym i.0) (subst (λ (x : Option (ℕ × Bool)). Stands x (next (Digits n) b)) (on_is side (Some (n, true)) t (sym g ∙ h)) there, refl)
    | Counts d z m g ↦
        let there : Stands (Some (10 * n + (b - 48), false)) (next (Digits n) b) = (next_digit n b d i.1, m) in
        subst (λ (x : Phase). Stands t (next x b) × (asked side x b ≡ None)) (sym i.0) (subst (λ (x : Option (ℕ × Bool)). Stands x (next (Digits n) b)) (on_is side (Some (10 * n + (b - 48), false)) t (sym g ∙ h)) there, refl)
    | Refuses k o g ↦ absurd (odd_not_on side k t (sym g ∙ h))
  ]

  odd_is : (k l : Kind) → (let o : LengthStep = Odd k in o ≡ Odd l) → k ≡ l
  odd_is k l h = cc

  on_not_odd : (s : Option (ℕ × Bool)) (k : Kind) → (let o : LengthStep = On s in o ≡ Odd k) → ⊥
  on_not_odd s k h = cc

  take_not_odd : (p : ℕ × Bool) (k : Kind) → (let o : LengthStep = Take p in o ≡ Odd k) → ⊥
  take_not_odd p k h = cc

  length_odd : (s : Option (ℕ × Bool)) (p : Phase) (b : ℕ) (k : Kind) → Stands s p → length_step side s b ≡ Odd k → kind_of side p b ≡ k
  length_odd None p b k i h =
      elim (cases_Bool (is_digit b)) [
        | inl d ↦ absurd (on_not_odd (Some (b - 48, false)) k (sym (ap (at_first b) d) ∙ h))
        | inr d ↦ ap (λ (x : Phase). kind_of side x b) i ∙ odd_is Syntax k (sym (ap (at_first b) d) ∙ h)
      ]
  length_odd (Some (n, true)) p b k i h =
      elim (cases_Bool (eqb b 125)) [
        | inl e ↦ absurd (take_not_odd (n, true) k (sym (ap (at_end n) e) ∙ h))
        | inr e ↦ ap (λ (x : Phase). kind_of side x b) i ∙ odd_is Syntax k (sym (ap (at_end n) e) ∙ h)
      ]
  length_odd (Some (n, false)) p b k i h = elim (stepped side n b) [
    | Closes e g ↦ absurd (take_not_odd (n, false) k (sym g ∙ h))
    | Pluses e m s g ↦ absurd (on_not_odd (Some (n, true)) k (sym g ∙ h))
    | Counts d z m g ↦ absurd (on_not_odd (Some (10 * n + (b - 48), false)) k (sym g ∙ h))
    | Refuses l o g ↦ ap (λ (x : Phase). kind_of side x b) i.0 ∙ o ∙ odd_is l k (sym g ∙ h)
  ]

  abbrev pub closed : ℕ × Bool → Phase
  closed p = Close p.0 p.1

  length_takes : (s : Option (ℕ × Bool)) (p : Phase) (b : ℕ) (a : ℕ × Bool) → Stands s p → length_step side s b ≡ Take a → (next p b ≡ closed a) × (asked side p b ≡ None)
  length_takes None p b a i h =
      elim (cases_Bool (is_digit b)) [
        | inl d ↦ absurd (on_not_take side (Some (b - 48, false)) a (sym (ap (at_first b) d) ∙ h))
        | inr d ↦ absurd (odd_not_take side Syntax a (sym (ap (at_first b) d) ∙ h))
      ]
  length_takes (Some (n, true)) p b a i h =
      elim (cases_Bool (eqb b 125)) [
        | inl e ↦
            let there : next (Plus n) b ≡ closed a = ap (next (Plus n)) (eqb-true b 125 e) ∙ ap closed (take_is side (n, true) a (sym (ap (at_end n) e) ∙ h)) in
            subst (λ (x : Phase). (next x b ≡ closed a) × (asked side x b ≡ None)) (sym i) (there, refl)
        | inr e ↦ absurd (odd_not_take side Syntax a (sym (ap (at_end n) e) ∙ h))
      ]
  length_takes (Some (n, false)) p b a i h = elim (stepped side n b) [
    | Closes e g ↦
        let there : next (Digits n) b ≡ closed a = ap (next (Digits n)) e ∙ ap closed (take_is side (n, false) a (sym g ∙ h)) in
        subst (λ (x : Phase). (next x b ≡ closed a) × (asked side x b ≡ None)) (sym i.0) (there, refl)
    | Pluses e m s g ↦ absurd (on_not_take side (Some (n, true)) a (sym g ∙ h))
    | Counts d z m g ↦ absurd (on_not_take side (Some (10 * n + (b - 48), false)) a (sym g ∙ h))
    | Refuses k o g ↦ absurd (odd_not_take side k a (sym g ∙ h))
  ]

  pub length_lexed : Lexed side Brace (length_at side)
  length_lexed = scan_lexed side (length_step side) Stands length_keeps length_odd stands_out None Brace refl

  pub length_leads : Leads side Closed Brace (LengthText side) closed
  length_leads =
      let l = scan_leads side (length_step side) Stands length_keeps length_odd stands_out closed length_takes None Brace refl in
      record { after = λ a t h. l.after a t (length_scanned side a t h); quiet = λ a t h s. l.quiet a t (length_scanned side a t h) s }

-- ---- the octets

pub in-step : (n b : ℕ) → next (In (suc (suc n))) b ≡ In (suc n)
in-step n b = ap (λ (t : Bool). cond t Plain (In (suc (suc n) - 1))) (lt-leb (suc (suc n)) 1 (omega arith)) ∙ ap (λ (k : ℕ). In k) (let e : suc (suc n) - 1 ≡ suc n = omega arith in e)

-- among the octets nobody waits
in-asks : (side : Speaker) (n : ℕ) (xs : List ℕ) → length xs ≤ suc n → asks_from side (In (suc n)) xs ≡ None
in-asks side n [] le = refl
in-asks side zero (b ∷ []) le = refl
in-asks side zero (b ∷ c ∷ bs) le = absurd (omega (arith, le))
in-asks side (suc n) (b ∷ bs) le = asks-step side (In (suc (suc n))) b bs refl ∙ ap (λ (p : Phase). asks_from side p bs) (in-step n b) ∙ in-asks side n bs (omega (arith, le))

in-phase : (n : ℕ) (xs : List ℕ) → length xs ≡ suc n → phase (In (suc n)) xs ≡ Plain
in-phase n [] h = absurd (omega (arith, h))
in-phase zero (b ∷ []) h = refl
in-phase zero (b ∷ c ∷ bs) h = absurd (omega (arith, h))
in-phase (suc n) (b ∷ bs) h = ap (λ (p : Phase). phase p bs) (in-step n b) ∙ in-phase n bs (omega (arith, h))

octets_short : (n : ℕ) (xs : List ℕ) (w : Option ℕ) → octets_at n xs ≡ Err (Ends w) → (length xs < n) × (None ≡ w)
octets_short zero xs w h = absurd cc
octets_short (suc n) [] w h = (omega arith, cc)
octets_short (suc n) (b ∷ bs) w h =
    elim (cases_Bool (eqb b 0)) [
      | inl e ↦ let wrong : octet_case n b bs true ≡ Err (Ends w) = sym (ap (octet_case n b bs) e) ∙ h in absurd cc
      | inr e ↦ let r = octets_short n bs w (with_err b (octets_at n bs) (Ends w) (sym (ap (octet_case n b bs) e) ∙ h)) in (omega (arith, r.0), r.1)
    ]

-- one octet more
octets_next : (n : ℕ) (xs : List ℕ) (w : Option ℕ) (c : ℕ) → octets_at n xs ≡ Err (Ends w) → eqb c 0 ≡ false → (v : Option ℕ) × ((octets_at n (xs ++ c ∷ []) >>= λ x. followed x.0 x.1) ≡ Err (Ends v))
octets_next n xs w c h z = later n xs h
  where
    both : (b : ℕ) (o : Result (List ℕ × List ℕ) Stop) (v : Option ℕ) → (o >>= λ x. followed x.0 x.1) ≡ Err (Ends v) → (u : Option ℕ) × ((with_byte b o >>= λ x. followed x.0 x.1) ≡ Err (Ends u))
    both b (Ok x) v g = let e = (followed_err x.0 x.1 (Ends v) g).0 in (None, ap (followed (b ∷ x.0)) e)
    both b (Err s) v g = (v, g)

    later : (n : ℕ) (xs : List ℕ) → octets_at n xs ≡ Err (Ends w) → (v : Option ℕ) × ((octets_at n (xs ++ c ∷ []) >>= λ x. followed x.0 x.1) ≡ Err (Ends v))
    later zero xs h = absurd cc
    later (suc zero) [] h = (None, ap (λ (o : Result (List ℕ × List ℕ) Stop). o >>= λ x. followed x.0 x.1) (ap (octet_case 0 c []) z))
    later (suc (suc n)) [] h = (None, ap (λ (o : Result (List ℕ × List ℕ) Stop). o >>= λ x. followed x.0 x.1) (ap (octet_case (suc n) c []) z))
    later (suc n) (b ∷ bs) h =
        elim (cases_Bool (eqb b 0)) [
          | inl e ↦ let wrong : octet_case n b bs true ≡ Err (Ends w) = sym (ap (octet_case n b bs) e) ∙ h in absurd cc
          | inr e ↦
              let r = later n bs (with_err b (octets_at n bs) (Ends w) (sym (ap (octet_case n b bs) e) ∙ h)) in
              let s = both b (octets_at n (bs ++ c ∷ [])) r.0 r.1 in
              (s.0, ap (λ (o : Result (List ℕ × List ℕ) Stop). o >>= λ x. followed x.0 x.1) (ap (octet_case n b (bs ++ c ∷ [])) e) ∙ s.1)
        ]

octets_left : (n : ℕ) (xs : List ℕ) (k : Kind) (m : ℕ) → octets_at n xs ≡ Err (Fails k m) → m ≤ length xs
octets_left zero xs k m h = absurd cc
octets_left (suc n) [] k m h = absurd cc
octets_left (suc n) (b ∷ bs) k m h =
    elim (cases_Bool (eqb b 0)) [
      | inl e ↦ let read : octet_case n b bs true ≡ Err (Fails k m) = sym (ap (octet_case n b bs) e) ∙ h in let left : length (b ∷ bs) ≡ m = cc in omega (arith, left)
      | inr e ↦ let r = octets_left n bs k m (with_err b (octets_at n bs) (Fails k m) (sym (ap (octet_case n b bs) e) ∙ h)) in omega (arith, r)
    ]

octets_kind : (side : Speaker) (n : ℕ) (xs : List ℕ) (k : Kind) (m : ℕ) → octets_at (suc n) xs ≡ Err (Fails k m) → kind_at side (In (suc n)) m xs ≡ k
octets_kind side n [] k m h = absurd cc
octets_kind side n (b ∷ bs) k m h =
    elim (cases_Bool (eqb b 0)) [
      | inl e ↦
          let read : octet_case n b bs true ≡ Err (Fails k m) = sym (ap (octet_case n b bs) e) ∙ h in
          let kind : Syntax ≡ k = cc in
          let left : length (b ∷ bs) ≡ m = cc in
          ap (λ (j : ℕ). kind_at side (In (suc n)) j (b ∷ bs)) (sym left) ∙ kind-first side (In (suc n)) b bs ∙ kind
      | inr e ↦ later (λ i o. octets_kind side i bs k m o) n (with_err b (octets_at n bs) (Fails k m) (sym (ap (octet_case n b bs) e) ∙ h))
    ]
  where
    later : ((i : ℕ) → octets_at (suc i) bs ≡ Err (Fails k m) → kind_at side (In (suc i)) m bs ≡ k) → (i : ℕ) → octets_at i bs ≡ Err (Fails k m) → kind_at side (In (suc i)) m (b ∷ bs) ≡ k
    later rec zero o = absurd cc
    later rec (suc i) o =
        kind-step side (In (suc (suc i))) m b bs (octets_left (suc i) bs k m o) ∙ ap (λ (p : Phase). kind_at side p m bs) (in-step i b)
        ∙ rec i o

-- ---- the line feed and the octets

-- the line feed after a length that is not 0
pub feeds : (n : ℕ) (plus : Bool) → next (Return (suc n) plus) 10 ≡ In (suc n)
feeds n plus = ap (λ (t : Bool). cond (not t) (In (suc n)) Plain) (ne_eqb (suc n) 0 (λ e. omega (arith, e)))

asked_here : (side : Speaker) (n : ℕ) (plus : Bool) → asked side (Return n plus) 10 ≡ waits_for side (n, plus)
asked_here Commands n true = refl
asked_here Commands n false = refl
asked_here Replies n true = refl
asked_here Replies n false = refl

module _ (side : Speaker) (n : ℕ) (plus : Bool) where
  abbrev w : Option ℕ
  w = waits_for side (n, plus)

  abbrev after_cr : List ℕ → Result (List ℕ × List ℕ) Stop
  after_cr = skip (byte_at 10) (wait_at w n)

  abbrev feed_case : ℕ → List ℕ → Bool → Result (List ℕ × List ℕ) Stop
  feed_case b bs t = (let o : Result (Unit {0} × List ℕ) Stop = cond t (Ok (tt, bs)) (stuck (b ∷ bs)) in o) >>= λ x. wait_at w n x.1

  feed_asks : (xs : List ℕ) (v : Option ℕ) → after_cr xs ≡ Err (Ends v) → asks_from side (Return n plus) xs ≡ v
  feed_asks [] v h = cc
  feed_asks (b ∷ bs) v h =
      elim (cases_Bool (eqb b 10)) [
        | inl e ↦
            ap (λ (c : ℕ). asks_from side (Return n plus) (c ∷ bs)) (eqb-true b 10 e) ∙ waiting bs (sym (ap (feed_case b bs) e) ∙ h)
        | inr e ↦ let wrong : feed_case b bs false ≡ Err (Ends v) = sym (ap (feed_case b bs) e) ∙ h in absurd cc
      ]
    where
      among : (m : ℕ) (c : ℕ) (cs : List ℕ) (o : Option ℕ) → wait_at o m (c ∷ cs) ≡ Err (Ends v) → asks_from side (next (Return m plus) 10) (c ∷ cs) ≡ v
      among zero c cs o g = absurd cc
      among (suc m) c cs o g =
          elim (bind_err (octets_at (suc m) (c ∷ cs)) (λ x. followed x.0 x.1) (Ends v) g) [
            | inl s ↦ let r = octets_short (suc m) (c ∷ cs) v s in ap (λ (p : Phase). asks_from side p (c ∷ cs)) (feeds m plus) ∙ in-asks side m (c ∷ cs) (omega (arith, r.0)) ∙ r.1
            | inr x ↦
                let f = followed_err x.0.0 x.0.1 (Ends v) x.2 in
                let s = octets_sound (suc m) (c ∷ cs) x.0.0 x.0.1 x.1 in
                let none : None ≡ v = (let y = f.1 in cc) in
                ap (λ (p : Phase). asks_from side p (c ∷ cs)) (feeds m plus) ∙ in-asks side m (c ∷ cs) (omega (arith, ap length s.0, length-append x.0.0 x.0.1, ap length f.0, s.1.long)) ∙ none
          ]

      waiting : (bs : List ℕ) → wait_at w n bs ≡ Err (Ends v) → asks_from side (Return n plus) (10 ∷ bs) ≡ v
      waiting [] g = asked_here side n plus ∙ (let x : w ≡ v = cc in x)
      waiting (c ∷ cs) g = among n c cs w g

  feed_kind : (xs : List ℕ) (k : Kind) (m : ℕ) → after_cr xs ≡ Err (Fails k m) → kind_at side (Return n plus) m xs ≡ k
  feed_kind [] k m h = absurd cc
  feed_kind (b ∷ bs) k m h =
      elim (cases_Bool (eqb b 10)) [
        | inl e ↦
            ap (λ (c : ℕ). kind_at side (Return n plus) m (c ∷ bs)) (eqb-true b 10 e) ∙ waiting bs (sym (ap (feed_case b bs) e) ∙ h)
        | inr e ↦
            let read : feed_case b bs false ≡ Err (Fails k m) = sym (ap (feed_case b bs) e) ∙ h in
            let kind : Syntax ≡ k = cc in
            let left : length (b ∷ bs) ≡ m = cc in
            ap (λ (j : ℕ). kind_at side (Return n plus) j (b ∷ bs)) (sym left) ∙ kind-first side (Return n plus) b bs ∙ kind
      ]
    where
      among : (i : ℕ) (c : ℕ) (cs : List ℕ) (o : Option ℕ) → wait_at o i (c ∷ cs) ≡ Err (Fails k m) → kind_at side (Return i plus) m (10 ∷ c ∷ cs) ≡ k
      among zero c cs o g = absurd cc
      among (suc i) c cs o g =
          elim (bind_err (octets_at (suc i) (c ∷ cs)) (λ x. followed x.0 x.1) (Fails k m) g) [
            | inl s ↦ kind-step side (Return (suc i) plus) m 10 (c ∷ cs) (octets_left (suc i) (c ∷ cs) k m s) ∙ ap (λ (p : Phase). kind_at side p m (c ∷ cs)) (feeds i plus) ∙ octets_kind side i (c ∷ cs) k m s
            | inr x ↦ absurd (let f = (followed_err x.0.0 x.0.1 (Fails k m) x.2).1 in cc)
          ]

      waiting : (bs : List ℕ) → wait_at w n bs ≡ Err (Fails k m) → kind_at side (Return n plus) m (10 ∷ bs) ≡ k
      waiting [] g = absurd cc
      waiting (c ∷ cs) g = among n c cs w g

  feed_octets : (xs : List ℕ) (v : Option ℕ) (c : ℕ) → after_cr xs ≡ Err (Ends v) → is_in (phase (Return n plus) xs) ≡ true → eqb c 0 ≡ false → (u : Option ℕ) × (after_cr (xs ++ c ∷ []) ≡ Err (Ends u))
  feed_octets [] v c h i z = absurd (false≢true i)
  feed_octets (b ∷ bs) v c h i z =
      elim (cases_Bool (eqb b 10)) [
        | inl e ↦
            let o = waiting bs (sym (ap (feed_case b bs) e) ∙ h) (ap (λ (x : ℕ). is_in (phase (next (Return n plus) x) bs)) (sym (eqb-true b 10 e)) ∙ i) in
            (o.0, ap (feed_case b (bs ++ c ∷ [])) e ∙ o.1)
        | inr e ↦ let wrong : feed_case b bs false ≡ Err (Ends v) = sym (ap (feed_case b bs) e) ∙ h in absurd cc
      ]
    where
      none_in : (m : ℕ) → is_in (phase (next (Return m plus) 10) []) ≡ true → 0 < m
      none_in zero i = absurd (false≢true i)
      none_in (suc m) i = omega arith

      first : (m : ℕ) (o : Option ℕ) → 0 < m → (u : Option ℕ) × (wait_at o m (c ∷ []) ≡ Err (Ends u))
      first zero o lt = absurd (omega (arith, lt))
      first (suc m) o lt = octets_next (suc m) [] None c refl z

      among : (m : ℕ) (d : ℕ) (ds : List ℕ) (o : Option ℕ) → wait_at o m (d ∷ ds) ≡ Err (Ends v) → is_in (phase (next (Return m plus) 10) (d ∷ ds)) ≡ true → (u : Option ℕ) × (wait_at o m (d ∷ ds ++ c ∷ []) ≡ Err (Ends u))
      among zero d ds o g j = absurd cc
      among (suc m) d ds o g j =
          elim (bind_err (octets_at (suc m) (d ∷ ds)) (λ x. followed x.0 x.1) (Ends v) g) [
            | inl s ↦ octets_next (suc m) (d ∷ ds) v c s z
            | inr x ↦
                let f = followed_err x.0.0 x.0.1 (Ends v) x.2 in
                let s = octets_sound (suc m) (d ∷ ds) x.0.0 x.0.1 x.1 in
                let long : length (d ∷ ds) ≡ suc m = omega (arith, ap length s.0, length-append x.0.0 x.0.1, ap length f.0, s.1.long) in
                absurd (false≢true (sym (ap (λ (p : Phase). is_in (phase p (d ∷ ds))) (feeds m plus) ∙ ap is_in (in-phase m (d ∷ ds) long)) ∙ j))
          ]

      waiting : (bs : List ℕ) → wait_at w n bs ≡ Err (Ends v) → is_in (phase (next (Return n plus) 10) bs) ≡ true → (u : Option ℕ) × (wait_at w n (bs ++ c ∷ []) ≡ Err (Ends u))
      waiting [] g j = first n w (none_in n j)
      waiting (d ∷ ds) g j = among n d ds w g j

  feed_lexed : Lexed side (Return n plus) after_cr
  feed_lexed = record { asks = feed_asks; kind = feed_kind; octets = feed_octets }

  feed_reader : Reader waits (λ o. Is (10 ∷ []) ⨾ Octets n o) after_cr
  feed_reader = skip_reader (byte_reader 10) (wait_reader w n) (after_closed (wait_at w n))

  cr_leads : Leads {A = Unit {0}} side Closed (Close n plus) (λ _ t. Is (13 ∷ []) t) (λ _. Return n plus)
  cr_leads = record { after = λ _ t h. ap (phase (Close n plus)) h; quiet = λ _ t h s. ap (asks_from side (Close n plus)) h }

  pub of_lexed : Lexed side (Close n plus) (octets_of side (n, plus))
  of_lexed = seq_lexed {M = λ _ o. Is (10 ∷ []) ⨾ Octets n o} (byte_reader 13) (byte_lexed side (Close n plus) 13 (λ _. refl) refl) cr_leads (λ _. feed_reader) (λ _. feed_lexed)

  pub of_reader : Reader waits (λ o. Is (13 ∷ []) ⨾ Is (10 ∷ []) ⨾ Octets n o) (octets_of side (n, plus))
  of_reader = skip_reader (byte_reader 13) feed_reader (after_closed after_cr)

-- ---- the literal

octets-after : (n : ℕ) (plus : Bool) (t : List ℕ) → length t ≡ n → phase (next (Return n plus) 10) t ≡ Plain
octets-after zero plus [] h = refl
octets-after zero plus (b ∷ t) h = absurd (omega (arith, h))
octets-after (suc n) plus t h = ap (λ (p : Phase). phase p t) (feeds n plus) ∙ in-phase n t h

module _ (side : Speaker) where
  abbrev pub Following : ℕ × Bool → List ℕ → List ℕ → Type 0
  Following p o = Is (13 ∷ []) ⨾ Is (10 ∷ []) ⨾ Octets p.0 o

  measured_reader : Reader waits (ThenBy (LengthText side) Following) (seq (length_at side) (octets_of side))
  measured_reader = seq_reader (length_reader side) (λ p. of_reader side p.0 p.1) (λ p. after_closed (octets_of side p))

  measured_lexed : Lexed side Brace (seq (length_at side) (octets_of side))
  measured_lexed = seq_lexed {M = Following} (length_reader side) (length_lexed side) (length_leads side) (λ p. of_reader side p.0 p.1) (λ p. of_lexed side p.0 p.1)

  pub brace_leads : Leads {A = Unit {0}} side Closed Plain (λ _ t. Is (123 ∷ []) t) (λ _. Brace)
  brace_leads = record { after = λ _ t h. ap (phase Plain) h; quiet = λ _ t h s. ap (asks_from side Plain) h }

  literal_after : (o t : List ℕ) → Literal side o t → phase Plain t ≡ Plain
  literal_after o t h =
      let m = h.second in
      let c = m.second in
      let f = c.second in
      ap (phase Plain) h.parts ∙ two-phases Plain Brace h.front h.back (ap (phase Plain) h.first)
      ∙ ap (phase Brace) m.parts ∙ two-phases Brace (Close m.value.0 m.value.1) m.front m.back ((length_leads side).after m.value m.front m.first)
      ∙ ap (phase (Close m.value.0 m.value.1)) c.parts ∙ two-phases (Close m.value.0 m.value.1) (Return m.value.0 m.value.1) c.front c.back (ap (phase (Close m.value.0 m.value.1)) c.first)
      ∙ ap (phase (Return m.value.0 m.value.1)) f.parts ∙ two-phases (Return m.value.0 m.value.1) (next (Return m.value.0 m.value.1) 10) f.front f.back (ap (phase (Return m.value.0 m.value.1)) f.first)
      ∙ octets-after m.value.0 m.value.1 f.back f.second.1.long

  -- a literal, which is read once a byte has come after it
  pub literal_part : Part side true waits (Literal side) (literal_at side)
  literal_part = record {
    reader = skip_reader (byte_reader 123) measured_reader (after_closed (seq (length_at side) (octets_of side)));
    lexed = seq_lexed {M = λ _. ThenBy (LengthText side) Following} (byte_reader 123) (byte_lexed side Plain 123 (λ _. refl) refl) brace_leads (λ _. measured_reader) (λ _. measured_lexed);
    leads = λ _. record { after = literal_after; quiet = λ a t h s. absurd (false≢true s) };
  }
