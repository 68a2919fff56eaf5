-- Tokens that are read by a state that steps, as parts of a grammar.
use Rattle.std.proofs.Common.{◌≡◌, ℕ, ◌<◌, ◌≤◌, Bool, true, false, cond, ltb, List, [], ◌∷◌, ◌++◌, length, Option, None, Result, Ok, Err, refl, sym, ap, ◌∙◌, inl, inr, arith}
use Rattle.std.proofs.lemmas.Bool.{cases_Bool, false≢true, and_from}
use Rattle.wire_reader.specs.declared.side.Speaker.{Speaker}
use Rattle.wire_reader.specs.declared.lexical.Phase.{Phase}
use Rattle.wire_reader.specs.declared.lexical.Phase.TheVariants.{Plain}
use Rattle.wire_reader.specs.declared.stop.Kind.{Kind}
use Rattle.wire_reader.specs.declared.stop.Kind.TheVariants.{Syntax}
use Rattle.wire_reader.specs.declared.stop.Stop.{Stop}
use Rattle.wire_reader.specs.declared.stop.Stop.TheVariants.{Ends, Fails}
use Rattle.wire_reader.specs.Lexical.{next, phase, is_in, asked, asks_from, kind_of}
use Rattle.wire_reader.specs.Spelling.{IsRun}
use Rattle.wire_reader.specs.Machine.{run, run_next, run_end, RunText, text_go, text_out, Step, On, Take, Odd, scan, ScanText}
use Rattle.wire_reader.proofs.Reader.{Closed, Open}
use Rattle.wire_reader.proofs.Runs.{run_reader}
use Rattle.wire_reader.proofs.Runs as runs
use Rattle.wire_reader.proofs.Texts as texts
use Rattle.wire_reader.proofs.Scans.{scan_reader}
use Rattle.wire_reader.proofs.Scans as scans
use Rattle.wire_reader.proofs.Lexed.{Lexed, Leads, kind_at, dry, asks-step, kind-first, kind-step}
use Rattle.wire_reader.proofs.Braceless.{braceless, stays_plain, lacks_brace, braceless-phase}
use Rattle.wire_reader.proofs.Part.{Part, same_part}

-- ---- a token that ends before the first byte outside its class, which lacks `{`

module _ {S A : Type 0} (side : Speaker) (class : ℕ → Bool) (go : S → ℕ → Result S Kind) (out : S → Option A) (lacks : class 123 ≡ false) (syntax : (s : S) (b : ℕ) (k : Kind) → go s b ≡ Err k → k ≡ Syntax) where
  abbrev at_byte : S → ℕ → List ℕ → Bool → Result (A × List ℕ) Stop
  at_byte s b bs t = cond t (run_next (go s b) (λ t. run class go out t bs) (length (b ∷ bs))) (run_end (out s) (b ∷ bs))

  same : (b : ℕ) → class b ≡ true → next Plain b ≡ Plain
  same b e = stays_plain b (lacks_brace class lacks b e)

  run_asks : (xs : List ℕ) (s : S) (w : Option ℕ) → run class go out s xs ≡ Err (Ends w) → asks_from side Plain xs ≡ w
  run_asks [] s w h = cc
  run_asks (b ∷ bs) s w h =
      elim (cases_Bool (class b)) [
        | inl e ↦
            elim (runs.next_err class go out (go s b) (λ t. run class go out t bs) (length (b ∷ bs)) (Ends w) (sym (ap (at_byte s b bs) e) ∙ h)) [
              | inl m ↦ asks-step side Plain b bs refl ∙ ap (λ (x : Phase). asks_from side x bs) (same b e) ∙ run_asks bs m.0 w m.2
              | inr m ↦ absurd (let x = m.2 in cc)
            ]
        | inr e ↦ absurd (let x = (runs.end_err class go out (out s) b bs (Ends w) (sym (ap (at_byte s b bs) e) ∙ h)).1 in cc)
      ]

  run_out : (xs : List ℕ) (s : S) (w : Option ℕ) → run class go out s xs ≡ Err (Ends w) → is_in (phase Plain xs) ≡ false
  run_out [] s w h = refl
  run_out (b ∷ bs) s w h =
      elim (cases_Bool (class b)) [
        | inl e ↦
            elim (runs.next_err class go out (go s b) (λ t. run class go out t bs) (length (b ∷ bs)) (Ends w) (sym (ap (at_byte s b bs) e) ∙ h)) [
              | inl m ↦ ap (λ (x : Phase). is_in (phase x bs)) (same b e) ∙ run_out bs m.0 w m.2
              | inr m ↦ absurd (let x = m.2 in cc)
            ]
        | inr e ↦ absurd (let x = (runs.end_err class go out (out s) b bs (Ends w) (sym (ap (at_byte s b bs) e) ∙ h)).1 in cc)
      ]

  run_left : (xs : List ℕ) (s : S) (k : Kind) (n : ℕ) → run class go out s xs ≡ Err (Fails k n) → n ≤ length xs
  run_left [] s k n h = absurd cc
  run_left (b ∷ bs) s k n h =
      elim (cases_Bool (class b)) [
        | inl e ↦
            elim (runs.next_err class go out (go s b) (λ t. run class go out t bs) (length (b ∷ bs)) (Fails k n) (sym (ap (at_byte s b bs) e) ∙ h)) [
              | inl m ↦ let l = run_left bs m.0 k n m.2 in omega (arith, l)
              | inr m ↦ let x = m.2 in let left : length (b ∷ bs) ≡ n = cc in omega (arith, left)
            ]
        | inr e ↦ let x = (runs.end_err class go out (out s) b bs (Fails k n) (sym (ap (at_byte s b bs) e) ∙ h)).1 in let left : length (b ∷ bs) ≡ n = cc in omega (arith, left)
      ]

  run_kind : (xs : List ℕ) (s : S) (k : Kind) (n : ℕ) → run class go out s xs ≡ Err (Fails k n) → kind_at side Plain n xs ≡ k
  run_kind [] s k n h = absurd cc
  run_kind (b ∷ bs) s k n h =
      elim (cases_Bool (class b)) [
        | inl e ↦
            elim (runs.next_err class go out (go s b) (λ t. run class go out t bs) (length (b ∷ bs)) (Fails k n) (sym (ap (at_byte s b bs) e) ∙ h)) [
              | inl m ↦ kind-step side Plain n b bs (run_left bs m.0 k n m.2) ∙ ap (λ (x : Phase). kind_at side x n bs) (same b e) ∙ run_kind bs m.0 k n m.2
              | inr m ↦
                  let x = m.2 in
                  let kind : m.0 ≡ k = cc in
                  let left : length (b ∷ bs) ≡ n = cc in
                  ap (λ (i : ℕ). kind_at side Plain i (b ∷ bs)) (sym left) ∙ kind-first side Plain b bs ∙ sym (syntax s b m.0 m.1) ∙ kind
            ]
        | inr e ↦
            let x = (runs.end_err class go out (out s) b bs (Fails k n) (sym (ap (at_byte s b bs) e) ∙ h)).1 in
            let kind : Syntax ≡ k = cc in
            let left : length (b ∷ bs) ≡ n = cc in
            ap (λ (i : ℕ). kind_at side Plain i (b ∷ bs)) (sym left) ∙ kind-first side Plain b bs ∙ kind
      ]

  run_braceless : (t : List ℕ) (s : S) (a : A) → RunText class go out s a t → braceless t ≡ true
  run_braceless [] s a h = refl
  run_braceless (b ∷ t) s a h = and_from _ _ (lacks_brace class lacks b h.0) (run_braceless t h.1.0 a h.1.2)

  pub run_part : (completes : (s : S) → (z : List ℕ) × (a : A) × RunText class go out s a z) (s : S) → Part side true (Open class) (RunText class go out s) (run class go out s)
  run_part completes s = record {
    reader = run_reader class go out completes s;
    lexed = record { asks = λ xs w h. run_asks xs s w h; kind = λ xs k n h. run_kind xs s k n h; octets = dry Plain (run class go out s) (λ xs w h. run_out xs s w h) };
    leads = λ _. record { after = λ a t h. braceless-phase t (run_braceless t s a h); quiet = λ a t h st. absurd (false≢true st) };
  }

abbrev go_case : ℕ → List ℕ → ℕ → Bool → Result (List ℕ) Kind
go_case limit s b t = cond t (Ok (s ++ b ∷ [])) (Err Syntax)

text_syntax : (limit : ℕ) (s : List ℕ) (b : ℕ) (k : Kind) → text_go limit s b ≡ Err k → k ≡ Syntax
text_syntax limit s b k h =
    elim (cases_Bool (ltb (length s) limit)) [
      | inl e ↦ let read : go_case limit s b true ≡ Err k = sym (ap (go_case limit s b) e) ∙ h in absurd cc
      | inr e ↦ let read : go_case limit s b false ≡ Err k = sym (ap (go_case limit s b) e) ∙ h in cc
    ]

-- a run of at least one and at most so many bytes of a class that lacks `{`; `sample` is a byte of the class
pub text_part : {side : Speaker} (class : ℕ → Bool) (limit sample : ℕ) → class sample ≡ true → class 123 ≡ false → 0 < limit → Part side true (Open class) (λ a t. (t ≡ a) × IsRun class limit t) (run class (text_go limit) text_out [])
text_part {side} class limit sample fits lacks pos = same_part
    (λ a t h. let r = texts.run_to class limit t [] a h (omega arith) in (sym r.0, record { each = r.1; some = r.2; most = r.3 }))
    (λ a t h. texts.run_from class limit t [] a (sym h.0) h.1.each h.1.some h.1.most)
    (run_part side class (text_go limit) text_out lacks (text_syntax limit) (texts.completes class limit sample fits pos) [])

-- ---- a token that takes its last byte

-- `I s p`: in the phase p the state may be s
module _ {S A : Type 0} (side : Speaker) (step : S → ℕ → Step S A) (I : S → Phase → Type 0)
    (keeps : (s t : S) (p : Phase) (b : ℕ) → I s p → step s b ≡ On t → I t (next p b) × (asked side p b ≡ None))
    (odd : (s : S) (p : Phase) (b : ℕ) (k : Kind) → I s p → step s b ≡ Odd k → kind_of side p b ≡ k)
    (out : (s : S) (p : Phase) → I s p → is_in p ≡ false) where
  scan_asks : (xs : List ℕ) (s : S) (p : Phase) (w : Option ℕ) → I s p → scan step s xs ≡ Err (Ends w) → asks_from side p xs ≡ w
  scan_asks [] s p w i h = cc
  scan_asks (b ∷ bs) s p w i h =
      elim (scans.next_err step (step s b) (λ t. scan step t bs) b bs (Ends w) h) [
        | inl m ↦ let k = keeps s m.0 p b i m.1 in asks-step side p b bs k.1 ∙ scan_asks bs m.0 (next p b) w k.0 m.2
        | inr m ↦ absurd (let x = m.2 in cc)
      ]

  scan_out : (xs : List ℕ) (s : S) (p : Phase) (w : Option ℕ) → I s p → scan step s xs ≡ Err (Ends w) → is_in (phase p xs) ≡ false
  scan_out [] s p w i h = out s p i
  scan_out (b ∷ bs) s p w i h =
      elim (scans.next_err step (step s b) (λ t. scan step t bs) b bs (Ends w) h) [
        | inl m ↦ scan_out bs m.0 (next p b) w (keeps s m.0 p b i m.1).0 m.2
        | inr m ↦ absurd (let x = m.2 in cc)
      ]

  scan_left : (xs : List ℕ) (s : S) (k : Kind) (n : ℕ) → scan step s xs ≡ Err (Fails k n) → n ≤ length xs
  scan_left [] s k n h = absurd cc
  scan_left (b ∷ bs) s k n h =
      elim (scans.next_err step (step s b) (λ t. scan step t bs) b bs (Fails k n) h) [
        | inl m ↦ let l = scan_left bs m.0 k n m.2 in omega (arith, l)
        | inr m ↦ let x = m.2 in let left : length (b ∷ bs) ≡ n = cc in omega (arith, left)
      ]

  scan_kind : (xs : List ℕ) (s : S) (p : Phase) (k : Kind) (n : ℕ) → I s p → scan step s xs ≡ Err (Fails k n) → kind_at side p n xs ≡ k
  scan_kind [] s p k n i h = absurd cc
  scan_kind (b ∷ bs) s p k n i h =
      elim (scans.next_err step (step s b) (λ t. scan step t bs) b bs (Fails k n) h) [
        | inl m ↦ kind-step side p n b bs (scan_left bs m.0 k n m.2) ∙ scan_kind bs m.0 (next p b) k n (keeps s m.0 p b i m.1).0 m.2
        | inr m ↦
            let x = m.2 in
            let kind : m.0 ≡ k = cc in
            let left : length (b ∷ bs) ≡ n = cc in
            ap (λ (j : ℕ). kind_at side p j (b ∷ bs)) (sym left) ∙ kind-first side p b bs ∙ odd s p b m.0 i m.1 ∙ kind
      ]

  pub scan_lexed : (s : S) (p : Phase) → I s p → Lexed side p (scan step s)
  scan_lexed s p i = record { asks = λ xs w h. scan_asks xs s p w i h; kind = λ xs k n h. scan_kind xs s p k n i h; octets = dry p (scan step s) (λ xs w h. scan_out xs s p w i h) }

  -- where the last byte leads
  module _ (q : A → Phase) (takes : (s : S) (p : Phase) (b : ℕ) (a : A) → I s p → step s b ≡ Take a → (next p b ≡ q a) × (asked side p b ≡ None)) where
    scan_after : (t : List ℕ) (s : S) (p : Phase) (a : A) → I s p → ScanText step s a t → phase p t ≡ q a
    scan_after [] s p a i h = absurd h
    scan_after (b ∷ bs) s p a i (inl h) = scan_after bs h.0 (next p b) a (keeps s h.0 p b i h.1).0 h.2
    scan_after (b ∷ bs) s p a i (inr h) = ap (λ (x : List ℕ). phase (next p b) x) h.1 ∙ (takes s p b a i h.0).0

    scan_quiet : (t : List ℕ) (s : S) (p : Phase) (a : A) → I s p → ScanText step s a t → asks_from side p t ≡ None
    scan_quiet [] s p a i h = absurd h
    scan_quiet (b ∷ bs) s p a i (inl h) = let k = keeps s h.0 p b i h.1 in asks-step side p b bs k.1 ∙ scan_quiet bs h.0 (next p b) a k.0 h.2
    scan_quiet (b ∷ bs) s p a i (inr h) = ap (λ (x : List ℕ). asks_from side p (b ∷ x)) h.1 ∙ (takes s p b a i h.0).1

    pub scan_leads : (s : S) (p : Phase) → I s p → Leads side Closed p (ScanText step s) q
    scan_leads s p i = record { after = λ a t h. scan_after t s p a i h; quiet = λ a t h st. scan_quiet t s p a i h }

  -- a token after which no literal is under way
  pub scan_part : (takes : (s : S) (p : Phase) (b : ℕ) (a : A) → I s p → step s b ≡ Take a → (next p b ≡ Plain) × (asked side p b ≡ None)) (completes : (s : S) → (z : List ℕ) × (a : A) × ScanText step s a z) (s : S) → I s Plain → Part side true Closed (ScanText step s) (scan step s)
  scan_part takes completes s i = record { reader = scan_reader step completes s; lexed = scan_lexed s Plain i; leads = λ _. scan_leads (λ _. Plain) takes s Plain i }

  -- one that stands last
  pub scan_last : (completes : (s : S) → (z : List ℕ) × (a : A) × ScanText step s a z) (s : S) → I s Plain → Part side false Closed (ScanText step s) (scan step s)
  scan_last completes s i = record { reader = scan_reader step completes s; lexed = scan_lexed s Plain i; leads = λ h. absurd (false≢true h) }
