-- An atom that is decided once it has ended.
use Rattle.std.proofs.Common.{◌≡◌, ℕ, ◌≤◌, Bool, true, false, cond, ltb, List, [], ◌∷◌, ◌++◌, length, Option, None, Result, Ok, Err, refl, sym, ap, subst, ◌∙◌, inl, inr, arith}
use Rattle.std.proofs.lemmas.Bool.{cases_Bool, false≢true, ltb-true, lt-ltb}
use Rattle.std.proofs.lemmas.List.{length-append}
use Rattle.wire_reader.specs.declared.stop.Kind.{Kind}
use Rattle.wire_reader.specs.declared.stop.Kind.TheVariants.{Syntax}
use Rattle.wire_reader.specs.declared.stop.Stop.{Stop}
use Rattle.wire_reader.specs.Reading.{◌>>=◌}
use Rattle.wire_reader.specs.Machine.{run, run_next, run_end, text_go, text_out}
use Rattle.wire_reader.specs.declared.side.Speaker.TheVariants.{Replies}
use Rattle.wire_reader.specs.declared.stop.Stop.TheVariants.{Fails}
use Rattle.wire_reader.proofs.Reader.{Open, stops, Reader}
use Rattle.wire_tokens.specs.Atoms.{is_atom_byte, AtomText, atom_at}
use Rattle.wire_tokens.proofs.AtomParts.{atom_part}

-- ---- at most 255 bytes

abbrev pub Short : List ℕ → Type 0
Short t = length t ≤ 255

abbrev go_case : List ℕ → ℕ → Bool → Result (List ℕ) Kind
go_case s b t = cond t (Ok (s ++ b ∷ [])) (Err Syntax)

pub short_went : (s : List ℕ) (b : ℕ) (t : List ℕ) → text_go 255 s b ≡ Ok t → (s ++ b ∷ [] ≡ t) × Short t
short_went s b t h =
    elim (cases_Bool (ltb (length s) 255)) [
      | inl e ↦
          let read : go_case s b true ≡ Ok t = sym (ap (go_case s b) e) ∙ h in
          let same : s ++ b ∷ [] ≡ t = cc in
          (same, subst Short same (let l = ltb-true _ _ e in omega (arith, l, length-append s (b ∷ []))))
      | inr e ↦ let read : go_case s b false ≡ Ok t = sym (ap (go_case s b) e) ∙ h in absurd cc
    ]

pub short_goes : (s : List ℕ) (b : ℕ) → Short (s ++ b ∷ []) → text_go 255 s b ≡ Ok (s ++ b ∷ [])
short_goes s b f = ap (go_case s b) (lt-ltb (length s) 255 (omega (arith, f, length-append s (b ∷ []))))

pub short_front : (s t : List ℕ) → Short (s ++ t) → Short s
short_front s t f = omega (arith, f, length-append s t)

pub short_syntax : (s : List ℕ) (b : ℕ) (k : Kind) → text_go 255 s b ≡ Err k → k ≡ Syntax
short_syntax s b k h =
    elim (cases_Bool (ltb (length s) 255)) [
      | inl e ↦ let read : go_case s b true ≡ Err k = sym (ap (go_case s b) e) ∙ h in absurd cc
      | inr e ↦ let read : go_case s b false ≡ Err k = sym (ap (go_case s b) e) ∙ h in cc
    ]

-- ---- an atom is read, and then decided

module _ {A : Type 0} (out : List ℕ → Option A) (none : out [] ≡ None) where
  abbrev decide : List ℕ × List ℕ → Result (A × List ℕ) Stop
  decide x = run_end (out x.0) x.1

  abbrev at : List ℕ → ℕ → List ℕ → Bool → Result (A × List ℕ) Stop
  at s b bs t = cond t (run_next (text_go 255 s b) (λ t. run is_atom_byte (text_go 255) out t bs) (length (b ∷ bs))) (run_end (out s) (b ∷ bs))

  abbrev atom_at' : List ℕ → ℕ → List ℕ → Bool → Result (List ℕ × List ℕ) Stop
  atom_at' s b bs t = cond t (run_next (text_go 255 s b) (λ t. run is_atom_byte (text_go 255) text_out t bs) (length (b ∷ bs))) (run_end (text_out s) (b ∷ bs))

  ended_at : (s : List ℕ) (b : ℕ) (bs : List ℕ) → run_end (out s) (b ∷ bs) ≡ (run_end (text_out s) (b ∷ bs) >>= decide)
  ended_at [] b bs = ap (λ (o : Option A). run_end o (b ∷ bs)) none
  ended_at (c ∷ s) b bs = refl

  later : (b : ℕ) (bs : List ℕ) (o : Result (List ℕ) Kind) → ((s : List ℕ) → run is_atom_byte (text_go 255) out s bs ≡ (run is_atom_byte (text_go 255) text_out s bs >>= decide)) → run_next o (λ t. run is_atom_byte (text_go 255) out t bs) (length (b ∷ bs)) ≡ (run_next o (λ t. run is_atom_byte (text_go 255) text_out t bs) (length (b ∷ bs)) >>= decide)
  later b bs (Ok t) rec = rec t
  later b bs (Err k) rec = refl

  pub decided_from : (xs s : List ℕ) → run is_atom_byte (text_go 255) out s xs ≡ (run is_atom_byte (text_go 255) text_out s xs >>= decide)
  decided_from [] s = refl
  decided_from (b ∷ bs) s =
      elim (cases_Bool (is_atom_byte b)) [
        | inl e ↦ ap (at s b bs) e ∙ later b bs (text_go 255 s b) (decided_from bs) ∙ sym (ap (λ (t : Bool). atom_at' s b bs t >>= decide) e)
        | inr e ↦ ap (at s b bs) e ∙ ended_at s b bs ∙ sym (ap (λ (t : Bool). atom_at' s b bs t >>= decide) e)
      ]

  pub decided_ok : (xs a rest : List ℕ) → atom_at xs ≡ Ok (a, rest) → run is_atom_byte (text_go 255) out [] xs ≡ run_end (out a) rest
  decided_ok xs a rest h = decided_from xs [] ∙ ap (λ (o : Result (List ℕ × List ℕ) Stop). o >>= decide) h

  pub decided_err : (xs : List ℕ) (s : Stop) → atom_at xs ≡ Err s → run is_atom_byte (text_go 255) out [] xs ≡ Err s
  decided_err xs s h = decided_from xs [] ∙ ap (λ (o : Result (List ℕ × List ℕ) Stop). o >>= decide) h

-- ---- where it is refused

pub refused_end : {A : Type 0} (g : ℕ → Bool) (rest : List ℕ) → stops (Open g) rest ≡ true → run_end {A = A} None rest ≡ Err (Fails Syntax (length rest))
refused_end g [] h = absurd (false≢true h)
refused_end g (b ∷ bs) h = refl

pub atom_stop : (xs a rest : List ℕ) → atom_at xs ≡ Ok (a, rest) → stops (Open is_atom_byte) rest ≡ true
atom_stop xs a rest h = (atom_reader.sound xs a rest h).stop
  where
    atom_reader : Reader (Open is_atom_byte) AtomText atom_at
    atom_reader = (atom_part {side = Replies}).reader
