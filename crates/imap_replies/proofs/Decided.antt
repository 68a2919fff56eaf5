-- A token of atom bytes that is decided once it has ended, by all of its bytes, as a part of a grammar.
use Rattle.std.proofs.Common.{◌≡◌, ℕ, true, List, [], ◌∷◌, ◌++◌, Option, Some, Result, Ok, Err, refl, sym, ap, subst, ◌∙◌, append_assoc}
use Rattle.std.specs.List.{list_all}
use Rattle.std.proofs.lemmas.Bool.{and_parts, and_from}
use Rattle.std.proofs.lemmas.List.{append-nil}
use Rattle.wire_reader.specs.declared.side.Speaker.{Speaker}
use Rattle.wire_reader.specs.declared.stop.Kind.{Kind}
use Rattle.wire_reader.specs.declared.stop.Kind.TheVariants.{Syntax}
use Rattle.wire_reader.specs.Machine.{run, RunText}
use Rattle.wire_reader.proofs.Reader.{Open}
use Rattle.wire_reader.proofs.Part.{Part, same_part}
use Rattle.wire_reader.proofs.PartTokens.{run_part}
use Rattle.wire_tokens.specs.Atoms.{is_atom_byte}

-- bytes of atoms that fit, and what they are
pub record Decided {A : Type 0} (Fits : List ℕ → Type 0) (out : List ℕ → Option A) (a : A) (text : List ℕ) : Type 0 where
  pub each : list_all is_atom_byte text ≡ true
  pub fits : Fits text
  pub is : out text ≡ Some a

module _ {A : Type 0} (go : List ℕ → ℕ → Result (List ℕ) Kind) (out : List ℕ → Option A) (Fits : List ℕ → Type 0)
    (went : (s : List ℕ) (b : ℕ) (t : List ℕ) → go s b ≡ Ok t → (s ++ b ∷ [] ≡ t) × Fits t)
    (goes : (s : List ℕ) (b : ℕ) → Fits (s ++ b ∷ []) → go s b ≡ Ok (s ++ b ∷ []))
    (front : (s t : List ℕ) → Fits (s ++ t) → Fits s) where
  abbrev pub Text : List ℕ → A → List ℕ → Type 0
  Text s a t = RunText is_atom_byte go out s a t

  to_decided : (t s : List ℕ) (a : A) → Fits s → Text s a t → (list_all is_atom_byte t ≡ true) × Fits (s ++ t) × (out (s ++ t) ≡ Some a)
  to_decided [] s a f h = (refl, subst Fits (sym (append-nil s)) f, ap out (append-nil s) ∙ h)
  to_decided (b ∷ t) s a f h =
      let g = went s b h.1.0 h.1.1 in
      let next : Text (s ++ b ∷ []) a t = subst (λ (x : List ℕ). Text x a t) (sym g.0) h.1.2 in
      let r = to_decided t (s ++ b ∷ []) a (subst Fits (sym g.0) g.1) next in
      let e : (s ++ b ∷ []) ++ t ≡ s ++ b ∷ t = append_assoc s (b ∷ []) t in
      (and_from _ _ h.0 r.0, subst Fits e r.1, ap out (sym e) ∙ r.2)

  from_decided : (t s : List ℕ) (a : A) → list_all is_atom_byte t ≡ true → Fits (s ++ t) → out (s ++ t) ≡ Some a → Text s a t
  from_decided [] s a each f h = ap out (sym (append-nil s)) ∙ h
  from_decided (b ∷ t) s a each f h =
      let p = and_parts _ _ each in
      let e : (s ++ b ∷ []) ++ t ≡ s ++ b ∷ t = append_assoc s (b ∷ []) t in
      (p.0, (s ++ b ∷ [], goes s b (front (s ++ b ∷ []) t (subst Fits (sym e) f)), from_decided t (s ++ b ∷ []) a p.1 (subst Fits (sym e) f) (ap out e ∙ h)))

  -- what is known so far is a value, or is with `X` after it
  pub completed : (s : List ℕ) (a : A) → Fits (s ++ 88 ∷ []) → out (s ++ 88 ∷ []) ≡ Some a → (z : List ℕ) × (b : A) × Text s b z
  completed s a f h = (88 ∷ [], a, from_decided (88 ∷ []) s a refl f h)

  module _ (none : Fits []) (syntax : (s : List ℕ) (b : ℕ) (k : Kind) → go s b ≡ Err k → k ≡ Syntax) (completes : (s : List ℕ) → (z : List ℕ) × (a : A) × Text s a z) where
    pub decided_part : {side : Speaker} → Part side true (Open is_atom_byte) (Decided Fits out) (run is_atom_byte go out [])
    decided_part {side} = same_part
        (λ a t h. let r = to_decided t [] a none h in record { each = r.0; fits = r.1; is = r.2 })
        (λ a t h. from_decided t [] a h.each h.fits h.is)
        (run_part side is_atom_byte go out refl syntax completes [])
