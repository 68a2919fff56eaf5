-- Runs of at most so many bytes of a class.
use Rattle.std.proofs.Common.{◌≡◌, ℕ, ◌<◌, ◌≤◌, Bool, true, cond, ltb, List, [], ◌∷◌, ◌++◌, length, Some, Result, Ok, Err, refl, sym, ap, subst, ◌∙◌, append_assoc, inl, inr, arith}
use Rattle.std.specs.List.{list_all}
use Rattle.std.proofs.lemmas.Bool.{cases_Bool, ltb-true, lt-ltb, and_parts, and_from}
use Rattle.std.proofs.lemmas.List.{append-nil, length-append}
use Rattle.wire_reader.specs.declared.stop.Kind.{Kind}
use Rattle.wire_reader.specs.declared.stop.Kind.TheVariants.{Syntax}
use Rattle.wire_reader.specs.Spelling.{IsRun}
use Rattle.wire_reader.specs.Machine.{RunText, run, text_go, text_out}
use Rattle.wire_reader.proofs.Reader.{Open, Reader}
use Rattle.wire_reader.proofs.Parts.{same_reader}
use Rattle.wire_reader.proofs.Runs.{run_reader}

module _ (class : ℕ → Bool) (limit : ℕ) where
  go_is : (acc : List ℕ) (b : ℕ) (t : List ℕ) → text_go limit acc b ≡ Ok t → (length acc < limit) × (acc ++ b ∷ [] ≡ t)
  go_is acc b t h =
      elim (cases_Bool (ltb (length acc) limit)) [
        | inl e ↦
            let read : Ok (acc ++ b ∷ []) ≡ Ok t = sym (ap (λ (x : Bool). let o : Result (List ℕ) Kind = cond x (Ok (acc ++ b ∷ [])) (Err Syntax) in o) e) ∙ h in
            (ltb-true _ _ e, cc)
        | inr e ↦
            let read : Err Syntax ≡ Ok t = sym (ap (λ (x : Bool). let o : Result (List ℕ) Kind = cond x (Ok (acc ++ b ∷ [])) (Err Syntax) in o) e) ∙ h in absurd cc
      ]

  go_on : (acc : List ℕ) (b : ℕ) → length acc < limit → text_go limit acc b ≡ Ok (acc ++ b ∷ [])
  go_on acc b lt = ap (λ (x : Bool). let o : Result (List ℕ) Kind = cond x (Ok (acc ++ b ∷ [])) (Err Syntax) in o) (lt-ltb _ _ lt)

  out_is : (acc a : List ℕ) → text_out acc ≡ Some a → (acc ≡ a) × (0 < length acc)
  out_is [] a h = absurd cc
  out_is (c ∷ cs) a h = (cc, omega arith)

  pub run_to : (t acc a : List ℕ) → RunText class (text_go limit) text_out acc a t → length acc ≤ limit → (a ≡ acc ++ t) × (list_all class t ≡ true) × (0 < length (acc ++ t)) × (length (acc ++ t) ≤ limit)
  run_to [] acc a h le =
      let o = out_is acc a h in
      let e = append-nil acc in
      (sym o.0 ∙ sym e, refl, subst (λ (x : List ℕ). 0 < length x) (sym e) o.1, subst (λ (x : List ℕ). length x ≤ limit) (sym e) le)
  run_to (b ∷ t) acc a h le =
      let g = go_is acc b h.1.0 h.1.1 in
      let next : RunText class (text_go limit) text_out (acc ++ b ∷ []) a t = subst (λ (x : List ℕ). RunText class (text_go limit) text_out x a t) (sym g.1) h.1.2 in
      let r = run_to t (acc ++ b ∷ []) a next (omega (arith, g.0, length-append acc (b ∷ []))) in
      let e : (acc ++ b ∷ []) ++ t ≡ acc ++ b ∷ t = append_assoc acc (b ∷ []) t in
      (r.0 ∙ e, and_from _ _ h.0 r.1, subst (λ (x : List ℕ). 0 < length x) e r.2, subst (λ (x : List ℕ). length x ≤ limit) e r.3)

  pub run_from : (t acc a : List ℕ) → a ≡ acc ++ t → list_all class t ≡ true → 0 < length (acc ++ t) → length (acc ++ t) ≤ limit → RunText class (text_go limit) text_out acc a t
  run_from [] [] a e all some most = absurd (omega (arith, some))
  run_from [] (c ∷ cs) a e all some most = ap (λ (x : List ℕ). Some x) (sym (append-nil (c ∷ cs)) ∙ sym e)
  run_from (b ∷ t) acc a e all some most =
      let p = and_parts _ _ all in
      let f : (acc ++ b ∷ []) ++ t ≡ acc ++ b ∷ t = append_assoc acc (b ∷ []) t in (
        p.0,
        (
          acc ++ b ∷ [],
          go_on acc b (omega (arith, most, length-append acc (b ∷ t))),
          run_from t (acc ++ b ∷ []) a (e ∙ sym f) p.1 (subst (λ (x : List ℕ). 0 < length x) (sym f) some) (subst (λ (x : List ℕ). length x ≤ limit) (sym f) most),
        ),
      )

  pub completes : (sample : ℕ) → class sample ≡ true → 0 < limit → (s : List ℕ) → (z : List ℕ) × (a : List ℕ) × RunText class (text_go limit) text_out s a z
  completes sample fits pos [] = (sample ∷ [], sample ∷ [], (fits, (sample ∷ [], go_on [] sample pos, refl)))
  completes sample fits pos (c ∷ cs) = ([], c ∷ cs, refl)

  pub text_reader : (sample : ℕ) → class sample ≡ true → 0 < limit → Reader (Open class) (λ a t. (t ≡ a) × IsRun class limit t) (run class (text_go limit) text_out [])
  text_reader sample fits pos = same_reader
      (λ a t h. let r = run_to t [] a h (omega arith) in (sym r.0, record { each = r.1; some = r.2; most = r.3 }))
      (λ a t h. run_from t [] a (sym h.0) h.1.each h.1.some h.1.most)
      (run_reader class (text_go limit) text_out (completes sample fits pos) [])
