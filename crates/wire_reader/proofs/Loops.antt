-- The steps of the loop that reads items.
use Rattle.std.proofs.Common.{◌≡◌, ℕ, suc, ◌+◌, ◌-◌, ◌<◌, Bool, false, cond, eqb, List, [], ◌∷◌, ◌++◌, None, Result, Ok, Err, refl, sym, ap, ◌∙◌, arith}
use Rattle.std.proofs.lemmas.Bool.{eq-eqb}
use Rattle.wire_reader.specs.declared.stop.Stop.{Stop}
use Rattle.wire_reader.specs.declared.stop.Stop.TheVariants.{Ends}
use Rattle.wire_reader.specs.Reading.{◌>>=◌}
use Rattle.wire_reader.specs.Listing.{go_on, items_by}
use Rattle.wire_reader.specs.Given.{Failed}
use Rattle.wire_reader.specs.declared.stop.ReadError.{ReadError}
use Rattle.wire_reader.specs.declared.stop.ReadError.TheVariants as errors

-- ---- items

module _ {A B : Type 0} (sep : ℕ) (r : List ℕ → Result (A × List ℕ) Stop) (k : List A × List ℕ → Result (B × List ℕ) Stop) (n i : ℕ) (acc : List A) (xs : List ℕ) (total : Result (B × List ℕ) Stop) (lt : i < n) (so_far : (items_by sep r (n - i) acc xs >>= k) ≡ total) where
  -- one turn of the loop
  turn : ((r xs >>= λ x. go_on sep (acc ++ x.0 ∷ []) (items_by sep r (n - (i + 1)) (acc ++ x.0 ∷ [])) x.1) >>= k) ≡ total
  turn = let m : n - i ≡ suc (n - (i + 1)) = omega arith in sym (ap (λ (j : ℕ). items_by sep r j acc xs >>= k) m) ∙ so_far

  abbrev go : Result (A × List ℕ) Stop → Result (B × List ℕ) Stop
  go o = (o >>= λ x. go_on sep (acc ++ x.0 ∷ []) (items_by sep r (n - (i + 1)) (acc ++ x.0 ∷ [])) x.1) >>= k

  abbrev at' : A → ℕ → List ℕ → Bool → Result (B × List ℕ) Stop
  at' a b bs t = (let o : Result (List A × List ℕ) Stop = cond t (items_by sep r (n - (i + 1)) (acc ++ a ∷ []) bs) (Ok (acc ++ a ∷ [], b ∷ bs)) in o) >>= k

  pub turn_err : (s : Stop) → r xs ≡ Err s → total ≡ Err s
  turn_err s h = sym turn ∙ ap go h

  pub turn_ends : (a : A) (rest : List ℕ) → r xs ≡ Ok (a, rest) → rest ≡ [] → total ≡ Err (Ends None)
  turn_ends a rest h e = sym turn ∙ ap go (h ∙ ap (λ (y : List ℕ). let o : Result (A × List ℕ) Stop = Ok (a, y) in o) e)

  pub turn_goes : (a : A) (rest bs : List ℕ) → r xs ≡ Ok (a, rest) → rest ≡ sep ∷ bs → (items_by sep r (n - (i + 1)) (acc ++ a ∷ []) bs >>= k) ≡ total
  turn_goes a rest bs h e =
      sym (sym turn ∙ ap go (h ∙ ap (λ (y : List ℕ). let o : Result (A × List ℕ) Stop = Ok (a, y) in o) e) ∙ ap (at' a sep bs) (eq-eqb sep sep refl))

  pub turn_ends_list : (a : A) (rest : List ℕ) (b : ℕ) (bs : List ℕ) → r xs ≡ Ok (a, rest) → rest ≡ b ∷ bs → eqb b sep ≡ false → total ≡ k (acc ++ a ∷ [], rest)
  turn_ends_list a rest b bs h e ne =
      sym turn ∙ ap go (h ∙ ap (λ (y : List ℕ). let o : Result (A × List ℕ) Stop = Ok (a, y) in o) e) ∙ ap (at' a b bs) ne
      ∙ ap (λ (y : List ℕ). k (acc ++ a ∷ [], y)) (sym e)

  pub turn_fails : (e : ReadError) → Failed e (r xs) → Failed e total
  turn_fails errors.Memory h = tt
  turn_fails (errors.At s) h = turn_err s h

pub end_ok : {A B : Type 0} (x : A × List ℕ) (o : Result (A × List ℕ) Stop) (f : A × List ℕ → Result (B × List ℕ) Stop) (total : Result (B × List ℕ) Stop) → total ≡ (o >>= f) → o ≡ Ok x → total ≡ f x
end_ok {A} x o f total e h = e ∙ ap (λ (y : Result (A × List ℕ) Stop). y >>= f) h
