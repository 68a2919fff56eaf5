-- Items that are folded as they are read: the fold of the items, which is what a loop over them has.
use Rattle.std.proofs.Common.{◌≡◌, ℕ, zero, suc, ◌+◌, ◌-◌, ◌<◌, Bool, false, cond, eqb, List, [], ◌∷◌, ◌++◌, length, None, Result, Ok, Err, refl, sym, ap, ◌∙◌, inl, inr, arith}
use Rattle.std.specs.List.{fold}
use Rattle.std.proofs.lemmas.List.Sums.{fold-append}
use Rattle.std.proofs.lemmas.Bool.{cases_Bool, eq-eqb}
use Rattle.wire_reader.specs.declared.stop.Stop.{Stop}
use Rattle.wire_reader.specs.declared.stop.Stop.TheVariants.{Ends}
use Rattle.wire_reader.specs.Reading.{◌>>=◌, mapped}
use Rattle.wire_reader.specs.Listing.{go_on, items_by, items_at}
use Rattle.wire_reader.specs.Folding.{fold_on, fold_by, folded}

module _ {A B : Type 0} (sep : ℕ) (r : List ℕ → Result (A × List ℕ) Stop) (f : B → A → B) (b : B) where
  -- the items' answer, folded
  abbrev pub fold_all : Result (List A × List ℕ) Stop → Result (B × List ℕ) Stop
  fold_all o = o >>= λ x. Ok (fold f b x.0, x.1)

  abbrev at : ℕ → List A → ℕ → List ℕ → Bool → Result (B × List ℕ) Stop
  at n acc c cs t = fold_all (let o : Result (List A × List ℕ) Stop = cond t (items_by sep r n acc cs) (Ok (acc, c ∷ cs)) in o)

  abbrev at' : ℕ → B → ℕ → List ℕ → Bool → Result (B × List ℕ) Stop
  at' n v c cs t = cond t (fold_by sep r f n v cs) (Ok (v, c ∷ cs))

  fold_is : (n : ℕ) (acc : List A) (xs : List ℕ) → fold_by sep r f n (fold f b acc) xs ≡ fold_all (items_by sep r n acc xs)
  fold_is zero acc xs = refl
  fold_is (suc n) acc xs = following (λ acc' cs. fold_is n acc' cs) (r xs)
    where
      go : (acc' : List A) (v : B) (ys : List ℕ) → v ≡ fold f b acc' → ((cs : List ℕ) → fold_by sep r f n (fold f b acc') cs ≡ fold_all (items_by sep r n acc' cs)) → fold_on sep v (fold_by sep r f n v) ys ≡ fold_all (go_on sep acc' (items_by sep r n acc') ys)
      go acc' v [] e rec = refl
      go acc' v (c ∷ cs) e rec =
          elim (cases_Bool (eqb c sep)) [
            | inl s ↦ ap (at' n v c cs) s ∙ ap (λ (y : B). fold_by sep r f n y cs) e ∙ rec cs ∙ sym (ap (at n acc' c cs) s)
            | inr s ↦ ap (at' n v c cs) s ∙ ap (λ (y : B). Ok (y, c ∷ cs)) e ∙ sym (ap (at n acc' c cs) s)
          ]

      following : ((acc' : List A) (cs : List ℕ) → fold_by sep r f n (fold f b acc') cs ≡ fold_all (items_by sep r n acc' cs)) → (o : Result (A × List ℕ) Stop) → (o >>= λ x. fold_on sep (f (fold f b acc) x.0) (fold_by sep r f n (f (fold f b acc) x.0)) x.1) ≡ fold_all (o >>= λ x. go_on sep (acc ++ x.0 ∷ []) (items_by sep r n (acc ++ x.0 ∷ [])) x.1)
      following rec (Err s) = refl
      following rec (Ok x) = go (acc ++ x.0 ∷ []) (f (fold f b acc) x.0) x.1 (sym (fold-append f b acc (x.0 ∷ []))) (rec (acc ++ x.0 ∷ []))

  -- a fold as items are read is the fold of the items
  pub folded_is : (xs : List ℕ) → folded sep r f b xs ≡ mapped (fold f b) (items_at sep r) xs
  folded_is xs = fold_is (suc (length xs)) [] xs

-- ---- the steps of a loop that folds

module _ {A B : Type 0} (sep : ℕ) (r : List ℕ → Result (A × List ℕ) Stop) (f : B → A → B) (n i : ℕ) (v : B) (xs : List ℕ) (total : Result (B × List ℕ) Stop) (lt : i < n) (so_far : fold_by sep r f (n - i) v xs ≡ total) where
  abbrev step : Result (A × List ℕ) Stop → Result (B × List ℕ) Stop
  step o = o >>= λ x. fold_on sep (f v x.0) (fold_by sep r f (n - (i + 1)) (f v x.0)) x.1

  abbrev branch : A → ℕ → List ℕ → Bool → Result (B × List ℕ) Stop
  branch a c cs t = cond t (fold_by sep r f (n - (i + 1)) (f v a) cs) (Ok (f v a, c ∷ cs))

  abbrev read : A → List ℕ → Result (A × List ℕ) Stop
  read a ys = Ok (a, ys)

  turn : step (r xs) ≡ total
  turn = let m : n - i ≡ suc (n - (i + 1)) = omega (arith, lt) in sym (ap (λ (j : ℕ). fold_by sep r f j v xs) m) ∙ so_far

  pub fold_err : (s : Stop) → r xs ≡ Err s → total ≡ Err s
  fold_err s h = sym turn ∙ ap step h

  pub fold_ends : (a : A) (rest : List ℕ) → r xs ≡ Ok (a, rest) → rest ≡ [] → total ≡ Err (Ends None)
  fold_ends a rest h e = sym turn ∙ ap step (h ∙ ap (read a) e)

  pub fold_goes : (a : A) (rest bs : List ℕ) → r xs ≡ Ok (a, rest) → rest ≡ sep ∷ bs → fold_by sep r f (n - (i + 1)) (f v a) bs ≡ total
  fold_goes a rest bs h e = sym (sym turn ∙ ap step (h ∙ ap (read a) e) ∙ ap (branch a sep bs) (eq-eqb sep sep refl))

  pub fold_done : (a : A) (rest : List ℕ) (c : ℕ) (cs : List ℕ) → r xs ≡ Ok (a, rest) → rest ≡ c ∷ cs → eqb c sep ≡ false → total ≡ Ok (f v a, rest)
  fold_done a rest c cs h e ne = sym turn ∙ ap step (h ∙ ap (read a) e) ∙ ap (branch a c cs) ne ∙ ap (λ (ys : List ℕ). Ok (f v a, ys)) (sym e)
