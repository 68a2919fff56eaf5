-- Octets that are looked at together.
use Rattle.std.proofs.Common.{◌≡◌, ◌≢◌, ℕ, zero, suc, ◌+◌, ◌-◌, ◌<◌, ◌≤◌, Bool, true, false, List, [], ◌∷◌, ◌++◌, length, take, drop, All, None, Ok, Err, refl, sym, ap, subst, ◌∙◌, arith}
use Rattle.std.proofs.lemmas.Bool.{ne_eqb, eq-eqb}
use Rattle.std.proofs.lemmas.List.{length-append, length-take}
use Rattle.std.proofs.lemmas.List.Elements.{All-head, All-tail}
use Rattle.wire_reader.specs.declared.stop.Kind.TheVariants.{Syntax}
use Rattle.wire_reader.specs.declared.stop.Stop.TheVariants.{Ends, Fails}
use Rattle.wire_reader.specs.Literal.{with_byte, octets_at}
use Rattle.wire_reader.specs.Advancing.{Before, Nul}
use Rattle.wire_reader.proofs.Octets.{octet_case}

clean_step : (n b : ℕ) (bs : List ℕ) → b ≢ 0 → octets_at (suc n) (b ∷ bs) ≡ with_byte b (octets_at n bs)
clean_step n b bs ne = ap (octet_case n b bs) (ne_eqb b 0 ne)

-- a 0 stands after these
nul_at : (n : ℕ) (xs front back : List ℕ) (left : ℕ) → take n xs ≡ front ++ 0 ∷ back → All (λ b. b ≢ 0) front → left + length front ≡ length xs → octets_at n xs ≡ Err (Fails Syntax left)
nul_at zero xs [] back left h clean long = absurd cc
nul_at zero xs (c ∷ cs) back left h clean long = absurd cc
nul_at (suc n) [] [] back left h clean long = absurd cc
nul_at (suc n) [] (c ∷ cs) back left h clean long = absurd cc
nul_at (suc n) (b ∷ bs) [] back left h clean long =
    let here : b ≡ 0 = cc in
    ap (octet_case n b bs) (eq-eqb b 0 here) ∙ ap (λ (m : ℕ). Err (Fails Syntax m)) (let l : length (b ∷ bs) ≡ left = omega arith in l)
nul_at (suc n) (b ∷ bs) (c ∷ cs) back left h clean long =
    let same : b ≡ c = cc in
    let rest : take n bs ≡ cs ++ 0 ∷ back = cc in
    clean_step n b bs (λ e. All-head (λ b. b ≢ 0) c cs clean (sym same ∙ e))
    ∙ ap (with_byte b) (nul_at n bs cs back left rest (All-tail (λ b. b ≢ 0) c cs clean) (omega arith))

octets_nul : (n : ℕ) (xs : List ℕ) (count : ℕ) → Before (take n xs) count → octets_at n xs ≡ Err (Fails Syntax (length xs - count + 1))
octets_nul n xs count nul =
    let m = length-take n xs in
    let l = ap length nul.parts ∙ length-append nul.front (0 ∷ nul.back) in
    nul_at n xs nul.front nul.back (length xs - count + 1) nul.parts nul.clean (omega (arith, m, l, nul.count_is))

octets_few : (n : ℕ) (xs : List ℕ) → All (λ b. b ≢ 0) (take n xs) → length (take n xs) < n → octets_at n xs ≡ Err (Ends None)
octets_few zero xs clean few = absurd (omega arith)
octets_few (suc n) [] clean few = refl
octets_few (suc n) (b ∷ bs) clean few =
    clean_step n b bs (All-head (λ b. b ≢ 0) b (take n bs) clean) ∙ ap (with_byte b) (octets_few n bs (All-tail (λ b. b ≢ 0) b (take n bs) clean) (omega arith))

octets_whole : (n : ℕ) (xs : List ℕ) → All (λ b. b ≢ 0) (take n xs) → n ≤ length (take n xs) → octets_at n xs ≡ Ok (take n xs, drop n xs)
octets_whole zero xs clean long = refl
octets_whole (suc n) [] clean long = absurd (omega arith)
octets_whole (suc n) (b ∷ bs) clean long =
    clean_step n b bs (All-head (λ b. b ≢ 0) b (take n bs) clean) ∙ ap (with_byte b) (octets_whole n bs (All-tail (λ b. b ≢ 0) b (take n bs) clean) (omega arith))

-- ---- what a look at n octets shows

module _ (n : ℕ) (xs seen : List ℕ) (same : seen ≡ take n xs) where
  pub nul_found : (found : ℕ × Bool) → Nul seen found → found.1 ≡ true → octets_at n xs ≡ Err (Fails Syntax (length xs - found.0 + 1))
  nul_found (count, true) nul is = octets_nul n xs count (subst (λ (ys : List ℕ). Before ys count) same nul)
  nul_found (count, false) nul is = absurd cc

  pub few_found : (found : ℕ × Bool) → Nul seen found → found.1 ≡ false → found.0 < n → octets_at n xs ≡ Err (Ends None)
  few_found (count, true) nul is few = absurd cc
  few_found (count, false) nul is few = octets_few n xs (subst (All (λ b. b ≢ 0)) same nul.0) (let l = nul.1 ∙ ap length same in omega (arith, l, few))

  pub all_found : (found : ℕ × Bool) → Nul seen found → found.1 ≡ false → n ≤ found.0 → octets_at n xs ≡ Ok (take n xs, drop n xs)
  all_found (count, true) nul is long = absurd cc
  all_found (count, false) nul is long = octets_whole n xs (subst (All (λ b. b ≢ 0)) same nul.0) (let l = nul.1 ∙ ap length same in omega (arith, l, long))
