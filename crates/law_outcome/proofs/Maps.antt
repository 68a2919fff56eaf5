-- Rising UIDs as a map that rises strictly.
use Rattle.std.proofs.Common.{◌≡◌, ◌≢◌, ◌<◌, ◌≤◌, ◌+◌, ◌-◌, ℕ, suc, max, cond, eqb, ltb, List, [], ◌∷◌, ◌++◌, length, refl, sym, ◌∙◌, ap, subst, inl, inr, arith}
use Rattle.std.proofs.lemmas.Bool.{cases_lt, cases_order, ne_eqb, eq-eqb, lt-ltb, le-ltb, cond-true, cond-false}
use Rattle.rules.specs.Renaming.{IsRenaming}
use Rattle.mailcore.specs.Rise.{Rise}

-- ---- what a renaming keeps

pub mono : (next : ℕ) (t : ℕ → ℕ) → IsRenaming next t → (a b : ℕ) → a < b → t a < t b
mono next t h a b l = elim (cases_lt b next) [
  | inl low ↦ let p : t a ≡ a = h.same a (omega arith) in let q : t b ≡ b = h.same b low in omega arith
  | inr high ↦ elim (cases_lt a next) [
    | inl low ↦ let p : t a ≡ a = h.same a low in let q : next ≤ t b = h.least b high in omega arith
    | inr up ↦ h.rises a b up l
  ]
]

pub eqb_sent : (next : ℕ) (t : ℕ → ℕ) → IsRenaming next t → (a b : ℕ) → eqb (t a) (t b) ≡ eqb a b
eqb_sent next t h a b = elim (cases_order a b) [
  | inl same ↦ eq-eqb (t a) (t b) (ap t same) ∙ sym (eq-eqb a b same)
  | inr differ ↦ elim differ [
    | inl less ↦ let k = mono next t h a b less in ne_eqb (t a) (t b) (omega arith) ∙ sym (ne_eqb a b (omega arith))
    | inr more ↦ let k = mono next t h b a more in ne_eqb (t a) (t b) (omega arith) ∙ sym (ne_eqb a b (omega arith))
  ]
]

pub ltb_sent : (next : ℕ) (t : ℕ → ℕ) → IsRenaming next t → (a b : ℕ) → ltb (t a) (t b) ≡ ltb a b
ltb_sent next t h a b = elim (cases_lt a b) [
  | inl less ↦ lt-ltb (t a) (t b) (mono next t h a b less) ∙ sym (lt-ltb a b less)
  | inr more ↦ elim (cases_order a b) [
    | inl same ↦ let e : t a ≡ t b = ap t same in le-ltb (t a) (t b) (omega arith) ∙ sym (le-ltb a b more)
    | inr differ ↦ let k = mono next t h b a (omega arith) in le-ltb (t a) (t b) (omega arith) ∙ sym (le-ltb a b more)
  ]
]

pub max_sent : (next : ℕ) (t : ℕ → ℕ) → IsRenaming next t → (a b : ℕ) → max (t a) (t b) ≡ t (max a b)
max_sent next t h a b = elim (cases_lt a b) [
  | inl less ↦ let k = mono next t h a b less in let e : max a b ≡ b = omega arith in let f : max (t a) (t b) ≡ t b = omega arith in f ∙ ap t (sym e)
  | inr more ↦ elim (cases_order a b) [
    | inl same ↦ let g : t a ≡ t b = ap t same in let e : max a b ≡ a = omega arith in let f : max (t a) (t b) ≡ t a = omega arith in f ∙ ap t (sym e)
    | inr differ ↦ let k = mono next t h b a (omega arith) in let e : max a b ≡ a = omega arith in let f : max (t a) (t b) ≡ t a = omega arith in f ∙ ap t (sym e)
  ]
]

-- ---- the map of a list: `next`, `next` + 1, .. go to its UIDs, and what comes after goes to `bound`, `bound` + 1, ..

pub to_of : (next : ℕ) (us : List ℕ) (bound : ℕ) → ℕ → ℕ
to_of next [] bound i = cond (ltb i next) i (i - next + bound)
to_of next (u ∷ us) bound i = cond (eqb i next) u (to_of (next + 1) us bound i)

to-here : (next u : ℕ) (us : List ℕ) (bound : ℕ) → to_of next (u ∷ us) bound next ≡ u
unfolding to_of
to-here next u us bound = cond-true (eqb next next) u (to_of (next + 1) us bound next) (eq-eqb next next refl)

to-later : (next u : ℕ) (us : List ℕ) (bound i : ℕ) → i ≢ next → to_of next (u ∷ us) bound i ≡ to_of (next + 1) us bound i
unfolding to_of
to-later next u us bound i ne = cond-false (eqb i next) u (to_of (next + 1) us bound i) (ne_eqb i next ne)

to-low : (next bound i : ℕ) → i < next → to_of next [] bound i ≡ i
unfolding to_of
to-low next bound i l = cond-true (ltb i next) i (i - next + bound) (lt-ltb i next l)

to-high : (next bound i : ℕ) → next ≤ i → to_of next [] bound i ≡ i - next + bound
unfolding to_of
to-high next bound i l = cond-false (ltb i next) i (i - next + bound) (le-ltb i next l)

to-below : (next : ℕ) (us : List ℕ) (bound i : ℕ) → i < next → to_of next us bound i ≡ i
to-below next [] bound i l = to-low next bound i l
to-below next (u ∷ us) bound i l = to-later next u us bound i (omega arith) ∙ to-below (next + 1) us bound i (omega arith)

-- from least on the UIDs are at least that
to-least : (next least : ℕ) (us : List ℕ) (bound i : ℕ) → Rise least us bound → next ≤ i → least ≤ to_of next us bound i
to-least next least [] bound i h l = let e = to-high next bound i l in omega arith
to-least next least (u ∷ us) bound i h l = elim (cases_order i next) [
  | inl same ↦ let e : to_of next (u ∷ us) bound i ≡ u = ap (to_of next (u ∷ us) bound) same ∙ to-here next u us bound in let k : least ≤ u = h.0 in omega arith
  | inr differ ↦
      let e = to-later next u us bound i (omega arith) in
      let k = to-least (next + 1) (u + 1) us bound i h.1 (omega arith) in
      let j : least ≤ u = h.0 in
      omega arith
]

to-rises : (next least : ℕ) (us : List ℕ) (bound i j : ℕ) → Rise least us bound → next ≤ i → i < j → to_of next us bound i < to_of next us bound j
to-rises next least [] bound i j h l k = let e = to-high next bound i l in let f = to-high next bound j (omega arith) in omega arith
to-rises next least (u ∷ us) bound i j h l k = elim (cases_order i next) [
  | inl same ↦
      let e : to_of next (u ∷ us) bound i ≡ u = ap (to_of next (u ∷ us) bound) same ∙ to-here next u us bound in
      let f = to-later next u us bound j (omega arith) in
      let g = to-least (next + 1) (u + 1) us bound j h.1 (omega arith) in
      omega arith
  | inr differ ↦
      let e = to-later next u us bound i (omega arith) in
      let f = to-later next u us bound j (omega arith) in
      let g = to-rises (next + 1) (u + 1) us bound i j h.1 (omega arith) k in
      omega arith
]

pub to-renames : (next : ℕ) (us : List ℕ) (bound : ℕ) → Rise next us bound → IsRenaming next (to_of next us bound)
to-renames next us bound h = record {
  same = λ u l. to-below next us bound u l;
  rises = λ u v l k. to-rises next next us bound u v h l k;
  least = λ u l. to-least next next us bound u h l;
}

-- ---- a map that gives these UIDs from k on

abbrev pub Follows : (ℕ → ℕ) → ℕ → List ℕ → Type 0
Follows t k [] = Unit {0}
Follows t k (u ∷ us) = (t k ≡ u) × Follows t (k + 1) us

follows-agree : (s t : ℕ → ℕ) (k : ℕ) (us : List ℕ) → ((i : ℕ) → k ≤ i → s i ≡ t i) → Follows s k us → Follows t k us
follows-agree s t k [] e h = tt
follows-agree s t k (u ∷ us) e h = (sym (e k (omega arith)) ∙ h.0, follows-agree s t (k + 1) us (λ i l. e i (omega arith)) h.1)

pub follows-to : (next : ℕ) (us : List ℕ) (bound : ℕ) → Follows (to_of next us bound) next us
follows-to next [] bound = tt
follows-to next (u ∷ us) bound = (
  to-here next u us bound,
  follows-agree (to_of (next + 1) us bound) (to_of next (u ∷ us) bound) (next + 1) us
      (λ i l. sym (to-later next u us bound i (omega arith))) (follows-to (next + 1) us bound),
)

pub follows-split : (t : ℕ → ℕ) (k : ℕ) (us vs : List ℕ) → Follows t k (us ++ vs) → Follows t k us × Follows t (k + length us) vs
follows-split t k [] vs h = (tt, subst (λ n. Follows t n vs) (let e : k ≡ k + 0 = omega arith in e) h)
follows-split t k (u ∷ us) vs h =
    let r = follows-split t (k + 1) us vs h.1 in
    ((h.0, r.0), subst (λ n. Follows t n vs) (let e : k + 1 + length us ≡ k + suc (length us) = omega arith in e) r.1)

-- ---- rising lists, one after the other

rise-lower : (least lower : ℕ) (us : List ℕ) (bound : ℕ) → lower ≤ least → Rise least us bound → Rise lower us bound
rise-lower least lower [] bound l h = omega arith
rise-lower least lower (u ∷ us) bound l h = let k : least ≤ u = h.0 in (omega arith, h.1)

pub rise-append : (least : ℕ) (us : List ℕ) (middle : ℕ) (vs : List ℕ) (bound : ℕ) → Rise least us middle → Rise middle vs bound → Rise least (us ++ vs) bound
rise-append least [] middle vs bound h k = rise-lower middle least vs bound h k
rise-append least (u ∷ us) middle vs bound h k = (h.0, rise-append (u + 1) us middle vs bound h.1 k)
