-- An entry that follows others may stand there.
use Rattle.std.proofs.Common.{◌≡◌, ℕ, ◌<◌, ◌≤◌, Bool, true, false, List, ◌∷◌, ◌++◌, length, get_or, Option, Some, None, refl, ap, subst, arith, length-append}
use Rattle.std.specs.Prelude.{not, ◌&&◌, ◌||◌, ◌==◌, nat_lt, is_none}
use Rattle.std.proofs.lemmas.Bool.{and_from, eqb-true}
use Rattle.std.proofs.lemmas.Bool.Decides.{nat_tests}
use Rattle.std.proofs.lemmas.List.{get_or_at, get_or_append_left}
use Rattle.std.proofs.lemmas.List.Sums.{list_all-from_AllPass}
use Rattle.mailcore.specs.declared.side.Side.TheVariants.{Far, Near}
use Rattle.rules.specs.declared.entry.Entry.{Entry}
use Rattle.rules.specs.Entries.{ArePairs, EntryBefore, uid_of, is_same, follows, has_a_side, may_end}

placed : (fa fe na ne : ℕ) → fa ≤ fe → (fa ≡ fe → na < ne) → (nat_lt fa fe || (fa == fe && nat_lt na ne)) ≡ true
placed fa fe na ne le less = grind (arith, nat_tests)

other : (u v : ℕ) → (Some u ≡ Some v → Some u ≡ None) → (not (u == v) || false) ≡ true
other u v once = by_test (u == v) refl where
  by_test : (b : Bool) → (u == v) ≡ b → (not b || false) ≡ true
  by_test true e = let same : u ≡ v = eqb-true u v e in let none : Some u ≡ None = once (ap (λ (x : ℕ). Some x) same) in cc
  by_test false e = refl

apart : (a b : Option ℕ) → (a ≡ b → a ≡ None) → (not (is_same a b) || is_none a) ≡ true
apart None None once = refl
apart None (Some v) once = refl
apart (Some u) None once = refl
apart (Some u) (Some v) once = other u v once

follows_from : (a e : Entry) → EntryBefore a e → (a.far ≡ e.far → a.far ≡ None) → (a.near ≡ e.near → a.near ≡ None) → follows a e ≡ true
follows_from a e before far near =
    and_from _ _ (and_from _ _ (placed (uid_of Far a) (uid_of Far e) (uid_of Near a) (uid_of Near e) before.0 before.1) (apart a.far e.far far)) (apart a.near e.near near)

pub may_stand : (es ys : List Entry) (e : Entry) → ArePairs (es ++ e ∷ ys) → may_end e es ≡ true
may_stand es ys e p =
    let here : (d : Entry) → get_or (es ++ e ∷ ys) (length es) d ≡ e = λ d. get_or_at es e ys d (length es) refl in
    let within : length es < length (es ++ e ∷ ys) = omega (arith, length-append es (e ∷ ys)) in
    let side : has_a_side e ≡ true = subst (λ (x : Entry). has_a_side x ≡ true) (here e) (p.some (length es) e within) in
    and_from _ _ side (list_all-from_AllPass (λ a. follows a e) es (λ k d l.
    let there : get_or (es ++ e ∷ ys) k d ≡ get_or es k d = get_or_append_left es (e ∷ ys) d k l in
    let P : Entry → Entry → Type 0 = λ a b. EntryBefore a b in
    let F : Entry → Entry → Type 0 = λ a b. a.far ≡ b.far → a.far ≡ None in
    let N : Entry → Entry → Type 0 = λ a b. a.near ≡ b.near → a.near ≡ None in
    let before = subst (λ (x : Entry). P x e) there (subst (λ (y : Entry). P (get_or (es ++ e ∷ ys) k d) y) (here d) (p.ordered k (length es) d l within)) in
    let far = subst (λ (x : Entry). F x e) there (subst (λ (y : Entry). F (get_or (es ++ e ∷ ys) k d) y) (here d) (p.far_once k (length es) d l within)) in
    let near = subst (λ (x : Entry). N x e) there (subst (λ (y : Entry). N (get_or (es ++ e ∷ ys) k d) y) (here d) (p.near_once k (length es) d l within)) in
    follows_from (get_or es k d) e before far near))
