-- Names that were put in order are the same names.
use Rattle.std.proofs.Common.{◌≡◌, ◌⊎◌, inl, inr, ⊎_elim, ◌↔◌, ℕ, List, [], ◌∷◌, ◌∙◌, ap, arith, refl, subst}
use Rattle.std.proofs.lemmas.List.Elements.{Contains-append_cases, Contains-append_left, Contains-append_right, Contains-push, Contains-push_cases}
use Rattle.std.specs.Prelude.{Contains}
use Rattle.std.specs.Cmp.Lexicographic.{bytes_decides, slice_cmp, texts_ties}
use Rattle.std.specs.Ordering.{is_eq, match_ordering, nat_cmp}
use Rattle.std.specs.declared.cmp.Ordering.{Ordering}
use Rattle.std.specs.declared.cmp.Ordering.TheVariants.{Less, Equal, Greater}
use Rattle.channels.specs.Boxes.{put_name, put_names}

-- ---- lists

pub in_none : {X : Type 0} (x : X) → Contains [] x → ⊥
in_none x (k, low, is) = omega arith

at_head : {X : Type 0} (x : X) (xs : List X) → Contains (x ∷ xs) x
at_head x xs = Contains-append_left (x ∷ []) xs x (Contains-push [] x)

in_tail : {X : Type 0} (y x : X) (ys : List X) → Contains ys x → Contains (y ∷ ys) x
in_tail y x ys c = Contains-append_right (y ∷ []) ys x c

head_or_tail : {X : Type 0} (y x : X) (ys : List X) → Contains (y ∷ ys) x → (y ≡ x) ⊎ Contains ys x
head_or_tail y x ys c = ⊎_elim
    (λ one. ⊎_elim (λ none. absurd (in_none x none)) (λ is. inl is) (Contains-push_cases [] y x one))
    (λ more. inr more)
    (Contains-append_cases (y ∷ []) ys x c)

is_head : {X : Type 0} (y x : X) (ys : List X) → y ≡ x → Contains (y ∷ ys) x
is_head y x ys is = subst (λ z. Contains (y ∷ ys) z) is (at_head y ys)

-- ---- one name more

same_name : (a b : List ℕ) → slice_cmp nat_cmp a b ≡ Equal → a ≡ b
same_name a b e = (bytes_decides a b).0 (texts_ties a b ∙ ap is_eq e)

put_cases : (name x : List ℕ) (ns : List (List ℕ)) → Contains (put_name name ns) x → (name ≡ x) ⊎ Contains ns x
put_cases name x [] c = head_or_tail name x [] c
put_cases name x (n ∷ ns) c = by (slice_cmp nat_cmp n name) (put_cases name x ns) c
  where
    by : (o : Ordering) → (Contains (put_name name ns) x → (name ≡ x) ⊎ Contains ns x)
        → Contains (match_ordering o (n ∷ put_name name ns) (n ∷ ns) (name ∷ n ∷ ns)) x → (name ≡ x) ⊎ Contains (n ∷ ns) x
    by Less in_rest c = ⊎_elim
        (λ is. inr (is_head n x ns is))
        (λ more. ⊎_elim (λ is. inl is) (λ there. inr (in_tail n x ns there)) (in_rest more))
        (head_or_tail n x (put_name name ns) c)
    by Equal in_rest c = inr c
    by Greater in_rest c = head_or_tail name x (n ∷ ns) c

put_itself : (name x : List ℕ) (ns : List (List ℕ)) → name ≡ x → Contains (put_name name ns) x
put_itself name x [] is = is_head name x [] is
put_itself name x (n ∷ ns) is = by (slice_cmp nat_cmp n name) refl (put_itself name x ns is)
  where
    by : (o : Ordering) → slice_cmp nat_cmp n name ≡ o → Contains (put_name name ns) x
        → Contains (match_ordering o (n ∷ put_name name ns) (n ∷ ns) (name ∷ n ∷ ns)) x
    by Less e in_rest = in_tail n x (put_name name ns) in_rest
    by Equal e in_rest = is_head n x ns (same_name n name e ∙ is)
    by Greater e in_rest = is_head name x (n ∷ ns) is

put_beside : (name x : List ℕ) (ns : List (List ℕ)) → Contains ns x → Contains (put_name name ns) x
put_beside name x [] c = absurd (in_none x c)
put_beside name x (n ∷ ns) c = by (slice_cmp nat_cmp n name) (put_beside name x ns)
  where
    by : (o : Ordering) → (Contains ns x → Contains (put_name name ns) x) → Contains (match_ordering o (n ∷ put_name name ns) (n ∷ ns) (name ∷ n ∷ ns)) x
    by Less in_rest = ⊎_elim
        (λ is. is_head n x (put_name name ns) is)
        (λ more. in_tail n x (put_name name ns) (in_rest more))
        (head_or_tail n x ns c)
    by Equal in_rest = c
    by Greater in_rest = in_tail name x (n ∷ ns) c

-- ---- all names

puts_cases : (x : List ℕ) (ns ms : List (List ℕ)) → Contains (put_names ns ms) x → Contains ns x ⊎ Contains ms x
puts_cases x ns [] c = inl c
puts_cases x ns (m ∷ ms) c = ⊎_elim
    (λ put. ⊎_elim (λ is. inr (is_head m x ms is)) (λ there. inl there) (put_cases m x ns put))
    (λ more. inr (in_tail m x ms more))
    (puts_cases x (put_name m ns) ms c)

puts_beside : (x : List ℕ) (ns ms : List (List ℕ)) → Contains ns x → Contains (put_names ns ms) x
puts_beside x ns [] c = c
puts_beside x ns (m ∷ ms) c = puts_beside x (put_name m ns) ms (put_beside m x ns c)

puts_all : (x : List ℕ) (ns ms : List (List ℕ)) → Contains ms x → Contains (put_names ns ms) x
puts_all x ns [] c = absurd (in_none x c)
puts_all x ns (m ∷ ms) c = ⊎_elim
    (λ is. puts_beside x (put_name m ns) ms (put_itself m x ns is))
    (λ more. puts_all x (put_name m ns) ms more)
    (head_or_tail m x ms c)

-- the names that were put in order are those
pub in_order_are : (x : List ℕ) (ms : List (List ℕ)) → Contains (put_names [] ms) x ↔ Contains ms x
in_order_are x ms = (λ c. ⊎_elim (λ none. absurd (in_none x none)) (λ there. there) (puts_cases x [] ms c), puts_all x [] ms)
