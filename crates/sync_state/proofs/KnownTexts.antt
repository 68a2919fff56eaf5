-- The whole lines of a text are known from it, and what follows them; so are values from their lines.
use Rattle.std.proofs.Common.{◌≡◌, ℕ, List, [], ◌∷◌, ◌++◌, map, refl, sym, ap, ◌∙◌, append_assoc}
use Rattle.std.specs.Prelude.{All}
use Rattle.std.proofs.lemmas.List.Elements.{All-head, All-tail}
use Rattle.sync_state.specs.Cuts.{same_cut, no_cut}
use Rattle.sync_state.specs.Lines.{lines_text, OneLine}
use Rattle.sync_state.proofs.ItemLemmas.{IsEnd, head_line, tail_lines}

pub record SameLines (ls ms : List (List ℕ)) (r q : List ℕ) : Type 0 where
  pub lines : ls ≡ ms
  pub following : r ≡ q

pub same_lines : (ls ms : List (List ℕ)) (r q : List ℕ) → All OneLine ls → All OneLine ms → OneLine r → OneLine q
    → lines_text ls ++ r ≡ lines_text ms ++ q → SameLines ls ms r q
same_lines [] [] r q wl wm lr lq e = record { lines = refl; following = e }
same_lines [] (m ∷ ms) r q wl wm lr lq e = absurd (no_cut 10 r m (lines_text ms ++ q) lr (e ∙ append_assoc m (10 ∷ lines_text ms) q))
same_lines (l ∷ ls) [] r q wl wm lr lq e = absurd (no_cut 10 q l (lines_text ls ++ r) lq (sym e ∙ append_assoc l (10 ∷ lines_text ls) r))
same_lines (l ∷ ls) (m ∷ ms) r q wl wm lr lq e =
    let s = same_cut 10 l m (lines_text ls ++ r) (lines_text ms ++ q) (All-head OneLine l ls wl) (All-head OneLine m ms wm)
    (sym (append_assoc l (10 ∷ lines_text ls) r) ∙ (e ∙ append_assoc m (10 ∷ lines_text ms) q)) in
    let rest = same_lines ls ms r q (All-tail OneLine l ls wl) (All-tail OneLine m ms wm) lr lq s.following in
    record { lines = ap (λ (x : List ℕ). x ∷ ls) s.front ∙ ap (λ (x : List (List ℕ)). m ∷ x) rest.lines; following = rest.following }

pub record SameItems {A : Type 0} (xs ys : List A) (end last : List (List ℕ)) : Type 0 where
  pub items : xs ≡ ys
  pub following : end ≡ last

-- values whose lines are followed by another line
pub same_items : {A : Type 0} (fits : A → Type 0) (line : A → List ℕ) → ((a b : A) → fits a → fits b → line a ≡ line b → a ≡ b)
    → (xs ys : List A) (end last : List (List ℕ)) → All fits xs → All fits ys → IsEnd fits line end → IsEnd fits line last
    → map line xs ++ end ≡ map line ys ++ last → SameItems xs ys end last
same_items fits line known [] [] end last fx fy ie il e = record { items = refl; following = e }
same_items fits line known [] (y ∷ ys) end last fx fy ie il e =
    absurd (ie.foreign y (All-head fits y ys fy) (head_line ie.first (line y) ie.others (map line ys ++ last) (sym ie.same ∙ e)))
same_items fits line known (x ∷ xs) [] end last fx fy ie il e =
    absurd (il.foreign x (All-head fits x xs fx) (head_line il.first (line x) il.others (map line xs ++ end) (sym il.same ∙ sym e)))
same_items {A} fits line known (x ∷ xs) (y ∷ ys) end last fx fy ie il e =
    let same = known x y (All-head fits x xs fx) (All-head fits y ys fy) (head_line (line x) (line y) (map line xs ++ end) (map line ys ++ last) e) in
    let rest = same_items fits line known xs ys end last (All-tail fits x xs fx) (All-tail fits y ys fy) ie il
    (tail_lines (line x) (line y) (map line xs ++ end) (map line ys ++ last) e) in
    record { items = ap (λ (z : A). z ∷ xs) same ∙ ap (λ (z : List A). y ∷ z) rest.items; following = rest.following }
