-- The lists of entries that make a committed state, one step after another.
use Rattle.std.proofs.Common.{◌≡◌, ℕ, zero, suc, ◌+◌, ◌-◌, ◌<◌, ◌≤◌, ◌⊎◌, inl, inr, Bool, not, List, [], ◌∷◌, ◌++◌, length, get_or, take, drop, map, refl, sym, ap, ◌∙◌, arith, add-one, append_assoc}
use Rattle.std.specs.Prelude.{filter}
use Rattle.std.specs.List.{list_any}
use Rattle.std.proofs.lemmas.List.{take_more, map-append, append-nil, length-drop}
use Rattle.std.proofs.lemmas.List.Elements.{filter-append}
use Rattle.rules.specs.declared.entry.Entry.{Entry}
use Rattle.rules.specs.declared.plan.Step.{Step}
use Rattle.rules.specs.Entries.{has_a_side}
use Rattle.sync_state.specs.declared.journal.Logged.{Logged}
use Rattle.sync_state.specs.declared.journal.Journal.{Journal}
use Rattle.book.specs.Committed.{drops, entry_after, kept_entries, entry_of_copy, entries_of_copies}

kept_entries-append : (j : Journal) (xs ys : List Entry) → kept_entries j (xs ++ ys) ≡ kept_entries j xs ++ kept_entries j ys
kept_entries-append j xs ys =
    let p : Entry → Bool = λ e. not (list_any (drops e) j.plan.notes) in
    ap (λ (l : List Entry). filter has_a_side (map (entry_after j) l)) (filter-append p xs ys)
    ∙ ap (λ (l : List Entry). filter has_a_side l) (map-append (entry_after j) (filter p xs) (filter p ys))
    ∙ filter-append has_a_side (map (entry_after j) (filter p xs)) (map (entry_after j) (filter p ys))

-- what was written follows the start
written : {X : Type 0} (start before more all old new : List X) → old ≡ start ++ before → new ≡ old ++ more → all ≡ before ++ more → new ≡ start ++ all
written {X} start before more all old new e h is = h ∙ ap (λ (l : List X). l ++ more) e ∙ append_assoc start before more ∙ ap (λ (l : List X). start ++ l) (sym is)

pub next_kept : (j : Journal) (es : List Entry) (i : ℕ) (e : Entry) (start old new : List Entry) → i < length es → e ≡ get_or es i e
    → old ≡ start ++ kept_entries j (take i es) → new ≡ old ++ kept_entries j (e ∷ []) → new ≡ start ++ kept_entries j (take (i + 1) es)
next_kept j es i e start old new below is h more =
    let one : take (i + 1) es ≡ take i es ++ e ∷ [] = take_more es i e below ∙ ap (λ (x : Entry). take i es ++ x ∷ []) (sym is) in
    written start (kept_entries j (take i es)) (kept_entries j (e ∷ [])) (kept_entries j (take (i + 1) es)) old new h more
    (ap (λ (l : List Entry). kept_entries j l) one ∙ kept_entries-append j (take i es) (e ∷ []))

one_more : (n : ℕ) (steps : List Step) (log : List Logged) (s : Step) (l : Logged) → n < length steps → n < length log → s ≡ get_or steps n s → l ≡ get_or log n l
    → entries_of_copies (take (suc n) steps) (take (suc n) log) ≡ entries_of_copies (take n steps) (take n log) ++ entry_of_copy s l
one_more n [] log s l below within is here = absurd (omega arith)
one_more n (t ∷ steps) [] s l below within is here = absurd (omega arith)
one_more zero (t ∷ steps) (k ∷ log) s l below within is here =
    append-nil (entry_of_copy t k) ∙ ap (λ (x : Step). entry_of_copy x k) (sym is) ∙ ap (λ (x : Logged). entry_of_copy s x) (sym here)
one_more (suc n) (t ∷ steps) (k ∷ log) s l below within is here =
    let rest = one_more n steps log s l (omega arith) (omega arith) is here in
    ap (λ (x : List Entry). entry_of_copy t k ++ x) rest ∙ sym (append_assoc (entry_of_copy t k) (entries_of_copies (take n steps) (take n log)) (entry_of_copy s l))

pub next_copy : (n : ℕ) (steps : List Step) (log : List Logged) (s : Step) (l : Logged) (start old new : List Entry) → n < length steps → n < length log
    → s ≡ get_or steps n s → l ≡ get_or log n l → old ≡ start ++ entries_of_copies (take n steps) (take n log) → new ≡ old ++ entry_of_copy s l
    → new ≡ start ++ entries_of_copies (take (n + 1) steps) (take (n + 1) log)
next_copy n steps log s l start old new below within is here h more =
    written start (entries_of_copies (take n steps) (take n log)) (entry_of_copy s l) (entries_of_copies (take (n + 1) steps) (take (n + 1) log)) old new h more
    (rw add-one (one_more n steps log s l below within is here))

pub all_copies : (n : ℕ) (steps : List Step) (log : List Logged) → (length steps ≤ n) ⊎ (length log ≤ n)
    → entries_of_copies (take n steps) (take n log) ≡ entries_of_copies steps log
all_copies zero [] log h = refl
all_copies (suc n) [] log h = refl
all_copies zero (s ∷ steps) [] h = refl
all_copies (suc n) (s ∷ steps) [] h = refl
all_copies zero (s ∷ steps) (l ∷ log) (inl h) = absurd (omega arith)
all_copies zero (s ∷ steps) (l ∷ log) (inr h) = absurd (omega arith)
all_copies (suc n) (s ∷ steps) (l ∷ log) (inl h) = ap (λ (x : List Entry). entry_of_copy s l ++ x) (all_copies n steps log (inl (omega arith)))
all_copies (suc n) (s ∷ steps) (l ∷ log) (inr h) = ap (λ (x : List Entry). entry_of_copy s l ++ x) (all_copies n steps log (inr (omega arith)))

-- nothing is left after the first n
pub ends_at : {X : Type 0} (xs all rest : List X) (n : ℕ) → all ≡ xs → rest ≡ drop n all → length rest ≡ 0 → length xs ≤ n
ends_at {X} xs all rest n same is none =
    let left : length rest ≡ length xs - n = ap (λ (l : List X). length l) is ∙ length-drop n all ∙ ap (λ (l : List X). length l - n) same in
    omega arith
