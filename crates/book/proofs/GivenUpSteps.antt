-- The flags that a plan gave are recorded in the entries, one step after another.
use Rattle.std.proofs.Common.{◌≡◌, ◌≢◌, ◌<◌, ◌≤◌, ◌∙◌, ◌+◌, inl, inr, ℕ, zero, suc, Bool, true, false, cond, List, [], ◌∷◌, length, get_or, map, set, drop, Option, Some, None, refl, sym, ap, subst, is_some, slice_get, arith}
use Rattle.std.specs.Prelude.{All, AllPairs}
use Rattle.std.specs.List.{list_any}
use Rattle.std.proofs.lemmas.Bool.{cases_lt, false_from_ne_true, or_parts, true≢false}
use Rattle.std.proofs.lemmas.List.Elements.{All-map}
use Rattle.rules.specs.declared.entry.Entry.{Entry}
use Rattle.rules.specs.declared.plan.Step.{Step}
use Rattle.rules.specs.Entries.{ArePairs, EntryBefore, has_a_side}
use Rattle.sync_state.specs.declared.journal.Logged.{Logged}
use Rattle.book.specs.Agreement.{is_pair}
use Rattle.book.specs.GivingUp.{entry_past, flags_at, flags_after}
use Rattle.book.specs.GivenUpParts.{HasNoPair, HasPairAt, IsOfNone, IsOfOne, with_next, with_step}
use Rattle.book.proofs.CommittedPlaces.{pair_is}
use Rattle.book.proofs.EntryPairLemmas.{AllPairs-map}
use Rattle.book.proofs.GivenUpPairs.{after_at, after_next, after_past}

-- with its own flags an entry is itself
own_flags : (n : ℕ) (e : Entry) → n ≡ e.flags → record e { flags = n } ≡ e
own_flags n e h = ap (λ (k : ℕ). record e { flags = k }) h

-- ---- a list in which one element changes at most

pub map_none : (f : Entry → Entry) (xs : List Entry) → ((i : ℕ) (d : Entry) → i < length xs → f (get_or xs i d) ≡ get_or xs i d) → map f xs ≡ xs
map_none f [] h = refl
map_none f (x ∷ xs) h = ap (λ (y : Entry). y ∷ map f xs) (h 0 x (omega arith)) ∙ ap (λ (l : List Entry). x ∷ l) (map_none f xs (λ i d within. h (suc i) d (omega arith)))

pub map_at : (f : Entry → Entry) (xs : List Entry) (at : ℕ) (y : Entry) → at < length xs → ((d : Entry) → y ≡ f (get_or xs at d)) → ((i : ℕ) (d : Entry) → i < length xs → (i ≡ at → ⊥) → f (get_or xs i d) ≡ get_or xs i d)
    → set xs at y ≡ map f xs
map_at f [] at y within is h = absurd (omega arith)
map_at f (x ∷ xs) zero y within is h = ap (λ (z : Entry). z ∷ xs) (is x) ∙ ap (λ (l : List Entry). f x ∷ l) (sym (map_none f xs (λ i d inside. h (suc i) d (omega arith) (λ e. omega (arith, e)))))
map_at f (x ∷ xs) (suc at) y within is h =
    ap (λ (l : List Entry). x ∷ l) (map_at f xs at y (omega arith) is (λ i d inside other. h (suc i) d (omega arith) (λ e. other (omega (arith, e)))))
    ∙ ap (λ (z : Entry). z ∷ map f xs) (sym (h 0 x (omega arith) (λ e. omega (arith, e))))

pub get_is : (es : List Entry) (at : ℕ) (x d : Entry) → slice_get es at ≡ Some x → x ≡ get_or es at d
get_is [] at x d e = absurd (true≢false (sym (ap is_some e)))
get_is (y ∷ es) zero x d e = let same : y ≡ x = cc in sym same
get_is (y ∷ es) (suc at) x d e = get_is es at x d e

-- ---- the entry of a pair

none_pair : (es : List Entry) (far near i : ℕ) (d : Entry) → HasNoPair es far near → i < length es → is_pair (Some far) (Some near) (get_or es i d) ≡ false
none_pair [] far near i d h within = absurd (omega arith)
none_pair (e ∷ es) far near zero d h within = (or_parts (is_pair (Some far) (Some near) e) (list_any (is_pair (Some far) (Some near)) es) h).0
none_pair (e ∷ es) far near (suc i) d h within = none_pair es far near i d (or_parts (is_pair (Some far) (Some near) e) (list_any (is_pair (Some far) (Some near)) es) h).1 (omega arith)

-- no other entry has the far UID of this one
other_pair : (es : List Entry) (far near at i : ℕ) (d : Entry) → ArePairs es → HasPairAt es far near at → i < length es → (i ≡ at → ⊥) → is_pair (Some far) (Some near) (get_or es i d) ≡ false
other_pair es far near at i d pairs here within other = false_from_ne_true (is_pair (Some far) (Some near) (get_or es i d)) (λ also.
    let a = pair_is (Some far) (Some near) (get_or es at d) (here.1 d) in
    let b = pair_is (Some far) (Some near) (get_or es i d) also in
    let never : (get_or es at d).far ≡ None → ⊥ = λ n. true≢false (ap is_some (sym a.0 ∙ n)) in
    elim (cases_lt i at) [
      | inl less ↦ never (a.0 ∙ sym b.0 ∙ pairs.far_once i at d less here.0 (b.0 ∙ sym a.0))
      | inr at_least ↦ never (pairs.far_once at i d (differs at_least) within (a.0 ∙ sym b.0))
    ])
  where
    differs : at ≤ i → at < i
    differs le = elim (cases_lt at i) [
      | inl less ↦ less
      | inr upto ↦ absurd (other (omega arith))
    ]

module _ (es : List Entry) (s : Step) where
  pub step_none : IsOfNone s → es ≡ map (with_step s) es
  step_none none = sym (map_none (with_step s) es (λ i d within. own_flags (flags_after s (get_or es i d)) (get_or es i d) (none.logged (get_or es i d))))

  pub next_none : IsOfNone s → es ≡ map (with_next s) es
  next_none none = sym (map_none (with_next s) es (λ i d within. own_flags (flags_at s (get_or es i d)) (get_or es i d) (none.next (get_or es i d))))

  pub step_gone : (far near : ℕ) → IsOfOne s far near → HasNoPair es far near → es ≡ map (with_step s) es
  step_gone far near one gone = sym (map_none (with_step s) es (λ i d within. own_flags (flags_after s (get_or es i d)) (get_or es i d) (one.logged (get_or es i d) (none_pair es far near i d gone within))))

  pub next_gone : (far near : ℕ) → IsOfOne s far near → HasNoPair es far near → es ≡ map (with_next s) es
  next_gone far near one gone = sym (map_none (with_next s) es (λ i d within. own_flags (flags_at s (get_or es i d)) (get_or es i d) (one.next (get_or es i d) (none_pair es far near i d gone within))))

  pub step_set : (far near at : ℕ) (y : Entry) → ArePairs es → IsOfOne s far near → HasPairAt es far near at → ((d : Entry) → y ≡ with_step s (get_or es at d)) → set es at y ≡ map (with_step s) es
  step_set far near at y pairs one here is = map_at (with_step s) es at y here.0 is
      (λ i d within other. own_flags (flags_after s (get_or es i d)) (get_or es i d) (one.logged (get_or es i d) (other_pair es far near at i d pairs here within other)))

  pub next_set : (far near at : ℕ) (y : Entry) → ArePairs es → IsOfOne s far near → HasPairAt es far near at → ((d : Entry) → y ≡ with_next s (get_or es at d)) → set es at y ≡ map (with_next s) es
  next_set far near at y pairs one here is = map_at (with_next s) es at y here.0 is
      (λ i d within other. own_flags (flags_at s (get_or es i d)) (get_or es i d) (one.next (get_or es i d) (other_pair es far near at i d pairs here within other)))

-- ---- the pairs stay

pub step_pairs : (s : Step) (es : List Entry) → ArePairs es → ArePairs (map (with_step s) es)
step_pairs s es p = record {
  ordered = AllPairs-map EntryBefore (with_step s) (λ a b h. h) es p.ordered;
  some = All-map (λ (e : Entry). has_a_side e ≡ true) (with_step s) es p.some;
  far_once = AllPairs-map (λ a b. a.far ≡ b.far → a.far ≡ None) (with_step s) (λ a b h. h) es p.far_once;
  near_once = AllPairs-map (λ a b. a.near ≡ b.near → a.near ≡ None) (with_step s) (λ a b h. h) es p.near_once;
}

-- ---- all steps

pub record NotesSoFar (steps : List Step) (log : List Logged) (i : ℕ) (first now : List Entry) : Type 0 where
  pub pairs : ArePairs now
  pub rest : map (entry_past (drop i steps) (drop i log)) now ≡ map (entry_past steps log) first

map_twice : (f g h : Entry → Entry) → ((e : Entry) → f e ≡ g (h e)) → (xs : List Entry) → map f xs ≡ map g (map h xs)
map_twice f g h same [] = refl
map_twice f g h same (x ∷ xs) = ap (λ (y : Entry). y ∷ map f xs) (same x) ∙ ap (λ (l : List Entry). g (h x) ∷ l) (map_twice f g h same xs)

map_alike : (f g : Entry → Entry) → ((e : Entry) → f e ≡ g e) → (xs : List Entry) → map f xs ≡ map g xs
map_alike f g same [] = refl
map_alike f g same (x ∷ xs) = ap (λ (y : Entry). y ∷ map f xs) (same x) ∙ ap (λ (l : List Entry). g x ∷ l) (map_alike f g same xs)

pub notes_next : (steps : List Step) (log : List Logged) (i : ℕ) (s : Step) (first now then : List Entry) → i < length steps → i < length log → s ≡ get_or steps i s → NotesSoFar steps log i first now
    → then ≡ map (with_step s) now → NotesSoFar steps log (i + 1) first then
notes_next steps log i s first now then below within is notes e = record {
  pairs = subst (λ (l : List Entry). ArePairs l) (sym e) (step_pairs s now notes.pairs);
  rest = ap (λ (l : List Entry). map (entry_past (drop (i + 1) steps) (drop (i + 1) log)) l) e
      ∙ sym (map_twice (entry_past (drop i steps) (drop i log)) (entry_past (drop (i + 1) steps) (drop (i + 1) log)) (with_step s) (λ x. after_next i steps log s x below within is) now)
      ∙ notes.rest;
}

pub notes_last : (steps : List Step) (log : List Logged) (i : ℕ) (s : Step) (first now then : List Entry) → i < length steps → length log ≤ i → s ≡ get_or steps i s → NotesSoFar steps log i first now
    → then ≡ map (with_next s) now → then ≡ map (entry_past steps log) first
notes_last steps log i s first now then below past is notes e =
    e ∙ sym (map_alike (entry_past (drop i steps) (drop i log)) (with_next s) (λ x. after_at i steps log s x below past is) now) ∙ notes.rest

pub notes_past : (steps : List Step) (log : List Logged) (i : ℕ) (first now : List Entry) → length steps ≤ i → NotesSoFar steps log i first now → now ≡ map (entry_past steps log) first
notes_past steps log i first now past notes =
    sym (map_none (entry_past (drop i steps) (drop i log)) now (λ k d within. after_past i steps log (get_or now k d) past)) ∙ notes.rest
