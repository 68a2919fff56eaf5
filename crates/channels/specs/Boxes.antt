-- The mailboxes of a channel with patterns.
use Rattle.std.specs.Prelude.{◌≡◌, ℕ, ⊤, Bool, List, [], ◌∷◌, ◌++◌, nat_eq, ◌+◌, Option, None, Some}
use Rattle.std.specs.Bool.{Decides}
use Rattle.std.specs.Ordering.{match_ordering, nat_cmp}
use Rattle.std.specs.declared.cmp.Ordering.TheVariants.{Less}
use Rattle.std.specs.Cmp.Lexicographic.{slice_cmp, pointwise}
use Rattle.std.specs.List.{filter, list_any}
use Rattle.config_words.specs.Patterns.{IsChosen}

-- puts a name among names that rise by their bytes, if it is not there
abbrev pub put_name : List ℕ → List (List ℕ) → List (List ℕ)
put_name name [] = name ∷ []
put_name name (n ∷ ns) = match_ordering (slice_cmp nat_cmp n name) (n ∷ put_name name ns) (n ∷ ns) (name ∷ n ∷ ns)

-- puts names among names that rise
abbrev pub put_names : List (List ℕ) → List (List ℕ) → List (List ℕ)
put_names names [] = names
put_names names (m ∷ ms) = put_names (put_name m names) ms

-- each name stands below the next one, by their bytes
abbrev pub IsBelowFirst : List ℕ → List (List ℕ) → Type 0
IsBelowFirst name [] = ⊤
IsBelowFirst name (n ∷ ns) = slice_cmp nat_cmp name n ≡ Less

abbrev pub Rises : List (List ℕ) → Type 0
Rises [] = ⊤
Rises (n ∷ ns) = IsBelowFirst n ns × Rises ns

-- a test that reports which names the patterns choose
abbrev pub Reports : (List ℕ → Bool) → (patterns : List (List ℕ)) → Type 0
Reports is_chosen patterns = (name : List ℕ) → Decides (is_chosen name) (IsChosen patterns name)

-- the names of either list that pass the test, each once, in the order of their bytes
abbrev pub boxes_among : (List ℕ → Bool) → (far near : List (List ℕ)) → List (List ℕ)
boxes_among is_chosen far near = put_names [] (filter is_chosen (far ++ near))

abbrev pub stands_in : List (List ℕ) → List ℕ → Bool
stands_in names name = list_any (λ n. pointwise nat_eq n name) names

-- where a name goes among names that rise, the first of which has this place; none if it is there
abbrev pub place_from : (from : ℕ) → List ℕ → List (List ℕ) → Option ℕ
place_from from name [] = Some from
place_from from name (n ∷ ns) = match_ordering (slice_cmp nat_cmp n name) (place_from (from + 1) name ns) None (Some from)
