-- How many bytes tokens have as they are written, at most.
use Rattle.std.specs.Prelude.{ℕ, ◌+◌, List, length}
use Rattle.std.specs.List.{sum_by}
use Rattle.wire_tokens.specs.declared.uid_set.SetItem.{SetItem}
use Rattle.wire_tokens.specs.declared.uid_set.SetItem.TheVariants.{One, Range}

abbrev pub most_item : SetItem → ℕ
most_item (One x) = 10
most_item (Range x y) = 21

-- each item with a `,`
abbrev pub most_set : List SetItem → ℕ
most_set items = sum_by (λ item. most_item item + 1) items

-- each name with a space
abbrev pub most_names : List (List ℕ) → ℕ
most_names names = sum_by (λ name. length name + 1) names

-- in brackets
abbrev pub most_flags : List (List ℕ) → ℕ
most_flags names = most_names names + 2
