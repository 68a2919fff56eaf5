-- Which channels a command line names.
use Rattle.std.specs.Prelude.{ℕ, ◌==◌, not, Bool, List, [], ◌∷◌, Option, None, Some, nat_eq, length, option_map, is_some, string_bytes, ◌||◌}
use Rattle.std.specs.List.{filter, find, flat_map, position, range_with_len}
use Rattle.std.specs.Cmp.Lexicographic.{pointwise}
use Rattle.config.specs.declared.config.Config.{Config}
use Rattle.config.specs.declared.config.Group.{Group}
use Rattle.config.specs.declared.request.Chosen.{Chosen}
use Rattle.config.specs.declared.request.Chosen.TheVariants.{All, Named}

-- the place of the channel of this name
abbrev pub channel_of : Config → List ℕ → Option ℕ
channel_of config name = position (λ c. pointwise nat_eq (string_bytes c.name) name) config.channels.items

-- the group of this name
abbrev pub group_of : Config → List ℕ → Option Group
group_of config name = find (λ g. pointwise nat_eq (string_bytes g.name) name) config.groups.items

-- a name stands for the channel of that name, or else for the channels of the group
abbrev pub meant : Option ℕ → Option Group → List ℕ
meant (Some place) group = place ∷ []
meant None (Some group) = group.channels.items
meant None None = []

abbrev pub named : Config → List ℕ → List ℕ
named config name = meant (channel_of config name) (group_of config name)

abbrev pub is_known : Config → List ℕ → Bool
is_known config name = is_some (channel_of config name) || is_some (group_of config name)

-- each place once, where it comes first
abbrev pub each_once : List ℕ → List ℕ
each_once [] = []
each_once (p ∷ ps) = p ∷ filter (λ q. not (q == p)) (each_once ps)

-- the places of the chosen channels, in the order in which they run
abbrev pub chosen_among : Config → Chosen → List ℕ
chosen_among config All = range_with_len 0 (length config.channels.items)
chosen_among config (Named names) = each_once (flat_map (λ name. named config (string_bytes name)) names.items)

-- the first name that stands for nothing
abbrev pub unknown_among : Config → Chosen → Option (List ℕ)
unknown_among config All = None
unknown_among config (Named names) = option_map string_bytes (find (λ name. not (is_known config (string_bytes name))) names.items)
