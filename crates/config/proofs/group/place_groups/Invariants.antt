use Rattle.std.proofs.Common.{◌≡◌, ℕ, List, map}
use Rattle.std.specs.Prelude.{IfSome, None, string_bytes}
use Rattle.config.specs.Configurations.{group_value, placed}
use Rattle.config.specs.Lines.{IsUpTo}
use Rattle.config.specs.Named.{group_named}
use Rattle.config_words.specs.declared.fault.ConfigFault.{ConfigFault}
use Rattle.config.specs.Outlines.{Reports}
use Rattle.config.specs.Readings.{HasLines}
use Rattle.config.proofs.group.place_groups.Given as goal

abbrev pub invariant-loop-group : goal.invariant-loop-group
invariant-loop-group l =
    ((last : ℕ) → HasLines last l.yielded → IfSome l.fn.first (IsUpTo last) → IfSome l.first (IsUpTo last))
    × ((again : List ConfigFault) → Reports again l.fn.first → Reports again l.first)
    × (l.first ≡ None → l.fn.first ≡ None)
    × (l.first ≡ None → map group_value l.placed.items ≡ map (placed (map string_bytes l.channels)) (map group_named l.yielded))
