use Rattle.std.proofs.Common.{◌≡◌, ◌++◌, ℕ, List, drop, map}
use Rattle.std.specs.Prelude.{IfSome, None, Some, string_bytes}
use Rattle.config.specs.Lines.{IsUpTo}
use Rattle.config.specs.Named.{member_name}
use Rattle.config_words.specs.declared.fault.ConfigFault.{ConfigFault}
use Rattle.config.specs.Outlines.{Reports}
use Rattle.config.specs.Readings.{AreLines}
use Rattle.config.specs.Sections.{place_among}
use Rattle.config.proofs.group.places.Given as goal

abbrev pub invariant-loop-member : goal.invariant-loop-member
invariant-loop-member l =
    ((last : ℕ) → AreLines last l.members → IfSome l.fn.first (IsUpTo last) → IfSome l.first (IsUpTo last))
    × ((again : List ConfigFault) → Reports again l.fn.first → Reports again l.first)
    × (l.first ≡ None → l.fn.first ≡ None)
    × (l.first ≡ None → map Some l.places.items ++ map (place_among (map string_bytes l.channels)) (map member_name (drop l.member-index l.members))
    ≡ map (place_among (map string_bytes l.channels)) (map member_name l.members))
