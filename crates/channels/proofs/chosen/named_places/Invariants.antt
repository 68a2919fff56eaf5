use Rattle.std.proofs.Common.{◌≡◌, [], take, string_bytes}
use Rattle.std.specs.List.{flat_map}
use Rattle.channels.specs.Chosen.{named}
use Rattle.channels.specs.Places.{with_places}
use Rattle.channels.proofs.chosen.named_places.Given as goal

-- the places of the names so far are added
abbrev pub invariant-loop-name : goal.invariant-loop-name
invariant-loop-name l = l.places.items ≡ with_places [] (flat_map (λ name. named l.config (string_bytes name)) (take l.name-index l.names))
