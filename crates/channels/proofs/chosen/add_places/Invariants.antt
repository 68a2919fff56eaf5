use Rattle.std.proofs.Common.{◌≡◌, take}
use Rattle.channels.specs.Places.{with_places}
use Rattle.channels.proofs.chosen.add_places.Given as goal

-- the places so far are added
abbrev pub invariant-loop-place : goal.invariant-loop-place
invariant-loop-place l = l.places.items ≡ with_places l.initial.places.items (take l.place-index l.more)
