use Rattle.std.proofs.Common.{◌≡◌, ◌-◌, suc, length, Ok}
use Rattle.wire_reader.specs.Reading.{◌>>=◌}
use Rattle.wire_reader.specs.Listing.{items_by}
use Rattle.wire_tokens.specs.Sets.{item_at, set_at}
use Rattle.wire_tokens.proofs.uid_set.uid_set.Given as goal

abbrev pub invariant-loop : goal.invariant-loop
invariant-loop l = (items_by 44 item_at (suc (length l.bytes) - l.counter) l.items.items l.rest >>= λ x. Ok x) ≡ set_at l.bytes
