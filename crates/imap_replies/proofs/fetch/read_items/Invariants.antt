use Rattle.std.proofs.Common.{◌≡◌, ◌-◌, suc, length, Ok}
use Rattle.wire_reader.specs.Reading.{◌>>=◌}
use Rattle.wire_reader.specs.Listing.{items_by}
use Rattle.imap_replies.specs.Fetches.{item_at, item_list_at}
use Rattle.imap_replies.proofs.fetch.read_items.Given as goal

abbrev pub invariant-loop : goal.invariant-loop
invariant-loop l = (items_by 32 item_at (suc (length l.bytes) - l.counter) l.items.items l.rest >>= λ x. Ok x) ≡ item_list_at l.bytes
