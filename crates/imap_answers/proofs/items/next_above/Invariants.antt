use Rattle.std.proofs.Common.{◌≡◌, ◌≤◌, take}
use Rattle.imap_answers.specs.Listings.{next_above}
use Rattle.imap_answers.proofs.items.next_above.Given as goal

abbrev pub invariant-loop-item : goal.invariant-loop-item
invariant-loop-item l = (l.next ≡ next_above l.known (take l.item-index l.items)) × (l.known ≤ l.next)
