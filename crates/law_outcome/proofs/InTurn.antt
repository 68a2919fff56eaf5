-- What the UIDs from one on make of messages: copies, entries and admitted files.
use Rattle.std.proofs.Common.{ℕ, List, length}
use Rattle.std.specs.List.{range_with_len}
use Rattle.mailcore.specs.declared.side.Side.{Side}
use Rattle.mailcore.specs.declared.side.Direction.TheVariants.{Pull, Push}
use Rattle.mailcore.specs.declared.mailbox.Message.{Message}
use Rattle.rules.specs.declared.entry.Entry.{Entry}
use Rattle.rules.specs.World.{Waiting}
use Rattle.rules.specs.Admission.{numbered_under}
use Rattle.rules.specs.Copies.{copies_under, pairs_under}

abbrev pub copies : Side → (next : ℕ) → (marks : List (List ℕ)) → List Message → List Message
copies side next marks ms = copies_under side (range_with_len next (length ms)) marks ms

abbrev pub pulled : (next : ℕ) → List Message → List Entry
pulled next ms = pairs_under Pull (range_with_len next (length ms)) ms

abbrev pub pushed : (next : ℕ) → List Message → List Entry
pushed next ms = pairs_under Push (range_with_len next (length ms)) ms

abbrev pub numbered_from : (next : ℕ) → List Waiting → List Message
numbered_from next fs = numbered_under (range_with_len next (length fs)) fs
