-- Worked examples, computed: which side's UIDVALIDITY is not the recorded one.
use Rattle.std.specs.Prelude.{◌≡◌, refl, ℕ, [], None, Some}
use Rattle.mailcore.specs.declared.side.Side.TheVariants.{Far, Near}
use Rattle.mailcore.specs.declared.listing.Listing.{Listing}
use Rattle.rules.specs.declared.state.SyncState.{SyncState}
use Rattle.rules.specs.Outcome.{changed_side}

-- an empty mailbox of this UIDVALIDITY
abbrev mailbox : (validity : ℕ) → Listing
mailbox validity = record { validity = validity; next = 1; items = [] }

-- a state of so many runs that records UIDVALIDITY 7 on the far side and 8 on the near one
abbrev recorded : (run : ℕ) → SyncState
recorded run = record { run = run; far_validity = 7; near_validity = 8; max_pulled = 0; max_pushed = 0; entries = [] }

-- neither has changed
none_changed : changed_side (mailbox 7) (mailbox 8) (recorded 3) ≡ None
none_changed = refl

far_changed : changed_side (mailbox 6) (mailbox 8) (recorded 3) ≡ Some Far
far_changed = refl

near_changed : changed_side (mailbox 7) (mailbox 9) (recorded 3) ≡ Some Near
near_changed = refl

-- where both have, the far one is named
both_changed : changed_side (mailbox 6) (mailbox 9) (recorded 3) ≡ Some Far
both_changed = refl

-- what one side has now, the other one had: that is a change as well
exchanged : changed_side (mailbox 8) (mailbox 7) (recorded 3) ≡ Some Far
exchanged = refl

-- before the first run none is recorded
first_run : changed_side (mailbox 6) (mailbox 9) (recorded 0) ≡ None
first_run = refl
