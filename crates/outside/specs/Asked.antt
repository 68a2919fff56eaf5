-- What an outside is asked about plans and messages.
use Rattle.std.specs.Prelude.{ℕ, List, Option, Result, Ok, Err}
use Rattle.mailcore.specs.declared.side.Side.{Side}
use Rattle.mailcore.specs.declared.side.Direction.{Direction}
use Rattle.rules.specs.declared.plan.Plan.{Plan}
use Rattle.sync_state.specs.declared.journal.Journal.{Journal}

-- the shelf is read, and this journal is in it; this plan is written; on this side, from this UID on, a message with this mark is looked for,
-- and one is found or none; the message of this UID is copied, with these flags and under this mark; these flags of a message are set; or
-- cleared; it is removed
pub data Asked : Type 0 where
  Read : (journal : Option Journal) → Asked
  Begun : (plan : Plan) → Asked
  Sought : (side : Side) → (mark : List ℕ) → (from : ℕ) → (found : Option ℕ) → Asked
  Copied : (direction : Direction) → (uid : ℕ) → (flags : ℕ) → (mark : List ℕ) → Asked
  Set : (side : Side) → (uid : ℕ) → (flags : ℕ) → Asked
  Cleared : (side : Side) → (uid : ℕ) → (flags : ℕ) → Asked
  Removed : (side : Side) → (uid : ℕ) → Asked

-- the record after a look, which is noted if it was answered
abbrev pub after_look : {L E : Type 0} → (noted : L → Asked → L) → Side → List ℕ → (from : ℕ) → L → Result (Option ℕ) E → L
after_look noted side mark from old (Ok found) = noted old (Sought side mark from found)
after_look noted side mark from old (Err fault) = old
