-- What a plan lists: its steps and its notes, without what it adds to them (a source's flags, a mark). A UID of 0: that side of the entry has vanished.
use Rattle.std.specs.Prelude.{ℕ}
use Rattle.mailcore.specs.declared.side.Side.{Side}
use Rattle.mailcore.specs.declared.side.Direction.{Direction}

pub data Propagation : Type 0 where
  New : (direction : Direction) (uid : ℕ) → Propagation
  Gone : (direction : Direction) (far near : ℕ) → Propagation
  Flags : (direction : Direction) (far near set cleared : ℕ) → Propagation
  Expunge : (side : Side) (uid : ℕ) → Propagation
  Record : (far near flags : ℕ) → Propagation
  Drop : (far near : ℕ) → Propagation
