-- When a step of a plan is stale: what it was called for stands no more.
use Rattle.std.specs.Prelude.{◌≡◌, ℕ, Bool, true, false, ◌&&◌, ◌==◌, List, All, Contains, drop, take}
use Rattle.mailcore.specs.declared.side.Side.{Side}
use Rattle.mailcore.specs.declared.side.Direction.{Direction}
use Rattle.mailcore.specs.declared.side.Direction.TheVariants.{Pull, Push}
use Rattle.mailcore.specs.declared.mailbox.Message.{Message}
use Rattle.mailcore.specs.FlagSet.{DELETED, has}
use Rattle.mailcore.specs.Sides.{source, target}
use Rattle.rules.specs.declared.plan.Step.{Step}
use Rattle.rules.specs.declared.plan.Step.TheVariants as step
use Rattle.law_outcome.specs.Steps.{Boxes, box, changed_uid, is_side}

-- a message of this side with this UID is there
pub record IsThere (b : Boxes) (side : Side) (uid : ℕ) : Type 0 where
  pub message : Message
  pub is_there : Contains (box b side) message
  pub has_uid : message.uid ≡ uid

-- it is, and it is not marked as deleted
pub record IsUnmarked (b : Boxes) (side : Side) (uid : ℕ) : Type 0 where
  pub message : Message
  pub is_there : Contains (box b side) message
  pub has_uid : message.uid ≡ uid
  pub unmarked : has message.flags DELETED ≡ false

-- the UID of the message whose counterpart changes
abbrev pub source_uid : Direction → (far near : ℕ) → ℕ
source_uid Pull far near = far
source_uid Push far near = near

-- a step marks the message with this UID as deleted
abbrev pub marks : Side → (uid : ℕ) → Step → Bool
marks side uid (step.New d u flags mark) = false
marks side uid (step.Gone d f n) = is_side (target d) side && uid == changed_uid d f n
marks side uid (step.Flags d f n set cleared) = (is_side (target d) side && uid == changed_uid d f n) && has set DELETED
marks side uid (step.Expunge at u) = false

-- A step that is left is stale: a message that had gone is there, or one whose mark of deletion its counterpart is to get has none, or one that
-- is to be removed, and no step that is left marks it.
abbrev pub IsStale : (left : List Step) → Boxes → Step → Type 0
IsStale left b (step.New d u flags mark) = ⊥
IsStale left b (step.Gone d f n) = IsThere b (source d) (source_uid d f n)
IsStale left b (step.Flags d f n set cleared) = (has set DELETED ≡ true) × IsUnmarked b (source d) (source_uid d f n)
IsStale left b (step.Expunge side u) = All (λ s. marks side u s ≡ false) left × IsUnmarked b side u

-- a step is done, and the message that it was to remove is there
abbrev pub IsSpared : Boxes → Step → Type 0
IsSpared b (step.New d u flags mark) = ⊥
IsSpared b (step.Gone d f n) = ⊥
IsSpared b (step.Flags d f n set cleared) = ⊥
IsSpared b (step.Expunge side u) = IsThere b side u

-- of a plan of which so many steps are done, no step that is left is stale, and none that is done has spared what it was to remove
pub record NoneIsStale (steps : List Step) (count : ℕ) (b : Boxes) : Type 0 where
  pub left : All (λ s. ¬ IsStale (drop count steps) b s) (drop count steps)
  pub done : All (λ s. ¬ IsSpared b s) (take count steps)
