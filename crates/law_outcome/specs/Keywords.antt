-- The flags of a plan have names in IMAP where those of both mailboxes have, in a law that a function of `src/lib.rt` shows.
use Rattle.std.specs.Prelude.{ℕ, ◌^◌, List, All}
use Rattle.mailcore.specs.declared.keywords.Keyword.{Keyword}
use Rattle.mailcore.specs.FlagSet.{DELETED}
use Rattle.mailcore.specs.KeywordNames.{IsWithin}
use Rattle.rules.specs.declared.options.Options.{Options}
use Rattle.rules.specs.declared.plan.Step.{Step}
use Rattle.rules.specs.declared.plan.Step.TheVariants.{New, Gone, Flags, Expunge}
use Rattle.rules.specs.World.{World, scene_of}
use Rattle.planner.specs.Written.{all_steps}

-- each flag of a message of either side has a name by this map
pub record IsWithinWorld (keywords : List Keyword) (w : World) : Type 0 where
  pub far : All (λ m. IsWithin keywords m.flags) w.far.messages
  pub near : All (λ m. IsWithin keywords m.flags) w.near.messages

-- and each flag that a step sets or clears, or that its copy gets
abbrev pub IsWithinStep : List Keyword → Step → Type 0
IsWithinStep keywords (New d u flags mark) = IsWithin keywords flags
IsWithinStep keywords (Gone d f n) = IsWithin keywords (2 ^ DELETED)
IsWithinStep keywords (Flags d f n set cleared) = IsWithin keywords set × IsWithin keywords cleared
IsWithinStep keywords (Expunge side u) = Unit {0}

-- A plan sets and clears no other flags than those of messages, and marks as deleted: recorded flags that have no name reach no message.
abbrev pub PlanIsWithin : Type 0
PlanIsWithin =
    (keywords : List Keyword) (w : World) (options : Options) (marks : List (List ℕ)) →
    IsWithinWorld keywords w → All (IsWithinStep keywords) (all_steps (scene_of w options) marks)
