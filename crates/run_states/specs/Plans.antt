-- The plan of a run, and the step that is next.
use Rattle.std.specs.Prelude.{◌≡◌, ◌⊎◌, ℕ, Bool, true, List, [], ◌∷◌, ◌++◌, All, Contains, Option, None, Some, flat_map, if◌then◌else◌}
use Rattle.mailcore.specs.declared.mailbox.Message.{Message}
use Rattle.mailcore.specs.declared.side.Side.{Side}
use Rattle.mailcore.specs.declared.side.Side.TheVariants.{Far, Near}
use Rattle.mailcore.specs.Sides.{target}
use Rattle.mailcore.specs.Stores.{Waiting}
use Rattle.rules.specs.declared.options.Options.{Options}
use Rattle.rules.specs.declared.plan.Plan.{Plan}
use Rattle.rules.specs.declared.plan.Step.{Step}
use Rattle.rules.specs.declared.plan.Step.TheVariants as step
use Rattle.rules.specs.AlikeBy.{AreMarks}
use Rattle.rules.specs.World.{World, store}
use Rattle.sync_state.specs.declared.journal.Logged.{Logged}
use Rattle.law_outcome.specs.CommitLaws.{IsPlanOf}
use Rattle.law_outcome.specs.StepLaws.{half_flagged}
use Rattle.law_outcome.specs.Steps.{Boxes, changed_uid}
use Rattle.outside.specs.Devices.{Device, Named, box}
use Rattle.outside.specs.Sparing.{IsAdmitted, StaysBut}

-- the next UID of a side when the plan was made
abbrev pub first_uid : Plan → Side → ℕ
first_uid plan Far = plan.far.next
first_uid plan Near = plan.near.next

-- the plan of a world, under marks that nobody else writes
pub record IsPlanned (ours : List ℕ → Bool) (w : World) (options : Options) (plan : Plan) : Type 0 where
  pub marks : List (List ℕ)
  pub are_marks : AreMarks w options marks
  pub are_ours : All (λ mark. ours mark ≡ true) marks
  pub is_plan : IsPlanOf w options marks plan
  pub next : (side : Side) → first_uid plan side ≡ (store w side).next

-- the step after as many as there are results
abbrev pub next_of : List Step → List Logged → Option Step
next_of [] results = None
next_of (s ∷ steps) [] = Some s
next_of (s ∷ steps) (r ∷ results) = next_of steps results

-- both mailboxes once the first of two calls of a step is done: flags are set, and those that are to be cleared are not yet
abbrev pub half_done : Boxes → Option Step → Boxes
half_done b None = b
half_done b (Some (step.New d u flags mark)) = b
half_done b (Some (step.Gone d f n)) = b
half_done b (Some (step.Flags d f n set cleared)) = half_flagged b d f n set
half_done b (Some (step.Expunge side u)) = b

abbrev pub begun : (is_half : Bool) → Boxes → Option Step → Boxes
begun is_half b next = if is_half then half_done b next else b

-- the message that a step is to change or to remove
abbrev pub names_of : Step → List Named
names_of (step.New d u flags mark) = []
names_of (step.Gone d far near) = record { side = target d; uid = changed_uid d far near } ∷ []
names_of (step.Flags d far near set cleared) = record { side = target d; uid = changed_uid d far near } ∷ []
names_of (step.Expunge side u) = record { side = side; uid = u } ∷ []

-- each message that calls have named since is one that a step of these is to change or to remove
pub record NamedBy (earlier : List Named) (steps : List Step) (named : List Named) : Type 0 where
  pub since : List Named
  pub now : named ≡ since ++ earlier
  pub each : All (λ n. Contains (flat_map names_of steps) n) since

-- Each message that none of these steps is to change or to remove stands as it did, under its UID with its flags and bytes, and each file that
-- waited waits still or is such a message.
pub record LeavesOthers (steps : List Step) (d d' : Device) : Type 0 where
  pub messages : (side : Side) (m : Message) → Contains (box d side).messages m → StaysBut (flat_map names_of steps) side m d'
  pub waiting : (f : Waiting) → Contains d.near.waiting f → Contains d'.near.waiting f ⊎ IsAdmitted (flat_map names_of steps) f d'
