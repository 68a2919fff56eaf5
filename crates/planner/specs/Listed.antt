-- What a plan lists, and which messages are skipped.
use Rattle.std.specs.Prelude.{◌↔◌, ◌≢◌, true, All, AllPairs, Contains, ◌≡◌, ℕ, List, ◌++◌, Option, Some, None, map, filter, unwrap_or}
use Rattle.std.specs.List.{filter_map}
use Rattle.mailcore.specs.declared.side.Side.{Side}
use Rattle.mailcore.specs.declared.side.Direction.{Direction}
use Rattle.mailcore.specs.declared.side.Direction.TheVariants.{Pull, Push}
use Rattle.mailcore.specs.declared.listing.Listing.{Listing}
use Rattle.mailcore.specs.Sides.{source}
use Rattle.rules.specs.declared.plan.Step.{Step}
use Rattle.rules.specs.declared.plan.Step.TheVariants as step
use Rattle.rules.specs.declared.plan.Note.{Note}
use Rattle.rules.specs.declared.plan.Note.TheVariants as note
use Rattle.rules.specs.declared.plan.Plan.{Plan}
use Rattle.rules.specs.declared.plan.PlanSide.{PlanSide}
use Rattle.rules.specs.Propagation.{Propagation, New, Gone, Flags, Expunge, Record, Drop}
use Rattle.rules.specs.Scene.{Scene, items, flags_at}
use Rattle.rules.specs.Called.{called, is_unfit}
use Rattle.rules.specs.Order.{Before}

-- ---- what a plan lists

abbrev pub of_step : Step → Propagation
of_step (step.New d u flags mark) = New d u
of_step (step.Gone d f n) = Gone d f n
of_step (step.Flags d f n set cleared) = Flags d f n set cleared
of_step (step.Expunge side u) = Expunge side u

abbrev pub of_note : Note → Propagation
of_note (note.Record f n w) = Record f n w
of_note (note.Drop f n) = Drop (unwrap_or f 0) (unwrap_or n 0)

-- the propagations of a plan
abbrev pub listed : Plan → List Propagation
listed p = map of_step p.steps ++ map of_note p.notes

-- the mark that a new copy gets
abbrev pub mark_of : Step → Option (List ℕ)
mark_of (step.New d u flags mark) = Some mark
mark_of (step.Gone d f n) = None
mark_of (step.Flags d f n set cleared) = None
mark_of (step.Expunge side u) = None

abbrev pub marks_of : List Step → List (List ℕ)
marks_of steps = filter_map mark_of steps

-- a new copy gets the flags of its source
abbrev pub CarriesFlags : Scene → Step → Type 0
CarriesFlags s (step.New d u flags mark) = flags_at (items s (source d)) u ≡ Some flags
CarriesFlags s (step.Gone d f n) = Unit {0}
CarriesFlags s (step.Flags d f n set cleared) = Unit {0}
CarriesFlags s (step.Expunge side u) = Unit {0}

-- what a plan says of one side: the mailbox as it is listed, and the highest UID after the run
abbrev pub side_with : Listing → (highest : ℕ) → PlanSide
side_with listing highest = record { validity = listing.validity; highest = highest; next = listing.next }

-- The steps of a plan that lists exactly what is called for on a scene, none of it twice, and in order, in which each copy has the flags of its source.
pub record AreCalled (s : Scene) (steps : List Step) : Type 0 where
  pub plan : Plan
  pub steps_are : plan.steps ≡ steps
  pub exact : (q : Propagation) → Contains (listed plan) q ↔ (called s q ≡ true)
  pub once : AllPairs (λ a b. a ≢ b) (listed plan)
  pub in_order : AllPairs Before (listed plan)
  pub flags : All (CarriesFlags s) plan.steps

-- ---- messages that only want fitness to be new

abbrev pub unfit_uids : Scene → Direction → List (Side × ℕ)
unfit_uids s d = map (λ i. (source d, i.uid)) (filter (is_unfit s d) (items s (source d)))

abbrev pub all_unfit : Scene → List (Side × ℕ)
all_unfit s = unfit_uids s Pull ++ unfit_uids s Push
