-- What `mbplan` reports where it has no plan.
use Rattle.std.specs.Prelude.{ℕ}
use Rattle.mailcore.specs.declared.fault.CoreFault.{CoreFault}
use Rattle.mailcore.specs.declared.fault.CoreFault.TheVariants.{NoMemory as no_room, MarksRepeat as repeats}
use Rattle.planner.specs.declared.fault.PlanFault.{PlanFault}
use Rattle.planner.specs.declared.fault.PlanFault.TheVariants.{NoMemory as no_plan, ValidityChanged as changed}
use Rattle.worlds.specs.declared.fault.WorldFault.{WorldFault}
use Rattle.worlds.specs.declared.fault.WorldFault.TheVariants.{Line as bad_line, NoMemory as no_world}
use Rattle.run_plan.specs.declared.failure.PlanFailure.{PlanFailure}
use Rattle.run_plan.specs.declared.failure.PlanFailure.TheVariants.{Usage, Input, World, ValidityChanged, MarksRepeat, NoMemory}

abbrev pub of_world : WorldFault → PlanFailure
of_world (bad_line n) = World n
of_world no_world = NoMemory

abbrev pub of_plan : PlanFault → PlanFailure
of_plan (changed side) = ValidityChanged side
of_plan no_plan = NoMemory

abbrev pub of_marks : CoreFault → PlanFailure
of_marks repeats = MarksRepeat
of_marks no_room = NoMemory

-- what is reported where reading failed
abbrev pub OfInput : PlanFailure → Type 0
OfInput Input = Unit {0}
OfInput NoMemory = Unit {0}
OfInput _ = ⊥

-- the exit status
abbrev pub status_of : PlanFailure → ℕ
status_of Usage = 2
status_of Input = 1
status_of (World n) = 2
status_of (ValidityChanged side) = 1
status_of MarksRepeat = 1
status_of NoMemory = 1
