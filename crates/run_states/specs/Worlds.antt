-- What worlds that are alike have in common, in laws that the functions of `src/lib.rt` show.
use Rattle.std.specs.Prelude.{◌<◌, ◌≡◌, true, length}
use Rattle.mailcore.specs.declared.side.Side.{Side}
use Rattle.rules.specs.declared.options.Options.{Options}
use Rattle.rules.specs.Alike.{Alike}
use Rattle.rules.specs.Called.{called}
use Rattle.rules.specs.Entries.{ArePairs}
use Rattle.rules.specs.Order.{Before}
use Rattle.rules.specs.Propagation.{Propagation}
use Rattle.rules.specs.World.{World, scene_of, store}
use Rattle.law_outcome.specs.OtherUids.{propagation_under}

-- each side has as many messages
abbrev pub HaveAsManyMessages : Type 0
HaveAsManyMessages = (opening outcome found : World) → Alike opening outcome found → (side : Side) → length (store found side).messages ≡ length (store outcome side).messages

-- and the states have as many entries
abbrev pub HaveAsManyEntries : Type 0
HaveAsManyEntries = (opening outcome found : World) → Alike opening outcome found → length found.state.entries ≡ length outcome.state.entries

-- what is called for on the outcome is called for on the world found, under its UIDs
abbrev pub NextIsOfOutcome : Type 0
NextIsOfOutcome =
    (opening outcome found : World) (options : Options) (alike : Alike opening outcome found) →
    ((side : Side) → 0 < (store opening side).next) → ArePairs found.state.entries →
    (q : Propagation) → called (scene_of found options) (propagation_under alike.to q) ≡ called (scene_of outcome options) q

-- and nothing else is
abbrev pub NextIsNoMore : Type 0
NextIsNoMore =
    (opening outcome found : World) (options : Options) (alike : Alike opening outcome found) →
    ((side : Side) → 0 < (store opening side).next) → ArePairs found.state.entries →
    (p : Propagation) → called (scene_of found options) p ≡ true → (q : Propagation) × (p ≡ propagation_under alike.to q)

-- in the same order
abbrev pub NextIsInOrder : Type 0
NextIsInOrder =
    (opening outcome found : World) (alike : Alike opening outcome found) →
    ((side : Side) → 0 < (store opening side).next) →
    (p q : Propagation) → Before p q → Before (propagation_under alike.to p) (propagation_under alike.to q)
