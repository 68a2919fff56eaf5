-- The cells that are on, and the sides that Expunge covers.
use Rattle.std.specs.Prelude.{Bool}
use Rattle.mailcore.specs.declared.side.Side.{Side}
use Rattle.mailcore.specs.declared.side.Side.TheVariants.{Far, Near}
use Rattle.mailcore.specs.declared.side.Direction.{Direction}
use Rattle.mailcore.specs.declared.side.Direction.TheVariants.{Pull, Push}
use Rattle.rules.specs.declared.options.Directions.{Directions}
use Rattle.rules.specs.declared.options.Sides.{Sides}

abbrev pub goes : Directions → Direction → Bool
goes on Pull = on.pull
goes on Push = on.push

abbrev pub covers : Sides → Side → Bool
covers on Far = on.far
covers on Near = on.near
