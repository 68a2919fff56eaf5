-- The sides that a direction leads between.
use Rattle.mailcore.specs.declared.side.Side.{Side}
use Rattle.mailcore.specs.declared.side.Side.TheVariants.{Far, Near}
use Rattle.mailcore.specs.declared.side.Direction.{Direction}
use Rattle.mailcore.specs.declared.side.Direction.TheVariants.{Pull, Push}

abbrev pub source : Direction → Side
source Pull = Far
source Push = Near

abbrev pub target : Direction → Side
target Pull = Near
target Push = Far

abbrev pub towards : Side → Direction
towards Far = Push
towards Near = Pull

abbrev pub other : Side → Side
other Far = Near
other Near = Far
