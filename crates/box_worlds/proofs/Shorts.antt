-- The shortest bodies.
use Rattle.std.proofs.Common.{◌≡◌, refl, true}
use Rattle.std.specs.Prelude.{[]}
use Rattle.mailcore.specs.declared.side.Side.{Side}
use Rattle.mailcore.specs.declared.side.Side.TheVariants.{Far, Near}
use Rattle.mailcore.specs.Content.{content, fit, without_marks}

-- a message of no bytes is fit
pub nothing_fits : (side : Side) → fit side [] ≡ true
unfolding content without_marks
nothing_fits Far = refl
nothing_fits Near = refl
