use Rattle.std.proofs.Common.{rules}
use Rattle.box_worlds.proofs.Shorts.{nothing_fits}
use Rattle.box_worlds.proofs.bodies.short_body.Goals as goal

-- src/bodies.rt:25:9
pub returns-then-is_fit : goal.returns-then-is_fit
returns-then-is_fit c = search (rules, nothing_fits)
