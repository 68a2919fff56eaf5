use Rattle.mailcore.specs.Draws.{GivesListed}
use Rattle.mailcore.proofs.marks.draw_new.Given as goal

abbrev pub invariant-draws : goal.invariant-draws
invariant-draws g l = GivesListed (g.R.Rng.stream l.initial.rng) l.known.keys l.counter (g.R.Rng.stream l.rng)
