use Rattle.runner.specs.Maps.{by_map}
use Rattle.runner.proofs.run.open_and_work.Given as goal

abbrev pub ghost-open_boxes : goal.ghost-open_boxes
ghost-open_boxes g a = g.opening

abbrev pub ghost-work : goal.ghost-work
ghost-work g a = by_map a.options.now.keywords g.opening
