use Rattle.runner.proofs.steps.perform.Given as goal

abbrev pub ghost-bring : goal.ghost-bring
ghost-bring g a = g.opening

abbrev pub ghost-mark_deleted : goal.ghost-mark_deleted
ghost-mark_deleted g a = g.opening

abbrev pub ghost-carry_flags : goal.ghost-carry_flags
ghost-carry_flags g a = g.opening

abbrev pub ghost-remove : goal.ghost-remove
ghost-remove g a = g.opening
