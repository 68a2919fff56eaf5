use Rattle.runner.proofs.changing.carry_flags.Given as goal

abbrev pub ghost-set_flags : goal.ghost-set_flags
ghost-set_flags g a = g.opening

abbrev pub ghost-clear_flags : goal.ghost-clear_flags
ghost-clear_flags g a = g.opening
