use Rattle.runner.proofs.run.resume.Given as goal

abbrev pub ghost-untear : goal.ghost-untear
ghost-untear g a = g.opening

abbrev pub ghost-carry_out : goal.ghost-carry_out
ghost-carry_out g a = g.opening

abbrev pub ghost-conclude : goal.ghost-conclude
ghost-conclude g a = g.opening
