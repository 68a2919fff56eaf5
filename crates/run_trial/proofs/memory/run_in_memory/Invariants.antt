use Rattle.maildir.specs.Gains.{nobody}
use Rattle.book.specs.MemShelves.{files_of}
use Rattle.run_states.specs.Openings.{world_at}
use Rattle.run_states.specs.Beginnings.{opening_of}
use Rattle.run_trial.specs.Settings.{device_in}
use Rattle.run_trial.proofs.Picks.{picked}
use Rattle.run_trial.proofs.memory.run_in_memory.Given as goal

abbrev pub ghost-run_over : goal.ghost-run_over
ghost-run_over g a = picked (files_of a.setting.shelf).journal (opening_of nobody.ours nobody.alone (world_at (device_in a.setting) a.setting.state) a.setting.options) g.opening
