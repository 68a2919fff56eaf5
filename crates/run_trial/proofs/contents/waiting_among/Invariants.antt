use Rattle.std.proofs.Common.{◌≡◌, ◌++◌, filter, map}
use Rattle.maildir.specs.FileLists.{files_left}
use Rattle.maildir.specs.Names.{is_waiting}
use Rattle.run_trial.proofs.contents.waiting_among.Given as goal

abbrev pub invariant-loop-file : goal.invariant-loop-file
invariant-loop-file l = record {
  can_next : (goal.iterator-loop-file).can_next l.file-iterator;
  is_finite : (goal.iterator-loop-file).is_finite l.file-iterator;
  rest : map (λ file. file.now) l.waiting.items ++ filter (λ file. is_waiting file.name) (files_left l.file-iterator)
      ≡ filter (λ file. is_waiting file.name) (files_left l.fn.files);
}
