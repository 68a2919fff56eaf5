use Rattle.std.proofs.Common.{◌≡◌}
use Rattle.std.specs.Prelude.{find}
use Rattle.maildir.specs.FileActs.{is_file_of}
use Rattle.maildir.specs.FileLists.{files_left}
use Rattle.maildir.proofs.file_acts.file_of.Given as goal

abbrev pub invariant-loop-file : goal.invariant-loop-file
invariant-loop-file l = record {
  can_next : (goal.iterator-loop-file).can_next l.file-iterator;
  is_finite : (goal.iterator-loop-file).is_finite l.file-iterator;
  rest : find (is_file_of l.uid) (files_left l.file-iterator) ≡ find (is_file_of l.fn.uid) (files_left l.fn.files);
  same : l.uid ≡ l.fn.uid;
}
