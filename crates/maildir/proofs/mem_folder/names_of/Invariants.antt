use Rattle.std.proofs.Common.{◌≡◌, ◌++◌, map}
use Rattle.maildir.specs.FileLists.{files_left}
use Rattle.maildir.specs.Folders.{name_of_file}
use Rattle.maildir.proofs.mem_folder.names_of.Given as goal

abbrev pub invariant-loop-file : goal.invariant-loop-file
invariant-loop-file l = record {
  can_next : (goal.iterator-loop-file).can_next l.file-iterator;
  is_finite : (goal.iterator-loop-file).is_finite l.file-iterator;
  rest : l.names.items ++ map name_of_file (files_left l.file-iterator) ≡ map name_of_file (files_left l.fn.files);
}
