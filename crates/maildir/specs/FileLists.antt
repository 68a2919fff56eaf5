-- What an iterator over files has left to give.
use Rattle.std.specs.Prelude.{List}
use Rattle.maildir.specs.declared.folder.File.{File}
use Rattle.maildir.specs.declared.file_list.FileList.{FileList}
use Rattle.maildir.specs.Slots.{files_in}

abbrev pub files_left : FileList → List File
files_left it = files_in it.slots.now
