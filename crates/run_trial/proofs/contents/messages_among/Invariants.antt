use Rattle.std.proofs.Common.{◌≡◌, ◌++◌}
use Rattle.maildir.specs.FileLists.{files_left}
use Rattle.near_box.specs.Mailboxes.{messages_in}
use Rattle.run_trial.proofs.contents.messages_among.Given as goal

abbrev pub invariant-loop-file : goal.invariant-loop-file
invariant-loop-file l = record {
  can_next : (goal.iterator-loop-file).can_next l.file-iterator;
  is_finite : (goal.iterator-loop-file).is_finite l.file-iterator;
  rest : l.messages.items ++ messages_in l.keywords (files_left l.file-iterator) ≡ messages_in l.keywords (files_left l.fn.files);
}
