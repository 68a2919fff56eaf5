use Rattle.std.proofs.Common.{◌≡◌, length}
use Rattle.maildir.specs.Slots.{files_in}
use Rattle.maildir.proofs.file_list.FileListIterator.next.Given as goal

abbrev pub invariant-loop-slot : goal.invariant-loop-slot
invariant-loop-slot l = files_in l.self.slots.now ≡ files_in l.initial.self.slots.now

abbrev pub decreases-loop-slot : goal.decreases-loop-slot
decreases-loop-slot l = length l.self.slots.now
