use Rattle.std.proofs.Common.{◌≡◌, take}
use Rattle.std.specs.List.{fold}
use Rattle.imap_answers.specs.Showing.{marks_more}
use Rattle.imap_answers.proofs.shown.add_marks.Given as goal

abbrev pub invariant-loop-item : goal.invariant-loop-item
invariant-loop-item l = l.marks.items ≡ fold marks_more l.initial.marks.items (take l.item-index l.items)
