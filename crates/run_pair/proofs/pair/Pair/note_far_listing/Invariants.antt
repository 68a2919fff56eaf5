use Rattle.outside.specs.Opened.{shown_far}
use Rattle.run_pair.specs.BookParts.{files_of}
use Rattle.run_pair.specs.Parts.{device_with}
use Rattle.run_pair.proofs.pair.Pair.note_far_listing.Given as goal

-- the device of its parts, as the listing has shown it
abbrev pub ghost-note_far : goal.ghost-note_far
ghost-note_far g a = shown_far a._listing.now.next (device_with (g.F.Mailbox.seen a._far.now).stored (g.N.Mailbox.seen a._near.now).stored (files_of a._book.now) a._tally.now.named)
