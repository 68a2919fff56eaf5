use Rattle.run_pair.specs.BookParts.{files_of}
use Rattle.run_pair.specs.Parts.{device_with}
use Rattle.run_pair.proofs.pair.Pair.note_near_listing.Given as goal

-- the device of its parts
abbrev pub ghost-note_near : goal.ghost-note_near
ghost-note_near g a = device_with (g.F.Mailbox.seen a._far.now).stored (g.N.Mailbox.seen a._near.now).stored (files_of a._book.now) a._tally.now.named
