use Rattle.run_pair.specs.BookParts.{files_of}
use Rattle.run_pair.specs.Parts.{device_with}
use Rattle.run_pair.proofs.pair_outside.PairOutside.reopen.Given as goal

-- the device of its parts, and what was named
abbrev pub ghost-reopen : goal.ghost-reopen
ghost-reopen g a = device_with (g.F.Mailbox.seen a._far.now).stored (g.N.Mailbox.seen a._near.now).stored (files_of a._book.now) a.self.now.named
