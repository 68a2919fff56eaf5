use Rattle.std.proofs.Common.{sym, ap}
use Rattle.book.specs.Books.{mended}
use Rattle.book.proofs.book.mend_pending.Goals as goal

pub returns-in-Planned : goal.returns-in-Planned
returns-in-Planned c = sym (ap mended c.in-Planned.is)
