-- Where the shelf was read, so that a guard can be shown it.
use Rattle.std.proofs.Common.{Option, None, Some}
use Rattle.outside.specs.Opened.{IsBook, IsRead, Opened}

pub is_read_as_book : (opened : Option Opened) → IsBook opened → IsRead opened
is_read_as_book None is = is
is_read_as_book (Some o) is = tt
