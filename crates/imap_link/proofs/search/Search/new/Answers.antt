use Rattle.std.proofs.Common.{arith}
use Rattle.imap_link.proofs.Begun.{begins_empty}
use Rattle.imap_link.proofs.Searched.{none_empty}
use Rattle.imap_link.proofs.search.Search.new.Goals as goal

pub returns : goal.returns
returns c = λ bytes. record { within = omega arith; scanner_is = c.new.ensures; none = none_empty; begun = begins_empty }
