use Rattle.std.proofs.Common.{refl, [], ap}
use Rattle.imap_session.specs.Unread.{Whole}
use Rattle.imap_server.specs.Taking.{Host}
use Rattle.mem_link.proofs.mem_link.MemLinkLink.reconnect.Goals as goal

pub returns-clause-open : goal.returns-clause-open
returns-clause-open c = record { here = refl; kept = Whole []; there = ap (λ (h : Host). h.connection) c.connect.ensures.new }
