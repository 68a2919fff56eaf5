use Rattle.std.proofs.Common.{◌≡◌, ℕ, Bool, List}
use Rattle.imap_session.specs.Visits.{Visits}
use Rattle.imap_link.specs.Sending.{visited}
use Rattle.mem_link.specs.Others.{AreForeign}
use Rattle.mailcore.specs.Visitors.{others_but}
use Rattle.mem_link.specs.MemLinks.{line_of, stops_of}
use Rattle.mem_link.proofs.arrivals.bring.Given as goal

-- so much has come
abbrev pub invariant-loop-arrival : goal.invariant-loop-arrival
invariant-loop-arrival l =
    (l.arrivals ≡ l.fn.arrivals)
    × (line_of l.link ≡ visited (line_of l.fn.link) (line_of l.link).end.server)
    × ((ours : List ℕ → Bool) → AreForeign ours l.fn.arrivals → Visits (others_but ours) (line_of l.fn.link).end.server (line_of l.link).end.server)
    × (stops_of l.link ≡ stops_of l.fn.link)
