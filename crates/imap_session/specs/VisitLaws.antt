-- What holds of visits, in laws that a function of `src/sessions.rt` shows.
use Rattle.std.specs.Prelude.{◌≡◌, ◌<◌, ℕ, false, List}
use Rattle.mailcore.specs.Content.{mark_of}
use Rattle.mailcore.specs.Visitors.{Visitors, AreOctets, IsForeign}
use Rattle.imap_session.specs.Arrivals.{ArrivedUnder}
use Rattle.imap_session.specs.Servers.{Server, reported}
use Rattle.imap_session.specs.Visits.{Visits}

abbrev pub NobodyMayVisit : Type 0
NobodyMayVisit = (v : Visitors) (s : Server) → Visits v s s

abbrev pub VisitsFollow : Type 0
VisitsFollow = (v : Visitors) (s t u : Server) → Visits v s t → Visits v t u → Visits v s u

-- a visit that the server has reported is still a visit
abbrev pub VisitsAreReported : Type 0
VisitsAreReported = (v : Visitors) (s t : Server) → Visits v s t → Visits v s (reported t)

-- a message that arrives, with no mark of the run, is a visit
abbrev pub ArrivalsVisit : Type 0
ArrivalsVisit =
    (v : Visitors) (at : ℕ) (name : List ℕ) (flags : ℕ) (message : List ℕ) (s t : Server) → 0 < at → AreOctets message
    → IsForeign v.ours (mark_of message) → v.alone ≡ false → ArrivedUnder at name flags message s t → Visits v s t
