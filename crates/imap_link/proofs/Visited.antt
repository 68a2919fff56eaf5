-- A line whose server was visited.
use Rattle.std.proofs.Common.{ℕ, List, sym, ◌∙◌, ap, subst}
use Rattle.mailcore.specs.Visitors.{Visitors}
use Rattle.imap_session.specs.Servers.{Condition, Server, is_over, reported}
use Rattle.imap_session.specs.Portions.{goes_in}
use Rattle.imap_session.specs.Unread.{Holds}
use Rattle.imap_session.specs.Lines.{Line, reported_server}
use Rattle.imap_session.specs.Visits.{Visits, Among}
use Rattle.imap_session.specs.Ends.{ends_of, IsAt}
use Rattle.imap_link.specs.Sending.{AfterVisits, visited}

-- what was on the way stays
pub at_then : (v : Visitors) (front : List ℕ) (old : Line) (heard : List ℕ) (mid : Server) → Visits v old.end.server mid → IsAt front (ends_of old heard) → IsAt front (ends_of (visited old mid) heard)
at_then v front old heard mid h at = record {
  reads_on = ap is_over h.condition ∙ at.reads_on;
  has_read = record {
    kept = at.has_read.kept;
    unread = subst (λ (c : Condition). Holds (is_over c) old.end.kept front (goes_in front)) (sym h.condition) at.has_read.unread;
  };
  coming = at.coming;
}

-- the news of a visit may have been reported, before it and after it
pub both_reported : (v : Visitors) (s t : Server) → Visits v s t → Visits v (reported s) (reported t)
both_reported v s t h = record { user = h.user; password = h.password; keywords = h.keywords; condition = h.condition; gains = h.gains; nobody = h.nobody }

-- what follows from it, whoever was there
pub after_so : (v : Visitors) (P Q : Line → Type 0) (old : Line) → ((mid : Server) → Visits v old.end.server mid → P (visited old mid) → Q (visited old mid)) → AfterVisits v P old → AfterVisits v Q old
after_so v P Q old f a = record { mid = a.mid; visits = a.visits; then = f a.mid a.visits a.then }

-- in the words of the server, once its news is reported
pub among_reported : (v : Visitors) (P : Line → Type 0) (Q : Server → Server → Type 0) (old new : Line) → ((mid : Server) → Visits v old.end.server mid → P (visited old mid) → Q (reported mid) (reported_server new)) → AfterVisits v P old
    → Among v Q (reported_server old) (reported_server new)
among_reported v P Q old new f a = record { mid = reported a.mid; visits = both_reported v old.end.server a.mid a.visits; then = f a.mid a.visits a.then }
