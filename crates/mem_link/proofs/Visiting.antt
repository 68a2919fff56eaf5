-- Who else is at a server in memory: nobody, or others who add messages.
use Rattle.std.proofs.Common.{◌≡◌, ◌<◌, ◌∙◌, ℕ, Bool, List, Option, None, Some, ap, refl, sym, subst}
use Rattle.std.specs.Prelude.{Result, Ok, Err, OnOk, OnErr, IfSome, length, slice_index_or}
use Rattle.mailcore.specs.Content.{mark_of}
use Rattle.mailcore.specs.Visitors.{Visitors, AreOctets, IsForeign, others_but}
use Rattle.imap_session.specs.Arrivals.{Arrived}
use Rattle.imap_session.specs.Visits.{Visits}
use Rattle.imap_session.specs.Servers.{Server}
use Rattle.imap_session.specs.Serving.{FeedsSome}
use Rattle.imap_session.specs.Lines.{Line, Sends}
use Rattle.imap_session.proofs.Visiting.{arrival_visits, nobody_visits}
use Rattle.mem_link.specs.declared.arrivals.Arrival.{Arrival}
use Rattle.mem_link.specs.Others.{AreForeign}
use Rattle.imap_link.specs.Sending.{nobody, visited, SendsThen, SomeThen}

pub nobody_sends : (bytes : List ℕ) (old new : Line) → Sends bytes old new → SendsThen nobody bytes old new
nobody_sends bytes old new s = record { mid = old.end.server; visits = nobody_visits nobody old.end.server; then = s }

pub nobody_feeds : (bytes : List ℕ) (old : Line) (new : Server) → FeedsSome old.end bytes new → SomeThen nobody old bytes new
nobody_feeds bytes old new s = record { mid = old.end.server; visits = nobody_visits nobody old.end.server; then = s }

-- ---- others are there

-- a message that bears no mark comes, or there is none
pub comes : (uid : Option ℕ) (name : List ℕ) (flags : ℕ) (message : List ℕ) (old new : Server) → IfSome uid (λ u. 0 < u) → AreOctets message → Arrived name flags message uid old new → (ours : List ℕ → Bool) → IsForeign ours (mark_of message) → Visits (others_but ours) old new
comes None name flags message old new is_uid octets a ours foreign = subst (λ (s : Server). Visits (others_but ours) old s) (sym a.0) (nobody_visits (others_but ours) old)
comes (Some uid) name flags message old new is_uid octets a ours foreign = arrival_visits (others_but ours) uid name flags message old new is_uid octets foreign refl a

-- nothing has come
pub none_comes : (ours : List ℕ → Bool) (old new : Server) → new ≡ old → Visits (others_but ours) old new
none_comes ours old new same = subst (λ (s : Server). Visits (others_but ours) old s) (sym same) (nobody_visits (others_but ours) old)

-- on one line after the other
pub line_after : (a b c : Line) → b ≡ visited a b.end.server → c ≡ visited b c.end.server → c ≡ visited a c.end.server
line_after a b c p q = q ∙ ap (λ (l : Line). visited l c.end.server) p

-- one of several messages
pub as_said : (ours : List ℕ → Bool) (arrivals : List Arrival) (i : ℕ) (item : Arrival) (bytes : List ℕ) → i < length arrivals → item ≡ slice_index_or arrivals i item → bytes ≡ item.bytes → AreForeign ours arrivals → IsForeign ours (mark_of bytes)
as_said ours arrivals i item bytes less is same all = subst (λ (b : List ℕ). IsForeign ours (mark_of b)) (sym same) (subst (λ (a : Arrival). IsForeign ours (mark_of a.bytes)) (sym is) (all i item less))

-- ---- others were there, and then the bytes are sent

pub sends_among : {T E : Type 0} (v : Visitors) (bytes : List ℕ) (old mid new : Line) (r : Result T E) → mid ≡ visited old mid.end.server → Visits v old.end.server mid.end.server
    → OnOk r (Sends bytes mid new) → OnOk r (Unit {0} → SendsThen v bytes old new)
sends_among v bytes old mid new (Ok sent) there visits sends = λ _. record { mid = mid.end.server; visits = visits; then = subst (λ (l : Line). Sends bytes l new) there sends }
sends_among v bytes old mid new (Err fault) there visits sends = tt

pub feeds_among : {T E : Type 0} (v : Visitors) (bytes : List ℕ) (old mid : Line) (new : Server) (r : Result T E) → mid ≡ visited old mid.end.server → Visits v old.end.server mid.end.server
    → OnErr r (FeedsSome mid.end bytes new) → OnErr r (Unit {0} → SomeThen v old bytes new)
feeds_among v bytes old mid new (Ok sent) there visits feeds = tt
feeds_among v bytes old mid new (Err fault) there visits feeds = λ _. record { mid = mid.end.server; visits = visits; then = subst (λ (l : Line). FeedsSome l.end bytes new) there feeds }
