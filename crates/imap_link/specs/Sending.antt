-- What a link sends. Nobody sees what others do but by commands, so it stands before the bytes that the server reads next.
use Rattle.std.specs.Prelude.{ℕ, true, false, List}
use Rattle.mailcore.specs.Visitors.{Visitors}
use Rattle.imap_session.specs.Servers.{Server}
use Rattle.imap_session.specs.Serving.{FeedsSome}
use Rattle.imap_session.specs.Lines.{Line, Sends}
use Rattle.imap_session.specs.Visits.{Visits}

-- the line, where this is the server
abbrev pub visited : Line → Server → Line
visited line server = record line { end = record line.end { server = server } }

-- others were there, and then this is so of the line
pub record AfterVisits (v : Visitors) (P : Line → Type 0) (old : Line) : Type 0 where
  pub mid : Server
  pub visits : Visits v old.end.server mid
  pub then : P (visited old mid)

-- others were there, and then a beginning of the bytes was read, and answered
abbrev pub SendsThen : Visitors → (bytes : List ℕ) → (old new : Line) → Type 0
SendsThen v bytes old new = AfterVisits v (λ line. Sends bytes line new) old

-- others were there, and then some of the bytes were read, and the connection is no more
abbrev pub SomeThen : Visitors → Line → (bytes : List ℕ) → (new : Server) → Type 0
SomeThen v old bytes new = AfterVisits v (λ line. FeedsSome line.end bytes new) old

-- ---- who may be there

-- no others
abbrev pub nobody : Visitors
nobody = record { ours = λ mark. true; alone = true }

-- any others, who write no mark
abbrev pub anybody : Visitors
anybody = record { ours = λ mark. true; alone = false }
