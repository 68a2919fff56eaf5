-- Bytes of which none was read.
use Rattle.std.proofs.Common.{ℕ, List, [], ◌++◌, refl}
use Rattle.mailcore.specs.Visitors.{Visitors}
use Rattle.imap_session.specs.Serving.{End, FeedsSome, ServesSome}
use Rattle.imap_session.specs.Servers.{Server}
use Rattle.imap_session.specs.Lines.{Line}
use Rattle.imap_session.proofs.Visiting.{nobody_visits}
use Rattle.imap_link.specs.Sending.{SomeThen}

serves_none : (s : Server) (stream : List ℕ) → ServesSome s stream s
serves_none s stream = record { replies = []; rest = stream; runs = record { portions = []; read = refl; served = (refl, refl) } }

pub nothing_fed : (end : End) (piece : List ℕ) → FeedsSome end piece end.server
nothing_fed end piece = record { from = λ unread said holds. serves_none end.server (unread ++ piece) }

pub nothing_sent : (v : Visitors) (line : Line) (bytes : List ℕ) → SomeThen v line bytes line.end.server
nothing_sent v line bytes = record { mid = line.end.server; visits = nobody_visits v line.end.server; then = nothing_fed line.end bytes }
