-- A connection to a server in memory.
use Rattle.std.specs.Prelude.{ℕ, List, [], Option, None, Some}
use Rattle.imap_session.specs.Unread.{Kept, Whole}
use Rattle.imap_session.specs.Serving.{End}
use Rattle.imap_session.specs.Lines.{Line}
use Rattle.imap_server.specs.Taking.{Host}

-- what is kept of a connection: nothing, where there is none
abbrev pub kept_in : Option Kept → Kept
kept_in None = Whole []
kept_in (Some kept) = kept

-- the server's end
abbrev pub end_at : Host → End
end_at host = record { server = host.server; kept = kept_in host.connection }

-- both ends: what the server has said and nobody has received is on the way
abbrev pub line_at : Host → (unread : List ℕ) → Line
line_at host unread = record { end = end_at host; unseen = unread }
