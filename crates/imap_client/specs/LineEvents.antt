-- What a link asks of its connection to a server, and the line as it stands after each call.
use Rattle.std.specs.Prelude.{ℕ, zero, suc, List, [], ◌∷◌, ◌++◌}
use Rattle.imap_session.specs.Servers.{Quiet}
use Rattle.imap_session.specs.Lines.{Line, Receives, Starts}
use Rattle.imap_link.specs.Sending.{SendsThen, SomeThen, anybody}
use Rattle.imap_link.specs.Soundness.{AreSound}
use Rattle.imap_client.specs.Nowhere.{no_line}
use Rattle.imap_client.specs.declared.line_record.LineCall.{LineCall}
use Rattle.imap_client.specs.declared.line_record.LineCall.TheVariants.{Begun, Written, Sent, Unsent, Received, Unreceived, Connected, Unconnected}

-- a call, with the bytes that were handed to the system, or that came
pub record LineEvent : Type 0 where
  pub call : LineCall
  pub bytes : List ℕ

-- the bytes that were handed to the system since the message to the server began
abbrev pub handed_by : LineCall → (bytes before : List ℕ) → List ℕ
handed_by Begun bytes before = []
handed_by Written bytes before = before ++ bytes
handed_by Sent bytes before = []
handed_by Unsent bytes before = []
handed_by Received bytes before = []
handed_by Unreceived bytes before = []
handed_by Connected bytes before = []
handed_by Unconnected bytes before = []

abbrev pub handed : List LineEvent → List ℕ
handed [] = []
handed (event ∷ earlier) = handed_by event.call event.bytes (handed earlier)

-- how many calls have ended: to begin a message and to write pieces of it is a part of the call that sends it
abbrev pub ended_by : LineCall → ℕ → ℕ
ended_by Begun n = n
ended_by Written n = n
ended_by Sent n = suc n
ended_by Unsent n = suc n
ended_by Received n = suc n
ended_by Unreceived n = suc n
ended_by Connected n = suc n
ended_by Unconnected n = suc n

abbrev pub ended : List LineEvent → ℕ
ended [] = zero
ended (event ∷ earlier) = ended_by event.call (ended earlier)

-- the line as it was at first, or after so many calls that have ended
abbrev pub line_at : List Line → ℕ → Line
line_at [] n = no_line
line_at (line ∷ lines) zero = line
line_at (line ∷ lines) (suc n) = line_at lines n

-- what a call does to a line to a server, beside which others may add messages
abbrev pub Turns : LineCall → (bytes handed : List ℕ) → (old new : Line) → Type 0
Turns Begun bytes handed old new = Unit {0}
Turns Written bytes handed old new = Unit {0}
Turns Sent bytes handed old new = SendsThen anybody handed old new
Turns Unsent bytes handed old new = SomeThen anybody old handed new.end.server
Turns Received bytes handed old new = Receives bytes old new
Turns Unreceived bytes handed old new = Quiet old.end.server new.end.server
Turns Connected bytes handed old new = Starts old new
Turns Unconnected bytes handed old new = Quiet old.end.server new.end.server

-- each call did so
abbrev pub Follow : (lines : List Line) → List LineEvent → Type 0
Follow lines [] = Unit {0}
Follow lines (event ∷ earlier) =
    Follow lines earlier × Turns event.call event.bytes (handed earlier) (line_at lines (ended earlier)) (line_at lines (suc (ended earlier)))

-- The answers were those of a connection to a server whose mailboxes are mailboxes (docs/SESSION.md, "Both ends").
pub record IsHonest (lines : List Line) (events : List LineEvent) : Type 0 where
  pub sound : (n : ℕ) → AreSound (line_at lines n).end.server.mailboxes
  pub follow : Follow lines events
