-- What is unread, as imap_session sees it.
use Rattle.std.specs.Prelude.{◌≡◌, true, ℕ, List, [], ◌++◌}
use Rattle.wire_reader.specs.declared.scanner.Scanner.{Scanner}
use Rattle.wire_reader.specs.Scanning.{start, scanned, NoPlace}
use Rattle.wire_reader.specs.Places.{Opens}
use Rattle.imap_commands.specs.Commands.{Spelled}
use Rattle.imap_session.specs.Portions as portions
use Rattle.imap_session.specs.Servers.{Server, is_over}
use Rattle.imap_session.specs.Unread.{Kept, Whole, Dropping}
use Rattle.imap_session.specs.Serving.{End}
use Rattle.imap_server.specs.declared.fault.LineFault.{LineFault}
use Rattle.imap_server.specs.declared.fault.LineFault.TheVariants as here
use Rattle.imap_server.specs.declared.unread.Unread.{Unread}
use Rattle.imap_server.specs.declared.unread.Unread.TheVariants.{Line, Dropped}

abbrev pub fault_of : LineFault → portions.LineFault
fault_of (here.Syntax tag) = portions.Syntax tag
fault_of (here.LiteralTooLong tag) = portions.LiteralTooLong tag

abbrev pub kept_of : Unread → Kept
kept_of (Line line) = Whole line.bytes.items
kept_of (Dropped line) = Dropping (fault_of line.fault) line.last

-- The bytes were scanned. Up to their last place they open a command.
pub record Waits (bytes : List ℕ) (scanner : Scanner) : Type 0 where
  pub front : List ℕ
  pub since : List ℕ
  pub parts : bytes ≡ front ++ since
  pub opens : Opens Spelled front
  pub no_place : NoPlace front since
  pub scanned_is : scanner ≡ scanned start bytes

abbrev pub AreScanned : Unread → Type 0
AreScanned (Line line) = Waits line.bytes.items line.scanner
AreScanned (Dropped line) = Unit {0}

-- A line that goes on as it should. Where the connection is over, nothing is kept.
pub record IsSound (server : Server) (unread : Unread) : Type 0 where
  pub scanned : AreScanned unread
  pub over : is_over server.condition ≡ true → kept_of unread ≡ Whole []

-- a line of which nothing was read
abbrev pub IsNothing : Unread → Type 0
IsNothing (Line line) = (line.bytes.items ≡ []) × (line.scanner ≡ start)
IsNothing (Dropped line) = ⊥

-- the server's end of its connection
abbrev pub end_of : Server → Unread → End
end_of server unread = record { server = server; kept = kept_of unread }
