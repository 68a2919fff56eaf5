-- A link in memory as a connection.
use Rattle.std.specs.Prelude.{ℕ}
use Rattle.imap_session.specs.Lines.{Line}
use Rattle.mem_link.specs.declared.mem_link.MemLink.{MemLink}
use Rattle.mem_link.specs.MemLines.{line_at}

abbrev pub line_of : MemLink → Line
line_of m = line_at m.server m.unread

-- how many of its calls have stopped
abbrev pub stops_of : MemLink → ℕ
stops_of m = m.stops
