-- How much of a connection a server keeps, at most.
use Rattle.std.specs.Prelude.{◌≤◌, ◌+◌, ◌*◌, ℕ, length, Option, None, Some}
use Rattle.imap_session.specs.Unread.{Kept, Whole, Dropping}

-- the limits of one command: 65536 bytes outside literals, and two literals of 16777238 octets, as in an APPEND whose
-- mailbox is a literal too
abbrev pub most_unread : ℕ
most_unread = 65536 + 2 * 16777238

-- of a line that is dropped no more is kept than its fault and three bytes
abbrev pub IsBounded : Option Kept → Type 0
IsBounded None = Unit {0}
IsBounded (Some (Whole bytes)) = length bytes ≤ most_unread
IsBounded (Some (Dropping fault last)) = Unit {0}
