-- A record of what a link asks of its connection, as contracts name it.
use Rattle.std.specs.Prelude.{◌≡◌, ℕ, List, [], ◌∷◌, ◌++◌}
use Rattle.imap_session.specs.Lines.{Line}
use Rattle.imap_client.specs.declared.line_record.LineCall.{LineCall}
use Rattle.imap_client.specs.declared.line_record.LineCall.TheVariants.{Begun}
use Rattle.imap_client.specs.declared.line_record.LineRecord.{LineRecord}
use Rattle.imap_client.specs.LineEvents.{IsHonest, ended, handed, line_at}

-- the connection has behaved as specified so far
abbrev pub Behaved : LineRecord → Type 0
Behaved r = IsHonest r.lines r.events

-- the line after the last call that has ended
abbrev pub line_now : LineRecord → Line
line_now r = line_at r.lines (ended r.events)

-- one call more was noted
abbrev pub noted : LineCall → List ℕ → LineRecord → LineRecord
noted call bytes r = record r { events = record { call = call; bytes = bytes } ∷ r.events }

-- a message to the server has begun
abbrev pub begun : LineRecord → LineRecord
begun r = noted Begun [] r

-- these bytes more were handed to the system, and no call has ended
pub record Hands (bytes : List ℕ) (old new : LineRecord) : Type 0 where
  pub lines : new.lines ≡ old.lines
  pub ended : ended new.events ≡ ended old.events
  pub handed : handed new.events ≡ handed old.events ++ bytes
  pub was_honest : Behaved new → Behaved old

-- so it is of a beginning of these bytes
pub record HandsSome (bytes : List ℕ) (old new : LineRecord) : Type 0 where
  pub some : List ℕ
  pub others : List ℕ
  pub split : bytes ≡ some ++ others
  pub hands : Hands some old new
