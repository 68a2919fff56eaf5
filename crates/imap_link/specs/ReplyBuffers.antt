-- A buffer of replies.
use Rattle.std.specs.Prelude.{◌≡◌, ◌-◌, ℕ, List, [], ◌++◌, length, take, drop, Result, Ok, Err}
use Rattle.wire_reader.specs.declared.answer.Read.{Read}
use Rattle.wire_reader.specs.declared.answer.Read.TheVariants.{Whole, WantsLiteral, Partial}
use Rattle.wire_reader.specs.declared.answer.WireFault.{WireFault}

-- the bytes of the replies that were read and not dropped, and those that follow them
pub record Buffer : Type 0 where
  pub read : List ℕ
  pub unread : List ℕ

abbrev pub empty : Buffer
empty = record { read = []; unread = [] }

-- all that is kept
abbrev pub held_in : Buffer → List ℕ
held_in b = b.read ++ b.unread

-- so many bytes at the end of what was read were dropped
abbrev pub drops_last : ℕ → Buffer → Buffer
drops_last len b = record { read = take (length b.read - len) b.read; unread = b.unread }

-- so many bytes more were read
abbrev pub reads : ℕ → Buffer → Buffer
reads len b = record { read = b.read ++ take len b.unread; unread = drop len b.unread }

-- The bytes of a whole reply are read then; otherwise nothing changes.
abbrev pub Moves : {T : Type 0} → Result (Read T) WireFault → (old new : Buffer) → Type 0
Moves (Ok (Whole reply len)) old new = new ≡ reads len old
Moves (Ok (WantsLiteral n)) old new = new ≡ old
Moves (Ok Partial) old new = new ≡ old
Moves (Err fault) old new = new ≡ old
