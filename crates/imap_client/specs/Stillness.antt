-- An idle connection, described by values alone.
use Rattle.std.specs.Prelude.{◌≡◌, Bool, true, false, [], ◌∷◌}
use Rattle.imap_session.specs.Servers.{is_over}
use Rattle.imap_session.specs.Unread.{Kept, Whole, Dropping}
use Rattle.imap_session.specs.Ends.{Ends}

abbrev pub keeps_none : Kept → Bool
keeps_none (Whole []) = true
keeps_none (Whole (b ∷ bytes)) = false
keeps_none (Dropping fault last) = false

-- the server reads on, has read no part of a command, and nothing is on the way
abbrev pub IsStill : Ends → Type 0
IsStill ends = (is_over ends.end.server.condition ≡ false) × (keeps_none ends.end.kept ≡ true) × (ends.coming ≡ [])
