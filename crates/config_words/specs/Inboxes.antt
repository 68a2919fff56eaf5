-- INBOX, the one name of a mailbox that compares without case (RFC 9051, section 5.1).
use Rattle.std.specs.Prelude.{ℕ, Bool, List, codes}
use Rattle.std.specs.Str.{str_eq_ignore_ascii_case}

-- a name that means INBOX, in whatever spelling
abbrev pub is_inbox : List ℕ → Bool
is_inbox name = str_eq_ignore_ascii_case name (codes "INBOX")
