-- Patterns of LIST commands (RFC 9051, section 9: list-mailbox; in the profile a quoted string).
use Rattle.std.specs.Prelude.{◌≡◌, ℕ, true, List}
use Rattle.std.specs.List.{list_all}
use Rattle.wire_strings.specs.Texts.{is_text}

-- bytes that may stand in a quoted string
abbrev pub IsPattern : List ℕ → Type 0
IsPattern bytes = list_all is_text bytes ≡ true
