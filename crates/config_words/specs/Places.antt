-- Where a line of a configuration stands, and which sections its first word begins.
use Rattle.std.specs.Prelude.{ℕ, Bool, true, false, List, [], ◌∷◌, Option, Some, None, codes, if◌then◌else◌}
use Rattle.std.specs.Str.{str_eq_ignore_ascii_case}
use Rattle.config_words.specs.declared.keyword.LinePlace.{LinePlace}
use Rattle.config_words.specs.declared.keyword.LinePlace.TheVariants.{Start, Between, ImapStore, MaildirStore, Channel, Group}

-- whether a section is open here
abbrev pub is_section : LinePlace → Bool
is_section Start = false
is_section Between = false
is_section ImapStore = true
is_section MaildirStore = true
is_section Channel = true
is_section Group = true

-- the place after an empty line, which ends a section
abbrev pub closed : LinePlace → LinePlace
closed Start = Start
closed Between = Between
closed ImapStore = Between
closed MaildirStore = Between
closed Channel = Between
closed Group = Between

-- the section that a word names; keywords compare without case
abbrev pub section_named : List ℕ → Option LinePlace
section_named word =
    if str_eq_ignore_ascii_case word (codes "IMAPStore") then Some ImapStore
    else (if str_eq_ignore_ascii_case word (codes "MaildirStore") then Some MaildirStore
    else (if str_eq_ignore_ascii_case word (codes "Channel") then Some Channel
    else (if str_eq_ignore_ascii_case word (codes "Group") then Some Group else None)))

-- the section that a line with this first word begins: none within another one
abbrev pub opened : LinePlace → List ℕ → Option LinePlace
opened place word = if is_section place then None else section_named word
