-- What is known after some lines of a configuration: where the next line stands, the names of the sections so far, and the keywords
-- that were given.
use Rattle.std.specs.Prelude.{ℕ, ◌+◌, fold, not, ◌&&◌, List, [], ◌∷◌, ◌++◌, Option, Some, None, option_and_then, if◌then◌else◌}
use Rattle.mailcore.specs.declared.keywords.Keyword as mail
use Rattle.mailcore.specs.declared.keywords.KeywordFault.{KeywordFault}
use Rattle.mailcore.specs.declared.keywords.KeywordFault.TheVariants.{Repeated}
use Rattle.mailcore.specs.KeywordNames.{keyword_refused, with_keyword}
use Rattle.config_words.specs.declared.fault.ConfigFault.{ConfigFault}
use Rattle.config_words.specs.declared.fault.FaultKind.{FaultKind}
use Rattle.config_words.specs.declared.fault.FaultKind.TheVariants.{DefinedTwice, KeywordGiven}
use Rattle.config_words.specs.declared.keyword.LinePlace.{LinePlace}
use Rattle.config_words.specs.declared.keyword.LinePlace.TheVariants.{Start, ImapStore, MaildirStore, Channel}
use Rattle.config_words.specs.Meanings.{Said}
use Rattle.config.specs.Names.{is_taken}
use Rattle.config_words.specs.Places.{opened, closed}
use Rattle.config_words.specs.Settings.{name_given}
use Rattle.config_words.specs.Words.{arguments_of, is_blank, is_plain, words_of}
use Rattle.config.specs.Sections.{keyword_in, line_said}
use Rattle.texts.specs.Lines.{lines_of}

-- IMAP stores and Maildir stores have their names apart; channels and groups share theirs. Keywords are given before any section, or in
-- the channel that is open
pub record Standing : Type 0 where
  pub at : LinePlace
  pub imap_stores : List (List ℕ)
  pub maildir_stores : List (List ℕ)
  pub channels_and_groups : List (List ℕ)
  pub before : List mail.Keyword
  pub own : List mail.Keyword

abbrev pub before_all : Standing
before_all = record { at = Start; imap_stores = []; maildir_stores = []; channels_and_groups = []; before = []; own = [] }

-- where a section begins or ends
abbrev pub standing_at : LinePlace → Standing → Standing
standing_at place s = record s { at = place; own = [] }

-- the names that a section at this place may not have
abbrev pub names_at : LinePlace → Standing → List (List ℕ)
names_at ImapStore s = s.imap_stores
names_at MaildirStore s = s.maildir_stores
names_at _ s = s.channels_and_groups

abbrev pub with_name : LinePlace → List ℕ → Standing → Standing
with_name ImapStore name s = record s { imap_stores = s.imap_stores ++ name ∷ [] }
with_name MaildirStore name s = record s { maildir_stores = s.maildir_stores ++ name ∷ [] }
with_name _ name s = record s { channels_and_groups = s.channels_and_groups ++ name ∷ [] }

-- after a section's first line that gives this name, or none
abbrev pub named : Option (List ℕ) → Standing → Standing
named None s = s
named (Some name) s = if is_taken name (names_at s.at s) then s else with_name s.at name s

-- the fault of that line where the name is another's
abbrev pub name_again : Option (List ℕ) → Standing → Option FaultKind
name_again None s = None
name_again (Some name) s = if is_taken name (names_at s.at s) then Some DefinedTwice else None

-- the name that the text after a section's keyword gives; a faulty one gives none
abbrev pub name_of : LinePlace → List ℕ → Option (List ℕ)
name_of place text =
    if is_plain text && not (arguments_of text).quoted then name_given (Some place) (arguments_of text).list else None

-- ---- keywords

-- a keyword joins those that were given before it, unless it is refused
abbrev pub unless_refused : Option KeywordFault → mail.Keyword → List mail.Keyword → List mail.Keyword
unless_refused None k keywords = with_keyword k keywords
unless_refused (Some fault) k keywords = keywords

abbrev pub joined : Option mail.Keyword → List mail.Keyword → List mail.Keyword
joined None keywords = keywords
joined (Some k) keywords = unless_refused (keyword_refused k.letter k.name keywords) k keywords

-- the fault of its line where one of them has its letter or its name
abbrev pub if_repeated : Option KeywordFault → Option FaultKind
if_repeated (Some Repeated) = Some KeywordGiven
if_repeated _ = None

abbrev pub joined_again : Option mail.Keyword → List mail.Keyword → Option FaultKind
joined_again None keywords = None
joined_again (Some k) keywords = if_repeated (keyword_refused k.letter k.name keywords)

-- after a line at this place that gives this keyword, or none: keywords of other places are others
abbrev pub with_keyword_at : LinePlace → Option mail.Keyword → Standing → Standing
with_keyword_at Start keyword s = record s { before = joined keyword s.before }
with_keyword_at Channel keyword s = record s { own = joined keyword s.own }
with_keyword_at _ keyword s = s

abbrev pub keyword_again : LinePlace → Option mail.Keyword → Standing → Option FaultKind
keyword_again Start keyword s = joined_again keyword s.before
keyword_again Channel keyword s = joined_again keyword s.own
keyword_again _ keyword s = None

-- the keyword that a line with this text gives; a faulty text gives none
abbrev pub keyword_from : Option Said → List ℕ → Option mail.Keyword
keyword_from says text = if is_plain text && not (arguments_of text).quoted then option_and_then keyword_in says else None

abbrev pub keyword_at : LinePlace → List ℕ × List ℕ → Option mail.Keyword
keyword_at place words = keyword_from (line_said place words) words.1

-- ---- lines

-- a section that begins with this text after its keyword, or else a keyword that is given
abbrev pub begun : Option LinePlace → Option mail.Keyword → List ℕ → Standing → Standing
begun None keyword text s = with_keyword_at s.at keyword s
begun (Some place) keyword text s = named (name_of place text) (standing_at place s)

abbrev pub begins_again : Option LinePlace → Option mail.Keyword → List ℕ → Standing → Option FaultKind
begins_again None keyword text s = keyword_again s.at keyword s
begins_again (Some place) keyword text s = name_again (name_of place text) (standing_at place s)

abbrev pub after_words : Option (List ℕ × List ℕ) → Standing → Standing
after_words None s = s
after_words (Some words) s = begun (opened s.at words.0) (keyword_at s.at words) words.1 s

-- the fault of a line that says again what stands above it
abbrev pub words_again : Option (List ℕ × List ℕ) → Standing → Option FaultKind
words_again None s = None
words_again (Some words) s = begins_again (opened s.at words.0) (keyword_at s.at words) words.1 s

-- an empty line ends a section
abbrev pub after_line : List ℕ → Standing → Standing
after_line line s = if is_blank line then standing_at (closed s.at) s else after_words (words_of line) s

abbrev pub line_again : List ℕ → Standing → Option FaultKind
line_again line s = if is_blank line then None else words_again (words_of line) s

-- ---- a whole text

-- how many lines there are so far, what is known after them, and the faults of those that say again what stands above them
pub record Outline : Type 0 where
  pub count : ℕ
  pub standing : Standing
  pub again : List ConfigFault

abbrev pub no_lines : Outline
no_lines = record { count = 0; standing = before_all; again = [] }

-- with the fault of a line, if it has one
abbrev pub with_fault : List ConfigFault → (line : ℕ) → Option FaultKind → List ConfigFault
with_fault faults line None = faults
with_fault faults line (Some kind) = faults ++ record { line = line; kind = kind } ∷ []

abbrev pub outlined : Outline → List ℕ → Outline
outlined o line = record {
  count = o.count + 1;
  standing = after_line line o.standing;
  again = with_fault o.again (o.count + 1) (line_again line o.standing);
}

-- the faults of those lines of a text, from 1, that begin a section under a name that a section above them has, or give a letter or a
-- name that a line above them gives in the same place
abbrev pub faults_again : List ℕ → List ConfigFault
faults_again text = (fold outlined no_lines (lines_of text)).again
