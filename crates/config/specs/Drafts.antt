-- A configuration while it is read, as clauses see it.
use Rattle.std.specs.Prelude.{ℕ, ◌≡◌, Bool, true, false, not, ◌&&◌, List, [], All, Contains, map, string_bytes, Option, Some, None, Result, Ok, Err, if◌then◌else◌}
use Rattle.mailcore.specs.declared.keywords.Keyword as mail
use Rattle.config.specs.declared.draft.Draft.{Draft}
use Rattle.config_words.specs.declared.keyword.FirstWord.{FirstWord}
use Rattle.config_words.specs.declared.keyword.LinePlace.{LinePlace}
use Rattle.config_words.specs.declared.keyword.LinePlace.TheVariants as place
use Rattle.config_words.specs.declared.fault.FaultKind.{FaultKind}
use Rattle.config_words.specs.declared.fault.FaultKind.TheVariants.{OutsideSection, KeywordTwice, DefinedTwice, KeywordGiven, NoMemory}
use Rattle.config.specs.declared.section.Section.{Section}
use Rattle.config.specs.declared.section.Section.TheVariants.{Start, Between, ImapStore, MaildirStore, Channel, Group}
use Rattle.config_words.specs.Keywords.{adds_up, fits_at, required_at}
use Rattle.config_words.specs.Settings.{name_given}
use Rattle.config.specs.Standing.{Standing, keyword_again, with_keyword_at, name_again, named, standing_at}
use Rattle.config_words.specs.Words.{arguments_of, is_plain}

abbrev pub place_of : Section → LinePlace
place_of Start = place.Start
place_of Between = place.Between
place_of (ImapStore draft) = place.ImapStore
place_of (MaildirStore draft) = place.MaildirStore
place_of (Channel draft) = place.Channel
place_of (Group draft) = place.Group

-- the keywords of the channel that is open
abbrev pub own_of : Section → List mail.Keyword
own_of (Channel draft) = draft.manner.keywords
own_of _ = []

abbrev pub standing_of : Draft → Standing
standing_of d = record {
  at = place_of d.section;
  imap_stores = map string_bytes d.imap_names.items;
  maildir_stores = map string_bytes d.maildir_names.items;
  channels_and_groups = map string_bytes d.names.items;
  before = d.defaults.keywords;
  own = own_of d.section;
}

-- the section that is open has lines with each keyword that it has to have
abbrev pub HasRequired : Draft → Type 0
HasRequired d = All (Contains d.seen.items) (required_at (place_of d.section))

-- a line is taken, or refused: as one that says something again exactly where it does, and always with this after it; where memory
-- ran out nothing is said
abbrev pub IsTaken : {A : Type 0} (again : Option FaultKind) (following found : A) → Result (Unit {0}) FaultKind → Type 0
IsTaken again following found (Ok done) = (again ≡ None) × (found ≡ following)
IsTaken again following found (Err DefinedTwice) = (again ≡ Some DefinedTwice) × (found ≡ following)
IsTaken again following found (Err KeywordGiven) = (again ≡ Some KeywordGiven) × (found ≡ following)
IsTaken again following found (Err NoMemory) = Unit {0}
IsTaken again following found (Err _) = (again ≡ None) × (found ≡ following)

-- a keyword may not stand at a place, or may not stand there twice
abbrev pub IsMisplaced : LinePlace → FirstWord → FaultKind → Type 0
IsMisplaced at k OutsideSection = fits_at at k ≡ false
IsMisplaced at k KeywordTwice = adds_up k ≡ false
IsMisplaced at k _ = ⊥

-- a keyword is met where no section is open: one that it begins is open after it
abbrev pub IsMetOutside : FirstWord → Option LinePlace → (old new : Standing) → Option FaultKind → Type 0
IsMetOutside k None old new None = new ≡ old
IsMetOutside k None old new (Some fault) = IsMisplaced old.at k fault × (new ≡ old)
IsMetOutside k (Some p) old new None = new ≡ standing_at p old
IsMetOutside k (Some p) old new (Some fault) = ⊥

-- and within a section, where none begins
abbrev pub IsMetWithin : FirstWord → Option LinePlace → (old new : Standing) → Option FaultKind → Type 0
IsMetWithin k None old new None = new ≡ old
IsMetWithin k None old new (Some fault) = IsMisplaced old.at k fault × (new ≡ old)
IsMetWithin k (Some p) old new None = ⊥
IsMetWithin k (Some p) old new (Some fault) = IsMisplaced old.at k fault × (new ≡ old)

abbrev pub IsMet : (within : Bool) → FirstWord → Option LinePlace → (old new : Standing) → Option FaultKind → Type 0
IsMet false k section old new fault = IsMetOutside k section old new fault
IsMet true k section old new fault = IsMetWithin k section old new fault

-- the name that a section's first line gives, unless its keyword is misplaced
abbrev pub given : Option FaultKind → Option LinePlace → List ℕ → Option (List ℕ)
given (Some fault) section text = None
given None section text =
    if is_plain text && not (arguments_of text).quoted then name_given section (arguments_of text).list else None

-- nor does a misplaced one give a keyword
abbrev pub unless_misplaced : Option FaultKind → Option mail.Keyword → Option mail.Keyword
unless_misplaced (Some fault) keyword = None
unless_misplaced None keyword = keyword

-- after a line that names its section, or else gives a keyword
abbrev pub entered : (name : Option (List ℕ)) → Option mail.Keyword → Standing → Standing
entered (Some name) keyword s = named (Some name) s
entered None keyword s = with_keyword_at s.at keyword s

abbrev pub entered_again : (name : Option (List ℕ)) → Option mail.Keyword → Standing → Option FaultKind
entered_again (Some name) keyword s = name_again (Some name) s
entered_again None keyword s = keyword_again s.at keyword s
