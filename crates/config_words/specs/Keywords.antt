-- The keywords that words name, and those that begin sections.
use Rattle.std.specs.Prelude.{ℕ, Bool, true, false, ◌||◌, List, [], ◌∷◌, Option, Some, None, is_some, codes, if◌then◌else◌}
use Rattle.std.specs.Str.{str_eq_ignore_ascii_case}
use Rattle.config_words.specs.declared.keyword.FirstWord.{FirstWord}
use Rattle.config_words.specs.declared.keyword.FirstWord.TheVariants.{ImapStore, MaildirStore, Channel, Group, Host, Port, User, Pass, Path, Inbox, SubFolders, Far, Near, Patterns, Sync, Create, Expunge, SyncState, Channels}
use Rattle.config_words.specs.declared.keyword.FirstWord.TheVariants as keyword
use Rattle.config_words.specs.declared.keyword.LinePlace.{LinePlace}
use Rattle.config_words.specs.declared.keyword.LinePlace.TheVariants as place
use Rattle.config_words.specs.Places.{is_section}

-- the section that a keyword begins
abbrev pub section_of : FirstWord → Option LinePlace
section_of ImapStore = Some place.ImapStore
section_of MaildirStore = Some place.MaildirStore
section_of Channel = Some place.Channel
section_of Group = Some place.Group
section_of Host = None
section_of Port = None
section_of User = None
section_of Pass = None
section_of Path = None
section_of Inbox = None
section_of SubFolders = None
section_of Far = None
section_of Near = None
section_of Patterns = None
section_of Sync = None
section_of Create = None
section_of Expunge = None
section_of SyncState = None
section_of keyword.Keyword = None
section_of Channels = None

-- the section that it begins at a place: none within another one
abbrev pub opened_by : LinePlace → FirstWord → Option LinePlace
opened_by place keyword = if is_section place then None else section_of keyword

-- ---- where keywords may stand

-- those that also stand before any section, for all channels
abbrev pub is_default : FirstWord → Bool
is_default Sync = true
is_default Create = true
is_default Expunge = true
is_default SyncState = true
is_default keyword.Keyword = true
is_default _ = false

abbrev pub fits_at : LinePlace → FirstWord → Bool
fits_at place.Start k = is_some (section_of k) || is_default k
fits_at place.Between k = is_some (section_of k)
fits_at place.ImapStore Host = true
fits_at place.ImapStore Port = true
fits_at place.ImapStore User = true
fits_at place.ImapStore Pass = true
fits_at place.ImapStore _ = false
fits_at place.MaildirStore Path = true
fits_at place.MaildirStore Inbox = true
fits_at place.MaildirStore SubFolders = true
fits_at place.MaildirStore _ = false
fits_at place.Channel Far = true
fits_at place.Channel Near = true
fits_at place.Channel Patterns = true
fits_at place.Channel k = is_default k
fits_at place.Group Channels = true
fits_at place.Group _ = false

-- those that may stand in one place any number of times
abbrev pub adds_up : FirstWord → Bool
adds_up Patterns = true
adds_up keyword.Keyword = true
adds_up Channels = true
adds_up _ = false

-- those that a section has to have
abbrev pub required_at : LinePlace → List FirstWord
required_at place.ImapStore = Host ∷ User ∷ Pass ∷ []
required_at place.MaildirStore = Path ∷ []
required_at place.Channel = Far ∷ Near ∷ []
required_at _ = []

-- ---- words, which compare without case

abbrev pub manner_keyword : List ℕ → Option FirstWord
manner_keyword word =
    if str_eq_ignore_ascii_case word (codes "Sync") then Some Sync
    else (if str_eq_ignore_ascii_case word (codes "Create") then Some Create
    else (if str_eq_ignore_ascii_case word (codes "Expunge") then Some Expunge
    else (if str_eq_ignore_ascii_case word (codes "SyncState") then Some SyncState
    else (if str_eq_ignore_ascii_case word (codes "Keyword") then Some keyword.Keyword
    else (if str_eq_ignore_ascii_case word (codes "Channels") then Some Channels else None)))))

abbrev pub setting_keyword : List ℕ → Option FirstWord
setting_keyword word =
    if str_eq_ignore_ascii_case word (codes "Host") then Some Host
    else (if str_eq_ignore_ascii_case word (codes "Port") then Some Port
    else (if str_eq_ignore_ascii_case word (codes "User") then Some User
    else (if str_eq_ignore_ascii_case word (codes "Pass") then Some Pass
    else (if str_eq_ignore_ascii_case word (codes "Path") then Some Path
    else (if str_eq_ignore_ascii_case word (codes "Inbox") then Some Inbox
    else (if str_eq_ignore_ascii_case word (codes "SubFolders") then Some SubFolders
    else (if str_eq_ignore_ascii_case word (codes "Far") then Some Far
    else (if str_eq_ignore_ascii_case word (codes "Near") then Some Near
    else (if str_eq_ignore_ascii_case word (codes "Pattern") || str_eq_ignore_ascii_case word (codes "Patterns") then Some Patterns
    else manner_keyword word)))))))))

abbrev pub section_keyword : List ℕ → Option FirstWord
section_keyword word =
    if str_eq_ignore_ascii_case word (codes "IMAPStore") then Some ImapStore
    else (if str_eq_ignore_ascii_case word (codes "MaildirStore") then Some MaildirStore
    else (if str_eq_ignore_ascii_case word (codes "Channel") then Some Channel
    else (if str_eq_ignore_ascii_case word (codes "Group") then Some Group else None)))

-- the keyword that a word names, one that begins sections or else another one
abbrev pub or_setting : Option FirstWord → List ℕ → Option FirstWord
or_setting (Some k) word = Some k
or_setting None word = setting_keyword word

abbrev pub keyword_named : List ℕ → Option FirstWord
keyword_named word = or_setting (section_keyword word) word

-- what it means at a place: in a group `Channel` adds channels
abbrev pub meant_at : LinePlace → FirstWord → FirstWord
meant_at place.Group Channel = Channels
meant_at _ k = k
