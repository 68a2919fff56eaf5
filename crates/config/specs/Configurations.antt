-- What the lines of a text make of a configuration (docs/FORMATS.md, "Configuration").
use Rattle.std.specs.Prelude.{ℕ, ◌≡◌, Bool, true, false, List, [], ◌∷◌, ◌++◌, fold, map, Option, Some, None, unwrap_or, option_and_then, option_to_list, string_bytes, if◌then◌else◌}
use Rattle.config.specs.declared.config.Config.{Config}
use Rattle.config.specs.declared.config.ImapStore.{ImapStore}
use Rattle.config.specs.declared.config.MaildirStore.{MaildirStore}
use Rattle.config.specs.declared.config.Channel.{Channel}
use Rattle.config.specs.declared.config.Group.{Group}
use Rattle.config_words.specs.declared.keyword.LinePlace.{LinePlace}
use Rattle.config_words.specs.declared.keyword.LinePlace.TheVariants as place
use Rattle.config_words.specs.Meanings.{Said}
use Rattle.config_words.specs.Places.{is_section, opened}
use Rattle.config_words.specs.Words.{is_blank, words_of}
use Rattle.config.specs.Sections.{ChannelMeaning, GroupMeaning, ImapMeaning, MaildirMeaning, channel_of, group_of, imap_store_of, line_said, maildir_store_of, place_among, title_in}
use Rattle.texts.specs.Lines.{lines_of}

-- ---- the sections of a text

-- a section: its kind, its name, and what its lines say
pub record Part : Type 0 where
  pub kind : LinePlace
  pub name : List ℕ
  pub says : List Said

-- after some lines: what those before any section say, the sections that have ended, and the one that is open, which is
-- none at the places Start and Between
pub record Parts : Type 0 where
  pub before : List Said
  pub ended : List Part
  pub current : Part

abbrev pub outside : LinePlace → Part
outside place = record { kind = place; name = []; says = [] }

abbrev pub no_parts : Parts
no_parts = record { before = []; ended = []; current = outside place.Start }

-- a line of a section, or one before any
abbrev pub add_at : LinePlace → List Said → Parts → Parts
add_at place.Start says p = record p { before = p.before ++ says }
add_at place.Between says p = p
add_at _ says p = record p { current = record p.current { says = p.current.says ++ says } }

-- a section begins, and its first line names it
abbrev pub begin_at : LinePlace → Option Said → Parts → Parts
begin_at kind s p = record p { current = record { kind = kind; name = unwrap_or (option_and_then title_in s) []; says = option_to_list s } }

abbrev pub said_at : Option LinePlace → Option Said → Parts → Parts
said_at (Some kind) s p = begin_at kind s p
said_at None s p = add_at p.current.kind (option_to_list s) p

abbrev pub parted_words : Option (List ℕ × List ℕ) → Parts → Parts
parted_words None p = p
parted_words (Some words) p = said_at (opened p.current.kind words.0) (line_said p.current.kind words) p

-- the section that is open ends
abbrev pub ended_if : Bool → Parts → Parts
ended_if false p = p
ended_if true p = record { before = p.before; ended = p.ended ++ p.current ∷ []; current = outside place.Between }

abbrev pub ended : Parts → Parts
ended p = ended_if (is_section p.current.kind) p

-- an empty line ends a section
abbrev pub parted : Parts → List ℕ → Parts
parted p line = if is_blank line then ended p else parted_words (words_of line) p

-- ---- what they come to

pub record Meaning : Type 0 where
  pub imap_stores : List ImapMeaning
  pub maildir_stores : List MaildirMeaning
  pub channels : List ChannelMeaning
  pub groups : List GroupMeaning

abbrev pub no_meaning : Meaning
no_meaning = record { imap_stores = []; maildir_stores = []; channels = []; groups = [] }

abbrev pub imap_names : Meaning → List (List ℕ)
imap_names m = map (λ store. store.name) m.imap_stores

abbrev pub maildir_names : Meaning → List (List ℕ)
maildir_names m = map (λ store. store.name) m.maildir_stores

abbrev pub channel_names : Meaning → List (List ℕ)
channel_names m = map (λ channel. channel.name) m.channels

-- a section adds what it says, which for a channel names stores above
abbrev pub added_at : LinePlace → List Said → Meaning → Part → Meaning
added_at place.ImapStore before m s = record m { imap_stores = m.imap_stores ++ imap_store_of s.name s.says ∷ [] }
added_at place.MaildirStore before m s = record m { maildir_stores = m.maildir_stores ++ maildir_store_of s.name s.says ∷ [] }
added_at place.Channel before m s = record m { channels = m.channels ++ channel_of (imap_names m) (maildir_names m) before s.name s.says ∷ [] }
added_at place.Group before m s = record m { groups = m.groups ++ group_of s.name s.says ∷ [] }
added_at _ before m s = m

abbrev pub with_section : List Said → Meaning → Part → Meaning
with_section before m s = added_at s.kind before m s

abbrev pub meaning_of : Parts → Meaning
meaning_of p = fold (with_section p.before) no_meaning p.ended

-- what a text means: its last section ends with it
abbrev pub text_meaning : List ℕ → Meaning
text_meaning text = meaning_of (ended (fold parted no_parts (lines_of text)))

-- ---- a configuration as values

abbrev pub imap_value : ImapStore → ImapMeaning
imap_value s = record {
  name = string_bytes s.name;
  host = Some (string_bytes s.host);
  port = s.port;
  user = Some (string_bytes s.user);
  pass = Some (string_bytes s.pass);
}

abbrev pub maildir_value : MaildirStore → MaildirMeaning
maildir_value s = record { name = string_bytes s.name; path = Some (string_bytes s.path); inbox = string_bytes s.inbox }

abbrev pub channel_value : Channel → ChannelMeaning
channel_value c = record {
  name = string_bytes c.name;
  far = Some c.far;
  near = Some c.near;
  boxes = c.boxes;
  cells = c.cells;
  create = c.create;
  expunge = c.expunge;
  keywords = c.keywords;
}

-- a group by the places of its channels among all channels, from 0; none for a name that no channel has
pub record GroupPlaces : Type 0 where
  pub name : List ℕ
  pub channels : List (Option ℕ)

abbrev pub placed : List (List ℕ) → GroupMeaning → GroupPlaces
placed names g = record { name = g.name; channels = map (place_among names) g.channels }

abbrev pub group_value : Group → GroupPlaces
group_value g = record { name = string_bytes g.name; channels = map Some g.channels.items }

-- a configuration has just these stores, channels and groups, and each group just its channels
pub record Means (m : Meaning) (config : Config) : Type 0 where
  pub imap_stores : map imap_value config.imap_stores.items ≡ m.imap_stores
  pub maildir_stores : map maildir_value config.maildir_stores.items ≡ m.maildir_stores
  pub channels : map channel_value config.channels.items ≡ m.channels
  pub groups : map group_value config.groups.items ≡ map (placed (channel_names m)) m.groups
