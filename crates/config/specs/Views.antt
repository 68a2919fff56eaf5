-- What a draft holds, as values: what each line changes of it, and what lines make of it.
use Rattle.std.specs.Prelude.{ℕ, Bool, true, false, not, ◌&&◌, ◌||◌, ◌≡◌, ◌⊎◌, List, [], ◌∷◌, ◌++◌, map, flat_map, string_bytes, Option, Some, None, is_some, option_map, option_and_then, unwrap_or, codes}
use Rattle.std.specs.Option.{option_or}
use Rattle.mailcore.specs.declared.keywords.Keyword as mail
use Rattle.rules.specs.declared.options.Cells.{Cells}
use Rattle.rules.specs.declared.options.Sides.{Sides}
use Rattle.config.specs.declared.config.ImapStore as store
use Rattle.config.specs.declared.config.MaildirStore as folder
use Rattle.config.specs.declared.config.Channel as chan
use Rattle.config.specs.declared.config.Config.{Config}
use Rattle.config.specs.declared.draft.Draft.{Draft}
use Rattle.config.specs.declared.section.ImapDraft.{ImapDraft}
use Rattle.config.specs.declared.section.MaildirDraft.{MaildirDraft}
use Rattle.config.specs.declared.section.ChannelDraft.{ChannelDraft}
use Rattle.config.specs.declared.section.Manner.{Manner}
use Rattle.config.specs.declared.section.Section.{Section}
use Rattle.config.specs.declared.section.Section.TheVariants.{Start, Between, ImapStore, MaildirStore, Channel, Group}
use Rattle.config_words.specs.declared.keyword.LinePlace.{LinePlace}
use Rattle.config_words.specs.declared.keyword.LinePlace.TheVariants as place
use Rattle.config_words.specs.Meanings.{Said, SectionIs, GroupIs, FarIs, NearIs, PatternsAre, ChannelsAre}
use Rattle.config.specs.Named.{group_named, member_name}
use Rattle.config.specs.Configurations.{Meaning, Parts, channel_names, channel_value, group_value, imap_names, imap_value, maildir_names, maildir_value, meaning_of, placed}
use Rattle.config.specs.Sections.{ChannelMeaning, GroupMeaning, ImapMeaning, MaildirMeaning, also_given, boxes_of, cells_in, channels_in, create_in, everything, expunge_in, far_in, host_in, imap_store_of, inbox_in, keywords_of, near_in, neither, own_or, pass_in, path_in, patterns_in, place_among, port_in, store_at, the, user_in}

-- ---- IMAP stores, without their names

abbrev pub imap_view : ImapDraft → ImapMeaning
imap_view d = record {
  name = [];
  host = option_map string_bytes d.host;
  port = d.port;
  user = option_map string_bytes d.user;
  pass = option_map string_bytes d.pass;
}

abbrev pub imap_with : Said → ImapMeaning → ImapMeaning
imap_with s m = record {
  name = m.name;
  host = option_or (host_in s) m.host;
  port = unwrap_or (port_in s) m.port;
  user = option_or (user_in s) m.user;
  pass = option_or (pass_in s) m.pass;
}

-- ---- Maildir stores

-- the folder of INBOX is kept as none until the section ends
pub record MaildirView : Type 0 where
  pub path : Option (List ℕ)
  pub inbox : Option (List ℕ)

abbrev pub maildir_view : MaildirDraft → MaildirView
maildir_view d = record { path = option_map string_bytes d.path; inbox = option_map string_bytes d.inbox }

abbrev pub maildir_with : Said → MaildirView → MaildirView
maildir_with s m = record { path = option_or (path_in s) m.path; inbox = option_or (inbox_in s) m.inbox }

abbrev pub maildir_said : List Said → MaildirView
maildir_said says = record { path = the path_in says; inbox = the inbox_in says }

-- ---- how mailboxes are synchronised

pub record MannerView : Type 0 where
  pub cells : Option Cells
  pub create : Option Sides
  pub expunge : Option Sides
  pub keywords : List mail.Keyword

abbrev pub manner_view : Manner → MannerView
manner_view m = record { cells = m.cells; create = m.create; expunge = m.expunge; keywords = m.keywords }

abbrev pub manner_with : Said → MannerView → MannerView
manner_with s m = record {
  cells = option_or (cells_in s) m.cells;
  create = option_or (create_in s) m.create;
  expunge = option_or (expunge_in s) m.expunge;
  keywords = also_given m.keywords s;
}

abbrev pub manner_said : List Said → MannerView
manner_said says =
    record { cells = the cells_in says; create = the create_in says; expunge = the expunge_in says; keywords = keywords_of says }

-- ---- channels

pub record ChannelView : Type 0 where
  pub far : Option ℕ
  pub far_box : Option (List ℕ)
  pub near : Option ℕ
  pub near_box : Option (List ℕ)
  pub patterns : List (List ℕ)
  pub manner : MannerView

abbrev pub channel_view : ChannelDraft → ChannelView
channel_view d = record { far = d.far; far_box = d.far_box; near = d.near; near_box = d.near_box; patterns = d.patterns; manner = manner_view d.manner }

-- but for its stores
abbrev pub channel_with : Said → ChannelView → ChannelView
channel_with s c = record {
  far = c.far;
  far_box = c.far_box;
  near = c.near;
  near_box = c.near_box;
  patterns = c.patterns ++ patterns_in s;
  manner = manner_with s c.manner;
}

abbrev pub channel_said : (imap_stores maildir_stores : List (List ℕ)) → List Said → ChannelView
channel_said imap_stores maildir_stores says = record {
  far = store_at imap_stores (the far_in says);
  far_box = option_and_then (λ p. p.1) (the far_in says);
  near = store_at maildir_stores (the near_in says);
  near_box = option_and_then (λ p. p.1) (the near_in says);
  patterns = flat_map patterns_in says;
  manner = manner_said says;
}

-- the channel that a section comes to
abbrev pub channel_ended : List ℕ → MannerView → ChannelView → ChannelMeaning
channel_ended name before c = record {
  name = name;
  far = c.far;
  near = c.near;
  boxes = boxes_of c.patterns (unwrap_or c.far_box (codes "INBOX")) (unwrap_or c.near_box (codes "INBOX"));
  cells = unwrap_or (option_or c.manner.cells before.cells) everything;
  create = unwrap_or (option_or c.manner.create before.create) neither;
  expunge = unwrap_or (option_or c.manner.expunge before.expunge) neither;
  keywords = own_or c.manner.keywords before.keywords;
}

-- ---- what a section comes to, unless it lacks what it has to have

abbrev pub IsStoreOf : List ℕ → ImapMeaning → Option store.ImapStore → Type 0
IsStoreOf name m None = (m.host ≡ None) ⊎ ((m.user ≡ None) ⊎ (m.pass ≡ None))
IsStoreOf name m (Some store) = imap_value store ≡ record m { name = name }

abbrev pub maildir_ended : List ℕ → MaildirView → MaildirMeaning
maildir_ended name m = record { name = name; path = m.path; inbox = unwrap_or m.inbox (codes "~/Maildir") }

abbrev pub IsMaildirOf : List ℕ → MaildirView → Option folder.MaildirStore → Type 0
IsMaildirOf name m None = m.path ≡ None
IsMaildirOf name m (Some store) = maildir_value store ≡ maildir_ended name m

abbrev pub IsChannelOf : ChannelMeaning → Option chan.Channel → Type 0
IsChannelOf m None = (m.far ≡ None) ⊎ (m.near ≡ None)
IsChannelOf m (Some channel) = channel_value channel ≡ m

-- ---- sections

pub data Sketch : Type 0 where
  AtStart : Sketch
  AtImapStore : ImapMeaning → Sketch
  AtMaildirStore : MaildirView → Sketch
  AtChannel : ChannelView → Sketch
  AtGroup : List (List ℕ) → Sketch
  AtBetween : Sketch

abbrev pub sketch : Section → Sketch
sketch Start = AtStart
sketch (ImapStore draft) = AtImapStore (imap_view draft)
sketch (MaildirStore draft) = AtMaildirStore (maildir_view draft)
sketch (Channel draft) = AtChannel (channel_view draft)
sketch (Group draft) = AtGroup (map member_name draft.members.items)
sketch Between = AtBetween

abbrev pub sketch_with : Said → Sketch → Sketch
sketch_with s AtStart = AtStart
sketch_with s (AtImapStore m) = AtImapStore (imap_with s m)
sketch_with s (AtMaildirStore m) = AtMaildirStore (maildir_with s m)
sketch_with s (AtChannel c) = AtChannel (channel_with s c)
sketch_with s (AtGroup channels) = AtGroup channels
sketch_with s AtBetween = AtBetween

abbrev pub is_empty : {A : Type 0} → List A → Bool
is_empty [] = true
is_empty (x ∷ xs) = false

-- a channel has both a mailbox and a pattern once a line says this
abbrev pub contradicts : Sketch → Said → Bool
contradicts (AtChannel c) (PatternsAre patterns) = is_some c.far_box || is_some c.near_box
contradicts (AtChannel c) (FarIs store mailbox) = is_some mailbox && not (is_empty c.patterns)
contradicts (AtChannel c) (NearIs store mailbox) = is_some mailbox && not (is_empty c.patterns)
contradicts s line = false

-- a channel has both
abbrev pub is_mixed : Sketch → Bool
is_mixed (AtChannel c) = (is_some c.far_box || is_some c.near_box) && not (is_empty c.patterns)
is_mixed s = false

-- a line says something that does not contradict the section
abbrev pub IsUnmixed : Sketch → Option Said → Type 0
IsUnmixed s None = ⊥
IsUnmixed s (Some line) = contradicts s line ≡ false

abbrev pub with_far : Option ℕ → Option (List ℕ) → Sketch → Sketch
with_far store box (AtChannel c) = AtChannel (record c { far = store; far_box = box })
with_far store box other = other

abbrev pub with_near : Option ℕ → Option (List ℕ) → Sketch → Sketch
with_near store box (AtChannel c) = AtChannel (record c { near = store; near_box = box })
with_near store box other = other

-- channels that a line adds to a group
abbrev pub with_members : List (List ℕ) → Sketch → Sketch
with_members names (AtGroup channels) = AtGroup (channels ++ names)
with_members names other = other

-- the section that has just begun at a place
abbrev pub sketch_at : LinePlace → Sketch
sketch_at place.Start = AtStart
sketch_at place.ImapStore = AtImapStore (imap_store_of [] [])
sketch_at place.MaildirStore = AtMaildirStore (maildir_said [])
sketch_at place.Channel = AtChannel (channel_said [] [] [])
sketch_at place.Group = AtGroup []
sketch_at place.Between = AtBetween

-- ---- a draft

pub record View : Type 0 where
  pub section : Sketch
  pub name : List ℕ
  pub before : MannerView
  pub imap_stores : List ImapMeaning
  pub maildir_stores : List MaildirMeaning
  pub channels : List ChannelMeaning
  pub groups : List GroupMeaning
  pub named : List (List ℕ)

abbrev pub view : Draft → View
view d = record {
  section = sketch d.section;
  name = string_bytes d.name;
  before = manner_view d.defaults;
  imap_stores = map imap_value d.config.imap_stores.items;
  maildir_stores = map maildir_value d.config.maildir_stores.items;
  channels = map channel_value d.config.channels.items;
  groups = map group_named d.groups.items;
  named = map string_bytes d.channels.items;
}

abbrev pub first_view : View
first_view = record { section = AtStart; name = []; before = manner_said []; imap_stores = []; maildir_stores = []; channels = []; groups = []; named = [] }

-- before any section, a line is for all channels
abbrev pub before_with : Said → Sketch → MannerView → MannerView
before_with s AtStart before = manner_with s before
before_with s _ before = before

abbrev pub set_in_section : Said → View → View
set_in_section s v = record v { section = sketch_with s v.section; before = before_with s v.section v.before }

abbrev pub imap_place : View → List ℕ → Option ℕ
imap_place v store = place_among (map (λ s. s.name) v.imap_stores) store

abbrev pub maildir_place : View → List ℕ → Option ℕ
maildir_place v store = place_among (map (λ s. s.name) v.maildir_stores) store

-- the names of the channels, with that of the one that is open
abbrev pub named_with : Sketch → List ℕ → List (List ℕ) → List (List ℕ)
named_with (AtChannel c) name names = names ++ name ∷ []
named_with _ name names = names

abbrev pub titled_view : List ℕ → View → View
titled_view name v = record v { name = name; named = named_with v.section name v.named }

abbrev pub view_with : Said → View → View
view_with (SectionIs name) v = titled_view name v
view_with (GroupIs name channels) v = titled_view name (record v { section = with_members channels v.section })
view_with (ChannelsAre channels) v = record v { section = with_members channels v.section }
view_with (FarIs store box) v = record v { section = with_far (imap_place v store) box v.section }
view_with (NearIs store box) v = record v { section = with_near (maildir_place v store) box v.section }
view_with s v = set_in_section s v

abbrev pub view_said : Option Said → View → View
view_said None v = v
view_said (Some s) v = view_with s v

-- a section begins
abbrev pub begun_view : Option LinePlace → View → View
begun_view None v = v
begun_view (Some kind) v = record v { section = sketch_at kind; name = [] }

-- a section of this name is put to the others
abbrev pub put_view : Sketch → List ℕ → View → View
put_view AtStart name v = v
put_view (AtImapStore m) name v = record v { imap_stores = v.imap_stores ++ record m { name = name } ∷ [] }
put_view (AtMaildirStore m) name v = record v { maildir_stores = v.maildir_stores ++ maildir_ended name m ∷ [] }
put_view (AtChannel c) name v = record v { channels = v.channels ++ channel_ended name v.before c ∷ [] }
put_view (AtGroup channels) name v = record v { groups = v.groups ++ record { name = name; channels = channels } ∷ [] }
put_view AtBetween name v = v

-- a section ends, if one is open
abbrev pub ended_view : Bool → View → View
ended_view false v = v
ended_view true v = put_view v.section v.name (record v { section = AtBetween; name = [] })

-- ---- what lines make of it

abbrev pub part_sketch : (imap_stores maildir_stores : List (List ℕ)) → LinePlace → List Said → Sketch
part_sketch imap_stores maildir_stores place.Start says = AtStart
part_sketch imap_stores maildir_stores place.ImapStore says = AtImapStore (imap_store_of [] says)
part_sketch imap_stores maildir_stores place.MaildirStore says = AtMaildirStore (maildir_said says)
part_sketch imap_stores maildir_stores place.Channel says = AtChannel (channel_said imap_stores maildir_stores says)
part_sketch imap_stores maildir_stores place.Group says = AtGroup (flat_map channels_in says)
part_sketch imap_stores maildir_stores place.Between says = AtBetween

-- the name of the channel that is open
abbrev pub open_names : LinePlace → List ℕ → List (List ℕ)
open_names place.Channel name = name ∷ []
open_names _ name = []

abbrev pub view_from : Meaning → Parts → View
view_from m p = record {
  section = part_sketch (imap_names m) (maildir_names m) p.current.kind p.current.says;
  name = p.current.name;
  before = manner_said p.before;
  imap_stores = m.imap_stores;
  maildir_stores = m.maildir_stores;
  channels = m.channels;
  groups = m.groups;
  named = channel_names m ++ open_names p.current.kind p.current.name;
}

abbrev pub view_of : Parts → View
view_of p = view_from (meaning_of p) p

-- a configuration has what the sections that have ended say, and its groups have their channels by their places
pub record Shows (v : View) (config : Config) : Type 0 where
  pub imap_stores : map imap_value config.imap_stores.items ≡ v.imap_stores
  pub maildir_stores : map maildir_value config.maildir_stores.items ≡ v.maildir_stores
  pub channels : map channel_value config.channels.items ≡ v.channels
  pub groups : map group_value config.groups.items ≡ map (placed v.named) v.groups
