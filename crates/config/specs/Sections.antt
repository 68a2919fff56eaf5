-- What the lines of a section make of it (docs/FORMATS.md, "Configuration").
use Rattle.std.specs.Prelude.{ℕ, ◌≡◌, true, false, List, [], ◌∷◌, fold, flat_map, position, bytes_eq, Option, Some, None, IsSome, unwrap_or, option_and_then, codes}
use Rattle.std.specs.Option.{option_or}
use Rattle.rules.specs.declared.options.Cells.{Cells}
use Rattle.rules.specs.declared.options.Sides.{Sides}
use Rattle.config.specs.declared.config.Boxes.{Boxes}
use Rattle.config.specs.declared.config.Boxes.TheVariants.{Pair, Matching}
use Rattle.mailcore.specs.declared.keywords.Keyword as mail
use Rattle.mailcore.specs.KeywordNames.{with_keyword}
use Rattle.config_words.specs.declared.keyword.LinePlace.{LinePlace}
use Rattle.config_words.specs.Keywords.{keyword_named, meant_at}
use Rattle.config_words.specs.Meanings.{Said, SectionIs, GroupIs, HostIs, PortIs, UserIs, PassIs, PathIs, InboxIs, FarIs, NearIs, PatternsAre, SyncIs, CreateIs, ExpungeIs, KeywordIs, ChannelsAre, said}
use Rattle.config_words.specs.Words.{arguments_of}

-- ---- what one line says of each thing

-- what a line of words says at a place
abbrev pub line_said : LinePlace → List ℕ × List ℕ → Option Said
line_said at words = option_and_then (λ k. said (meant_at at k) (arguments_of words.1).list) (keyword_named words.0)

-- the name of the section that begins
abbrev pub title_in : Said → Option (List ℕ)
title_in (SectionIs name) = Some name
title_in (GroupIs name channels) = Some name
title_in _ = None

-- a line says something, and the name of the section that begins exactly where one does
abbrev pub IsTitled : (begins : Option LinePlace) → Option Said → Type 0
IsTitled None (Some s) = title_in s ≡ None
IsTitled (Some kind) (Some s) = IsSome (title_in s)
IsTitled _ None = ⊥

abbrev pub host_in : Said → Option (List ℕ)
host_in (HostIs host) = Some host
host_in _ = None

abbrev pub port_in : Said → Option ℕ
port_in (PortIs port) = Some port
port_in _ = None

abbrev pub user_in : Said → Option (List ℕ)
user_in (UserIs user) = Some user
user_in _ = None

abbrev pub pass_in : Said → Option (List ℕ)
pass_in (PassIs pass) = Some pass
pass_in _ = None

abbrev pub path_in : Said → Option (List ℕ)
path_in (PathIs path) = Some path
path_in _ = None

abbrev pub inbox_in : Said → Option (List ℕ)
inbox_in (InboxIs inbox) = Some inbox
inbox_in _ = None

-- a store, and a mailbox if one is named
abbrev pub far_in : Said → Option (List ℕ × Option (List ℕ))
far_in (FarIs store mailbox) = Some (store, mailbox)
far_in _ = None

abbrev pub near_in : Said → Option (List ℕ × Option (List ℕ))
near_in (NearIs store mailbox) = Some (store, mailbox)
near_in _ = None

abbrev pub patterns_in : Said → List (List ℕ)
patterns_in (PatternsAre patterns) = patterns
patterns_in _ = []

abbrev pub cells_in : Said → Option Cells
cells_in (SyncIs cells) = cells
cells_in _ = None

abbrev pub create_in : Said → Option Sides
create_in (CreateIs sides) = Some sides
create_in _ = None

abbrev pub expunge_in : Said → Option Sides
expunge_in (ExpungeIs sides) = Some sides
expunge_in _ = None

abbrev pub keyword_in : Said → Option mail.Keyword
keyword_in (KeywordIs keyword) = Some keyword
keyword_in _ = None

abbrev pub channels_in : Said → List (List ℕ)
channels_in (GroupIs name channels) = channels
channels_in (ChannelsAre channels) = channels
channels_in _ = []

-- ---- and what lines say: where a thing stands twice, the later one; no keyword stands twice in a section, but for
-- Patterns, Keyword and Channels, which add up

abbrev pub later : {A : Type 0} → (Said → Option A) → Option A → Said → Option A
later f before s = option_or (f s) before

abbrev pub the : {A : Type 0} → (Said → Option A) → List Said → Option A
the f says = fold (later f) None says

-- ---- stores

pub record ImapMeaning : Type 0 where
  pub name : List ℕ
  pub host : Option (List ℕ)
  pub port : ℕ
  pub user : Option (List ℕ)
  pub pass : Option (List ℕ)

-- the port is 143 if none is said
abbrev pub imap_store_of : List ℕ → List Said → ImapMeaning
imap_store_of name says = record {
  name = name;
  host = the host_in says;
  port = unwrap_or (the port_in says) 143;
  user = the user_in says;
  pass = the pass_in says;
}

pub record MaildirMeaning : Type 0 where
  pub name : List ℕ
  pub path : Option (List ℕ)
  pub inbox : List ℕ

abbrev pub maildir_store_of : List ℕ → List Said → MaildirMeaning
maildir_store_of name says = record { name = name; path = the path_in says; inbox = unwrap_or (the inbox_in says) (codes "~/Maildir") }

-- ---- channels

pub record ChannelMeaning : Type 0 where
  pub name : List ℕ
  pub far : Option ℕ
  pub near : Option ℕ
  pub boxes : Boxes
  pub cells : Cells
  pub create : Sides
  pub expunge : Sides
  pub keywords : List mail.Keyword

-- the place of a name among others, from 0
abbrev pub place_among : List (List ℕ) → List ℕ → Option ℕ
place_among names name = position (λ other. bytes_eq other name) names

-- the place of the store that a line names
abbrev pub store_at : List (List ℕ) → Option (List ℕ × Option (List ℕ)) → Option ℕ
store_at names place = option_and_then (λ p. place_among names p.0) place

-- the mailbox that it names, and else INBOX
abbrev pub box_at : Option (List ℕ × Option (List ℕ)) → List ℕ
box_at place = unwrap_or (option_and_then (λ p. p.1) place) (codes "INBOX")

-- patterns, if there are any, and else one mailbox on each side
abbrev pub boxes_of : (patterns : List (List ℕ)) (far near : List ℕ) → Boxes
boxes_of [] far near = Pair far near
boxes_of (pattern ∷ patterns) far near = Matching (pattern ∷ patterns)

abbrev pub everything : Cells
everything = record {
  new = record { pull = true; push = true };
  gone = record { pull = true; push = true };
  flags = record { pull = true; push = true };
}

abbrev pub neither : Sides
neither = record { far = false; near = false }

-- what the channel says itself, else what was said before any section, else what is so where nothing is said
abbrev pub chosen : {A : Type 0} → (Said → Option A) → (own before : List Said) → A → A
chosen f own before otherwise = unwrap_or (option_or (the f own) (the f before)) otherwise

-- the keywords that lines give a letter, in the order of the letters
abbrev pub with_given : List mail.Keyword → Option mail.Keyword → List mail.Keyword
with_given keywords None = keywords
with_given keywords (Some k) = with_keyword k keywords

abbrev pub also_given : List mail.Keyword → Said → List mail.Keyword
also_given keywords s = with_given keywords (keyword_in s)

abbrev pub keywords_of : List Said → List mail.Keyword
keywords_of says = fold also_given [] says

-- what a channel says itself of keywords, and what was said before any section only where it says nothing
abbrev pub own_or : (own before : List mail.Keyword) → List mail.Keyword
own_or [] before = before
own_or (k ∷ own) before = k ∷ own

-- a channel below IMAP stores and Maildir stores of these names
abbrev pub channel_of : (imap_stores maildir_stores : List (List ℕ)) (before : List Said) → List ℕ → List Said → ChannelMeaning
channel_of imap_stores maildir_stores before name says = record {
  name = name;
  far = store_at imap_stores (the far_in says);
  near = store_at maildir_stores (the near_in says);
  boxes = boxes_of (flat_map patterns_in says) (box_at (the far_in says)) (box_at (the near_in says));
  cells = chosen cells_in says before everything;
  create = chosen create_in says before neither;
  expunge = chosen expunge_in says before neither;
  keywords = own_or (keywords_of says) (keywords_of before);
}

-- ---- groups

-- a group, by the names of its channels
pub record GroupMeaning : Type 0 where
  pub name : List ℕ
  pub channels : List (List ℕ)

abbrev pub group_of : List ℕ → List Said → GroupMeaning
group_of name says = record { name = name; channels = flat_map channels_in says }
