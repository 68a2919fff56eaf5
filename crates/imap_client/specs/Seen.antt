-- The flags of a server's messages, as a client sees them by its map of keywords.
use Rattle.std.specs.Prelude.{◌≡◌, ℕ, List, map}
use Rattle.mailcore.specs.declared.keywords.Keyword.{Keyword}
use Rattle.mailcore.specs.declared.mailbox.Message.{Message}
use Rattle.mailcore.specs.KeywordNames.{kept, named_set, names_of}
use Rattle.mailcore.specs.Operations.{with_messages}
use Rattle.mailcore.specs.Stores.{Store}
use Rattle.imap_session.specs.Servers.{Server}

-- the flags of the server have the letters of this map
abbrev pub HasMap : List Keyword → Server → Type 0
HasMap keywords s = s.keywords ≡ keywords

-- No call changes that.
abbrev pub KeepsMap : Server → Server → Type 0
KeepsMap old new = new.keywords ≡ old.keywords

-- of the flags of a message those that have a name
abbrev pub seen_message : List Keyword → Message → Message
seen_message keywords m = record m { flags = kept keywords m.flags }

-- of the flags of each message those that have a name
abbrev pub seen_through : List Keyword → Store → Store
seen_through keywords = with_messages (map (seen_message keywords))

-- the flags that a server sets or clears, where these are sent to it by their names
abbrev pub flags_sent : List Keyword → (flags : ℕ) → Server → ℕ
flags_sent keywords flags s = named_set s.keywords (names_of keywords flags)
