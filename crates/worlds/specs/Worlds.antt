-- The world of a text in the words of the rules, and flags that have a name in IMAP, by the map of the world.
use Rattle.std.specs.Prelude.{All, List, [], map}
use Rattle.mailcore.specs.declared.keywords.Keyword.{Keyword}
use Rattle.mailcore.specs.declared.listing.Item.{Item}
use Rattle.mailcore.specs.declared.mailbox.StoredMailbox.{StoredMailbox}
use Rattle.mailcore.specs.declared.mailbox.Message.{Message}
use Rattle.mailcore.specs.KeywordNames.{IsWithin}
use Rattle.mailcore.specs.Stores.{Store, Waiting}
use Rattle.rules.specs.World.{World}
use Rattle.worlds.specs.declared.world.WaitingFile.{WaitingFile}
use Rattle.worlds.specs.declared.world.World as written

abbrev pub store_of : StoredMailbox → Store
store_of m = record { validity = m.validity; next = m.next; messages = m.messages }

abbrev pub waiting_of : WaitingFile → Waiting
waiting_of f = record { flags = f.flags; bytes = f.bytes }

abbrev pub world_of : written.World → World
world_of w = record { far = store_of w.far; near = store_of w.near; waiting = map waiting_of w.waiting.items; state = w.state }

-- each flag of these messages and of these waiting files has a name in IMAP, by a map
pub record AreNamed (keywords : List Keyword) (messages : List Message) (waiting : List Waiting) : Type 0 where
  pub there : All (λ m. IsWithin keywords m.flags) messages
  pub waits : All (λ f. IsWithin keywords f.flags) waiting

-- so it is with each flag of a world
pub record IsNamed (keywords : List Keyword) (w : World) : Type 0 where
  pub far : AreNamed keywords w.far.messages []
  pub near : AreNamed keywords w.near.messages w.waiting

-- and with each flag of listed messages
abbrev pub AreListedNamed : List Keyword → List Item → Type 0
AreListedNamed keywords items = All (λ i. IsWithin keywords i.flags) items
