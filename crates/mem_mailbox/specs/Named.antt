-- What a mailbox has of messages whose flags may lack a name.
use Rattle.std.specs.Prelude.{List, All, map}
use Rattle.mailcore.specs.declared.keywords.Keyword.{Keyword}
use Rattle.mailcore.specs.declared.mailbox.Message.{Message}
use Rattle.mailcore.specs.KeywordNames.{IsWithin, kept}
use Rattle.mailcore.specs.Mailboxes.{Mailbox}
use Rattle.mailcore.specs.Operations.{with_messages}
use Rattle.mailcore.specs.Stores.{Waiting}

-- of its flags those that have a name by this map
abbrev pub named_message : List Keyword → Message → Message
named_message keywords m = record m { flags = kept keywords m.flags }

abbrev pub named_file : List Keyword → Waiting → Waiting
named_file keywords f = record f { flags = kept keywords f.flags }

-- the same of each message, and of each file that waits
abbrev pub named : List Keyword → Mailbox → Mailbox
named keywords b = record { store = with_messages (map (named_message keywords)) b.store; waiting = map (named_file keywords) b.waiting }

-- each flag of these messages has a name
abbrev pub AreWithin : List Keyword → List Message → Type 0
AreWithin keywords messages = All (λ m. IsWithin keywords m.flags) messages
