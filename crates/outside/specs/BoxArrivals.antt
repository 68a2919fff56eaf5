-- What others may do to a mailbox while a run is at work: people file mail, and other programs deliver it.
use Rattle.std.specs.Prelude.{◌≡◌, ◌<◌, ◌^◌, ◌++◌, ℕ, Bool, true, List, All, IsPermutation, map}
use Rattle.mailcore.specs.declared.mailbox.Message.{Message}
use Rattle.mailcore.specs.declared.side.Side.{Side}
use Rattle.mailcore.specs.declared.side.Side.TheVariants.{Far, Near}
use Rattle.mailcore.specs.Content.{mark_of}
use Rattle.mailcore.specs.FlagSet.{FLAGS}
use Rattle.mailcore.specs.Rise.{Rise}
use Rattle.mailcore.specs.Stores.{Waiting}
use Rattle.mailcore.specs.Mailboxes.{Mailbox}
use Rattle.rules.specs.Opening.{AreBytes, IsFile, least_byte}
use Rattle.mailcore.specs.Visitors.{IsForeign}

-- a message of a server: its UID is above 0, its flags are a set of the flags that there are, and it is of bytes that a server stores
pub record IsFarMessage (m : Message) : Type 0 where
  pub uid : 0 < m.uid
  pub in_set : m.flags < 2 ^ FLAGS
  pub bytes : AreBytes (least_byte Far) m.bytes

-- messages come under UIDs of at least the next one
pub record Adds (ours : List ℕ → Bool) (b b' : Mailbox) : Type 0 where
  pub messages : List Message
  pub next : ℕ
  pub rise : Rise b.store.next (map (λ m. m.uid) messages) next
  pub sound : All IsFarMessage messages
  pub foreign : All (λ m. IsForeign ours (mark_of m.bytes)) messages
  pub now : b' ≡ record b { store = record b.store { next = next; messages = b.store.messages ++ messages } }

-- files come, which wait for their UIDs, of bytes and with sets of the flags that there are; in which order a device has what waits it does not say
pub record Delivers (ours : List ℕ → Bool) (b b' : Mailbox) : Type 0 where
  pub files : List Waiting
  pub waiting : List Waiting
  pub gathered : IsPermutation (b.waiting ++ files) waiting
  pub sound : All IsFile files
  pub foreign : All (λ f. IsForeign ours (mark_of f.bytes)) files
  pub now : b' ≡ record b { waiting = waiting }

abbrev pub Comes : Side → (ours : List ℕ → Bool) → Mailbox → Mailbox → Type 0
Comes Far ours b b' = Adds ours b b'
Comes Near ours b b' = Delivers ours b b'

-- Others add messages to the mailbox of this side, none of which bears a mark of the run. Where a run is alone, nobody adds any.
pub record Arrives (side : Side) (ours : List ℕ → Bool) (alone : Bool) (b b' : Mailbox) : Type 0 where
  pub comes : Comes side ours b b'
  pub nobody : alone ≡ true → b' ≡ b
