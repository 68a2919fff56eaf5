-- The numbers of a mailbox in their ranges.
use Rattle.std.specs.Prelude.{ℕ, ◌+◌, ◌<◌, ◌^◌, List, All}
use Rattle.mailcore.specs.declared.mailbox.Message.{Message}
use Rattle.mailcore.specs.FlagSet.{FLAGS}
use Rattle.mailcore.specs.Stores.{Store, Waiting}

-- a UIDVALIDITY or a next UID
pub record IsNumber (n : ℕ) : Type 0 where
  pub positive : 0 < n
  pub below : n < 2 ^ 32

-- each UID is one, and each set of flags is a set of the six
pub record AreInRange (messages : List Message) : Type 0 where
  pub uids : All (λ m. 0 < m.uid) messages
  pub last : All (λ m. m.uid + 1 < 2 ^ 32) messages
  pub flags : All (λ m. m.flags < 2 ^ FLAGS) messages

pub record IsInRange (s : Store) : Type 0 where
  pub validity : IsNumber s.validity
  pub next : IsNumber s.next
  pub messages : AreInRange s.messages

-- the flags of files that wait are sets of the six too
abbrev pub AreFlagSets : List Waiting → Type 0
AreFlagSets files = All (λ f. f.flags < 2 ^ FLAGS) files
