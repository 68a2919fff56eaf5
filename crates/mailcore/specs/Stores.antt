-- What the mailbox of a side stores.
use Rattle.std.specs.Prelude.{ℕ, ◌+◌, List, [], ◌∷◌}
use Rattle.mailcore.specs.declared.mailbox.Message.{Message}
use Rattle.mailcore.specs.Listed.{AreRising, AreBelow}

pub record Store : Type 0 where
  pub validity : ℕ
  pub next : ℕ
  pub messages : List Message

-- UIDs rise and are below the next one
pub record IsStore (s : Store) : Type 0 where
  pub rising : AreRising s.messages
  pub below : AreBelow s.messages s.next

-- a near file that has no UID yet
pub record Waiting : Type 0 where
  pub flags : ℕ
  pub bytes : List ℕ

-- waiting files as messages, under the UIDs from next on
abbrev pub numbered : (next : ℕ) → List Waiting → List Message
numbered next [] = []
numbered next (f ∷ fs) = record { uid = next; flags = f.flags; bytes = f.bytes } ∷ numbered (next + 1) fs
