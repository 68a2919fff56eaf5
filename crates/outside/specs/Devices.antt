-- What a run works on, as one device: both mailboxes, the two files of the shelf, and which messages its calls have named.
use Rattle.std.specs.Prelude.{ℕ, List, ◌∷◌}
use Rattle.mailcore.specs.declared.side.Side.{Side}
use Rattle.mailcore.specs.declared.side.Side.TheVariants.{Far, Near}
use Rattle.mailcore.specs.Stores.{Store}
use Rattle.mailcore.specs.Mailboxes.{Mailbox, on_store}
use Rattle.book.specs.Shelves.{Files}

-- a message, by its side and its UID
pub record Named : Type 0 where
  pub side : Side
  pub uid : ℕ

-- `named` are the messages that calls were to change or to remove, the last first
pub record Device : Type 0 where
  pub far : Store
  pub near : Mailbox
  pub files : Files
  pub named : List Named

-- the mailbox of a side
abbrev pub box : Device → Side → Store
box d Far = d.far
box d Near = d.near.store

-- an operation on the mailbox of a side; the waiting files stay
abbrev pub on_box : Side → (Store → Store) → Device → Device
on_box Far change d = record d { far = change d.far }
on_box Near change d = record d { near = on_store change d.near }

-- a call names this message
abbrev pub naming : Side → (uid : ℕ) → Device → Device
naming side uid d = record d { named = record { side = side; uid = uid } ∷ d.named }
