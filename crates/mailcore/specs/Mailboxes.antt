-- A mailbox of either side: what it stores, and what waits there for a UID. At a server nothing waits.
use Rattle.std.specs.Prelude.{◌≡◌, ℕ, ◌+◌, List, ◌++◌, length, take, drop}
use Rattle.mailcore.specs.Operations.{added, expunged, set_aside}
use Rattle.mailcore.specs.Stores.{Store, Waiting, numbered}

pub record Mailbox : Type 0 where
  pub store : Store
  pub waiting : List Waiting

-- ---- what calls do to it

-- an operation on its messages (`Operations`); what waits stays
abbrev pub on_store : (Store → Store) → Mailbox → Mailbox
on_store change b = record b { store = change b.store }

-- a message is added under the next UID
abbrev pub delivered : (bytes : List ℕ) (flags : ℕ) → Mailbox → Mailbox
delivered bytes flags b = on_store (added b.store.next flags bytes) b

-- the UIDs of all that waits are set aside, and the first of these have theirs
abbrev pub some_admitted : (count : ℕ) → Mailbox → Mailbox
some_admitted count b = record {
  store = record b.store {
    next = b.store.next + length b.waiting;
    messages = b.store.messages ++ numbered b.store.next (take count b.waiting);
  };
  waiting = drop count b.waiting;
}

-- all that waits has its UIDs
abbrev pub all_admitted : Mailbox → Mailbox
all_admitted b = some_admitted (length b.waiting) b

-- ---- parts of what calls do

-- some of the messages are removed, in the order in which they are named
pub record ExpungesSome (uids : List ℕ) (b b' : Mailbox) : Type 0 where
  pub count : ℕ
  pub now : b' ≡ on_store (expunged (take count uids)) b

-- the next UID is set aside, and no message has it
abbrev pub SetsAside : Mailbox → Mailbox → Type 0
SetsAside b b' = b' ≡ on_store (set_aside 1) b

-- the UIDs are set aside, and some of what waits has its own
pub record AdmitsSome (b b' : Mailbox) : Type 0 where
  pub count : ℕ
  pub now : b' ≡ some_admitted count b
