-- A world that a run may begin with: a sound one whose UIDVALIDITYs are unchanged.
use Rattle.std.specs.Prelude.{ℕ, ◌<◌, ◌≤◌, ◌≡◌, ◌≢◌, ◌⊎◌, ◌^◌, List, [], All, Contains, Some}
use Rattle.mailcore.specs.declared.side.Side.{Side}
use Rattle.mailcore.specs.declared.side.Side.TheVariants.{Far, Near}
use Rattle.mailcore.specs.declared.mailbox.Message.{Message}
use Rattle.mailcore.specs.FlagSet.{FLAGS}
use Rattle.rules.specs.declared.entry.Entry.{Entry}
use Rattle.rules.specs.declared.state.SyncState.{SyncState}
use Rattle.rules.specs.Entries.{uid_of, uid_on}
use Rattle.rules.specs.World.{store, World, Store, Waiting, IsWorld, NamesBelow}

-- ---- mailboxes and files

-- bytes, each of at least `least`
abbrev pub AreBytes : (least : ℕ) → (bytes : List ℕ) → Type 0
AreBytes least bytes = All (λ b. (least ≤ b) × (b < 256)) bytes

-- the least byte that a side stores
abbrev pub least_byte : Side → ℕ
least_byte Far = 1
least_byte Near = 0

-- the validity and all UIDs, the next one too, are above 0, and messages are of bytes that the side stores
pub record IsMailbox (side : Side) (s : Store) : Type 0 where
  pub validity : 0 < s.validity
  pub next : 0 < s.next
  pub uids : All (λ m. 0 < m.uid) s.messages
  pub bytes : All (λ m. AreBytes (least_byte side) m.bytes) s.messages

-- a file whose flags are a set of the flags that there are
pub record IsFile (f : Waiting) : Type 0 where
  pub in_set : f.flags < 2 ^ FLAGS
  pub bytes : AreBytes (least_byte Near) f.bytes

-- ---- unchanged UIDVALIDITYs

-- no run was made
pub record IsFirst (s : SyncState) : Type 0 where
  pub run : s.run ≡ 0
  pub far_validity : s.far_validity ≡ 0
  pub near_validity : s.near_validity ≡ 0
  pub max_pulled : s.max_pulled ≡ 0
  pub max_pushed : s.max_pushed ≡ 0
  pub entries : s.entries ≡ []

-- a run was made, since then no UIDVALIDITY has changed, and each UID that the state names was given
pub record IsLater (w : World) : Type 0 where
  pub run : 0 < w.state.run
  pub far_validity : w.state.far_validity ≡ w.far.validity
  pub near_validity : w.state.near_validity ≡ w.near.validity
  pub below : NamesBelow w

-- no UIDVALIDITY has changed since the state was made
abbrev pub IsUnchanged : World → Type 0
IsUnchanged w = IsFirst w.state ⊎ IsLater w

-- ---- openings

-- messages, files and the state are sound, and UIDVALIDITYs unchanged
pub record IsOpening (w : World) : Type 0 where
  pub world : IsWorld w
  pub mailbox : (side : Side) → IsMailbox side (store w side)
  pub waiting : All IsFile w.waiting
  pub named : (side : Side) → All (λ e. uid_on side e ≢ Some 0) w.state.entries
  pub recorded : All (λ e. e.flags < 2 ^ FLAGS) w.state.entries
  pub unchanged : IsUnchanged w

-- ---- what a world names

-- the highest UID of a side that has been taken over
abbrev pub taken_over : Side → SyncState → ℕ
taken_over Far state = state.max_pulled
taken_over Near state = state.max_pushed

-- a UID of a side: a message's, an entry's (0 where it has vanished) or the highest one taken over
pub data Names (w : World) (side : Side) (u : ℕ) : Type 0 where
  OfMessage : (m : Message) → Contains (store w side).messages m → m.uid ≡ u → Names w side u
  OfEntry : (e : Entry) → Contains w.state.entries e → uid_of side e ≡ u → Names w side u
  Highest : taken_over side w.state ≡ u → Names w side u
