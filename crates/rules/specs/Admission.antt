-- Waiting files become messages, in order, under UIDs that the near mailbox gives them.
use Rattle.std.specs.Prelude.{ℕ, ◌+◌, ◌≡◌, List, [], ◌∷◌, ◌++◌, length}
use Rattle.std.specs.List.{range_with_len}
use Rattle.mailcore.specs.declared.mailbox.Message.{Message}
use Rattle.mailcore.specs.Rise.{Rise}
use Rattle.rules.specs.World.{World, Waiting}

-- waiting files as messages, in order, under these UIDs
abbrev pub numbered_under : (uids : List ℕ) → List Waiting → List Message
numbered_under [] fs = []
numbered_under (u ∷ uids) [] = []
numbered_under (u ∷ uids) (f ∷ fs) = record { uid = u; flags = f.flags; bytes = f.bytes } ∷ numbered_under uids fs

-- the world whose waiting files are messages under these UIDs; `next` is what its near mailbox gives then
abbrev pub admitted_under : (uids : List ℕ) → (next : ℕ) → World → World
admitted_under uids next w = record {
  far = w.far;
  near = record { validity = w.near.validity; next = next; messages = w.near.messages ++ numbered_under uids w.waiting };
  waiting = [];
  state = w.state;
}

-- a UID for each waiting file, rising from the near mailbox's next one and below what is next then
pub record AreAdmission (w : World) (uids : List ℕ) (next : ℕ) : Type 0 where
  pub each : length uids ≡ length w.waiting
  pub rise : Rise w.near.next uids next

-- ---- where nothing is stopped: the UIDs from next on

abbrev pub admission_uids : World → List ℕ
admission_uids w = range_with_len w.near.next (length w.waiting)

abbrev pub next_admitted : World → ℕ
next_admitted w = w.near.next + length w.waiting

abbrev pub admitted : World → World
admitted w = admitted_under (admission_uids w) (next_admitted w) w
