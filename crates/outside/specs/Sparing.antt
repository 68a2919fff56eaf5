-- What becomes of messages that no call names.
use Rattle.std.specs.Prelude.{◌≡◌, ◌≢◌, ◌⊎◌, ℕ, All, Contains, List, ◌++◌}
use Rattle.mailcore.specs.declared.mailbox.Message.{Message}
use Rattle.mailcore.specs.declared.side.Side.{Side}
use Rattle.mailcore.specs.declared.side.Side.TheVariants.{Near}
use Rattle.mailcore.specs.Stores.{IsStore, Waiting}
use Rattle.outside.specs.Devices.{Device, Named, box}

-- none of these is the message with this UID
abbrev pub AreOthers : List Named → Side → (uid : ℕ) → Type 0
AreOthers names side uid = All (λ n. n.side ≡ side → n.uid ≢ uid) names

-- the message stands on its side with its flags and bytes, if it is none of those that were named
abbrev pub StaysBut : (names : List Named) → Side → Message → Device → Type 0
StaysBut names side m d = AreOthers names side m.uid → Contains (box d side).messages m

-- a file that waited has its UID: it is a message with the same flags and bytes
pub record IsAdmitted (names : List Named) (f : Waiting) (d : Device) : Type 0 where
  pub uid : ℕ
  pub stays : StaysBut names Near (record { uid = uid; flags = f.flags; bytes = f.bytes }) d

-- Calls have named these messages since. Each other one stands where it stood, and each file that waited waits still or is a message. A mailbox
-- whose UIDs rise and are below its next one is such a one still.
pub record Spares (d d' : Device) : Type 0 where
  pub since : List Named
  pub named : d'.named ≡ since ++ d.named
  pub messages : (side : Side) (m : Message) → Contains (box d side).messages m → StaysBut since side m d'
  pub waiting : (f : Waiting) → Contains d.near.waiting f → Contains d'.near.waiting f ⊎ IsAdmitted since f d'
  pub order : (side : Side) → IsStore (box d side) → IsStore (box d' side)
