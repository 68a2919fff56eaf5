-- What a fault in reading means to the caller.
use Rattle.std.proofs.Common.{◌≡◌, ℕ, refl}
use Rattle.near_box.specs.declared.near_fault.NearFault.{NearFault}
use Rattle.near_box.specs.declared.read_fault.ReadFault.{ReadFault}
use Rattle.near_box.specs.declared.read_fault.ReadFault.TheVariants.{Gone, Device}
use Rattle.near_box.specs.NearCalls.{Reported}

-- a file that is there is not missed
pub none_missed : (fault : ReadFault) (reported : NearFault) (old new : ℕ) → Reported fault old new reported → (fault ≡ Gone → ⊥) → new ≡ old
none_missed Gone reported old new states there = absurd (there refl)
none_missed (Device fault) reported old new states there = states.1
