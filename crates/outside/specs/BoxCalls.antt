-- What the calls of the boxes do to both mailboxes, and what they report.
use Rattle.std.specs.Prelude.{◌≡◌, ◌<◌, ◌≤◌, ℕ, Bool, true, false, List, [], ◌∷◌, ◌++◌, Option, None, Some}
use Rattle.device.specs.Calls.{Effect}
use Rattle.mailcore.specs.declared.side.Side.{Side}
use Rattle.mailcore.specs.declared.side.Side.TheVariants.{Far, Near}
use Rattle.mailcore.specs.declared.side.Direction.{Direction}
use Rattle.mailcore.specs.declared.mailbox.Message.{Message}
use Rattle.mailcore.specs.declared.listing.Listing.{Listing}
use Rattle.mailcore.specs.Content.{fit}
use Rattle.mailcore.specs.Operations.{ShowsSparing, bytes_of}
use Rattle.mailcore.specs.Sides.{source, target}
use Rattle.mailcore.specs.Stores.{Store, Waiting}
use Rattle.mailcore.specs.Mailboxes.{Mailbox}
use Rattle.rules.specs.Copies.{copy_of}
use Rattle.outside.specs.declared.outside.Carried.{Carried}
use Rattle.outside.specs.declared.outside.Carried.TheVariants.{Absent, Unfit, Made}
use Rattle.outside.specs.MailboxOperations as ops
use Rattle.outside.specs.MailboxOperations.{Reports}
use Rattle.outside.specs.Devices.{Device, box, naming, on_box}

-- ---- listings

-- what the far mailbox lists, by the next UID that was known before
abbrev pub ListsFar : (alone : Bool) → (known : ℕ) → Listing → Device → Type 0
ListsFar alone known listing d = ops.ListsFar alone known listing d.far

-- what the near mailbox lists, where some messages are not asked whether they are fit
abbrev pub ListsNear : (spared : ℕ → Bool) → Listing → Device → Type 0
ListsNear spared listing d = ShowsSparing Near spared d.near.store listing

-- ---- changes

-- the message with this UID is named, and the mailbox of its side changes so
abbrev pub Turns : Side → (uid : ℕ) → (Store → Store) → Effect Device
Turns side uid change d d' = d' ≡ naming side uid (on_box side change d)

-- it is named, and nothing is changed
abbrev pub Names : Side → (uid : ℕ) → Effect Device
Names side uid d d' = d' ≡ naming side uid d

-- the near mailbox changes so
pub record OnNear (does : Effect Mailbox) (d d' : Device) : Type 0 where
  pub far : d'.far ≡ d.far
  pub files : d'.files ≡ d.files
  pub named : d'.named ≡ d.named
  pub near : does d.near d'.near

-- the waiting files that were read, each that was known among them, have the UIDs from next on
abbrev pub Admits : (alone : Bool) → (known : List Waiting) → Effect Device
Admits alone known = OnNear (ops.Admits alone known)

-- the UIDs of all of these are set aside, and some of them have theirs
abbrev pub AdmitsPart : (alone : Bool) → Effect Device
AdmitsPart alone = OnNear (ops.AdmitsPart alone)

-- ---- copies

-- this message stands after the others, and `next` is given then
abbrev pub with_copy : Message → (next : ℕ) → Store → Store
with_copy copy next s = record s { next = next; messages = s.messages ++ copy ∷ [] }

-- the target has a copy with these flags and this mark of the source's message, under a UID of at least the next one
pub record MakesCopy (direction : Direction) (uid flags : ℕ) (mark : List ℕ) (d d' : Device) : Type 0 where
  pub bytes : List ℕ
  pub is_there : bytes_of uid (box d (source direction)) ≡ Some bytes
  pub is_fit : fit (source direction) bytes ≡ true
  pub copy : ℕ
  pub next : ℕ
  pub least : (box d (target direction)).next ≤ copy
  pub below : copy < next
  pub now : d' ≡ on_box (target direction) (with_copy (copy_of (target direction) copy flags mark bytes) next) d

pub record Carries (direction : Direction) (uid flags : ℕ) (mark : List ℕ) (reported : Option ℕ) (d d' : Device) : Type 0 where
  pub makes : MakesCopy direction uid flags mark d d'
  pub states : Reports reported makes.copy

-- the source's message is there, but not fit
pub record IsUnfit (direction : Direction) (uid : ℕ) (d : Device) : Type 0 where
  pub bytes : List ℕ
  pub is_there : bytes_of uid (box d (source direction)) ≡ Some bytes
  pub is_unfit : fit (source direction) bytes ≡ false

abbrev pub Carry : Direction → (uid flags : ℕ) → (mark : List ℕ) → Carried → Effect Device
Carry direction uid flags mark Absent d d' = (d' ≡ d) × (bytes_of uid (box d (source direction)) ≡ None)
Carry direction uid flags mark Unfit d d' = (d' ≡ d) × IsUnfit direction uid d
Carry direction uid flags mark (Made reported) d d' = Carries direction uid flags mark reported d d'

abbrev pub copies_made : Carried → ℕ
copies_made Absent = 0
copies_made Unfit = 0
copies_made (Made reported) = 1

-- the next UID of a side may be raised
pub record SetsAside (side : Side) (d d' : Device) : Type 0 where
  pub next : ℕ
  pub least : (box d side).next ≤ next
  pub now : d' ≡ on_box side (λ s. record s { next = next }) d
