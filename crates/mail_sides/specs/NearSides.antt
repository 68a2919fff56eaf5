-- The near mailbox of a run as the clauses of its calls name it.
use Rattle.std.specs.Prelude.{◌≡◌, ◌⊎◌, ℕ, Bool, true, false, List, length, not, Result}
use Rattle.std.specs.Int.NonZero.{non_zero_u32_get}
use Rattle.device.specs.Calls.{Effect}
use Rattle.mailcore.specs.declared.keywords.Keyword.{Keyword}
use Rattle.mailcore.specs.declared.side.Side.TheVariants as side
use Rattle.maildir.specs.declared.folder.Folder as folder
use Rattle.near_box.specs.declared.near_box.NearBox.{NearBox}
use Rattle.near_box.specs.declared.near_fault.NearFault.TheVariants.{Absent, BadMeta, TwoWithOneUid}
use Rattle.near_box.specs.Boxes.{box_of, seen_in, stored_in}
use Rattle.mailcore.specs.Mailboxes.{Mailbox}
use Rattle.near_box.specs.Mailboxes.{near_of}
use Rattle.near_box.specs.NearCalls.{stops_of}
use Rattle.near_box.specs.NearContracts.{ReportsWhy}
use Rattle.outside.specs.FaultNumbers.{NEAR_ABSENT, NEAR_TWO_WITH_ONE_UID, NEAR_BAD_META}
use Rattle.outside.specs.declared.box_fault.BoxFault.{BoxFault}
use Rattle.outside.specs.declared.box_fault.BoxFault.TheVariants.{Stopped, Refused, Own, NoMemory}
use Rattle.outside.specs.BoxArrivals.{Arrives}
use Rattle.outside.specs.MailboxCalls.{Call, Seen}
use Rattle.outside.specs.MailboxOperations.{Admits, AdmitsPart, NoRoom}
use Rattle.mail_sides.specs.declared.near_side.NearSide.{NearSide}

-- whether a call has failed: of an open mailbox its box, of a closed one its folder
abbrev pub is_broken_in : (is_open is_ready is_broken : Bool) → Bool
is_broken_in true is_ready is_broken = not is_ready
is_broken_in false is_ready is_broken = is_broken

module _ {F : Type 0} {folders : folder.Ghosts F} where
  abbrev pub seen_at : (is_open : Bool) → (fresh : ℕ) → List Keyword → NearBox F folders → Seen
  seen_at is_open fresh keywords near = record {
    stored = near_of fresh keywords (stored_in near);
    is_broken = is_broken_in is_open near.is_ready (seen_in near).is_broken;
    stops = stops_of (box_of near);
  }

  -- its messages and what waits, whether a call has failed, and how many calls of the folder have stopped or missed a file
  abbrev pub seen_of : NearSide F folders → Seen
  seen_of side = seen_at side.is_open (non_zero_u32_get side.fresh) side.near.keywords side.near

  -- why the folder holds no mailbox: the first that holds of three
  abbrev pub Unfit : NearSide F folders → BoxFault → Type 0
  Unfit side Stopped = ⊥
  Unfit side Refused = ⊥
  Unfit side (Own number) =
      let why = ReportsWhy (non_zero_u32_get side.fresh) (stored_in side.near) in
      ((number ≡ NEAR_ABSENT) × why Absent) ⊎ (((number ≡ NEAR_TWO_WITH_ONE_UID) × why TwoWithOneUid) ⊎ ((number ≡ NEAR_BAD_META) × why BadMeta))
  Unfit side NoMemory = ⊥

  -- a call: others may have added files to the folder, and the other end, which is the folder, ends nothing
  abbrev pub Calls : {T : Type 0} → (because : BoxFault → Mailbox → Type 0) → (does : T → Effect Mailbox) → (part : Effect Mailbox)
      → (old new : NearSide F folders) → Result T BoxFault → Type 0
  Calls because does part old new result =
      Call (folders.honest new.near.folder) ⊥ (Arrives side.Near folders.visitors.ours folders.visitors.alone) because does part (seen_of old) (seen_of new) result

  -- all files that waited have their UIDs, or some of them, or there is no room for all that wait
  abbrev pub CallsAdmit : (old new : NearSide F folders) → Result (Unit {0}) BoxFault → Type 0
  CallsAdmit old new result =
      Calls {T = Unit {0}} (NoRoom side.Near (λ b. length b.waiting)) (λ _. Admits folders.visitors.alone (seen_of old).stored.waiting) (AdmitsPart folders.visitors.alone) old new result
