-- A box and its folder as the clauses of its calls name them.
use Rattle.std.specs.Prelude.{Result, length}
use Rattle.device.specs.Calls.{Effect, Seen}
use Rattle.maildir.specs.declared.folder.Folder as folder
use Rattle.maildir.specs.Folders.{Stored}
use Rattle.near_box.specs.declared.near_box.NearBox.{NearBox}
use Rattle.near_box.specs.declared.near_fault.NearFault.{NearFault}
use Rattle.mailcore.specs.Mailboxes.{Mailbox}
use Rattle.near_box.specs.Mailboxes.{near_of}
use Rattle.near_box.specs.NearCalls.{Box}
use Rattle.near_box.specs.NearContracts.{Changes}
use Rattle.near_box.specs.NearEffects.{Does}

module _ {F : Type 0} {folders : folder.Ghosts F} where
  -- what is seen of its folder
  abbrev pub seen_in : NearBox F folders → Seen Stored
  seen_in near = folders.seen near.folder

  -- what its folder stores
  abbrev pub stored_in : NearBox F folders → Stored
  stored_in near = (seen_in near).stored

  -- the box between two calls
  abbrev pub box_of : NearBox F folders → Box
  box_of near = record { is_ready = near.is_ready; fresh = near.fresh; keywords = near.keywords; missed = length near.missed.items; folder = seen_in near }

  -- the mailbox that stands in its folder
  abbrev pub mailbox_of : NearBox F folders → Mailbox
  mailbox_of near = near_of near.fresh near.keywords (stored_in near)

  -- what a call does to it
  abbrev pub TurnsMailbox : {T : Type 0} → (Mailbox → Mailbox) → (part : Effect Mailbox) → (old new : NearBox F folders) → Result T NearFault → Type 0
  TurnsMailbox effect part old new result = Changes effect part (mailbox_of old) (near_of old.fresh old.keywords (stored_in new)) result

  -- and to the files
  abbrev pub TurnsFiles : {T : Type 0} → (Stored → Stored) → (part : Effect Stored) → (old new : NearBox F folders) → Result T NearFault → Type 0
  TurnsFiles effect part old new result = Does effect part (stored_in old) (stored_in new) result
