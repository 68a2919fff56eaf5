-- What every call of the near mailbox keeps, whatever it does.
use Rattle.std.specs.Prelude.{◌≡◌, ℕ, ◌+◌, ◌<◌, ◌≤◌, ◌⊎◌, Bool, true, false, List, Result, Ok, Err}
use Rattle.device.specs.Calls.{Seen}
use Rattle.device.specs.declared.DeviceFault.TheVariants.{Stopped as DeviceStopped, NoMemory as DeviceNoMemory}
use Rattle.mailcore.specs.declared.keywords.Keyword.{Keyword}
use Rattle.maildir.specs.Folders.{Stored}
use Rattle.near_box.specs.declared.near_fault.NearFault.{NearFault}
use Rattle.near_box.specs.declared.near_fault.NearFault.TheVariants.{Stopped, Absent, TwoWithOneUid, BadMeta, UidsExhausted, NoMemory}
use Rattle.near_box.specs.declared.read_fault.ReadFault.{ReadFault}
use Rattle.near_box.specs.declared.read_fault.ReadFault.TheVariants.{Gone, Device}
use Rattle.near_box.specs.NearFaults.{near_fault}

-- ---- parts of a call

-- a part answered: nothing stopped in it, and a folder that was whole is so
abbrev pub Answers : Seen Stored → Seen Stored → Type 0
Answers old new = (new.stops ≡ old.stops) × (old.is_broken ≡ false → new.is_broken ≡ false)

-- a part of a call: it reports a stop only where the folder stopped, which is then broken, and no fault of its own but
-- `NoMemory`
abbrev pub Part : {T : Type 0} → Seen Stored → Seen Stored → Result T NearFault → Type 0
Part old new (Ok answer) = Answers old new
Part old new (Err Stopped) = (old.is_broken ≡ false → old.stops < new.stops) × (new.is_broken ≡ true)
Part old new (Err NoMemory) = old.stops ≤ new.stops
Part old new (Err Absent) = ⊥
Part old new (Err TwoWithOneUid) = ⊥
Part old new (Err BadMeta) = ⊥
Part old new (Err UidsExhausted) = ⊥

-- a part that reads files: where one is gone, the folder answered that
abbrev pub Reads : {T : Type 0} → Seen Stored → Seen Stored → Result T ReadFault → Type 0
Reads old new (Ok answer) = Answers old new
Reads old new (Err Gone) = Answers old new
Reads old new (Err (Device DeviceStopped)) = (old.is_broken ≡ false → old.stops < new.stops) × (new.is_broken ≡ true)
Reads old new (Err (Device DeviceNoMemory)) = old.stops ≤ new.stops

-- what a fault in reading is to the caller, with how many files the box has missed: one that is gone counts, and is reported as a stop
abbrev pub Reported : ReadFault → (old new : ℕ) → NearFault → Type 0
Reported Gone old new reported = (reported ≡ Stopped) × (new ≡ old + 1)
Reported (Device fault) old new reported = (reported ≡ near_fault fault) × (new ≡ old)

-- ---- the box

-- the box as a contract sees it between two calls: whether it goes on, the validity that it has where there is no meta
-- file, its map of keywords, how many files it has missed, and its folder
pub record Box : Type 0 where
  pub is_ready : Bool
  pub fresh : ℕ
  pub keywords : List Keyword
  pub missed : ℕ
  pub folder : Seen Stored

-- how many calls have stopped: those of the folder, and those of the box that missed a file
abbrev pub stops_of : Box → ℕ
stops_of box = box.folder.stops + box.missed

-- the box answers: it was ready and goes on, its folder is whole, and nothing has stopped
pub record Goes (old new : Box) : Type 0 where
  pub fresh : new.fresh ≡ old.fresh
  pub keywords : new.keywords ≡ old.keywords
  pub was_ready : old.is_ready ≡ true
  pub is_ready : new.is_ready ≡ true
  pub is_whole : new.folder.is_broken ≡ false
  pub stops : stops_of new ≡ stops_of old

-- the box stops: a call has stopped, or the box had failed before, and then nothing was called. A folder that stopped
-- in it is broken. From then on the box has failed.
pub record Halts (old new : Box) : Type 0 where
  pub fresh : new.fresh ≡ old.fresh
  pub keywords : new.keywords ≡ old.keywords
  pub is_ready : new.is_ready ≡ false
  pub stuck : old.is_ready ≡ false → new ≡ old
  pub counted : old.is_ready ≡ true → stops_of old < stops_of new
  pub is_broken : old.folder.stops < new.folder.stops → new.folder.is_broken ≡ true

-- memory ran out, which is no stop: the box was ready, and has failed
pub record Starves (old new : Box) : Type 0 where
  pub fresh : new.fresh ≡ old.fresh
  pub keywords : new.keywords ≡ old.keywords
  pub was_ready : old.is_ready ≡ true
  pub is_ready : new.is_ready ≡ false
  pub no_less : stops_of old ≤ stops_of new

-- UIDs ran out, in a call that gives UIDs: nothing was called
abbrev pub RunsOut : (gives_uids : Bool) → Box → Box → Type 0
RunsOut true old new = (old.is_ready ≡ true) × (new ≡ old)
RunsOut false old new = ⊥

-- a call of the box ends
abbrev pub Ends : {T : Type 0} → (gives_uids : Bool) → Box → Box → Result T NearFault → Type 0
Ends gives_uids old new (Ok answer) = Goes old new
Ends gives_uids old new (Err Stopped) = Halts old new
Ends gives_uids old new (Err NoMemory) = Starves old new
Ends gives_uids old new (Err UidsExhausted) = RunsOut gives_uids old new
Ends gives_uids old new (Err Absent) = ⊥
Ends gives_uids old new (Err TwoWithOneUid) = ⊥
Ends gives_uids old new (Err BadMeta) = ⊥

-- ---- the box is opened

-- what a survey of the folder keeps: it reports a stop only where the folder stopped in it, or had stopped before
abbrev pub Looks : {T : Type 0} → Seen Stored → Seen Stored → Result T NearFault → Type 0
Looks old new (Ok answer) = (old.is_broken ≡ false) × (new.is_broken ≡ false) × (new.stops ≡ old.stops)
Looks old new (Err Stopped) = ((old.is_broken ≡ true) ⊎ (old.stops < new.stops)) × (new.is_broken ≡ true)
Looks old new (Err NoMemory) = old.stops ≤ new.stops
Looks old new (Err Absent) = (new.is_broken ≡ false) × (new.stops ≡ old.stops)
Looks old new (Err TwoWithOneUid) = (new.is_broken ≡ false) × (new.stops ≡ old.stops)
Looks old new (Err BadMeta) = (new.is_broken ≡ false) × (new.stops ≡ old.stops)
Looks old new (Err UidsExhausted) = ⊥

-- the same of what opens a box, which gives the folder back beside a fault
abbrev pub Opens : {B F : Type 0} → (B → Seen Stored) → (F → Seen Stored) → Seen Stored → Result B (NearFault × F) → Type 0
Opens of_box of_folder old (Ok box) = Looks {T = Unit {0}} old (of_box box) (Ok tt)
Opens of_box of_folder old (Err fault) = Looks {T = Unit {0}} old (of_folder fault.1) (Err fault.0)
