-- The outside over two mailboxes and a shelf, as its calls are seen.
use Rattle.std.specs.Prelude.{◌≡◌, ◌⊎◌, ◌<◌, ℕ, true, false, Option, ◌&&◌, Result}
use Rattle.book.specs.declared.shelf.Shelf as shelf
use Rattle.outside.specs.declared.mailbox.Mailbox as mailbox
use Rattle.device.specs.Calls.{Effect}
use Rattle.mailcore.specs.declared.side.Direction.{Direction}
use Rattle.mailcore.specs.declared.side.Side.{Side}
use Rattle.mailcore.specs.declared.side.Side.TheVariants.{Far, Near}
use Rattle.mailcore.specs.Sides.{source, target}
use Rattle.mailcore.specs.Mailboxes.{Mailbox as Box}
use Rattle.book.specs.declared.book.Pending.{Pending}
use Rattle.book.specs.Shelves.{Files}
use Rattle.outside.specs.declared.box_fault.BoxFault.{BoxFault}
use Rattle.outside.specs.MailboxCalls.{HasCause, Never}
use Rattle.outside.specs.MailboxOperations.{NoRoom}
use Rattle.outside.specs.declared.fault.OutsideFault.{OutsideFault}
use Rattle.outside.specs.Arrivals.{Arrives}
use Rattle.outside.specs.BookCalls.{OfBook}
use Rattle.outside.specs.Calls.{Call, Changes, Opens, Reads, Seen, Writes}
use Rattle.outside.specs.Devices.{Device}
use Rattle.outside.specs.Opened.{Opened}
use Rattle.run_pair.specs.BookParts.{files_of, honest_in, kept_of, standing_of}
use Rattle.run_pair.specs.declared.pair.Pair.{Pair}
use Rattle.run_pair.specs.Faults.{IsReported}
use Rattle.run_pair.specs.Parts.{answered, both, device_with, opened_with}
use Rattle.run_pair.specs.Tallies.{seen_with}

module _ {F N S : Type 0} {fars : mailbox.Ghosts F} {nears : mailbox.Ghosts N} {shelves : shelf.Ghosts S} where
  -- both mailboxes and the shelf have behaved as specified so far
  abbrev pub honest_of : Pair F N S fars nears shelves → Type 0
  honest_of p = fars.honest p.far × nears.honest p.near × honest_in p.book

  -- the same mailboxes and the same book, and as many calls counted
  pub record HasParts (old new : Pair F N S fars nears shelves) : Type 0 where
    pub far : new.far ≡ old.far
    pub near : new.near ≡ old.near
    pub book : new.book ≡ old.book
    pub tally : new.tally ≡ old.tally

  -- what they work on
  abbrev pub device_of : Pair F N S fars nears shelves → Device
  device_of p = device_with (fars.seen p.far).stored (nears.seen p.near).stored (files_of p.book) p.tally.named

  -- the outside as a contract sees it
  abbrev pub seen_of : Pair F N S fars nears shelves → Seen
  seen_of p = seen_with (device_of p) p.tally

  -- the last UIDVALIDITY that each open mailbox has answered
  abbrev pub far_answered : Pair F N S fars nears shelves → Option ℕ
  far_answered p = answered (fars.is_open p.far) p.far_validities.items

  abbrev pub near_answered : Pair F N S fars nears shelves → Option ℕ
  near_answered p = answered (nears.is_open p.near) p.near_validities.items

  -- what was read of the shelf, which UIDVALIDITYs the open boxes have answered, and which devices were listed
  abbrev pub opened_of : Pair F N S fars nears shelves → Option Opened
  opened_of p = opened_with (far_answered p) (near_answered p) p.listed.devices (kept_of p.book)

  -- ---- what a call does, in the words of the trait

  -- any call
  abbrev pub PairCall : {T : Type 0} → (copies : T → ℕ) → (may_report : OutsideFault → Type 0) → (does : T → Effect Device) → (leaves : OutsideFault → Effect Device)
      → (old new : Pair F N S fars nears shelves) → Result T OutsideFault → Type 0
  PairCall copies may_report does leaves old new result = Call (honest_of new) (Arrives (both fars.ours nears.ours) (fars.alone && nears.alone)) copies may_report does leaves (seen_of old) (seen_of new) result

  -- a call of the book that was read
  abbrev pub BookCall : (may_report : OutsideFault → Type 0) → (does part : Pending → Effect Files) → (old new : Pair F N S fars nears shelves) → Result (Unit {0}) OutsideFault → Type 0
  BookCall may_report does part old new result =
      Writes (honest_of new) (Arrives (both fars.ours nears.ours) (fars.alone && nears.alone)) may_report (OfBook does (opened_of old)) (OfBook part (opened_of old)) (seen_of old) (seen_of new) result

  -- a call of a mailbox that changes it
  abbrev pub BoxChange : (does part : Effect Device) → (old new : Pair F N S fars nears shelves) → Result (Unit {0}) OutsideFault → Type 0
  BoxChange does part old new result = Changes {T = Unit {0}} (honest_of new) (Arrives (both fars.ours nears.ours) (fars.alone && nears.alone)) (λ _. does) part (seen_of old) (seen_of new) result

  -- a call of a mailbox that reports what is so
  abbrev pub BoxRead : {T : Type 0} → (states : T → Device → Type 0) → (old new : Pair F N S fars nears shelves) → Result T OutsideFault → Type 0
  BoxRead states old new result = Reads (honest_of new) (Arrives (both fars.ours nears.ours) (fars.alone && nears.alone)) states (seen_of old) (seen_of new) result

  -- the same before the steps of a plan
  abbrev pub BoxOpens : {T : Type 0} → (states : T → Device → Type 0) → (old new : Pair F N S fars nears shelves) → Result T OutsideFault → Type 0
  BoxOpens states old new result = Opens (honest_of new) (Arrives (both fars.ours nears.ours) (fars.alone && nears.alone)) states (seen_of old) (seen_of new) result

  -- ---- why a call reports a fault

  -- a call has failed since the outside was opened, or this is so of the parts of the call
  abbrev pub Failed : (old : Pair F N S fars nears shelves) → (cause : Type 0) → Type 0
  Failed old cause = (old.tally.is_broken ≡ true) ⊎ cause

  -- the stops of a mailbox: a call of the device below has stopped in this call, or the other end has ended the session
  abbrev pub BoxCause : Side → (old new : Pair F N S fars nears shelves) → Type 0
  BoxCause Far old new = HasCause (fars.ended old.far new.far) (fars.seen old.far) (fars.seen new.far)
  BoxCause Near old new = HasCause (nears.ended old.near new.near) (nears.seen old.near) (nears.seen new.near)

  -- the mailbox of this side has behaved as specified so far
  abbrev pub box_honest : Side → Pair F N S fars nears shelves → Type 0
  box_honest Far p = fars.honest p.far
  box_honest Near p = nears.honest p.near

  -- the messages of this side, and what waits there
  abbrev pub box_of : Side → Pair F N S fars nears shelves → Box
  box_of Far p = (fars.seen p.far).stored
  box_of Near p = (nears.seen p.near).stored

  -- a call of the mailbox of this side, which has this reason for its refusals and its own faults
  abbrev pub ByBox : Side → (because : BoxFault → Box → Type 0) → (old new : Pair F N S fars nears shelves) → OutsideFault → Type 0
  ByBox side because old new fault = IsReported (box_honest side new) (Failed old (BoxCause side old new)) side because (box_of side new) fault

  -- a mailbox cannot be opened, for this reason
  abbrev pub CannotOpen : Side → (old : Pair F N S fars nears shelves) → BoxFault → Box → Type 0
  CannotOpen Far old fault now = fars.unfit old.far fault
  CannotOpen Near old fault now = nears.unfit old.near fault

  -- a call that copies: the source reports only stops and lack of memory, the target refuses for want of a UID
  abbrev pub ByCopy : Direction → (old new : Pair F N S fars nears shelves) → OutsideFault → Type 0
  ByCopy direction old new fault = ByBox (source direction) Never old new fault ⊎ ByBox (target direction) (NoRoom (target direction) (λ _. 1)) old new fault

  -- the stops of the book: a call of the shelf has stopped in this call
  abbrev pub BookCause : (old new : Pair F N S fars nears shelves) → Type 0
  BookCause old new = (standing_of old.book).stops < (standing_of new.book).stops

  -- a call of the book
  abbrev pub ByBook : (old new : Pair F N S fars nears shelves) → Type 0
  ByBook old new = Failed old (BookCause old new)

  -- a call of the book after a sync of the near mailbox
  abbrev pub BySyncedBook : (old new : Pair F N S fars nears shelves) → Type 0
  BySyncedBook old new = Failed old (BoxCause Near old new ⊎ BookCause old new)

  -- ---- a sync before the book, and what is whole

  -- The book is as it was, or what was open of the near mailbox is synced: what was changed since it was opened, and, if the book names
  -- something of that, what an earlier process had changed.
  abbrev pub IsSyncedFirst : (names_nothing : Type 0) → (old new : Pair F N S fars nears shelves) → Type 0
  IsSyncedFirst names_nothing old new = nears.is_open old.near ≡ true
      → (new.book ≡ old.book) ⊎ ((nears.is_synced new.near ≡ true) × (names_nothing ⊎ (nears.is_settled new.near ≡ true)))

  -- no call has failed, of a mailbox or of the book
  pub record IsWhole (p : Pair F N S fars nears shelves) : Type 0 where
    pub far : (fars.seen p.far).is_broken ≡ false
    pub near : (nears.seen p.near).is_broken ≡ false
    pub book : (standing_of p.book).is_ready ≡ true
