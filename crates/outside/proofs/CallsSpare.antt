-- Each call of an outside spares what it does not name.
use Rattle.std.proofs.Common.{◌≡◌, ◌⊎◌, inl, inr, ℕ, Bool, List, Option, None, Some, Result, Ok, Err}
use Rattle.std.specs.Prelude.{length}
use Rattle.device.specs.Calls.{Answers, Effect, Follows}
use Rattle.mailcore.specs.declared.mailbox.Message.{Message}
use Rattle.mailcore.specs.declared.side.Direction.{Direction}
use Rattle.mailcore.specs.declared.side.Side.{Side}
use Rattle.mailcore.specs.Operations.{flags_added, flags_removed}
use Rattle.mailcore.specs.Sides.{target}
use Rattle.mailcore.specs.Stores.{Store, Waiting}
use Rattle.rules.specs.Copies.{copy_of}
use Rattle.book.specs.declared.book.Pending.{Pending}
use Rattle.book.specs.Shelves.{Files}
use Rattle.outside.specs.MailboxOperations.{removed}
use Rattle.outside.specs.declared.fault.OutsideFault.{OutsideFault}
use Rattle.outside.specs.declared.fault.OutsideFault.TheVariants as out
use Rattle.outside.specs.declared.outside.Carried.{Carried}
use Rattle.outside.specs.declared.outside.Carried.TheVariants.{Absent, Unfit, Made}
use Rattle.outside.specs.BookCalls.{LeavesUnread, OfBook, ReadsBook}
use Rattle.outside.specs.BoxCalls.{Admits, AdmitsPart, Carry, SetsAside, with_copy}
use Rattle.outside.specs.Calls.{LeavesBy}
use Rattle.outside.specs.Devices.{Device, box}
use Rattle.outside.specs.Opened.{Opened}
use Rattle.outside.specs.Sparing.{Spares}
use Rattle.outside.proofs.Order.{store_copied, store_raised}
use Rattle.outside.proofs.Sparing.{admission_spares, copy_keeps, keeping_spares, nothing_named, same_boxes, spares_after}

-- an effect that spares what it does not name
abbrev pub IsSparing : Effect Device → Type 0
IsSparing does = (d d' : Device) → does d d' → Spares d d'

-- so does what others do, what a call does by its answer, and what it leaves by its fault
pub record AreSparing {T : Type 0} (theirs : Effect Device) (own : T → Effect Device) (left : OutsideFault → Effect Device) : Type 0 where
  pub others : IsSparing theirs
  pub does : (x : T) → IsSparing (own x)
  pub leaves : (e : OutsideFault) → IsSparing (left e)

-- ---- whole calls

-- others act, and then the call has its effect
pub followed_spares : (others own : Effect Device) → IsSparing others → IsSparing own → IsSparing (Follows others own)
followed_spares others own f g d d' h = spares_after d h.mid d' (f d h.mid h.before) (g h.mid d' h.following)

pub leaving_spares : {T : Type 0} (does : T → Effect Device) (part : Effect Device) → ((x : T) → IsSparing (does x)) → IsSparing part → (e : OutsideFault) → IsSparing (LeavesBy does part e)
leaving_spares does part g k out.Stopped d d' (inl same) = nothing_named d d' same
leaving_spares does part g k out.Stopped d d' (inr (inl some)) = g some.answer d d' some.done
leaving_spares does part g k out.Stopped d d' (inr (inr half)) = k d d' half
leaving_spares does part g k out.Refused d d' same = nothing_named d d' same
leaving_spares does part g k (out.Box side number) d d' same = nothing_named d d' same
leaving_spares does part g k (out.BadState line) d d' same = nothing_named d d' same
leaving_spares does part g k (out.BadJournal line) d d' same = nothing_named d d' same
leaving_spares does part g k out.NoMemory d d' (inl same) = nothing_named d d' same
leaving_spares does part g k out.NoMemory d d' (inr (inl some)) = g some.answer d d' some.done
leaving_spares does part g k out.NoMemory d d' (inr (inr half)) = k d d' half

-- ---- what calls do

pub reporting_spares : {T : Type 0} (states : T → Device → Type 0) (x : T) → IsSparing (Answers states x)
reporting_spares states x d d' t = nothing_named d d' t.0

pub book_spares : (does : Pending → Effect Files) (opened : Option Opened) → IsSparing (OfBook does opened)
book_spares does None d d' t = absurd t
book_spares does (Some o) d d' t = same_boxes d d' t.far t.near t.named

pub carrying_spares : (direction : Direction) (uid flags : ℕ) (mark : List ℕ) (x : Carried) → IsSparing (Carry direction uid flags mark x)
carrying_spares direction uid flags mark Absent d d' t = nothing_named d d' t.0
carrying_spares direction uid flags mark Unfit d d' t = nothing_named d d' t.0
carrying_spares direction uid flags mark (Made reported) d d' t =
    let m = t.makes in
    let copy : Message = copy_of (target direction) m.copy flags mark m.bytes in
    keeping_spares (target direction) (with_copy copy m.next) d d' (copy_keeps copy m.next) (λ is. store_copied (box d (target direction)) copy m.next m.least m.below is) m.now

pub aside_spares : (side : Side) → IsSparing (SetsAside side)
aside_spares side d d' t = keeping_spares side (λ s. record s { next = t.next }) d d' (λ s m c. c) (λ is. store_raised (box d side) t.next t.least is) t.now

pub admitting_spares : (alone : Bool) (known : List Waiting) → IsSparing (Admits alone known)
admitting_spares alone known d d' t = let n = t.near in admission_spares alone (length n.read) n.read n.left d d' n.reading t.far t.named n.now

pub admitting_part_spares : (alone : Bool) → IsSparing (AdmitsPart alone)
admitting_part_spares alone d d' t = let n = t.near in admission_spares alone n.count n.read n.left d d' n.reading t.far t.named n.now
