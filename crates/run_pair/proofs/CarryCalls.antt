-- From the clauses of a copy to those of the outside's call, in both directions.
use Rattle.std.proofs.Common.{◌≡◌, ◌⊎◌, inl, inr, refl, ℕ, Bool, true, false, List, Result, Ok, Err}
use Rattle.std.specs.Prelude.{IfErr, ◌&&◌}
use Rattle.book.specs.declared.shelf.Shelf as shelf
use Rattle.outside.specs.declared.mailbox.Mailbox as mailbox
use Rattle.device.specs.Calls.{Effect, Follows}
use Rattle.mailcore.specs.declared.side.Direction.{Direction}
use Rattle.mailcore.specs.declared.side.Direction.TheVariants.{Pull, Push}
use Rattle.mailcore.specs.declared.side.Side.{Side}
use Rattle.mailcore.specs.declared.side.Side.TheVariants as sides
use Rattle.mailcore.specs.Sides.{target}
use Rattle.mailcore.specs.Mailboxes.{Mailbox}
use Rattle.outside.specs.declared.box_fault.BoxFault.{BoxFault}
use Rattle.outside.specs.MailboxCalls.{HasCause, Never}
use Rattle.outside.specs.MailboxOperations.{NoRoom}
use Rattle.outside.specs.declared.fault.OutsideFault.{OutsideFault}
use Rattle.outside.specs.declared.fault.OutsideFault.TheVariants as fault
use Rattle.outside.specs.declared.outside.Carried.{Carried}
use Rattle.outside.specs.Arrivals.{Arrives}
use Rattle.outside.specs.BoxCalls.{Carry, SetsAside, copies_made}
use Rattle.outside.specs.Calls.{Call, FromBox, LeavesBy}
use Rattle.outside.specs.Devices.{Device, Named}
use Rattle.outside.proofs.CallsSpare.{AreSparing, IsSparing, aside_spares, carrying_spares, leaving_spares}
use Rattle.outside.proofs.GoingOn.{files_stay}
use Rattle.outside.proofs.Sparing.{arrivals_spare}
use Rattle.run_pair.specs.declared.pair.Pair.{Pair}
use Rattle.run_pair.specs.Copies.{carries, with_two}
use Rattle.run_pair.specs.Faults.{IsReported}
use Rattle.run_pair.specs.Pairs.{Failed, device_of}
use Rattle.run_pair.specs.Parts.{IsLess, both, with_named}
use Rattle.run_pair.specs.Tallies.{Counts, Tallied, ended, seen_with}
use Rattle.run_pair.proofs.Arriving.{alone_left, alone_right, less_left, less_right}
use Rattle.run_pair.proofs.Ending.{done_call, failed_call, if_err, tallied, tally}

-- ---- what is reported

reported_so : (own cause cause' : Type 0) (side : Side) (because : BoxFault → Mailbox → Type 0) (b : Mailbox) (e : OutsideFault) → (cause → cause') → IsReported own cause side because b e → IsReported own cause' side because b e
reported_so own cause cause' side because b fault.Stopped f h = f h
reported_so own cause cause' side because b fault.Refused f h = h
reported_so own cause cause' side because b (fault.Box s number) f h = h
reported_so own cause cause' side because b (fault.BadState line) f h = h
reported_so own cause cause' side because b (fault.BadJournal line) f h = h
reported_so own cause cause' side because b fault.NoMemory f h = h

from_reported : (own cause : Type 0) (side : Side) (because : BoxFault → Mailbox → Type 0) (b : Mailbox) (e : OutsideFault) → IsReported own cause side because b e → FromBox e
from_reported own cause side because b fault.Stopped h = tt
from_reported own cause side because b fault.Refused h = tt
from_reported own cause side because b (fault.Box s number) h = tt
from_reported own cause side because b (fault.BadState line) h = absurd h
from_reported own cause side because b (fault.BadJournal line) h = absurd h
from_reported own cause side because b fault.NoMemory h = tt

-- what the mailboxes report of a copy, the source first
module _ (a b ca cb ca' cb' : Type 0) (sa sb : Side) (ra rb : BoxFault → Mailbox → Type 0) (na nb : Mailbox) where
  abbrev Either : (ca cb : Type 0) → OutsideFault → Type 0
  Either ca cb e = IsReported a ca sa ra na e ⊎ IsReported b cb sb rb nb e

  either_box : (e : OutsideFault) → Either ca cb e → FromBox e
  either_box e (inl h) = from_reported a ca sa ra na e h
  either_box e (inr h) = from_reported b cb sb rb nb e h

  either_so : (ca → ca') → (cb → cb') → (e : OutsideFault) → Either ca cb e → Either ca' cb' e
  either_so f g e (inl h) = inl (reported_so a ca ca' sa ra na e f h)
  either_so f g e (inr h) = inr (reported_so b cb cb' sb rb nb e g h)

-- ---- the whole call

-- what the outside says of it
pub record CarryEnds (direction : Direction) (uid flags : ℕ) (mark : List ℕ) (honest : Type 0) (others : Effect Device) (by : OutsideFault → Type 0) (d d' : Device) (c c' : Counts)
    (result : Result Carried OutsideFault) : Type 0 where
  pub call : Call honest others copies_made FromBox (Carry direction uid flags mark) (LeavesBy (Carry direction uid flags mark) (SetsAside (target direction))) (seen_with d c) (seen_with d' c') result
  pub why : IfErr result by
  pub tallied : Tallied (ended copies_made) result c c'

module _ (direction : Direction) (uid flags : ℕ) (mark : List ℕ) (honest : Type 0) (others : Effect Device) (by by' : OutsideFault → Type 0) (d : Device) (now_with : List Named → Device) (c c' : Counts)
    (box : (e : OutsideFault) → by e → FromBox e) (so : (e : OutsideFault) → by e → by' e) (whole : c.is_broken ≡ false) (others_spare : IsSparing others) (files : (now_with c.named).files ≡ d.files) where
  abbrev d' : Device
  d' = now_with c.named

  sparing : AreSparing others (Carry direction uid flags mark) (LeavesBy (Carry direction uid flags mark) (SetsAside (target direction)))
  sparing = record {
    others = others_spare;
    does = carrying_spares direction uid flags mark;
    leaves = leaving_spares (Carry direction uid flags mark) (SetsAside (target direction)) (carrying_spares direction uid flags mark) (aside_spares (target direction));
  }

  carried : (answer : Result Carried OutsideFault) → IfErr answer by → (honest → Follows others (carries direction uid flags mark answer) d d')
      → Call honest others copies_made FromBox (Carry direction uid flags mark) (LeavesBy (Carry direction uid flags mark) (SetsAside (target direction))) (seen_with d c) (seen_with d' (ended copies_made answer c)) answer
  carried (Ok x) why effect = done_call honest others copies_made FromBox (Carry direction uid flags mark) (LeavesBy (Carry direction uid flags mark) (SetsAside (target direction))) d d' c whole sparing (λ _. files_stay d.files d'.files files) x effect
  carried (Err e) why effect =
      failed_call honest others copies_made FromBox (Carry direction uid flags mark) (LeavesBy (Carry direction uid flags mark) (SetsAside (target direction))) d d' c whole sparing (λ _. files_stay d.files d'.files files) e (box e why) effect

  carry_ends : (answer result : Result Carried OutsideFault) → result ≡ answer → c' ≡ ended copies_made answer c → IfErr answer by → (honest → Follows others (carries direction uid flags mark answer) d d')
      → CarryEnds direction uid flags mark honest others by' d (now_with c'.named) c c' result
  carry_ends answer result same now why effect = record {
    call = tallied honest others copies_made FromBox (Carry direction uid flags mark) (LeavesBy (Carry direction uid flags mark) (SetsAside (target direction))) d now_with c c' answer result same now (carried answer why effect);
    why = if_err by by' answer result same so why;
    tallied = tally (ended copies_made) answer result c c' whole same now;
  }

module _ {F N S : Type 0} {fars : mailbox.Ghosts F} {nears : mailbox.Ghosts N} {shelves : shelf.Ghosts S} (p : Pair F N S fars nears shelves) (uid flags : ℕ) (mark : List ℕ)
    (far : F) (near : N) (c' : Counts) (answer result : Result Carried OutsideFault) (whole : p.tally.is_broken ≡ false) (same : result ≡ answer) (now : c' ≡ ended copies_made answer p.tally) where
  abbrev honest : Type 0
  honest = fars.honest far × nears.honest near × shelves.honest p.book.book.shelf

  abbrev others : Effect Device
  others = Arrives (both fars.ours nears.ours) (fars.alone && nears.alone)

  abbrev far_cause : Type 0
  far_cause = HasCause (fars.ended p.far far) (fars.seen p.far) (fars.seen far)

  abbrev near_cause : Type 0
  near_cause = HasCause (nears.ended p.near near) (nears.seen p.near) (nears.seen near)

  -- what a pull reports, for these causes of stops
  abbrev pulls : (of_far of_near : Type 0) → OutsideFault → Type 0
  pulls of_far of_near e =
      IsReported (fars.honest far) of_far sides.Far Never (fars.seen far).stored e ⊎ IsReported (nears.honest near) of_near sides.Near (NoRoom sides.Near (λ _. 1)) (nears.seen near).stored e

  -- what a push reports
  abbrev pushes : (of_near of_far : Type 0) → OutsideFault → Type 0
  pushes of_near of_far e =
      IsReported (nears.honest near) of_near sides.Near Never (nears.seen near).stored e ⊎ IsReported (fars.honest far) of_far sides.Far (NoRoom sides.Far (λ _. 1)) (fars.seen far).stored e

  pub pull_ends : IfErr answer (pulls far_cause near_cause)
      → (fars.honest far → nears.honest near → (ours : List ℕ → Bool) (alone : Bool) (d : Device) → IsLess fars.ours ours → IsLess nears.ours ours → (alone ≡ true → fars.alone ≡ true) → (alone ≡ true → nears.alone ≡ true)
      → Follows (Arrives ours alone) (carries Pull uid flags mark answer) (with_two Pull (fars.seen p.far).stored (nears.seen p.near).stored d) (with_two Pull (fars.seen far).stored (nears.seen near).stored d))
      → CarryEnds Pull uid flags mark honest others (pulls (Failed p far_cause) (Failed p near_cause)) (device_of p) (with_two Pull (fars.seen far).stored (nears.seen near).stored (with_named c'.named (device_of p))) p.tally c' result
  pull_ends why effect =
      carry_ends Pull uid flags mark honest others (pulls far_cause near_cause) (pulls (Failed p far_cause) (Failed p near_cause)) (device_of p) (λ ns. with_two Pull (fars.seen far).stored (nears.seen near).stored (with_named ns (device_of p))) p.tally c'
      (either_box (fars.honest far) (nears.honest near) far_cause near_cause far_cause near_cause sides.Far sides.Near Never (NoRoom sides.Near (λ _. 1)) (fars.seen far).stored (nears.seen near).stored)
      (either_so (fars.honest far) (nears.honest near) far_cause near_cause (Failed p far_cause) (Failed p near_cause) sides.Far sides.Near Never (NoRoom sides.Near (λ _. 1)) (fars.seen far).stored (nears.seen near).stored (λ k. inr k) (λ k. inr k))
      whole (arrivals_spare (both fars.ours nears.ours) (fars.alone && nears.alone)) refl answer result same now why
      (λ h. effect h.0 h.1 (both fars.ours nears.ours) (fars.alone && nears.alone) (device_of p) (less_left fars.ours nears.ours) (less_right fars.ours nears.ours) (alone_left fars.alone nears.alone) (alone_right fars.alone nears.alone))

  pub push_ends : IfErr answer (pushes near_cause far_cause)
      → (nears.honest near → fars.honest far → (ours : List ℕ → Bool) (alone : Bool) (d : Device) → IsLess nears.ours ours → IsLess fars.ours ours → (alone ≡ true → nears.alone ≡ true) → (alone ≡ true → fars.alone ≡ true)
      → Follows (Arrives ours alone) (carries Push uid flags mark answer) (with_two Push (nears.seen p.near).stored (fars.seen p.far).stored d) (with_two Push (nears.seen near).stored (fars.seen far).stored d))
      → CarryEnds Push uid flags mark honest others (pushes (Failed p near_cause) (Failed p far_cause)) (device_of p) (with_two Push (nears.seen near).stored (fars.seen far).stored (with_named c'.named (device_of p))) p.tally c' result
  push_ends why effect =
      carry_ends Push uid flags mark honest others (pushes near_cause far_cause) (pushes (Failed p near_cause) (Failed p far_cause)) (device_of p) (λ ns. with_two Push (nears.seen near).stored (fars.seen far).stored (with_named ns (device_of p))) p.tally c'
      (either_box (nears.honest near) (fars.honest far) near_cause far_cause near_cause far_cause sides.Near sides.Far Never (NoRoom sides.Far (λ _. 1)) (nears.seen near).stored (fars.seen far).stored)
      (either_so (nears.honest near) (fars.honest far) near_cause far_cause (Failed p near_cause) (Failed p far_cause) sides.Near sides.Far Never (NoRoom sides.Far (λ _. 1)) (nears.seen near).stored (fars.seen far).stored (λ k. inr k) (λ k. inr k))
      whole (arrivals_spare (both fars.ours nears.ours) (fars.alone && nears.alone)) refl answer result same now why
      (λ h. effect h.1 h.0 (both fars.ours nears.ours) (fars.alone && nears.alone) (device_of p) (less_right fars.ours nears.ours) (less_left fars.ours nears.ours) (alone_right fars.alone nears.alone) (alone_left fars.alone nears.alone))
