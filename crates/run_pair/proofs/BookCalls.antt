-- From the clauses of the book's part to those of the outside's.
use Rattle.std.proofs.Common.{◌≡◌, ◌<◌, ◌⊎◌, inl, inr, ap, refl, subst, sym, ◌∙◌, ℕ, true, false, List, Option, None, Some, Result, Ok, Err}
use Rattle.std.specs.Prelude.{IfErr, IsErrOf, ◌&&◌}
use Rattle.book.specs.declared.shelf.Shelf as shelf
use Rattle.outside.specs.declared.mailbox.Mailbox as mailbox
use Rattle.device.specs.Calls.{Effect}
use Rattle.mailcore.specs.declared.side.Side.TheVariants as side
use Rattle.mailcore.specs.Stores.{Store}
use Rattle.mailcore.specs.Mailboxes.{Mailbox}
use Rattle.rules.specs.declared.plan.Plan.{Plan}
use Rattle.rules.specs.declared.state.SyncState.{SyncState}
use Rattle.sync_state.specs.declared.journal.Logged.{Logged}
use Rattle.book.specs.declared.book.Pending.{Pending}
use Rattle.book.specs.LostSides.{Lost}
use Rattle.book.specs.Shelves.{Files}
use Rattle.outside.specs.BoxArrivals as box
use Rattle.outside.specs.declared.fault.OutsideFault.{OutsideFault}
use Rattle.outside.specs.declared.fault.OutsideFault.TheVariants as fault
use Rattle.outside.specs.Arrivals.{Arrives}
use Rattle.outside.specs.BookCalls as there
use Rattle.outside.specs.Calls.{Call, FromShelf, LeavesBy, Writes}
use Rattle.outside.specs.Devices.{Device, Named}
use Rattle.outside.specs.GoingOn.{FilesGoOn}
use Rattle.outside.proofs.CallsSpare.{AreSparing, book_spares, leaving_spares}
use Rattle.outside.proofs.Sparing.{arrivals_spare, nothing_named}
use Rattle.outside.specs.Opened as opened
use Rattle.outside.proofs.Quiet.{quiet as box_quiet}
use Rattle.outside.proofs.GoingOn.{files_stay}
use Rattle.run_pair.specs.PartCalls.{LeavesSome, Part, PartChanges}
use Rattle.run_pair.specs.Stops.{Standing, StopsSo}
use Rattle.run_pair.specs.declared.book_part.BookPart.{BookPart}
use Rattle.run_pair.specs.BookParts.{files_of, honest_in, kept_of, standing_of}
use Rattle.run_pair.specs.Kept.{Kept, AreCommitted, AreGivenUp, FromLog, IsBook, IsHeld, IsRead, LeavesUnread, OfKept, ReadsFiles, TakesCommit, TakesGivingUp, TakesLog, TakesPlan, journal_of, state_of, turned}
use Rattle.run_pair.specs.declared.pair.Pair.{Pair}
use Rattle.run_pair.specs.Pairs.{Failed, device_of, far_answered, near_answered, opened_of}
use Rattle.run_pair.specs.Parts.{both, device_with, opened_with}
use Rattle.run_pair.specs.Tallies.{Counts, Tallied, ended, no_copies, seen_with}
use Rattle.run_pair.proofs.Arriving.{alone_right, arrives_at, less_right, quiet}
use Rattle.run_pair.proofs.GoingOn.{LeadsOn, goes_by, is_at}
use Rattle.run_pair.proofs.Ending.{done_call, failed_call, tallied, tally}

-- ---- what was read

pub is_read : (f n : Option ℕ) (l : List Device) (k : Option Kept) → opened.IsRead (opened_with f n l k) → IsRead k
is_read f n l None h = h
is_read f n l (Some k) h = h

pub discard_read : (f n : Option ℕ) (l : List Device) (k : Option Kept) → opened.TakesDiscard (opened_with f n l k) → IsRead k
discard_read f n l None h = h
discard_read f n l (Some k) h = tt

pub takes_plan : (f n : Option ℕ) (l : List Device) (k : Option Kept) (plan : Plan) → opened.TakesPlan (opened_with f n l k) plan → TakesPlan k plan
takes_plan f n l None plan h = h
takes_plan f n l (Some k) plan h = h

pub takes_log : (f n : Option ℕ) (l : List Device) (k : Option Kept) (step : ℕ) (logged : Logged) → opened.TakesLog (opened_with f n l k) step logged → TakesLog k step logged
takes_log f n l None step logged h = h
takes_log f n l (Some k) step logged h = h

pub takes_commit : (f n : Option ℕ) (l : List Device) (k : Option Kept) → opened.TakesCommit (opened_with f n l k) → TakesCommit k
takes_commit f n l None h = h
takes_commit f n l (Some k) h = h

pub takes_giving_up : (f n : Option ℕ) (l : List Device) (k : Option Kept) → opened.TakesGivingUp (opened_with f n l k) → TakesGivingUp k
takes_giving_up f n l None h = h
takes_giving_up f n l (Some k) h = h

pub is_book : (f n : Option ℕ) (l : List Device) (k : Option Kept) → IsBook k → opened.IsBook (opened_with f n l k)
is_book f n l None h = h
is_book f n l (Some k) h = h

pub is_held : (f n : Option ℕ) (l : List Device) (k : Option Kept) (d : Device) → IsHeld k d.files → opened.IsHeld (opened_with f n l k) d
is_held f n l None d h = h
is_held f n l (Some k) d h = h

pub state_is : (f n : Option ℕ) (l : List Device) (k : Option Kept) (s : SyncState) → state_of k ≡ Some s → opened.state_of (opened_with f n l k) ≡ Some s
state_is f n l None s h = h
state_is f n l (Some k) s h = h

pub journal_is : (f n : Option ℕ) (l : List Device) (k : Option Kept) → journal_of k ≡ opened.journal_of (opened_with f n l k)
journal_is f n l None = refl
journal_is f n l (Some k) = refl

pub is_turned : (f n : Option ℕ) (l : List Device) (change : Pending → Pending) (k k' : Option Kept) → k' ≡ turned change k → opened_with f n l k' ≡ opened.turned change (opened_with f n l k)
is_turned f n l change None k' h = ap (opened_with f n l) h
is_turned f n l change (Some k) k' h = ap (opened_with f n l) h

pub are_committed : (f n : Option ℕ) (l : List Device) (k k' : Option Kept) → AreCommitted k k' → opened.AreCommitted (opened_with f n l k) (opened_with f n l k')
are_committed f n l None k' h = absurd h
are_committed f n l (Some k) None h = absurd h
are_committed f n l (Some k) (Some k') h = record { made = h.made; pending = h.pending; far = refl; near = refl; listed = refl }

pub are_given_up : (lost : Lost) (f n : Option ℕ) (l : List Device) (k k' : Option Kept) → AreGivenUp lost k k' → opened.AreGivenUp lost (opened_with f n l k) (opened_with f n l k')
are_given_up lost f n l None k' h = absurd h
are_given_up lost f n l (Some k) None h = absurd h
are_given_up lost f n l (Some k) (Some k') h = record { left = h.left; pending = h.pending; far = refl; near = refl }

-- ---- a call of the book that was read

of_book : (f n : Option ℕ) (l : List Device) (k : Option Kept) (does : Pending → Effect Files) (far : Store) (near : Mailbox) (files files' : Files) (named : List Named) → OfKept does k files files'
    → there.OfBook does (opened_with f n l k) (record { far = far; near = near; files = files; named = named }) (record { far = far; near = near; files = files'; named = named })
of_book f n l None does far near files files' named h = h
of_book f n l (Some k) does far near files files' named h = record { far = refl; near = refl; named = refl; files = h }

-- ---- a call of the book, after what others did

module _ (honest own : Type 0) (others : Effect Device) (may_report : OutsideFault → Type 0) (does part : Effect Files) (does' part' : Effect Device) (put : Files → Device) (files files' : Files)
    (all : does files files' → does' (put files) (put files')) (some : part files files' → part' (put files) (put files')) (sparing : AreSparing {T = Unit {0}} others (λ _. does') (LeavesBy {T = Unit {0}} (λ _. does') part')) where
  left_so : (e : OutsideFault) → LeavesSome {T = Unit {0}} (λ _. does) part e files files' → LeavesBy {T = Unit {0}} (λ _. does') part' e (put files) (put files')
  left_so fault.Stopped (inl h) = inl (ap put h)
  left_so fault.Stopped (inr (inl h)) = inr (inl (record { answer = tt; done = all h.done }))
  left_so fault.Stopped (inr (inr h)) = inr (inr (some h))
  left_so fault.Refused h = ap put h
  left_so (fault.Box side number) h = ap put h
  left_so (fault.BadState line) h = ap put h
  left_so (fault.BadJournal line) h = ap put h
  left_so fault.NoMemory (inl h) = inl (ap put h)
  left_so fault.NoMemory (inr (inl h)) = inr (inl (record { answer = tt; done = all h.done }))
  left_so fault.NoMemory (inr (inr h)) = inr (inr (some h))

  -- others act first, on the device as it was
  files_call : (d : Device) (c : Counts) (answer : Result (Unit {0}) OutsideFault)
      → (honest → FilesGoOn d.files (put files').files) → (honest → own) → (honest → others d (put files)) → c.is_broken ≡ false → IfErr answer may_report → (honest → PartChanges own (λ (x : Unit {0}). does) part files files' answer)
      → Writes honest others may_report does' part' (seen_with d c) (seen_with (put files') (ended (λ _. 0) answer c)) answer
  files_call d c (Ok x) goes kept before whole may p =
      done_call {T = Unit {0}} honest others (λ _. 0) may_report (λ _. does') (LeavesBy {T = Unit {0}} (λ _. does') part') d (put files') c whole sparing goes x
      (λ h. record { mid = put files; before = before h; following = all (p h (kept h)) })
  files_call d c (Err e) goes kept before whole may p =
      failed_call {T = Unit {0}} honest others (λ _. 0) may_report (λ _. does') (LeavesBy {T = Unit {0}} (λ _. does') part') d (put files') c whole sparing goes e may
      (λ h. record { mid = put files; before = before h; following = left_so e (p h (kept h)) })

-- ---- why it stops

-- the part had not failed before: a call of its device has stopped in this call
why : {T : Type 0} (old new : Standing) (answer result : Result T OutsideFault) → result ≡ answer → old.is_ready ≡ true → StopsSo old new answer → IsErrOf result fault.Stopped → old.stops < new.stops
why {T} old new answer result same ready h is = in_this (subst (λ (a : Result T OutsideFault). StopsSo old new a) (sym same ∙ is) h)
  where
    in_this : (old.is_ready ≡ false) ⊎ (old.stops < new.stops) → old.stops < new.stops
    in_this (inl failed) = absurd (cc)
    in_this (inr rose) = rose

from_log : (f n : Option ℕ) (l : List Device) (k : Option Kept) (logged : Logged) (e : OutsideFault) → FromLog k logged e → there.FromLog (opened_with f n l k) logged e
from_log f n l k logged fault.Stopped h = tt
from_log f n l k logged fault.Refused h = absurd h
from_log f n l k logged (fault.Box side number) h = absurd h
from_log f n l None logged (fault.BadState line) h = absurd h.1
from_log f n l (Some k) logged (fault.BadState line) h = h
from_log f n l k logged (fault.BadJournal line) h = absurd h
from_log f n l k logged fault.NoMemory h = tt

pub reports_log : (f n : Option ℕ) (l : List Device) (k : Option Kept) (logged : Logged) (answer : Result (Unit {0}) OutsideFault) → IfErr answer (FromLog k logged) → IfErr answer (there.FromLog (opened_with f n l k) logged)
reports_log f n l k logged (Ok x) h = tt
reports_log f n l k logged (Err e) h = from_log f n l k logged e h

-- ---- the book is read

reads_so : (f n : Option ℕ) (l : List Device) (k : Option Kept) (far : Store) (near : Mailbox) (files files' : Files) (named : List Named) → ReadsFiles k files files'
    → there.ReadsBook (opened_with f n l k) (record { far = far; near = near; files = files; named = named }) (record { far = far; near = near; files = files'; named = named })
reads_so f n l k far near files files' named h =
    (ap (λ (x : Files). record { far = far; near = near; files = x; named = named }) h.0, is_held f n l k (record { far = far; near = near; files = files; named = named }) h.1)

-- ---- the call of the book is that of the outside

-- what the outside says of a call of the book
pub record BookEnds (honest : Type 0) (others : Effect Device) (may_report : OutsideFault → Type 0) (does part : Effect Device) (d d' : Device) (c c' : Counts) (result : Result (Unit {0}) OutsideFault) : Type 0 where
  pub call : Writes honest others may_report does part (seen_with d c) (seen_with d' c') result
  pub tallied : Tallied {T = Unit {0}} (ended no_copies) result c c'

module _ {F N S : Type 0} {fars : mailbox.Ghosts F} {nears : mailbox.Ghosts N} {shelves : shelf.Ghosts S} (p : Pair F N S fars nears shelves) where
  -- the near mailbox and the book are as they are now
  pub book_ends : (does part : Pending → Effect Files) (may_report : OutsideFault → Type 0) (near : N) (book : BookPart S shelves) (c' : Counts) (answer result : Result (Unit {0}) OutsideFault)
      → LeadsOn does (kept_of p.book) × LeadsOn part (kept_of p.book) → p.tally.is_broken ≡ false → result ≡ answer → c' ≡ ended no_copies answer p.tally → IfErr answer may_report
      → (nears.honest near → box.Arrives side.Near nears.ours nears.alone (nears.seen p.near).stored (nears.seen near).stored)
      → (nears.honest near → PartChanges (honest_in book) (λ (x : Unit {0}). OfKept does (kept_of p.book)) (OfKept part (kept_of p.book)) (files_of p.book) (files_of book) answer)
      → (honest_in book → honest_in p.book)
      → BookEnds (fars.honest p.far × nears.honest near × honest_in book) (Arrives (both fars.ours nears.ours) (fars.alone && nears.alone)) may_report
      (there.OfBook does (opened_of p)) (there.OfBook part (opened_of p)) (device_of p) (device_with (fars.seen p.far).stored (nears.seen near).stored (files_of book) c'.named) p.tally c' result
  book_ends does part may_report near book c' answer result leads whole same now may before changes was = record {
    call = tallied honest others (λ _. 0) may_report (λ _. there.OfBook does (opened_of p)) (LeavesBy {T = Unit {0}} (λ _. there.OfBook does (opened_of p)) (there.OfBook part (opened_of p))) d (device_with (fars.seen p.far).stored (nears.seen near).stored (files_of book)) p.tally c' answer result same now
        (files_call honest (honest_in book) others may_report (OfKept does k) (OfKept part k) (there.OfBook does (opened_of p)) (there.OfBook part (opened_of p)) with_files (files_of p.book) (files_of book)
        (of_book f n l k does _ _ _ _ p.tally.named) (of_book f n l k part _ _ _ _ p.tally.named) sparing d p.tally answer
        (λ h. goes_by does part (honest_in book) (files_of p.book) (files_of book) k (is_at p.book (p.book_whole whole) (was h.2)) leads.0 leads.1 answer h.2 (changes h.1)) (λ h. h.2) (λ h. arrives h.1) whole may (λ h. changes h.1));
    tallied = tally (ended no_copies) answer result p.tally c' whole same now;
  }
    where
      f : Option ℕ
      f = far_answered p

      n : Option ℕ
      n = near_answered p

      l : List Device
      l = p.listed.devices

      k : Option Kept
      k = kept_of p.book

      d : Device
      d = device_of p

      honest : Type 0
      honest = fars.honest p.far × nears.honest near × honest_in book

      others : Effect Device
      others = Arrives (both fars.ours nears.ours) (fars.alone && nears.alone)

      with_files : Files → Device
      with_files files = device_with (fars.seen p.far).stored (nears.seen near).stored files p.tally.named

      sparing : AreSparing {T = Unit {0}} others (λ _. there.OfBook does (opened_of p)) (LeavesBy {T = Unit {0}} (λ _. there.OfBook does (opened_of p)) (there.OfBook part (opened_of p)))
      sparing = record {
        others = arrivals_spare (both fars.ours nears.ours) (fars.alone && nears.alone);
        does = λ _. book_spares does (opened_of p);
        leaves = leaving_spares {T = Unit {0}} (λ _. there.OfBook does (opened_of p)) (there.OfBook part (opened_of p)) (λ _. book_spares does (opened_of p)) (book_spares part (opened_of p));
      }

      arrives : nears.honest near → others d (with_files (files_of p.book))
      arrives h = arrives_at nears.ours (both fars.ours nears.ours) nears.alone (fars.alone && nears.alone) (less_right fars.ours nears.ours) (alone_right fars.alone nears.alone) d side.Near (nears.seen p.near).stored (nears.seen near).stored (before h)

  -- nobody acts on the near mailbox
  pub near_stays : nears.honest p.near → box.Arrives side.Near nears.ours nears.alone (nears.seen p.near).stored (nears.seen p.near).stored
  near_stays h = box_quiet side.Near nears.ours nears.alone (nears.seen p.near).stored

  pub by_book : (book : BookPart S shelves) (answer result : Result (Unit {0}) OutsideFault) → p.tally.is_broken ≡ false → result ≡ answer → StopsSo (standing_of p.book) (standing_of book) answer
      → IsErrOf result fault.Stopped → Failed p ((standing_of p.book).stops < (standing_of book).stops)
  by_book book answer result whole same stops is = inr (why (standing_of p.book) (standing_of book) answer result same (p.book_whole whole) stops is)

  -- the shelf is read
  pub open_ends : (book : BookPart S shelves) (c' : Counts) (answer result : Result (Unit {0}) OutsideFault)
      → p.tally.is_broken ≡ false → result ≡ answer → c' ≡ ended no_copies answer p.tally → IfErr answer FromShelf
      → Part (honest_in book) (λ (x : Unit {0}). ReadsFiles (kept_of book)) LeavesUnread (files_of p.book) (files_of book) answer
      → Call (fars.honest p.far × nears.honest p.near × honest_in book) (Arrives (both fars.ours nears.ours) (fars.alone && nears.alone)) (λ (x : Unit {0}). 0) FromShelf
      (λ (x : Unit {0}). there.ReadsBook (opened_with (far_answered p) (near_answered p) p.listed.devices (kept_of book))) there.LeavesUnread
      (seen_with (device_of p) p.tally) (seen_with (device_with (fars.seen p.far).stored (nears.seen p.near).stored (files_of book) c'.named) c') result
  open_ends book c' answer result whole same now may reads =
      tallied honest others (λ _. 0) FromShelf does there.LeavesUnread (device_of p) (device_with (fars.seen p.far).stored (nears.seen p.near).stored (files_of book)) p.tally c' answer result same now (by_answer answer may reads)
    where
      honest : Type 0
      honest = fars.honest p.far × nears.honest p.near × honest_in book

      others : Effect Device
      others = Arrives (both fars.ours nears.ours) (fars.alone && nears.alone)

      with_files : Files → Device
      with_files files = device_with (fars.seen p.far).stored (nears.seen p.near).stored files p.tally.named

      does : Unit {0} → Effect Device
      does x = there.ReadsBook (opened_with (far_answered p) (near_answered p) p.listed.devices (kept_of book))

      sparing : AreSparing others does there.LeavesUnread
      sparing = record {
        others = arrivals_spare (both fars.ours nears.ours) (fars.alone && nears.alone);
        does = λ x d d' r. nothing_named d d' r.0;
        leaves = λ e d d' r. nothing_named d d' r.0;
      }

      by_answer : (a : Result (Unit {0}) OutsideFault) → IfErr a FromShelf → Part (honest_in book) (λ (x : Unit {0}). ReadsFiles (kept_of book)) LeavesUnread (files_of p.book) (files_of book) a
          → Call honest others (λ _. 0) FromShelf does there.LeavesUnread (seen_with (device_of p) p.tally) (seen_with (with_files (files_of book)) (ended (λ _. 0) a p.tally)) a
      by_answer (Ok x) h r =
          done_call honest others (λ _. 0) FromShelf does there.LeavesUnread (device_of p) (with_files (files_of book)) p.tally whole sparing (λ y. files_stay (files_of p.book) (files_of book) (r y.2).0) x
          (λ y. record { mid = device_of p; before = quiet _ _ _; following = reads_so (far_answered p) (near_answered p) p.listed.devices (kept_of book) _ _ (files_of p.book) (files_of book) p.tally.named (r y.2) })
      by_answer (Err e) h r =
          failed_call honest others (λ _. 0) FromShelf does there.LeavesUnread (device_of p) (with_files (files_of book)) p.tally whole sparing (λ y. files_stay (files_of p.book) (files_of book) (r y.2).0) e h
          (λ y. record { mid = device_of p; before = quiet _ _ _; following = (ap with_files (r y.2).0, (r y.2).1) })
