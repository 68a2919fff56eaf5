-- What the files hold goes on, whatever a call of the book does to them.
use Rattle.std.proofs.Common.{◌≡◌, ◌<◌, ◌⊎◌, inl, inr, refl, sym, subst, ℕ, Bool, true, false, List, [], ◌∷◌, Option, None, Some, Result, Ok, Err, append-nil, arith}
use Rattle.book.specs.declared.shelf.Shelf as shelf
use Rattle.device.specs.Calls.{Effect}
use Rattle.rules.specs.declared.plan.Plan.{Plan}
use Rattle.rules.specs.declared.state.SyncState.{SyncState}
use Rattle.sync_state.specs.declared.journal.Logged.{Logged}
use Rattle.book.specs.declared.book.Pending.{Pending}
use Rattle.book.specs.declared.book.Pending.TheVariants.{Missing, Useless, Planned}
use Rattle.book.specs.Books.{Fits, Holds, IsPlanned, Turns, TurnsHalf, mended, torn}
use Rattle.book.specs.BookLogs.{begun, logged_more}
use Rattle.book.specs.Commits.{CommitsHalf, CommitsTo, HoldsCommitted, Makes}
use Rattle.book.specs.GivingUp.{GivesUpHalf, GivesUpTo, HoldsLeft, LeftOf}
use Rattle.book.specs.LostSides.{Lost}
use Rattle.book.specs.Shelves.{Files}
use Rattle.book.proofs.KnownBooks.{book_known}
use Rattle.outside.specs.declared.fault.OutsideFault.{OutsideFault}
use Rattle.outside.specs.declared.fault.OutsideFault.TheVariants as fault
use Rattle.outside.specs.Devices.{Device}
use Rattle.outside.specs.GoingOn.{FilesGoOn, HoldsNext, KeepsPlan}
use Rattle.outside.specs.Opened as opened
use Rattle.outside.proofs.GoingOn.{files_stay, keeps_same}
use Rattle.run_pair.specs.declared.book_part.BookPart.{BookPart}
use Rattle.run_pair.specs.BookParts.{files_of, goes_on, kept_in, kept_of, standing_of}
use Rattle.run_pair.specs.Kept.{Kept, OfKept, TakesPlan}
use Rattle.run_pair.specs.PartCalls.{PartChanges}
use Rattle.run_pair.specs.Parts.{opened_with}

-- ---- one journal in place of another

keeps_mended : (p : Pending) → KeepsPlan p (mended p)
keeps_mended Missing = tt
keeps_mended Useless = tt
keeps_mended (Planned w) = record { plan = refl; since = []; log = sym (append-nil w.journal.log) }

keeps_torn : (p : Pending) → KeepsPlan p (torn p)
keeps_torn Missing = tt
keeps_torn Useless = tt
keeps_torn (Planned w) = record { plan = refl; since = []; log = sym (append-nil w.journal.log) }

keeps_logged : (p : Pending) (logged : Logged) → KeepsPlan p (logged_more p logged)
keeps_logged Missing logged = tt
keeps_logged Useless logged = tt
keeps_logged (Planned w) logged = record { plan = refl; since = logged ∷ []; log = refl }

keeps_none : (p q : Pending) → (IsPlanned p → ⊥) → KeepsPlan p q
keeps_none Missing q none = tt
keeps_none Useless q none = tt
keeps_none (Planned w) q none = absurd (none tt)

-- the same state
with_journal : (s : SyncState) (p q : Pending) (files : Files) → KeepsPlan p q → Holds files s q → HoldsNext s p files
with_journal s p q files keeps held = record { state = s; pending = q; held = held; goes_on = inl (refl, keeps) }

turned : (s : SyncState) (p q : Pending) (old new : Files) → KeepsPlan p q → Holds old s p → Turns p q old new → HoldsNext s p new
turned s p q old new keeps held turns = with_journal s p q new keeps (turns s held)

half_turned : (s : SyncState) (p q : Pending) (old new : Files) → KeepsPlan p q → Holds old s p → TurnsHalf p q old new → HoldsNext s p new
half_turned s p q old new keeps held turns = either (turns s held)
  where
    either : Holds new s p ⊎ Holds new s q → HoldsNext s p new
    either (inl k) = with_journal s p p new (keeps_same p) k
    either (inr k) = with_journal s p q new keeps k

-- ---- a commit

later : (s t : SyncState) (p : Pending) → Fits s p → Makes p s t → s.run < t.run
later s t Missing fits made = absurd made
later s t Useless fits made = absurd made
later s t (Planned w) fits made = let run = made.run in let next = fits.next in omega (arith, run, next)

committed : (s t : SyncState) (p q : Pending) (new : Files) → Fits s p → Makes p s t → Holds new t q → HoldsNext s p new
committed s t p q new fits made held = record { state = t; pending = q; held = held; goes_on = inr (later s t p fits made) }

-- ---- a plan that is given up

later_left : (lost : Lost) (s t : SyncState) (p : Pending) → Fits s p → LeftOf lost p s t → s.run < t.run
later_left lost s t Missing fits left = absurd left
later_left lost s t Useless fits left = absurd left
later_left lost s t (Planned w) fits left = let run = left.run in let next = fits.next in omega (arith, run, next)

given_up : (lost : Lost) (s t : SyncState) (p q : Pending) (new : Files) → Fits s p → LeftOf lost p s t → Holds new t q → HoldsNext s p new
given_up lost s t p q new fits left held = record { state = t; pending = q; held = held; goes_on = inr (later_left lost s t p fits left) }

-- ---- a call of a book that was read

-- the files hold what was read, which fits
abbrev pub IsAt : Option Kept → Files → Type 0
IsAt None files = Unit {0}
IsAt (Some k) files = Holds files k.state k.pending × Fits k.state k.pending

-- from there this effect leads on
abbrev pub LeadsOn : (Pending → Effect Files) → Option Kept → Type 0
LeadsOn does None = Unit {0}
LeadsOn does (Some k) = (old new : Files) → Holds old k.state k.pending → Fits k.state k.pending → does k.pending old new → HoldsNext k.state k.pending new

module _ (does part : Pending → Effect Files) (own : Type 0) (old new : Files) where
  -- what the files hold is what was read
  from_known : (k : Kept) → Holds old k.state k.pending → HoldsNext k.state k.pending new → FilesGoOn old new
  from_known k held next s p h =
      let same = book_known old k.state s k.pending p held h in
      subst (λ (x : SyncState). HoldsNext x p new) same.0 (subst (λ (q : Pending). HoldsNext k.state q new) same.1 next)

  by_effect : (k : Option Kept) (some : Pending → Effect Files) → IsAt k old → LeadsOn some k → OfKept some k old new → FilesGoOn old new
  by_effect None some at leads h = absurd h
  by_effect (Some k) some at leads h = from_known k at.0 (leads old new at.0 at.1 h)

  pub goes_by : (k : Option Kept) → IsAt k old → LeadsOn does k → LeadsOn part k → (answer : Result (Unit {0}) OutsideFault) → own → PartChanges own (λ (x : Unit {0}). OfKept does k) (OfKept part k) old new answer → FilesGoOn old new
  goes_by k at all some (Ok x) is h = by_effect k does at all (h is)
  goes_by k at all some (Err e) is h = by_fault e (h is)
    where
      by_fault : (e : OutsideFault) → Rattle.run_pair.specs.PartCalls.LeavesSome {T = Unit {0}} (λ _. OfKept does k) (OfKept part k) e old new → FilesGoOn old new
      by_fault fault.Stopped (inl same) = files_stay old new same
      by_fault fault.Stopped (inr (inl d)) = by_effect k does at all d.done
      by_fault fault.Stopped (inr (inr d)) = by_effect k part at some d
      by_fault fault.Refused same = files_stay old new same
      by_fault (fault.Box side number) same = files_stay old new same
      by_fault (fault.BadState line) same = files_stay old new same
      by_fault (fault.BadJournal line) same = files_stay old new same
      by_fault fault.NoMemory (inl same) = files_stay old new same
      by_fault fault.NoMemory (inr (inl d)) = by_effect k does at all d.done
      by_fault fault.NoMemory (inr (inr d)) = by_effect k part at some d

is_at_if : (is_open is_ready is_broken : Bool) (s : SyncState) (p : Pending) (files : Files) → (is_ready ≡ true → Holds files s p) → Fits s p → goes_on is_open is_ready is_broken ≡ true → IsAt (kept_in is_open s p) files
is_at_if true is_ready is_broken s p files held fits ready = (held ready, fits)
is_at_if false is_ready is_broken s p files held fits ready = tt

-- the book of a part that has not failed
pub is_at : {S : Type 0} {shelves : shelf.Ghosts S} (b : BookPart S shelves) → (standing_of b).is_ready ≡ true → shelves.honest b.book.shelf → IsAt (kept_of b) (files_of b)
is_at b ready honest = is_at_if b.is_open b.book.is_ready _ b.book.state b.book.pending (files_of b) (λ is. b.book.holds is honest) b.book.fits ready

-- ---- which calls lead on

pub discards : (f n : Option ℕ) (l : List Device) (k : Option Kept) → opened.TakesDiscard (opened_with f n l k) → LeadsOn (λ p. Turns p Missing) k × LeadsOn (λ p. TurnsHalf p Missing) k
discards f n l None takes = (tt, tt)
discards f n l (Some k) takes = (
  λ old new held fits h. turned k.state k.pending Missing old new (keeps_none k.pending Missing takes) held h,
  λ old new held fits h. half_turned k.state k.pending Missing old new (keeps_none k.pending Missing takes) held h,
)

pub mends : (k : Option Kept) → LeadsOn (λ p. Turns p (mended p)) k × LeadsOn (λ p. TurnsHalf p p) k
mends None = (tt, tt)
mends (Some k) = (
  λ old new held fits h. turned k.state k.pending (mended k.pending) old new (keeps_mended k.pending) held h,
  λ old new held fits h. half_turned k.state k.pending k.pending old new (keeps_same k.pending) held h,
)

pub begins : (k : Option Kept) (plan : Plan) → TakesPlan k plan → LeadsOn (λ _. Turns Missing (begun plan)) k × LeadsOn (λ _. TurnsHalf Missing Useless) k
begins None plan takes = (tt, tt)
begins (Some k) plan takes = (
  λ old new held fits h. with_journal k.state k.pending (begun plan) new (none (begun plan)) (h k.state (missing old held)),
  λ old new held fits h. either new (h k.state (missing old held)),
)
  where
    none : (q : Pending) → KeepsPlan k.pending q
    none q = subst (λ (p : Pending). KeepsPlan p q) (sym takes.missing) tt

    missing : (old : Files) → Holds old k.state k.pending → Holds old k.state Missing
    missing old held = subst (λ (p : Pending). Holds old k.state p) takes.missing held

    either : (new : Files) → Holds new k.state Missing ⊎ Holds new k.state Useless → HoldsNext k.state k.pending new
    either new (inl h) = with_journal k.state k.pending Missing new (none Missing) h
    either new (inr h) = with_journal k.state k.pending Useless new (none Useless) h

pub logs : (k : Option Kept) (logged : Logged) → LeadsOn (λ p. Turns p (logged_more p logged)) k × LeadsOn (λ p. TurnsHalf p (torn p)) k
logs None logged = (tt, tt)
logs (Some k) logged = (
  λ old new held fits h. turned k.state k.pending (logged_more k.pending logged) old new (keeps_logged k.pending logged) held h,
  λ old new held fits h. half_turned k.state k.pending (torn k.pending) old new (keeps_torn k.pending) held h,
)

pub commits : (k : Option Kept) → LeadsOn CommitsTo k × LeadsOn CommitsHalf k
commits None = (tt, tt)
commits (Some k) = (
  λ old new held fits h. let m = h k.state held in committed k.state m.state k.pending Missing new fits m.made m.held,
  λ old new held fits h. either new fits (h k.state held),
)
  where
    made : (new : Files) → Fits k.state k.pending → (c : HoldsCommitted k.pending k.state new) → Holds new c.state Useless ⊎ Holds new c.state Missing → HoldsNext k.state k.pending new
    made new fits c (inl h) = committed k.state c.state k.pending Useless new fits c.made h
    made new fits c (inr h) = committed k.state c.state k.pending Missing new fits c.made h

    either : (new : Files) → Fits k.state k.pending → Holds new k.state k.pending ⊎ HoldsCommitted k.pending k.state new → HoldsNext k.state k.pending new
    either new fits (inl h) = with_journal k.state k.pending k.pending new (keeps_same k.pending) h
    either new fits (inr c) = made new fits c c.held

pub gives_up : (lost : Lost) (k : Option Kept) → LeadsOn (GivesUpTo lost) k × LeadsOn (GivesUpHalf lost) k
gives_up lost None = (tt, tt)
gives_up lost (Some k) = (
  λ old new held fits h. let m = h k.state held in given_up lost k.state m.state k.pending Missing new fits m.left m.held,
  λ old new held fits h. either new fits (h k.state held),
)
  where
    made : (new : Files) → Fits k.state k.pending → (c : HoldsLeft lost k.pending k.state new) → Holds new c.state Useless ⊎ Holds new c.state Missing → HoldsNext k.state k.pending new
    made new fits c (inl h) = given_up lost k.state c.state k.pending Useless new fits c.left h
    made new fits c (inr h) = given_up lost k.state c.state k.pending Missing new fits c.left h

    either : (new : Files) → Fits k.state k.pending → Holds new k.state k.pending ⊎ HoldsLeft lost k.pending k.state new → HoldsNext k.state k.pending new
    either new fits (inl h) = with_journal k.state k.pending k.pending new (keeps_same k.pending) h
    either new fits (inr c) = made new fits c c.held
