-- From the clauses of a book's call to that of the outside's part.
use Rattle.std.proofs.Common.{◌≡◌, ◌⊎◌, ℕ, inl, inr, ap, subst, sym, Bool, true, false, Option, None, Some, Result, Ok, Err}
use Rattle.device.specs.Calls.{Effect}
use Rattle.rules.specs.declared.plan.Plan.{Plan}
use Rattle.rules.specs.declared.state.SyncState.{SyncState}
use Rattle.sync_state.specs.declared.fault.BookFault.{BookFault}
use Rattle.sync_state.specs.declared.fault.BookFault.TheVariants.{Stopped, BadState, BadJournal, NoMemory}
use Rattle.sync_state.specs.declared.journal.Logged.{Logged}
use Rattle.book.specs.declared.book.Pending.{Pending}
use Rattle.book.specs.Books.{Ends, Leaves, Standing, Turns, TurnsHalf}
use Rattle.book.specs.Shelves.{Files}
use Rattle.outside.specs.declared.fault.OutsideFault.{OutsideFault}
use Rattle.run_pair.specs.BookFaults.{reported_by}
use Rattle.run_pair.specs.BookParts.{kept_in}
use Rattle.run_pair.specs.Kept.{IsRead, Kept, OfKept, TakesLog, TakesPlan}
use Rattle.run_pair.specs.PartCalls.{DoesSome, LeavesSome, Part, PartChanges}

pub of_kept : (does : Pending → Effect Files) (is_open : Bool) (s : SyncState) (p : Pending) (old new : Files) → IsRead (kept_in is_open s p) → does p old new
    → OfKept does (kept_in is_open s p) old new
of_kept does true s p old new read h = h
of_kept does false s p old new read h = absurd read

pub read_to_plan : (is_open : Bool) (s : SyncState) (p : Pending) (plan : Plan) → TakesPlan (kept_in is_open s p) plan → IsRead (kept_in is_open s p)
read_to_plan true s p plan takes = tt
read_to_plan false s p plan takes = takes

pub read_to_log : (is_open : Bool) (s : SyncState) (p : Pending) (step : ℕ) (logged : Logged) → TakesLog (kept_in is_open s p) step logged → IsRead (kept_in is_open s p)
read_to_log true s p step logged takes = tt
read_to_log false s p step logged takes = takes

in_part : (does half : Effect Files) (from to part : Pending) (old new : Files) → (Turns from to old new → does old new) → (TurnsHalf from part old new → half old new)
    → Turns from to old new ⊎ TurnsHalf from part old new → (new ≡ old) ⊎ (DoesSome {T = Unit {0}} (λ _. does) old new ⊎ half old new)
in_part does half from to part old new whole some (inl t) = inr (inl (record { answer = tt; done = whole t }))
in_part does half from to part old new whole some (inr t) = inr (inr (some t))

by_answer : (honest : Type 0) (does half : Effect Files) (from to part : Pending) (refused : Bool) (a b : Standing) (answer : Result (Unit {0}) BookFault)
    → (Turns from to a.shelf.stored b.shelf.stored → does a.shelf.stored b.shelf.stored)
    → (TurnsHalf from part a.shelf.stored b.shelf.stored → half a.shelf.stored b.shelf.stored)
    → (honest → Leaves from to part a.shelf.stored b.shelf.stored answer) → Ends refused a b answer
    → PartChanges {T = Unit {0}} honest (λ _. does) half a.shelf.stored b.shelf.stored (reported_by answer)
by_answer honest does half from to part refused a b (Ok v) whole some leaves ends = λ h. whole (leaves h)
by_answer honest does half from to part refused a b (Err Stopped) whole some leaves ends = λ h. in_part does half from to part a.shelf.stored b.shelf.stored whole some (leaves h)
by_answer honest does half from to part refused a b (Err NoMemory) whole some leaves ends = λ h. in_part does half from to part a.shelf.stored b.shelf.stored whole some (leaves h)
by_answer honest does half from to part refused a b (Err (BadState line)) whole some leaves ends = λ h. ap (λ (s : Standing). s.shelf.stored) ends.3
by_answer honest does half from to part refused a b (Err (BadJournal line)) whole some leaves ends = absurd ends

pub part_of : (honest : Type 0) (does half : Effect Files) (from to part : Pending) (refused : Bool) (a b : Standing) (answer : Result (Unit {0}) BookFault)
    (result : Result (Unit {0}) OutsideFault) → result ≡ reported_by answer
    → (Turns from to a.shelf.stored b.shelf.stored → does a.shelf.stored b.shelf.stored)
    → (TurnsHalf from part a.shelf.stored b.shelf.stored → half a.shelf.stored b.shelf.stored)
    → (honest → Leaves from to part a.shelf.stored b.shelf.stored answer) → Ends refused a b answer
    → PartChanges {T = Unit {0}} honest (λ _. does) half a.shelf.stored b.shelf.stored result
part_of honest does half from to part refused a b answer result same whole some leaves ends =
    let P : Result (Unit {0}) OutsideFault → Type 0 = λ r. PartChanges {T = Unit {0}} honest (λ _. does) half a.shelf.stored b.shelf.stored r in
    subst P (sym same) (by_answer honest does half from to part refused a b answer whole some leaves ends)
