-- Why a world is not read: as a run would report it.
use Rattle.std.specs.Prelude.{ℕ, Option, None, Some, Result, Ok, Err}
use Rattle.outside.specs.declared.box_fault.BoxFault.{BoxFault}
use Rattle.outside.specs.declared.box_fault.BoxFault.TheVariants as mail
use Rattle.mailcore.specs.declared.fault.PushFault.{PushFault}
use Rattle.mailcore.specs.declared.fault.PushFault.TheVariants as push
use Rattle.mailcore.specs.declared.side.Side.{Side}
use Rattle.runner.specs.declared.fault.RunFault.TheVariants as run
use Rattle.sync_state.specs.declared.fault.BookFault.{BookFault}
use Rattle.sync_state.specs.declared.fault.BookFault.TheVariants as books
use Rattle.box_worlds.specs.declared.unread.UnreadWorld.{UnreadWorld}
use Rattle.box_worlds.specs.declared.unread.UnreadWorld.TheVariants.{Anew, Run}

abbrev pub out_of_memory : UnreadWorld
out_of_memory = Run run.NoMemory

abbrev pub box_reported : Side → BoxFault → UnreadWorld
box_reported side mail.Stopped = Run run.Stopped
box_reported side mail.Refused = Run (run.StoreFault side 2)
box_reported side (mail.Own number) = Run (run.StoreFault side number)
box_reported side mail.NoMemory = Run run.NoMemory

abbrev pub push_reported : Side → PushFault → UnreadWorld
push_reported side push.OutOfOrder = Run (run.StoreFault side 3)
push_reported side push.NoMemory = Run run.NoMemory

abbrev pub book_reported : BookFault → UnreadWorld
book_reported books.Stopped = Run run.Stopped
book_reported (books.BadState line) = Run (run.BadState line)
book_reported (books.BadJournal line) = Run (run.BadJournal line)
book_reported books.NoMemory = Run run.NoMemory

-- of a far mailbox with this next UID, and the greatest UID that it is to give a second time, if there is one
abbrev pub unless_anew : (next : ℕ) → Option ℕ → Result (Unit {0}) UnreadWorld
unless_anew next None = Ok tt
unless_anew next (Some known) = Err (Anew next known)
