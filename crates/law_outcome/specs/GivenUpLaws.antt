-- What is left of a plan that is given up, in laws that the functions of `src/lib.rt` show.
use Rattle.std.specs.Prelude.{◌≡◌, ◌⊎◌, false, map, Contains}
use Rattle.mailcore.specs.declared.listing.Listing.{Listing}
use Rattle.mailcore.specs.declared.side.Direction.{Direction}
use Rattle.mailcore.specs.Sides.{source}
use Rattle.rules.specs.declared.entry.Entry.{Entry}
use Rattle.rules.specs.declared.options.Options.{Options}
use Rattle.rules.specs.declared.state.SyncState.{SyncState}
use Rattle.rules.specs.Called.{called}
use Rattle.rules.specs.Entries.{uid_of}
use Rattle.rules.specs.Propagation.{New}
use Rattle.rules.specs.Scene.{scene}
use Rattle.sync_state.specs.declared.journal.Journal.{Journal}
use Rattle.book.specs.Committed.{entries_of_copies}
use Rattle.book.specs.GivingUp.{GivesUp, left_entry}
use Rattle.book.specs.LostSides.{Lost}

-- each copy that is logged stands in an entry, and so does each old pair, with the flags that the plan gave, and without the side that it
-- loses, if it loses one; there is no other entry
abbrev pub EntriesAreThese : Type 0
EntriesAreThese =
    (j : Journal) (lost : Lost) (old new : SyncState) (e : Entry) → GivesUp j lost old new →
    (Contains old.entries e → Contains new.entries (left_entry j lost e))
    × (Contains (entries_of_copies j.plan.steps j.log) e → Contains new.entries e)
    × (Contains new.entries e → Contains (map (left_entry j lost) old.entries) e ⊎ Contains (entries_of_copies j.plan.steps j.log) e)

-- whatever is listed then, and whatever the options: neither a message that was copied nor its copy is new
abbrev pub CopiesAreNotNew : Type 0
CopiesAreNotNew =
    (j : Journal) (lost : Lost) (old new : SyncState) (far near : Listing) (options : Options) (e : Entry) (d : Direction) → GivesUp j lost old new →
    Contains (entries_of_copies j.plan.steps j.log) e → called (scene far near new options) (New d (uid_of (source d) e)) ≡ false
