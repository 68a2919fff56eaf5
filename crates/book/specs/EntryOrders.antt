-- The order of the entries of a state.
use Rattle.std.specs.Prelude.{◌≤◌, ◌≡◌}
use Rattle.mailcore.specs.declared.side.Side.TheVariants.{Far, Near}
use Rattle.rules.specs.declared.entry.Entry.{Entry}
use Rattle.rules.specs.Entries.{uid_of}

-- by far and then near UID
abbrev pub IsNotAfter : Entry → Entry → Type 0
IsNotAfter a b = (uid_of Far a ≤ uid_of Far b) × (uid_of Far a ≡ uid_of Far b → uid_of Near a ≤ uid_of Near b)
