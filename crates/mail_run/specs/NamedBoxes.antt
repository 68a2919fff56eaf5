-- Channels that name a mailbox which no Maildir store can have.
use Rattle.std.specs.Prelude.{Bool, false, ◌||◌}
use Rattle.config.specs.declared.config.Boxes.{Boxes}
use Rattle.config.specs.declared.config.Boxes.TheVariants.{Pair, Matching}
use Rattle.near_places.specs.Names.{has_own_part}

-- one of the two mailboxes of a channel without patterns has such a name
abbrev pub names_own_part : Boxes → Bool
names_own_part (Pair far near) = has_own_part far || has_own_part near
names_own_part (Matching patterns) = false
