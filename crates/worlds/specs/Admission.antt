-- A near file that gets its UID.
use Rattle.std.specs.Prelude.{ℕ, Bool}
use Rattle.mailcore.specs.declared.mailbox.Message.{Message}
use Rattle.mailcore.specs.declared.listing.Item.{Item}
use Rattle.worlds.specs.declared.world.WaitingFile.{WaitingFile}

-- the message that a file is under a UID
abbrev pub message_of : ℕ → WaitingFile → Message
message_of uid file = record { uid = uid; flags = file.flags; bytes = file.bytes }

-- what is listed of a file with these flags under a UID
abbrev pub item_under : (uid flags : ℕ) → (fit : Bool) → Item
item_under uid flags fit = record { uid = uid; flags = flags; fit = fit }
