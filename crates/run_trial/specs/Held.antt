-- What another run over the devices of a trial finds.
use Rattle.std.specs.Int.NonZero.{non_zero_u32_get}
use Rattle.book.specs.MemShelves.{files_of}
use Rattle.imap_link.specs.declared.link.Link as link
use Rattle.maildir.specs.MemFolders.{stored_in}
use Rattle.outside.specs.Devices.{Device}
use Rattle.run_trial.specs.declared.devices.Devices.{Devices}
use Rattle.run_trial.specs.Settings.{device_over}

module _ {L : Type 0} {links : link.Ghosts L} where
  -- the mailbox of their account, their folder and their shelf, where no call has named a message
  abbrev pub held_in : Devices L links → Device
  held_in d = device_over d.account.mailbox.items (non_zero_u32_get d.fresh) d.keywords (links.line d.link).end.server (stored_in d.folder) (files_of d.shelf)
