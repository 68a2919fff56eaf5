-- What others add to a folder in memory.
use Rattle.std.specs.Prelude.{◌≡◌}
use Rattle.mailcore.specs.Visitors.{Visitors}
use Rattle.device.specs.Calls.{Seen}
use Rattle.maildir.specs.Folders.{Stored}
use Rattle.maildir.specs.Gains.{Adds}

-- others add files, and nothing else changes
abbrev pub AddsAlone : Visitors → Seen Stored → Seen Stored → Type 0
AddsAlone visitors old new = Adds visitors old.stored new.stored × (new ≡ record old { stored = new.stored })
