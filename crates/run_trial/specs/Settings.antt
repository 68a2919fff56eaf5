-- What the run of a trial is made over, before there is a link to the server.
use Rattle.std.specs.Prelude.{◌≡◌, ℕ, List, [], ◌∷◌, map, codes}
use Rattle.mailcore.specs.declared.keywords.Keyword.{Keyword}
use Rattle.mailcore.specs.declared.mailbox.StoredMailbox.{StoredMailbox}
use Rattle.imap_session.specs.Mailboxes.{FarMailbox}
use Rattle.imap_session.specs.Servers.{Server}
use Rattle.maildir.specs.Folders.{Stored}
use Rattle.maildir.specs.MemFolders.{stored_in}
use Rattle.book.specs.MemShelves.{files_of}
use Rattle.book.specs.Shelves.{Files, bytes_of}
use Rattle.near_box.specs.Mailboxes.{near_of}
use Rattle.mail_sides.specs.Chosen.{box_at}
use Rattle.outside.specs.Devices.{Device}
use Rattle.run_pair.specs.Parts.{device_with}
use Rattle.run_trial.specs.declared.trial.Trial.{Trial}
use Rattle.run_trial.specs.Folders.{folder_of}
use Rattle.run_trial.specs.Shelves.{shelf_of}
use Rattle.run_trial.specs.Worlds.{store_of, waiting_of}
use Rattle.run_trial.specs.declared.setting.TrialSetting.{TrialSetting}

-- a server's mailboxes where this one is its INBOX, and it has no other
abbrev pub inbox_of : StoredMailbox → List FarMailbox
inbox_of far = record { name = codes "INBOX"; store = store_of far } ∷ []

-- what a run by this map over the mailbox of this name, a folder and a shelf finds; a folder without a meta file has a fresh UIDVALIDITY
abbrev pub device_over : (mailbox : List ℕ) → (fresh : ℕ) → List Keyword → Server → (folder : Stored) → (shelf : Files) → Device
device_over mailbox fresh keywords server folder shelf = device_with (box_at keywords mailbox server) (near_of fresh keywords folder) shelf []

-- of a trial it is the INBOX, and the folder has a meta file
abbrev pub device_at : List Keyword → Server → (folder : Stored) → (shelf : Files) → Device
device_at = device_over (codes "INBOX") 1

abbrev pub device_in : TrialSetting → Device
device_in s = device_at s.options.keywords s.far.server.server (stored_in s.folder) (files_of s.shelf)

-- they hold what the trial says
pub record IsSettingOf (trial : Trial) (s : TrialSetting) : Type 0 where
  pub far : s.far.server.server.mailboxes ≡ inbox_of trial.world.far
  pub folder : stored_in s.folder ≡ folder_of trial.world.options.keywords (store_of trial.world.near) (map waiting_of trial.world.waiting.items)
  pub state : s.state ≡ trial.world.state
  pub options : s.options ≡ trial.world.options
  pub shelf : files_of s.shelf ≡ shelf_of trial.world.state (bytes_of trial.course.journal)
