-- What a trial begins with: a world, or a run that is pending.
use Rattle.std.specs.Prelude.{◌≡◌, ◌≢◌, ◌+◌, ◌<◌, ◌^◌, List, [], map, None}
use Rattle.mailcore.specs.declared.keywords.Keyword.{Keyword}
use Rattle.imap_client.specs.Seen.{seen_through}
use Rattle.maildir.specs.Gains.{nobody}
use Rattle.rules.specs.Opening.{IsOpening}
use Rattle.book.specs.Shelves.{bytes_of}
use Rattle.near_box.specs.Mailboxes.{near_of}
use Rattle.mail_sides.specs.Chosen.{settled}
use Rattle.outside.specs.Devices.{Device}
use Rattle.run_pair.specs.Parts.{device_with}
use Rattle.run_states.specs.Openings.{Opening}
use Rattle.run_trial.specs.declared.trial.Trial.{Trial}
use Rattle.run_trial.specs.Folders.{folder_of}
use Rattle.run_trial.specs.Openings.{StandsAt}
use Rattle.run_trial.specs.Shelves.{shelf_of}
use Rattle.run_trial.specs.Worlds.{IsNamed, store_of, waiting_of, world_of}

-- A trial from the start: it has no journal, its world is one that a run may begin with, and the flags there have names.
pub record IsStart (trial : Trial) : Type 0 where
  pub none : trial.course.journal ≡ None
  pub opening : IsOpening (world_of trial.world)
  pub named : IsNamed trial.world.options.keywords (world_of trial.world)

-- a number comes after that of its state
abbrev pub HasNext : Trial → Type 0
HasNext trial = trial.world.state.run + 1 < 2 ^ 64

-- the number of its state is the greatest
abbrev pub IsLast : Trial → Type 0
IsLast trial = trial.world.state.run + 1 ≡ 2 ^ 64

-- what its devices hold: both mailboxes by its map, its state and its journal
abbrev pub devices_of : Trial → Device
devices_of trial =
    let keywords : List Keyword = trial.world.options.keywords in
    device_with (settled (seen_through keywords (store_of trial.world.far)))
    (near_of 1 keywords (folder_of keywords (store_of trial.world.near) (map waiting_of trial.world.waiting.items)))
    (shelf_of trial.world.state (bytes_of trial.course.journal)) []

-- A trial that resumes a run: it has a journal, and its devices stand at this opening. They hold the plan of that run, or none.
pub record Resumes (opening : Opening nobody.ours nobody.alone) (trial : Trial) : Type 0 where
  pub journal : trial.course.journal ≢ None
  pub stands : StandsAt opening trial.world.options (devices_of trial)
