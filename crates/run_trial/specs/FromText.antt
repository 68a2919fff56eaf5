-- What is reported of the trial that a text is.
use Rattle.std.specs.Prelude.{◌≡◌, ◌+◌, ◌<◌, ◌^◌, ◌++◌, ℕ, Bool, true, false, List, codes}
use Rattle.maildir.specs.Gains.{nobody}
use Rattle.outside.specs.Devices.{Device}
use Rattle.rules.specs.declared.options.Options.{Options}
use Rattle.rules.specs.Admission.{admitted}
use Rattle.rules.specs.Alike.{Alike}
use Rattle.rules.specs.AlikeBy.{AreCopyMarks}
use Rattle.rules.specs.Opening.{IsOpening}
use Rattle.rules.specs.World.{World}
use Rattle.rules.specs.WorldAfter.{outcome}
use Rattle.run_states.specs.Beginnings.{opening_of}
use Rattle.run_states.specs.Conditions.{Underway}
use Rattle.worlds.specs.Trial.{is_counted}
use Rattle.worlds.specs.WorldText.{text_from_far}
use Rattle.run_trial.specs.declared.trial.Trial.{Trial}
use Rattle.run_trial.specs.Among.{HoldsAll, IsOverAmong, OthersLeftAmong}
use Rattle.run_trial.specs.Arriving.{AreNone, are_foreign}
use Rattle.run_trial.specs.Courses.{IsTextOf, LacksLine}
use Rattle.run_trial.specs.Printed.{Prints}
use Rattle.run_trial.specs.Worlds.{IsNamed, world_of}

-- ---- where nobody adds any

-- after what the run came to, a world is printed that is alike to the outcome of this one
pub record PrintsOutcome (w : World) (options : Options) (printed : List ℕ) : Type 0 where
  pub ending : List ℕ
  pub found : World
  pub text : printed ≡ ending ++ text_from_far found
  pub alike : (marks : List (List ℕ)) → AreCopyMarks (admitted w) options marks → Alike w (outcome (admitted w) options marks) found

-- after it, the world of a device is printed on which the run that began with this one is underway still
pub record PrintsUnderway (w : World) (options : Options) (printed : List ℕ) : Type 0 where
  pub ending : List ℕ
  pub left : Device
  pub prints : Prints left ending printed
  pub underway : Underway (opening_of nobody.ours nobody.alone w options) left

-- by the exit status: 0 where the run was settled, 1 where it ended with a fault
pub record Reports (w : World) (options : Options) (printed : List ℕ) (status : ℕ) : Type 0 where
  pub settled : status ≡ 0 → PrintsOutcome w options printed
  pub fault : status ≡ 1 → w.state.run + 1 < 2 ^ 64 → PrintsUnderway w options printed

-- ---- where others add messages

-- What a run to which others add messages has left, and what is printed: the world of that, with the files that they had still to add. By the
-- exit status: 0 where the run is over, and what they added after the listings is left to the next one; 1 where it is underway.
pub record ReportsAmong (ours : List ℕ → Bool) (w : World) (options : Options) (printed : List ℕ) (status : ℕ) : Type 0 where
  pub ending : List ℕ
  pub left : Device
  pub held : Device
  pub all : HoldsAll ours left held
  pub prints : Prints held ending printed
  pub over : status ≡ 0 → w.state.run + 1 < 2 ^ 64 → IsOverAmong ours w options left
  pub others : status ≡ 0 → w.state.run + 1 < 2 ^ 64 → OthersLeftAmong ours w options left
  pub fault : status ≡ 1 → w.state.run + 1 < 2 ^ 64 → Underway (opening_of ours false w options) left

-- ---- of a text

-- A text is that of this trial. This is reported of it, if no line says that there is a journal, none that other clients flag or remove a
-- message, and a run may begin with its world: one thing where no line says that others add something; another where something is added, and
-- nothing of it bears a mark that a trial may give.
pub record ReportsText (text printed : List ℕ) (status : ℕ) : Type 0 where
  pub trial : Trial
  pub is : IsTextOf trial text
  pub named : IsNamed trial.world.options.keywords (world_of trial.world)
  pub alone : LacksLine (codes "journal ") is.says.following → LacksLine (codes "arrive ") is.says.following
      → LacksLine (codes "flag ") is.says.following → LacksLine (codes "remove ") is.says.following → IsOpening (world_of trial.world)
      → Reports (world_of trial.world) trial.world.options printed status
  pub among : LacksLine (codes "journal ") is.says.following → LacksLine (codes "flag ") is.says.following
      → LacksLine (codes "remove ") is.says.following → ¬ AreNone trial.course.arrivals → are_foreign is_counted trial.course.arrivals ≡ true
      → IsOpening (world_of trial.world) → ReportsAmong is_counted (world_of trial.world) trial.world.options printed status
