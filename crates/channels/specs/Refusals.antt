-- What is refused before anything is opened.
use Rattle.std.specs.Prelude.{◌≡◌, ℕ, ◌⊎◌, IsSome, IsErr, List, [], ◌∷◌, ◌++◌, Option, None, Some, Result, Ok, Err, codes}
use Rattle.std.specs.Io.KnownBytes.{Appends}
use Rattle.config.specs.declared.config.Config.{Config}
use Rattle.config.specs.declared.request.RunRequest.{RunRequest}
use Rattle.config.specs.Cells.{line_cells}
use Rattle.channels.specs.Chosen.{unknown_among}
use Rattle.channels.specs.declared.course.Refusal.{Refusal}
use Rattle.channels.specs.declared.course.Refusal.TheVariants.{Unknown, SyncWords, NoMemory}

-- a name stands for nothing, or the words of Sync are refused
abbrev pub IsRefused : Config → RunRequest → Type 0
IsRefused config request = IsSome (unknown_among config request.chosen) ⊎ IsErr (line_cells request.sync_words.items)

-- this name is reported
abbrev pub Reports : Refusal → List ℕ → Type 0
Reports (Unknown text) name = text.now ≡ name
Reports SyncWords name = ⊥
Reports NoMemory name = ⊥

abbrev pub IsUnknown : {T : Type 0} → Result T Refusal → List ℕ → Type 0
IsUnknown (Ok course) name = ⊥
IsUnknown (Err refusal) name = Reports refusal name

abbrev pub status_of : Refusal → ℕ
status_of (Unknown name) = 2
status_of SyncWords = 2
status_of NoMemory = 1

-- why nothing of a line is done: the first of its names that stands for nothing; where each stands for something, the words of
-- Sync, or want of memory
abbrev pub IsReason : Config → RunRequest → Refusal → Type 0
IsReason config request (Unknown name) = unknown_among config request.chosen ≡ Some name.now
IsReason config request SyncWords = (unknown_among config request.chosen ≡ None) × IsErr (line_cells request.sync_words.items)
IsReason config request NoMemory = unknown_among config request.chosen ≡ None

abbrev pub refusal_text : Refusal → List ℕ
refusal_text (Unknown name) = codes "unknown " ++ name.now
refusal_text SyncWords = codes "sync words"
refusal_text NoMemory = codes "no memory"

-- what to do about it, on a line after a line end
abbrev pub refusal_advice : Refusal → List ℕ
refusal_advice (Unknown name) = 10 ∷ codes "  the configuration has no channel or group of this name: its lines Channel and Group say which it has"
refusal_advice SyncWords = []
refusal_advice NoMemory = []

abbrev pub refusal_lines : Refusal → List ℕ
refusal_lines refusal = codes "mbsync: " ++ refusal_text refusal ++ refusal_advice refusal ++ 10 ∷ []

-- nothing is done, for this reason
pub record IsUndone (config : Config) (request : RunRequest) : Type 0 where
  pub refusal : Refusal
  pub reason : IsReason config request refusal

-- nothing is done, and its reason is reported, on a line of its own with what to do after it, and by the status
pub record IsReportedUndone (config : Config) (request : RunRequest) (status : ℕ) (old new : Option (List ℕ)) : Type 0 where
  pub refusal : Refusal
  pub reason : IsReason config request refusal
  pub lines : Appends old new (refusal_lines refusal)
  pub states : status ≡ status_of refusal
