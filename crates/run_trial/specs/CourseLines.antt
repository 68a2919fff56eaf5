-- What each line of a course says, and what all of them say, one after another (docs/FORMATS.md, "Trial").
use Rattle.std.specs.Prelude.{◌≡◌, ◌⊎◌, ◌≢◌, ◌+◌, ◌<◌, ◌^◌, ◌++◌, ℕ, List, [], ◌∷◌, All, Contains, Option, None, Some, Vec, codes, decimal}
use Rattle.std.specs.Global.{Global}
use Rattle.std.specs.List.{flat_map, join_with_byte}
use Rattle.device.specs.declared.schedule.CallStop.{CallStop}
use Rattle.device.specs.declared.schedule.Moment.{Moment}
use Rattle.device.specs.declared.schedule.Moment.TheVariants as moment
use Rattle.mailcore.specs.Words.{flags_word}
use Rattle.maildir.specs.declared.file_acts.FileAct.{FileAct}
use Rattle.maildir.specs.declared.mem_folder.FolderCall.{FolderCall}
use Rattle.maildir.specs.declared.visited_folder.ArrivingFile.{ArrivingFile}
use Rattle.mem_link.specs.declared.acts.MessageDeed.{MessageDeed}
use Rattle.mem_link.specs.declared.acts.MessageDeed.TheVariants as deeds
use Rattle.book.specs.declared.mem_shelf.ShelfCall.{ShelfCall}
use Rattle.worlds.specs.WorldText.{quoted}
use Rattle.run_trial.specs.declared.act.FarAct.{FarAct}
use Rattle.run_trial.specs.declared.act.TrialActs.{TrialActs}
use Rattle.run_trial.specs.declared.arrival.FarArrival.{FarArrival}
use Rattle.run_trial.specs.declared.arrival.TrialArrivals.{TrialArrivals}
use Rattle.run_trial.specs.declared.stop.Cut.{Cut}
use Rattle.run_trial.specs.declared.stop.Cut.TheVariants.{Reply, Send}
use Rattle.run_trial.specs.declared.stop.DeviceStop.{DeviceStop}
use Rattle.run_trial.specs.declared.stop.DeviceStop.TheVariants as devices
use Rattle.run_trial.specs.declared.stop.FarStop.{FarStop}
use Rattle.run_trial.specs.declared.stop.FarStop.TheVariants as links
use Rattle.run_trial.specs.declared.stop.StopCommand.{StopCommand}
use Rattle.run_trial.specs.declared.stop.Stops.{Stops}
use Rattle.run_trial.specs.declared.stop.StopCommand.TheVariants.{Append}
use Rattle.run_trial.specs.declared.trial.TrialCourse.{TrialCourse}
use Rattle.run_trial.specs.ActLines.{file_deed, target_text}
use Rattle.run_trial.specs.Calls.{command_word, folder_word, shelf_word}

-- ---- words

-- the digits of a number; the greatest of its type stands for greater ones too
abbrev pub IsCount : (n : ℕ) → (word : List ℕ) → Type 0
IsCount n word = n + 1 < 2 ^ 64 → decimal n ≡ word

-- a line begins so, and so much is so of what follows
pub record After (start : List ℕ) (Says : List ℕ → Type 0) (line : List ℕ) : Type 0 where
  pub text : List ℕ
  pub begins : line ≡ start ++ text
  pub says : Says text

-- words with a space between each two
abbrev pub spaced : List (List ℕ) → List ℕ
spaced words = join_with_byte 32 words

-- ---- what stands after the first word of a line

-- `far before CALL k FLAGS "BYTES"`
pub record SaysFar (a : FarArrival) (text : List ℕ) : Type 0 where
  pub number : List ℕ
  pub counts : IsCount a.number number
  pub words : text ≡ spaced (codes "far" ∷ codes "before" ∷ command_word a.command ∷ number ∷ flags_word a.flags ∷ quoted a.bytes ∷ [])

-- `near before CALL k FLAGS "BYTES"`; the flags stand in the name of the file
pub record SaysNear (a : ArrivingFile) (text : List ℕ) : Type 0 where
  pub number : List ℕ
  pub flags : ℕ
  pub counts : IsCount a.number number
  pub words : text ≡ spaced (codes "near" ∷ codes "before" ∷ folder_word a.call ∷ number ∷ flags_word flags ∷ quoted a.bytes ∷ [])

-- `before` and `k`, `after` and `k`, or `part` and `k b`
abbrev pub SaysMoment : Moment → (word number rest : List ℕ) → Type 0
SaysMoment moment.Before word number rest = (word ≡ codes "before") × (rest ≡ number)
SaysMoment moment.After word number rest = (word ≡ codes "after") × (rest ≡ number)
SaysMoment (moment.Part b) word number rest = (word ≡ codes "part") × ((bytes : List ℕ) × IsCount b bytes × (rest ≡ spaced (number ∷ bytes ∷ [])))

-- `before CALL k`, `after CALL k` or `part CALL k b`
pub record SaysCall (call : List ℕ) (k : ℕ) (moment : Moment) (text : List ℕ) : Type 0 where
  pub word : List ℕ
  pub number : List ℕ
  pub rest : List ℕ
  pub words : text ≡ spaced (word ∷ call ∷ rest ∷ [])
  pub counts : IsCount k number
  pub stops : SaysMoment moment word number rest

-- `reply k b` or `send k b`
abbrev pub SaysWhere : Cut → (number text : List ℕ) → Type 0
SaysWhere (Reply b) number text = (bytes : List ℕ) × IsCount b bytes × (text ≡ spaced (codes "reply" ∷ number ∷ bytes ∷ []))
SaysWhere (Send b) number text = (bytes : List ℕ) × IsCount b bytes × (text ≡ spaced (codes "send" ∷ number ∷ bytes ∷ []))

pub record SaysCut (k : ℕ) (cut : Cut) (text : List ℕ) : Type 0 where
  pub number : List ℕ
  pub counts : IsCount k number
  pub words : SaysWhere cut number text

-- a line says a stop, after `stop` or after `cut`
abbrev pub SaysStop : DeviceStop → (line : List ℕ) → Type 0
SaysStop (devices.Folder stop) line = After (codes "stop ") (SaysCall (folder_word stop.call) stop.number stop.moment) line
SaysStop (devices.Shelf stop) line = After (codes "stop ") (SaysCall (shelf_word stop.call) stop.number stop.moment) line
SaysStop (devices.Link (links.Command stop)) line = After (codes "stop ") (SaysCall (command_word stop.call) stop.number stop.moment) line
SaysStop (devices.Link (links.Append k cut)) line = After (codes "cut ") (SaysCut k cut) line

-- ---- what they add to

-- what the lines of a course have said so far, each kind in their order
pub record Said : Type 0 where
  pub journal : Option (Vec ℕ Global)
  pub far : List FarArrival
  pub near : List ArrivingFile
  pub far_acts : List FarAct
  pub near_acts : List FileAct
  pub mutes : List ℕ
  pub folder : List (CallStop FolderCall)
  pub shelf : List (CallStop ShelfCall)
  pub link : List FarStop

abbrev pub nothing : Said
nothing = record { journal = None; far = []; near = []; far_acts = []; near_acts = []; mutes = []; folder = []; shelf = []; link = [] }

abbrev pub said_in : TrialCourse → Said
said_in c = record {
  journal = c.journal;
  far = c.arrivals.far.items;
  near = c.arrivals.near.items;
  far_acts = c.acts.far.items;
  near_acts = c.acts.near.items;
  mutes = c.mutes.items;
  folder = c.stops.folder.items;
  shelf = c.stops.shelf.items;
  link = c.stops.link.items;
}

-- which command a stop of the connection is for, and which one of its name
abbrev pub stopped_command : FarStop → StopCommand × ℕ
stopped_command (links.Command stop) = (stop.call, stop.number)
stopped_command (links.Append number cut) = (Append, number)

-- A stop is added after the others of its device; for a command of the connection that is stopped already, none is.
abbrev pub StopAdded : DeviceStop → (old new : Said) → Type 0
StopAdded (devices.Folder stop) old new = new ≡ record old { folder = old.folder ++ stop ∷ [] }
StopAdded (devices.Shelf stop) old new = new ≡ record old { shelf = old.shelf ++ stop ∷ [] }
StopAdded (devices.Link stop) old new =
    ((new ≡ record old { link = old.link ++ stop ∷ [] }) × All (λ s. stopped_command s ≢ stopped_command stop) old.link)
    ⊎ ((new ≡ old) × (other : FarStop) × Contains old.link other × (stopped_command other ≡ stopped_command stop))

-- with what others add so far
abbrev pub with_arrivals : TrialArrivals → Said → Said
with_arrivals arrivals said = record said { far = arrivals.far.items; near = arrivals.near.items }

-- with what other clients do so far
abbrev pub with_acts : TrialActs → Said → Said
with_acts acts said = record said { far_acts = acts.far.items; near_acts = acts.near.items }

-- with the stops so far
abbrev pub with_stops : Stops → Said → Said
with_stops stops said = record said { folder = stops.folder.items; shelf = stops.shelf.items; link = stops.link.items }

-- ---- a line, and all

-- what a message or a file that others add is, after `arrive`
pub record AddsFar (text : List ℕ) (old new : Said) : Type 0 where
  pub arrival : FarArrival
  pub says : SaysFar arrival text
  pub now : new ≡ record old { far = old.far ++ arrival ∷ [] }

pub record AddsNear (text : List ℕ) (old new : Said) : Type 0 where
  pub arrival : ArrivingFile
  pub says : SaysNear arrival text
  pub now : new ≡ record old { near = old.near ++ arrival ∷ [] }

abbrev pub AddsArrival : (text : List ℕ) → (old new : Said) → Type 0
AddsArrival text old new = AddsFar text old new ⊎ AddsNear text old new

-- What another client does to a message at the server, or to its file, after `flag` or `remove`: `SIDE before CALL k UID`, and what becomes of
-- its flags.
pub record AddsFarAct (deed : MessageDeed) (text : List ℕ) (old new : Said) : Type 0 where
  pub command : StopCommand
  pub k : ℕ
  pub uid : ℕ
  pub number : List ℕ
  pub counts : IsCount k number
  pub words : text ≡ spaced (codes "far" ∷ codes "before" ∷ command_word command ∷ number ∷ target_text uid deed ∷ [])
  pub now : new ≡ record old { far_acts = old.far_acts ++ record { command = command; number = k; uid = uid; deed = deed } ∷ [] }

pub record AddsNearAct (deed : MessageDeed) (text : List ℕ) (old new : Said) : Type 0 where
  pub call : FolderCall
  pub k : ℕ
  pub uid : ℕ
  pub number : List ℕ
  pub counts : IsCount k number
  pub words : text ≡ spaced (codes "near" ∷ codes "before" ∷ folder_word call ∷ number ∷ target_text uid deed ∷ [])
  pub now : new ≡ record old { near_acts = old.near_acts ++ record { call = call; number = k; uid = uid; deed = file_deed deed } ∷ [] }

abbrev pub AddsAct : MessageDeed → (text : List ℕ) → (old new : Said) → Type 0
AddsAct deed text old new = AddsFarAct deed text old new ⊎ AddsNearAct deed text old new

-- another client sets flags and then clears others, after `flag`
pub record AddsFlags (text : List ℕ) (old new : Said) : Type 0 where
  pub set : ℕ
  pub clear : ℕ
  pub adds : AddsAct (deeds.Flag set clear) text old new

-- the journal, after `journal`, where no line before has said it
pub record AddsJournal (text : List ℕ) (old new : Said) : Type 0 where
  pub bytes : Vec ℕ Global
  pub says : text ≡ quoted bytes.items
  pub first : old.journal ≡ None
  pub now : new ≡ record old { journal = Some bytes }

-- an APPEND without APPENDUID, after `mute`
pub record AddsMute (text : List ℕ) (old new : Said) : Type 0 where
  pub k : ℕ
  pub says : IsCount k text
  pub now : new ≡ record old { mutes = old.mutes ++ k ∷ [] }

-- a stop
pub record AddsStop (line : List ℕ) (old new : Said) : Type 0 where
  pub stop : DeviceStop
  pub says : SaysStop stop line
  pub now : StopAdded stop old new

-- a line says one of these
abbrev pub Adds : (line : List ℕ) → (old new : Said) → Type 0
Adds line old new =
    After (codes "journal ") (λ text. AddsJournal text old new) line
    ⊎ (After (codes "arrive ") (λ text. AddsArrival text old new) line
    ⊎ (After (codes "mute ") (λ text. AddsMute text old new) line
    ⊎ (After (codes "flag ") (λ text. AddsFlags text old new) line
    ⊎ (After (codes "remove ") (λ text. AddsAct deeds.Remove text old new) line ⊎ AddsStop line old new))))

-- the lines of a text say so much, one after another
abbrev pub AddInTurn : List (List ℕ) → (old new : Said) → Type 0
AddInTurn [] old new = new ≡ old
AddInTurn (line ∷ lines) old new = (said : Said) × Adds line old said × AddInTurn lines said new

pub record AllSay (text : List ℕ) (old new : Said) : Type 0 where
  pub lines : List (List ℕ)
  pub whole : text ≡ flat_map (λ line. line ++ 10 ∷ []) lines
  pub say : AddInTurn lines old new
