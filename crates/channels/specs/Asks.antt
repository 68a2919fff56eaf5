-- What the stores are asked for, over a record that grows with each thing.
use Rattle.std.specs.Prelude.{◌≡◌, ℕ, Bool, true, false, List, [], ◌∷◌, ◌++◌, ◌||◌, Option, Some, Ok, if◌then◌else◌}
use Rattle.std.specs.Borrow.{MutBor}
use Rattle.std.specs.List.{fold, flat_map}
use Rattle.mailcore.specs.declared.side.Side.{Side}
use Rattle.mailcore.specs.declared.side.Side.TheVariants.{Far, Near}
use Rattle.rules.specs.declared.options.Cells.{Cells}
use Rattle.rules.specs.declared.options.Options.{Options}
use Rattle.rules.specs.declared.options.Sides.{Sides}
use Rattle.config.specs.declared.config.Boxes.{Boxes}
use Rattle.config.specs.declared.config.Boxes.TheVariants.{Pair, Matching}
use Rattle.config.specs.declared.config.Config.{Config}
use Rattle.config.specs.declared.request.RunRequest.{RunRequest}
use Rattle.config.specs.Cells.{line_cells}
use Rattle.channels.specs.Boxes.{Reports, boxes_among}
use Rattle.channels.specs.Chosen.{chosen_among}
use Rattle.channels.specs.Scope.{options_of}
use Rattle.channels.specs.Asked.{Asked, Done, Ended, FarListed, FoundNew, IsJoined, Joined, Made, NearListed, Place, Ran}
use Rattle.channels.specs.declared.verdict.Verdict.{Verdict}
use Rattle.channels.specs.declared.verdict.Verdict.TheVariants.{Clean}
use Rattle.channels.specs.Founds.{absent_in}
pub use Rattle.channels.specs.Lendings.{run_attempts}

-- ---- what is asked

-- a mailbox that is absent on a side is a new one
abbrev pub finding : (absent : Bool) → Place → List Asked
finding absent place = if absent then FoundNew place Done ∷ [] else []

-- it is made on a side on which it is absent
abbrev pub making : Side → (absent : Bool) → Place → List Asked
making side absent place = if absent then Made side place Done ∷ [] else []

-- on each such side, the far one first
abbrev pub makings : Place → (absent : Sides) → List Asked
makings place absent = finding (absent.far || absent.near) place ++ making Far absent.far place ++ making Near absent.near place

-- it is made where it is absent, and then run to an answer
abbrev pub box_asked : Options → Place → (absent : Sides) → List Asked
box_asked options place absent = makings place absent ++ Ran place options run_attempts Done ∷ []

-- so is each of these mailboxes, whose names are the same on both sides
abbrev pub boxes_asked : Options → Joined → (fars nears names : List (List ℕ)) → List Asked
boxes_asked options of fars nears names = flat_map (λ name. box_asked options (record { of = of; far = name; near = name }) (absent_in fars nears name name)) names

-- the mailboxes of both stores are listed, the far one first, and these are there
abbrev pub lists_asked : Joined → (fars nears : List (List ℕ)) → List Asked
lists_asked of fars nears = FarListed of.far_store (Some fars) ∷ NearListed of.near_store (Some nears) ∷ []

-- ---- of a record

-- the same stores, which were asked for so much
abbrev pub Asks : {S L : Type 0} → (L → Asked → L) → (S → L) → (old new : MutBor S) → List Asked → Type 0
Asks noted asked old new more = (new.ghost_name ≡ old.ghost_name) × (asked new.now ≡ fold noted (asked old.now) more)

-- so much was asked, unless a fault was reported
abbrev pub AsksIfClean : {L : Type 0} → (L → Asked → L) → (old new : L) → List Asked → Verdict → Type 0
AsksIfClean noted old new more verdict = verdict ≡ Clean → new ≡ fold noted old more

-- of a channel whose stores have these mailboxes, the one on each side, or each one that the patterns choose, is made and run
abbrev pub SettlesFound : {L : Type 0} → (L → Asked → L) → Options → Joined → (fars nears : List (List ℕ)) → Boxes → (old new : L) → Type 0
SettlesFound noted options of fars nears (Pair far near) old new =
    new ≡ fold noted old (box_asked options (record { of = of; far = far; near = near }) (absent_in fars nears far near))
SettlesFound noted options of fars nears (Matching patterns) old new = (is_chosen : List ℕ → Bool) → Reports is_chosen patterns
    → new ≡ fold noted old (boxes_asked options of fars nears (boxes_among is_chosen fars nears))

-- a channel's stores are listed, and its mailboxes made and run
pub record Settles {L : Type 0} (noted : L → Asked → L) (options : Options) (of : Joined) (old new : L) : Type 0 where
  pub fars : List (List ℕ)
  pub nears : List (List ℕ)
  pub boxes : SettlesFound noted options of fars nears of.channel.boxes (fold noted old (lists_asked of fars nears)) new

-- a channel's stores are listed
pub record ListsBoth {L : Type 0} (noted : L → Asked → L) (of : Joined) (old new : L) : Type 0 where
  pub fars : List (List ℕ)
  pub nears : List (List ℕ)
  pub asked : new ≡ fold noted old (lists_asked of fars nears)

-- they are, if it has patterns
abbrev pub Lists : {L : Type 0} → (L → Asked → L) → Joined → Boxes → (old new : L) → Type 0
Lists noted of (Pair far near) old new = new ≡ old
Lists noted of (Matching patterns) old new = ListsBoth noted of old new

-- ---- of a command line

-- whether mailboxes are listed, and else with which cells they are run in place of the channel's, and whether Expunge is Both
pub record Ways : Type 0 where
  pub lists : Bool
  pub cells : Option Cells
  pub expunges : Bool

abbrev pub GoesBy : {L : Type 0} → (L → Asked → L) → (lists : Bool) → Options → Joined → (old new : L) → Type 0
GoesBy noted true options of old new = Lists noted of of.channel.boxes old new
GoesBy noted false options of old new = Settles noted options of old new

-- the channel of this place is listed or run
pub record GoesAt {L : Type 0} (noted : L → Asked → L) (config : Config) (ways : Ways) (place : ℕ) (old new : L) : Type 0 where
  pub of : Joined
  pub joined : IsJoined config place of
  pub goes : GoesBy noted ways.lists (options_of of.channel ways.cells ways.expunges) of old new

-- so is each of these channels, one after another
abbrev pub GoesOver : {L : Type 0} → (L → Asked → L) → Config → Ways → (places : List ℕ) → (old new : L) → Type 0
GoesOver noted config ways [] old new = new ≡ old
GoesOver {L} noted config ways (p ∷ ps) old new = (middle : L) × GoesAt noted config ways p old middle × GoesOver noted config ways ps middle new

abbrev pub ways_of : RunRequest → Option Cells → Ways
ways_of request cells = record { lists = request.lists; cells = cells; expunges = request.expunges }

-- so is each of these channels, and what stands at servers is ended then
pub record GoesThrough {L : Type 0} (noted : L → Asked → L) (config : Config) (ways : Ways) (places : List ℕ) (old new : L) : Type 0 where
  pub last : L
  pub over : GoesOver noted config ways places old last
  pub ended : new ≡ noted last Ended

-- so is each channel that the command line names
pub record GoesAll {L : Type 0} (noted : L → Asked → L) (config : Config) (request : RunRequest) (old new : L) : Type 0 where
  pub cells : Option Cells
  pub words : line_cells request.sync_words.items ≡ Ok cells
  pub through : GoesThrough noted config (ways_of request cells) (chosen_among config request.chosen) old new
