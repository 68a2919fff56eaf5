-- What the parts of reading a state report.
use Rattle.std.specs.Prelude.{ℕ, ◌+◌, ◌≡◌, ◌≢◌, ◌⊎◌, false, List, [], ◌∷◌, ◌++◌, All, map, length}
use Rattle.rules.specs.declared.entry.Entry.{Entry}
use Rattle.rules.specs.Entries.{ArePairs, may_end}
use Rattle.sync_state.specs.declared.fault.BookFault.{BookFault}
use Rattle.sync_state.specs.declared.fault.BookFault.TheVariants.{Stopped, BadState, BadJournal, NoMemory}
use Rattle.sync_state.specs.declared.state_text.StateHead.{StateHead}
use Rattle.sync_state.specs.declared.version.Version.{Version}
use Rattle.sync_state.specs.Words.{IsPositive, IsRun}
use Rattle.sync_state.specs.Lines.{AreLines, OneLine, HasNoLine}
use Rattle.sync_state.specs.StateText.{state_title, run_line, far_line, near_line, entry_line, end_line, IsHighest, IsEntry}

pub record HeadFits (head : StateHead) : Type 0 where
  pub run : IsRun head.run.0
  pub far_validity : IsPositive head.far.0.0
  pub max_pulled : IsHighest head.far.1.0
  pub near_validity : IsPositive head.near.0.0
  pub max_pushed : IsHighest head.near.1.0

abbrev pub head_lines : StateHead → List (List ℕ)
head_lines h = state_title h.version ∷ run_line h.run.0 ∷ far_line h.far.0.0 h.far.1.0 ∷ near_line h.near.0.0 h.near.1.0 ∷ []

pub record HeadRead (head : StateHead) (text rest : List ℕ) : Type 0 where
  pub fits : HeadFits head
  pub lines : AreLines (head_lines head) text rest

-- lines of entries
pub record AreEntries (version : Version) (entries : List Entry) (text rest : List ℕ) : Type 0 where
  pub fits : All (IsEntry version) entries
  pub pairs : ArePairs entries
  pub lines : AreLines (map entry_line entries) text rest

pub record EntriesRead (version : Version) (entries : List Entry) (text rest : List ℕ) : Type 0 where
  pub are : AreEntries version entries text rest
  pub all : HasNoLine [] (IsEntry version) entry_line rest

-- an entry that may not follow those before it
pub record IsBadEntry (version : Version) (taken : ℕ) (text : List ℕ) (number : ℕ) : Type 0 where
  pub before : List Entry
  pub entry : Entry
  pub rest : List ℕ
  pub following : List ℕ
  pub are : AreEntries version before text rest
  pub fits : IsEntry version entry
  pub one_line : OneLine (entry_line entry)
  pub parts : rest ≡ entry_line entry ++ 10 ∷ following
  pub stops : may_end entry before ≡ false
  pub number_is : number ≡ taken + length before + 1

abbrev pub ReportsEntry : Version → ℕ → List ℕ → BookFault → Type 0
ReportsEntry version taken text Stopped = ⊥
ReportsEntry version taken text (BadState number) = IsBadEntry version taken text number
ReportsEntry version taken text (BadJournal number) = ⊥
ReportsEntry version taken text NoMemory = Unit {0}

-- the last line is missing
pub record IsNoEnd (taken : ℕ) (text : List ℕ) (number : ℕ) : Type 0 where
  pub none : (line following : List ℕ) → OneLine line → text ≡ line ++ 10 ∷ following → line ≢ end_line
  pub number_is : number ≡ taken + 1

-- something follows the last line
pub record IsAfterEnd (taken : ℕ) (text : List ℕ) (number : ℕ) : Type 0 where
  pub rest : List ℕ
  pub parts : text ≡ end_line ++ 10 ∷ rest
  pub some : rest ≢ []
  pub number_is : number ≡ taken + 2

abbrev pub ReportsEnd : ℕ → List ℕ → BookFault → Type 0
ReportsEnd taken text Stopped = ⊥
ReportsEnd taken text (BadState number) = IsNoEnd taken text number ⊎ IsAfterEnd taken text number
ReportsEnd taken text (BadJournal number) = ⊥
ReportsEnd taken text NoMemory = ⊥
