-- What the parts of reading a journal report.
use Rattle.std.specs.Prelude.{ℕ, zero, suc, ◌+◌, ◌<◌, ◌^◌, ◌≡◌, ◌≢◌, ◌⊎◌, true, false, List, [], ◌∷◌, ◌++◌, All, map, length, not, ◌==◌}
use Rattle.mailcore.specs.declared.keywords.Keyword.{Keyword}
use Rattle.mailcore.specs.KeywordNames.{IsMap}
use Rattle.rules.specs.declared.plan.Step.{Step}
use Rattle.rules.specs.declared.plan.Note.{Note}
use Rattle.rules.specs.declared.plan.Plan.{Plan}
use Rattle.sync_state.specs.declared.fault.BookFault.{BookFault}
use Rattle.sync_state.specs.declared.fault.BookFault.TheVariants.{Stopped, BadState, BadJournal, NoMemory}
use Rattle.sync_state.specs.declared.journal.Logged.{Logged}
use Rattle.sync_state.specs.declared.journal.WrittenJournal.{WrittenJournal}
use Rattle.sync_state.specs.declared.journal_read.PlanNumbers.{PlanNumbers}
use Rattle.sync_state.specs.declared.journal_read.PlanHead.{PlanHead}
use Rattle.sync_state.specs.declared.version.Version.{Version}
use Rattle.sync_state.specs.Lines.{AreLines, OneLine, HasNoLine}
use Rattle.sync_state.specs.JournalText.{IsPlanSide, IsStep, IsNote, FitsStep, IsLog, keyword_line, log_line, log_lines, plan_head_lines, is_below, rises, bottom, HasGo, IsBadJournal, JournalText}
use Rattle.sync_state.specs.Places.{last_of}
use Rattle.sync_state.specs.Versions.{HasKeywords, StepLetters, NoteLetters}

-- a step that a text of this version may hold
abbrev pub IsStepIn : Version → Step → Type 0
IsStepIn version s = IsStep s × StepLetters version s

-- and a note
abbrev pub IsNoteIn : Version → Note → Type 0
IsNoteIn version n = IsNote n × NoteLetters version n

-- the bad line of a journal's text with `go`, or `NoMemory`
abbrev pub ReportsJournal : List ℕ → BookFault → Type 0
ReportsJournal text Stopped = ⊥
ReportsJournal text (BadState line) = ⊥
ReportsJournal text (BadJournal line) = HasGo text × IsBadJournal text line
ReportsJournal text NoMemory = Unit {0}

-- ---- the head

abbrev pub ReportsNumbers : List ℕ → BookFault → Type 0
ReportsNumbers text Stopped = ⊥
ReportsNumbers text (BadState line) = ⊥
ReportsNumbers text (BadJournal line) = IsBadJournal text line
ReportsNumbers text NoMemory = ⊥

-- the bad line of the head, or `NoMemory`
abbrev pub ReportsHead : List ℕ → BookFault → Type 0
ReportsHead text fault = (fault ≡ NoMemory) ⊎ ReportsNumbers text fault

abbrev pub with_items : PlanHead → List Step → List Note → Plan
with_items h steps notes =
    record { run = h.numbers.run.0; far = h.numbers.far; near = h.numbers.near; steps = steps; notes = notes; keywords = h.keywords }

-- the lines of a head
abbrev pub head : PlanHead → List (List ℕ)
head h = plan_head_lines h.numbers.version (with_items h [] [])

pub record NumbersFit (n : PlanNumbers) : Type 0 where
  pub run : n.run.0 < 2 ^ 64
  pub far : IsPlanSide n.far
  pub near : IsPlanSide n.near

-- the first four lines
pub record NumbersRead (n : PlanNumbers) (text rest : List ℕ) : Type 0 where
  pub fits : NumbersFit n
  pub lines : AreLines (head (record { numbers = n; keywords = [] })) text rest

-- a keyword that may follow these in a text of this version
pub record IsNextKeyword (version : Version) (keywords : List Keyword) (k : Keyword) : Type 0 where
  pub map_is : IsMap (keywords ++ k ∷ [])
  pub words : HasKeywords version (keywords ++ k ∷ [])

-- the first line is that of a keyword, which follows the old ones in the new ones
pub record KeywordAdded (old new : List Keyword) (text rest : List ℕ) : Type 0 where
  pub keyword : Keyword
  pub added : new ≡ old ++ keyword ∷ []
  pub one_line : OneLine (keyword_line keyword)
  pub parts : text ≡ keyword_line keyword ++ 10 ∷ rest

pub record KeywordsRead (version : Version) (keywords : List Keyword) (text rest : List ℕ) : Type 0 where
  pub map_is : IsMap keywords
  pub words : HasKeywords version keywords
  pub lines : AreLines (map keyword_line keywords) text rest
  pub all : HasNoLine [] (IsNextKeyword version keywords) keyword_line rest

pub record PlanHeadFits (h : PlanHead) : Type 0 where
  pub numbers : NumbersFit h.numbers
  pub map_is : IsMap h.keywords
  pub words : HasKeywords h.numbers.version h.keywords

pub record PlanHeadRead (h : PlanHead) (text rest : List ℕ) : Type 0 where
  pub fits : PlanHeadFits h
  pub lines : AreLines (head h) text rest
  pub all : HasNoLine [] (IsNextKeyword h.numbers.version h.keywords) keyword_line rest

-- ---- steps and notes, each of which has a line and a place

pub record AreItems {A : Type 0} (fits : A → Type 0) (line : A → List ℕ) (place : A → ℕ × ℕ × ℕ) (items : List A) (text rest : List ℕ) : Type 0 where
  pub fitting : All fits items
  pub rise : rises bottom (map place items) ≡ true
  pub lines : AreLines (map line items) text rest

pub record ItemsRead {A : Type 0} (fits : A → Type 0) (line : A → List ℕ) (place : A → ℕ × ℕ × ℕ) (items : List A) (text rest : List ℕ) : Type 0 where
  pub are : AreItems fits line place items text rest
  pub all : HasNoLine [] fits line rest

-- one that may not follow those before it
pub record IsBadItem {A : Type 0} (fits : A → Type 0) (line : A → List ℕ) (place : A → ℕ × ℕ × ℕ) (taken : ℕ) (text : List ℕ) (number : ℕ) : Type 0 where
  pub before : List A
  pub item : A
  pub rest : List ℕ
  pub following : List ℕ
  pub are : AreItems fits line place before text rest
  pub fitting : fits item
  pub one_line : OneLine (line item)
  pub parts : rest ≡ line item ++ 10 ∷ following
  pub stops : is_below (last_of bottom (map place before)) (place item) ≡ false
  pub number_is : number ≡ taken + length before + 1

abbrev pub ReportsItem : {A : Type 0} → (A → Type 0) → (A → List ℕ) → (A → ℕ × ℕ × ℕ) → ℕ → List ℕ → BookFault → Type 0
ReportsItem fits line place taken text Stopped = ⊥
ReportsItem fits line place taken text (BadState number) = ⊥
ReportsItem fits line place taken text (BadJournal number) = IsBadItem fits line place taken text number
ReportsItem fits line place taken text NoMemory = Unit {0}

-- ---- the log

-- the step of this place in the list may be logged so
abbrev pub FitsAt : List Step → ℕ → Logged → Type 0
FitsAt [] k logged = ⊥
FitsAt (s ∷ steps) zero logged = FitsStep s logged
FitsAt (s ∷ steps) (suc k) logged = FitsAt steps k logged

pub record AreLogged (steps : List Step) (log : List Logged) (text rest : List ℕ) : Type 0 where
  pub fits : IsLog steps log
  pub lines : AreLines (log_lines 1 log) text rest

pub record LogRead (steps : List Step) (log : List Logged) (text rest : List ℕ) : Type 0 where
  pub are : AreLogged steps log text rest
  pub no_line : OneLine rest

-- a line that does not log the next step
pub record IsBadLog (steps : List Step) (taken : ℕ) (text : List ℕ) (number : ℕ) : Type 0 where
  pub before : List Logged
  pub line : List ℕ
  pub rest : List ℕ
  pub following : List ℕ
  pub are : AreLogged steps before text rest
  pub one_line : OneLine line
  pub parts : rest ≡ line ++ 10 ∷ following
  pub none : (logged : Logged) → FitsAt steps (length before) logged → line ≢ log_line (length before + 1) logged
  pub number_is : number ≡ taken + length before + 1

abbrev pub ReportsLog : List Step → ℕ → List ℕ → BookFault → Type 0
ReportsLog steps taken text Stopped = ⊥
ReportsLog steps taken text (BadState number) = ⊥
ReportsLog steps taken text (BadJournal number) = IsBadLog steps taken text number
ReportsLog steps taken text NoMemory = Unit {0}

-- a text holds this journal
pub record IsWritten (written : WrittenJournal) (text : List ℕ) : Type 0 where
  pub torn : List ℕ
  pub spelled : JournalText written.version written.journal text torn
  pub is_torn : written.is_torn ≡ not (length torn == 0)
