-- The text of a journal: a plan, and the lines that log its steps.
use Rattle.std.specs.Prelude.{ℕ, ◌+◌, ◌≡◌, ◌==◌, if◌then◌else◌, List, [], ◌∷◌, ◌++◌, map, length, unwrap_or, codes, decimal}
use Rattle.mailcore.specs.declared.keywords.Keyword.{Keyword}
use Rattle.mailcore.specs.FlagNames.{letters_of}
use Rattle.rules.specs.declared.plan.Step.{Step}
use Rattle.rules.specs.declared.plan.Step.TheVariants as step
use Rattle.rules.specs.declared.plan.Note.{Note}
use Rattle.rules.specs.declared.plan.Note.TheVariants as note
use Rattle.rules.specs.declared.plan.PlanSide.{PlanSide}
use Rattle.rules.specs.declared.plan.Plan.{Plan}
pub use Rattle.rules.specs.Plans.{IsPlanSide, IsStep, IsNote, step_place, note_place, is_below, rises, bottom, IsPlan}
use Rattle.sync_state.specs.declared.journal.Logged.{Logged}
use Rattle.sync_state.specs.declared.journal.Logged.TheVariants.{Copied, Done, Void}
use Rattle.sync_state.specs.declared.journal.Journal.{Journal}
use Rattle.sync_state.specs.declared.version.Version.{Version}
use Rattle.mailcore.specs.Words.{flags_word, direction_word, side_word}
use Rattle.sync_state.specs.Words.{IsUid, version_word}
use Rattle.sync_state.specs.Versions.{HasWords}
use Rattle.sync_state.specs.Lines.{OneLine, AreLines, Begins}
use Rattle.sync_state.specs.StateText.{run_line}

abbrev pub journal_title : Version → List ℕ
journal_title version = codes "journal " ++ version_word version

abbrev pub plan_side_text : PlanSide → List ℕ
plan_side_text side = decimal side.validity ++ 32 ∷ (decimal side.highest ++ 32 ∷ decimal side.next)

abbrev pub plan_far_line : PlanSide → List ℕ
plan_far_line side = codes "far " ++ plan_side_text side

abbrev pub plan_near_line : PlanSide → List ℕ
plan_near_line side = codes "near " ++ plan_side_text side

-- a letter, and the name of its keyword
abbrev pub keyword_line : Keyword → List ℕ
keyword_line k = codes "k " ++ (k.letter ∷ 32 ∷ k.name)

-- flags that are set or cleared, after their sign; nothing if there are none
abbrev pub change : (sign flags : ℕ) → List ℕ
change sign flags = if flags == 0 then [] else 32 ∷ sign ∷ letters_of flags

abbrev pub step_line : Step → List ℕ
step_line (step.New direction uid flags mark) = codes "s new " ++ (direction_word direction ++ 32 ∷ (decimal uid ++ 32 ∷ (flags_word flags ++ 32 ∷ mark)))
step_line (step.Gone direction far near) = codes "s gone " ++ (direction_word direction ++ 32 ∷ (decimal far ++ 32 ∷ decimal near))
step_line (step.Flags direction far near set cleared) =
    codes "s flags " ++ (direction_word direction ++ 32 ∷ (decimal far ++ 32 ∷ (decimal near ++ (change 43 set ++ change 45 cleared))))
step_line (step.Expunge side uid) = codes "s expunge " ++ (side_word side ++ 32 ∷ decimal uid)

abbrev pub note_line : Note → List ℕ
note_line (note.Record far near flags) = codes "n record " ++ (decimal far ++ 32 ∷ (decimal near ++ 32 ∷ flags_word flags))
note_line (note.Drop far near) = codes "n drop " ++ (decimal (unwrap_or far 0) ++ 32 ∷ decimal (unwrap_or near 0))

abbrev pub go_line : List ℕ
go_line = codes "go"

-- the line that logs the step of this number
abbrev pub log_line : ℕ → Logged → List ℕ
log_line number (Copied uid) = codes "d " ++ (decimal number ++ 32 ∷ decimal uid)
log_line number Done = codes "d " ++ decimal number
log_line number Void = codes "v " ++ decimal number

-- the lines that log the steps from this number on
abbrev pub log_lines : ℕ → List Logged → List (List ℕ)
log_lines number [] = []
log_lines number (logged ∷ log) = log_line number logged ∷ log_lines (number + 1) log

abbrev pub plan_head_lines : Version → Plan → List (List ℕ)
plan_head_lines version p =
    journal_title version ∷ run_line p.run ∷ plan_far_line p.far ∷ plan_near_line p.near ∷ map keyword_line p.keywords

abbrev pub plan_lines : Version → Plan → List (List ℕ)
plan_lines version p = plan_head_lines version p ++ ((map step_line p.steps ++ map note_line p.notes) ++ go_line ∷ [])

-- ---- which journals have a text

-- how a new message may be logged
abbrev pub LogsNew : Logged → Type 0
LogsNew (Copied copy) = IsUid copy
LogsNew Done = ⊥
LogsNew Void = Unit {0}

-- how another step is logged
abbrev pub LogsOther : Logged → Type 0
LogsOther (Copied copy) = ⊥
LogsOther Done = Unit {0}
LogsOther Void = ⊥

-- how a step may be logged
abbrev pub FitsStep : Step → Logged → Type 0
FitsStep (step.New direction uid flags mark) logged = LogsNew logged
FitsStep (step.Gone direction far near) logged = LogsOther logged
FitsStep (step.Flags direction far near set cleared) logged = LogsOther logged
FitsStep (step.Expunge side uid) logged = LogsOther logged

-- the first steps are logged
abbrev pub IsLog : List Step → List Logged → Type 0
IsLog steps [] = Unit {0}
IsLog [] (logged ∷ log) = ⊥
IsLog (s ∷ steps) (logged ∷ log) = FitsStep s logged × IsLog steps log

abbrev pub journal_lines : Version → Journal → List (List ℕ)
journal_lines version j = plan_lines version j.plan ++ log_lines 1 j.log

pub record HasJournal (j : Journal) : Type 0 where
  pub plan : IsPlan j.plan
  pub log : IsLog j.plan.steps j.log

-- the whole lines of a text are a journal's in this version; a torn line may follow them
pub record JournalText (version : Version) (j : Journal) (text torn : List ℕ) : Type 0 where
  pub fits : HasJournal j
  pub words : HasWords version j.plan
  pub lines : AreLines (journal_lines version j) text torn
  pub no_line : OneLine torn

-- the lines of some journal
pub record JournalLines (lines : List (List ℕ)) : Type 0 where
  pub version : Version
  pub journal : Journal
  pub fits : HasJournal journal
  pub words : HasWords version journal.plan
  pub same : lines ≡ journal_lines version journal

-- `go` is one of the whole lines
pub record HasGo (text : List ℕ) : Type 0 where
  pub before : List (List ℕ)
  pub following : List ℕ
  pub lines : AreLines before text (go_line ++ 10 ∷ following)

-- The whole lines before the line of this number begin a journal, and are not all of it where no line follows. If that
-- line is whole, no journal goes on with it.
pub record IsBadJournal (text : List ℕ) (number : ℕ) : Type 0 where
  pub before : List (List ℕ)
  pub rest : List ℕ
  pub lines : AreLines before text rest
  pub number_is : number ≡ length before + 1
  pub begins : Begins JournalLines before
  pub stops : (line following : List ℕ) → OneLine line → rest ≡ line ++ 10 ∷ following → ¬ Begins JournalLines (before ++ line ∷ [])
  pub unfinished : OneLine rest → ¬ JournalLines before
