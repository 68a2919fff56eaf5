-- What the versions of the texts have words for.
use Rattle.std.specs.Prelude.{ℕ, ◌<◌, ◌^◌, ◌≡◌, List, [], All}
use Rattle.mailcore.specs.declared.keywords.Keyword.{Keyword}
use Rattle.mailcore.specs.FlagSet.{FLAGS}
use Rattle.rules.specs.declared.plan.Step.{Step}
use Rattle.rules.specs.declared.plan.Step.TheVariants as step
use Rattle.rules.specs.declared.plan.Note.{Note}
use Rattle.rules.specs.declared.plan.Note.TheVariants as note
use Rattle.rules.specs.declared.plan.Plan.{Plan}
use Rattle.sync_state.specs.declared.version.Version.{Version}
use Rattle.sync_state.specs.declared.version.Version.TheVariants.{One, Two}

-- how many flags have a letter in it: the six that IMAP names, or all
abbrev pub width : Version → ℕ
width One = 6
width Two = FLAGS

-- it has a letter for each of these flags
abbrev pub HasLetters : Version → (flags : ℕ) → Type 0
HasLetters version flags = flags < 2 ^ width version

-- and for each flag of a step
abbrev pub StepLetters : Version → Step → Type 0
StepLetters version (step.New direction uid flags mark) = HasLetters version flags
StepLetters version (step.Gone direction far near) = Unit {0}
StepLetters version (step.Flags direction far near set cleared) = HasLetters version set × HasLetters version cleared
StepLetters version (step.Expunge side uid) = Unit {0}

-- and of a note
abbrev pub NoteLetters : Version → Note → Type 0
NoteLetters version (note.Record far near flags) = HasLetters version flags
NoteLetters version (note.Drop far near) = Unit {0}

-- version 1 has no keywords
abbrev pub HasKeywords : Version → List Keyword → Type 0
HasKeywords One keywords = keywords ≡ []
HasKeywords Two keywords = Unit {0}

-- it has words for all that a plan says
pub record HasWords (version : Version) (p : Plan) : Type 0 where
  pub steps : All (StepLetters version) p.steps
  pub notes : All (NoteLetters version) p.notes
  pub keywords : HasKeywords version p.keywords
