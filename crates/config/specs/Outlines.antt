-- What a reading has reported so far of lines that say again what stands above them.
use Rattle.std.specs.Prelude.{ℕ, ◌≡◌, ◌≢◌, Bool, true, false, List, [], All, Contains, Option, Some, None, if◌then◌else◌}
use Rattle.config_words.specs.declared.fault.ConfigFault.{ConfigFault}
use Rattle.config_words.specs.declared.fault.FaultKind.{FaultKind}
use Rattle.config_words.specs.declared.fault.FaultKind.TheVariants.{DefinedTwice, KeywordGiven, NoMemory}
use Rattle.config.specs.declared.reading.Reading.{Reading}
use Rattle.config.specs.Drafts.{standing_of}
use Rattle.config_words.specs.Faults.{precedes}
use Rattle.config.specs.Standing.{Outline, after_words, with_fault, words_again}

abbrev pub earlier : Option ConfigFault → ConfigFault → ConfigFault
earlier None fault = fault
earlier (Some first) fault = if precedes first fault then first else fault

-- a name is defined twice, or a letter or a name of a keyword given twice
abbrev pub is_repeat : FaultKind → Bool
is_repeat DefinedTwice = true
is_repeat KeywordGiven = true
is_repeat _ = false

-- the fault that is reported where these are the faults of lines that say something again: one of them, or one that comes before them all
pub record IsReportedOf (again : List ConfigFault) (fault : ConfigFault) : Type 0 where
  pub known : is_repeat fault.kind ≡ true → Contains again fault
  pub first : All (λ other. precedes fault other ≡ true) again

-- the first fault so far; without one no line has said anything again
abbrev pub Reports : List ConfigFault → Option ConfigFault → Type 0
Reports again None = again ≡ []
Reports again (Some fault) = IsReportedOf again fault × (fault.kind ≢ NoMemory)

-- a reading knows what stands in the outline of its lines
pub record IsOutlined (o : Outline) (reading : Reading) : Type 0 where
  pub standing : standing_of reading.draft ≡ o.standing
  pub reported : Reports o.again reading.first

-- and after one more line of words
pub record IsAfterWords (o : Outline) (words : List ℕ × List ℕ) (number : ℕ) (reading : Reading) : Type 0 where
  pub standing : standing_of reading.draft ≡ after_words (Some words) o.standing
  pub reported : Reports (with_fault o.again number (words_again (Some words) o.standing)) reading.first
