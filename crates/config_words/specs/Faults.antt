-- Faults of a configuration, and which of two is reported.
use Rattle.std.specs.Prelude.{ℕ, ◌==◌, ◌&&◌, ◌||◌, nat_lt, nat_le, Bool}
use Rattle.mailcore.specs.declared.keywords.KeywordFault.{KeywordFault}
use Rattle.mailcore.specs.declared.keywords.KeywordFault.TheVariants.{BadLetter, BadName, Repeated}
use Rattle.mailcore.specs.declared.keywords.KeywordFault.TheVariants as keywords
use Rattle.config_words.specs.declared.fault.ConfigFault.{ConfigFault}
use Rattle.config_words.specs.declared.fault.FaultKind.{FaultKind}
use Rattle.config_words.specs.declared.fault.FaultKind.TheVariants.{UnknownKeyword, WrongArguments, BadText, OutsideSection, KeywordTwice, UnknownName, DefinedTwice, KeywordMissing, CellTwice, NoMemory, KeywordGiven}

abbrev pub number_of : FaultKind → ℕ
number_of UnknownKeyword = 1
number_of WrongArguments = 2
number_of BadText = 3
number_of OutsideSection = 4
number_of KeywordTwice = 5
number_of UnknownName = 6
number_of DefinedTwice = 7
number_of KeywordMissing = 8
number_of CellTwice = 9
number_of NoMemory = 10
number_of KeywordGiven = 11

-- the fault of a line whose keyword is not added to those that were given
abbrev pub kind_of : KeywordFault → FaultKind
kind_of BadLetter = WrongArguments
kind_of BadName = WrongArguments
kind_of Repeated = KeywordGiven
kind_of keywords.NoMemory = NoMemory

-- of two faults that of the lower line is reported, and on one line the one with the lower number
abbrev pub precedes : ConfigFault → ConfigFault → Bool
precedes f g = nat_lt f.line g.line || f.line == g.line && nat_le (number_of f.kind) (number_of g.kind)
