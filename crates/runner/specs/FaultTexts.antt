-- How `mbsync` prints why a run was not finished.
use Rattle.std.specs.Prelude.{ℕ, List, ◌++◌, codes}
use Rattle.std.specs.Fmt.{decimal}
use Rattle.runner.specs.declared.fault.RunFault.{RunFault}
use Rattle.runner.specs.declared.fault.RunFault.TheVariants.{Stopped, Refused, ValidityChanged, BadState, BadJournal, StoreFault, MarksRepeat, NoMemory, KeywordsChanged}
use Rattle.mailcore.specs.Words.{side_word}

abbrev pub fault_text : RunFault → List ℕ
fault_text Stopped = codes "stopped"
fault_text (Refused step) = codes "refused step " ++ decimal step
fault_text (ValidityChanged side) = codes "validity changed " ++ side_word side
fault_text (BadState line) = codes "bad state " ++ decimal line
fault_text (BadJournal line) = codes "bad journal " ++ decimal line
fault_text (StoreFault side number) = codes "store fault " ++ side_word side ++ codes " " ++ decimal number
fault_text MarksRepeat = codes "marks repeat"
fault_text NoMemory = codes "no memory"
fault_text KeywordsChanged = codes "keywords changed"
