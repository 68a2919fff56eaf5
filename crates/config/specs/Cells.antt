-- The cells that the Sync words of a command line choose.
use Rattle.std.specs.Prelude.{◌≡◌, ⊤, List, [], ◌∷◌, Option, Some, None, Result, Ok, Err, map}
use Rattle.rules.specs.SyncWords.{word_text, sync_cells}
use Rattle.rules.specs.declared.options.Cells.{Cells}
use Rattle.rules.specs.declared.sync_words.SyncFault.{SyncFault}
use Rattle.rules.specs.declared.sync_words.SyncWord.{SyncWord}
use Rattle.config.specs.declared.cells.CellsFault.{CellsFault}
use Rattle.config.specs.declared.cells.CellsFault.TheVariants.{Refused, NoMemory}

-- what the words choose, as words of a configuration do
abbrev pub word_cells : List SyncWord → Result Cells SyncFault
word_cells words = sync_cells (map word_text words)

abbrev pub some_cells : Result Cells SyncFault → Result (Option Cells) SyncFault
some_cells (Ok cells) = Ok (Some cells)
some_cells (Err fault) = Err fault

-- the cells that stand in place of every channel's, if there is a word
abbrev pub line_cells : List SyncWord → Result (Option Cells) SyncFault
line_cells [] = Ok None
line_cells (word ∷ rest) = some_cells (word_cells (word ∷ rest))

-- the words are refused for this reason; of want of memory nothing is said
abbrev pub IsRefusal : List SyncWord → CellsFault → Type 0
IsRefusal words (Refused fault) = line_cells words ≡ Err fault
IsRefusal words NoMemory = ⊤
