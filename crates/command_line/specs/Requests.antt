-- What a command line asks for, by what `clap` finds of its words.
use Rattle.std.specs.Prelude.{◌≡◌, ◌≢◌, ◌⊎◌, ⊤, Bool, true, false, List, [], Option, Some, None, IsOk, IsErr, codes, find, filter, map, option_map, option_and_then, unwrap_or}
use Rattle.std.specs.Str.{bytes_eq}
use Rattle.std.specs.String.{string_bytes}
use Rattle.clap.specs.Faults.{fault_of}
use Rattle.clap.specs.Kinds.{IsAmong}
use Rattle.clap.specs.Simple.{matches_of}
use Rattle.clap.specs.Takes.{takes}
use Rattle.clap.specs.Values.{kind_of}
use Rattle.clap.specs.Walk.{Row, Text, all_of, first_of}
use Rattle.clap.specs.declared.parser.matches.ValueSource.{ValueSource}
use Rattle.clap.specs.declared.parser.matches.ValueSource.TheVariants.{DefaultValue, CommandLine}
use Rattle.rules.specs.declared.sync_words.SyncWord.{SyncWord}
use Rattle.config.specs.Cells.{line_cells}
use Rattle.config.specs.declared.request.RunRequest.{RunRequest}
use Rattle.config.specs.declared.request.Chosen.{Chosen}
use Rattle.config.specs.declared.request.Chosen.TheVariants.{All, Named}
use Rattle.command_line.specs.SyncFlags.{sync_flags, flag_name, flag_word}
use Rattle.command_line.specs.Synopsis.{synopsis}
use Rattle.command_line.specs.declared.fault.UsageFault.{UsageFault}
use Rattle.command_line.specs.declared.fault.UsageFault.TheVariants.{Line, NoChannel, SyncWords, NoMemory}

-- ---- what `clap` finds, row by row

abbrev pub is_of_line : Option ValueSource → Bool
is_of_line None = false
is_of_line (Some DefaultValue) = false
is_of_line (Some CommandLine) = true

-- the words have this flag
abbrev pub stands : List Row → Text → Bool
stands rows id = is_of_line (option_and_then (λ row. row.source) (find (λ row. bytes_eq row.id id) rows))

-- the names of channels and groups, in the order of the words
abbrev pub names_in : List Row → List Text
names_in rows = unwrap_or (all_of (codes "channel") rows) []

-- the Sync words, in the order of the synopsis
abbrev pub sync_words_in : List Row → List SyncWord
sync_words_in rows = map flag_word (filter (λ flag. stands rows (flag_name flag)) sync_flags)

-- ---- the request

-- `-a` takes all channels and passes the names over; else there is a name
abbrev pub IsChosen : List Row → Chosen → Type 0
IsChosen rows All = stands rows (codes "all") ≡ true
IsChosen rows (Named names) =
    (stands rows (codes "all") ≡ false) × (map string_bytes names.items ≡ names_in rows) × (names_in rows ≢ [])

-- there is no Sync word, or `sync_ops` takes those that there are
abbrev pub AreTaken : List SyncWord → Type 0
AreTaken words = IsOk (line_cells words)

-- the request is what was found
pub record IsFound (rows : List Row) (request : RunRequest) : Type 0 where
  pub file : option_map string_bytes request.file ≡ first_of (codes "file") rows
  pub chosen : IsChosen rows request.chosen
  pub lists : request.lists ≡ stands rows (codes "list")
  pub sync_words : request.sync_words.items ≡ sync_words_in rows
  pub taken : AreTaken (sync_words_in rows)
  pub expunges : request.expunges ≡ stands rows (codes "expunge")

-- ---- the same of the words, of which the first is the program's name

-- `clap` has no fault to find with the words
abbrev pub IsTaken : List Text → Type 0
IsTaken words = fault_of synopsis words ≡ []

abbrev pub found_in : List Text → List Row
found_in words = matches_of synopsis words

-- what the words ask for
abbrev pub IsRequest : List Text → RunRequest → Type 0
IsRequest words request = IsTaken words × IsFound (found_in words) request

abbrev pub NamesNone : List Row → Type 0
NamesNone rows = (stands rows (codes "all") ≡ false) × (names_in rows ≡ [])

abbrev pub NamesSome : List Row → Type 0
NamesSome rows = (stands rows (codes "all") ≡ true) ⊎ (names_in rows ≢ [])

-- why what was found asks for nothing: `NoChannel` is reported before `SyncWords`
abbrev pub IsUnfit : List Row → UsageFault → Type 0
IsUnfit rows (Line error) = ⊥
IsUnfit rows NoChannel = NamesNone rows
IsUnfit rows SyncWords = NamesSome rows × IsErr (line_cells (sync_words_in rows))
IsUnfit rows NoMemory = ⊤

-- why the words ask for nothing: `Line` is reported first
abbrev pub IsFault : List Text → UsageFault → Type 0
IsFault words (Line error) = (takes synopsis words ≡ false) × IsAmong (kind_of error) (fault_of synopsis words)
IsFault words NoChannel = IsTaken words × IsUnfit (found_in words) NoChannel
IsFault words SyncWords = IsTaken words × IsUnfit (found_in words) SyncWords
IsFault words NoMemory = ⊤
