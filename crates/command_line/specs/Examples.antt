-- Worked examples of the definitions: what some command lines ask for.
use Rattle.std.specs.Prelude.{◌≡◌, Bool, true, false, List, [], ◌∷◌, Option, Some, None, codes, refl}
use Rattle.clap.specs.Faults.{fault_of}
use Rattle.clap.specs.Takes.{takes}
use Rattle.clap.specs.Walk.{Text, first_of}
use Rattle.clap.specs.declared.error.kind.ErrorKind.TheVariants as kind
use Rattle.clap.proofs.OnLiterals.{clap_on_literals}
use Rattle.mailcore.specs.declared.side.Direction.TheVariants.{Pull}
use Rattle.rules.specs.declared.sync_words.SyncType.TheVariants.{New}
use Rattle.rules.specs.declared.sync_words.SyncWord.{SyncWord}
use Rattle.rules.specs.declared.sync_words.SyncWord.TheVariants.{Nothing, Sort, Way}
use Rattle.command_line.specs.Requests.{IsTaken, NamesNone, found_in, names_in, stands, sync_words_in}
use Rattle.command_line.specs.Synopsis.{synopsis}

-- the words after the program's name
abbrev line : List Text → List Text
line rest = codes "mbsync" ∷ rest

-- what a line asks for: the file, all, the names, whether boxes are listed, the Sync words, and Expunge
abbrev asked : List Text → Option Text × Bool × List Text × Bool × List SyncWord × Bool
asked words = (
  first_of (codes "file") (found_in words),
  stands (found_in words) (codes "all"),
  names_in (found_in words),
  stands (found_in words) (codes "list"),
  sync_words_in (found_in words),
  stands (found_in words) (codes "expunge"),
)

-- ---- a line with a word of each sort; the Sync words come in the order of the synopsis

abbrev much : List Text
much = line (codes "-lc" ∷ codes "other" ∷ codes "--new" ∷ codes "work" ∷ codes "--pull" ∷ codes "--expunge" ∷ codes "home" ∷ [])

pub much_is_taken : IsTaken much × (takes synopsis much ≡ true)
unfolding synopsis clap_on_literals
much_is_taken = (refl, refl)

pub much_asks : asked much ≡ (Some (codes "other"), false, codes "work" ∷ codes "home" ∷ [], true, Way Pull ∷ Sort New ∷ [], true)
unfolding synopsis clap_on_literals
much_asks = refl

-- ---- after two hyphens all words are names

pub names_with_hyphens : asked (line (codes "--" ∷ codes "-a" ∷ codes "--pull" ∷ [])) ≡ (None, false, codes "-a" ∷ codes "--pull" ∷ [], false, [], false)
unfolding synopsis clap_on_literals
names_with_hyphens = refl

-- ---- the program's name alone: clap takes it, and it names no channel

pub nothing_is_taken : IsTaken (line [])
unfolding synopsis clap_on_literals
nothing_is_taken = refl

pub nothing_names_none : NamesNone (found_in (line []))
unfolding synopsis clap_on_literals
nothing_names_none = (refl, refl)

-- ---- `--noop` is the Sync word None

pub none_beside_pull : sync_words_in (found_in (line (codes "--noop" ∷ codes "--pull" ∷ codes "work" ∷ []))) ≡ Way Pull ∷ Nothing ∷ []
unfolding synopsis clap_on_literals
none_beside_pull = refl

-- ---- what clap does not take

pub flag_twice : fault_of synopsis (line (codes "--pull" ∷ codes "--pull" ∷ codes "work" ∷ [])) ≡ kind.ArgumentConflict ∷ []
unfolding synopsis clap_on_literals
flag_twice = refl

pub no_file : fault_of synopsis (line (codes "work" ∷ codes "-c" ∷ [])) ≡ kind.InvalidValue ∷ []
unfolding synopsis clap_on_literals
no_file = refl

pub unknown_flag : fault_of synopsis (line (codes "--verbose" ∷ codes "work" ∷ [])) ≡ kind.UnknownArgument ∷ []
unfolding synopsis clap_on_literals
unknown_flag = refl

pub help : fault_of synopsis (line (codes "--pull" ∷ codes "-h" ∷ [])) ≡ kind.DisplayHelp ∷ []
unfolding synopsis clap_on_literals
help = refl
