-- The words of Sync, and the cells that they choose.
use Rattle.std.specs.Prelude.{ℕ, Bool, true, false, not, ◌&&◌, ◌||◌, ◌==◌, nat_lt, List, [], ◌∷◌, Result, Ok, Err, length, count_by, codes, if◌then◌else◌}
use Rattle.std.specs.List.{list_all, list_any}
use Rattle.std.specs.Str.{str_eq_ignore_ascii_case}
use Rattle.mailcore.specs.declared.side.Direction.{Direction}
use Rattle.mailcore.specs.declared.side.Direction.TheVariants.{Pull, Push}
use Rattle.rules.specs.declared.options.Cells.{Cells}
use Rattle.rules.specs.declared.options.Directions.{Directions}
use Rattle.rules.specs.declared.sync_words.SyncType.{SyncType}
use Rattle.rules.specs.declared.sync_words.SyncType.TheVariants.{New, Gone, Flags}
use Rattle.rules.specs.declared.sync_words.SyncFault.{SyncFault}
use Rattle.rules.specs.declared.sync_words.SyncFault.TheVariants.{BadWord, CellTwice}
use Rattle.rules.specs.declared.sync_words.SyncWord.{SyncWord}
use Rattle.rules.specs.declared.sync_words.SyncWord.TheVariants.{Nothing, Full, Way, Sort, Compound}

abbrev pub word_text : SyncWord → List ℕ
word_text Nothing = codes "None"
word_text Full = codes "Full"
word_text (Way Pull) = codes "Pull"
word_text (Way Push) = codes "Push"
word_text (Sort New) = codes "New"
word_text (Sort Gone) = codes "Gone"
word_text (Sort Flags) = codes "Flags"
word_text (Compound Pull New) = codes "PullNew"
word_text (Compound Pull Gone) = codes "PullGone"
word_text (Compound Pull Flags) = codes "PullFlags"
word_text (Compound Push New) = codes "PushNew"
word_text (Compound Push Gone) = codes "PushGone"
word_text (Compound Push Flags) = codes "PushFlags"

abbrev pub all_cells : List (Direction × SyncType)
all_cells = (Pull, New) ∷ (Pull, Gone) ∷ (Pull, Flags) ∷ (Push, New) ∷ (Push, Gone) ∷ (Push, Flags) ∷ []

abbrev pub all_words : List SyncWord
all_words = Nothing ∷ Full ∷ Way Pull ∷ Way Push ∷ Sort New ∷ Sort Gone ∷ Sort Flags
    ∷ Compound Pull New ∷ Compound Pull Gone ∷ Compound Pull Flags ∷ Compound Push New ∷ Compound Push Gone ∷ Compound Push Flags ∷ []

-- words compare without case
abbrev pub is_word : List ℕ → SyncWord → Bool
is_word text word = str_eq_ignore_ascii_case text (word_text word)

unfoldable pub is_known : List ℕ → Bool
is_known text = list_any (is_word text) all_words

-- there is a word, and each is one of Sync
unfoldable pub are_words : List (List ℕ) → Bool
are_words texts = not (length texts == 0) && list_all is_known texts

-- how often each word is said
unfoldable pub times : List (List ℕ) → SyncWord → ℕ
times texts word = count_by (λ text. is_word text word) texts

abbrev pub is_way : Direction → Direction → Bool
is_way Pull Pull = true
is_way Pull Push = false
is_way Push Pull = false
is_way Push Push = true

abbrev pub is_kind : SyncType → SyncType → Bool
is_kind New New = true
is_kind Gone Gone = true
is_kind Flags Flags = true
is_kind New Gone = false
is_kind New Flags = false
is_kind Gone New = false
is_kind Gone Flags = false
is_kind Flags New = false
is_kind Flags Gone = false

-- a word asserts a cell
abbrev pub asserts : Direction → SyncType → SyncWord → Bool
asserts d k Nothing = false
asserts d k Full = true
asserts d k (Way way) = is_way way d
asserts d k (Sort sort) = is_kind sort k
asserts d k (Compound way sort) = is_way way d && is_kind sort k

abbrev pub is_compound : SyncWord → Bool
is_compound Nothing = false
is_compound Full = false
is_compound (Way way) = false
is_compound (Sort sort) = false
is_compound (Compound way sort) = true

unfoldable pub says : List (List ℕ) → SyncWord → Bool
says texts word = nat_lt 0 (times texts word)

-- the second style: beside at least one compound word each word asserts its cells
unfoldable pub says_compound : List (List ℕ) → Bool
says_compound texts = list_any (λ word. is_compound word && says texts word) all_words

unfoldable pub says_way : List (List ℕ) → Bool
says_way texts = says texts (Way Pull) || says texts (Way Push)

unfoldable pub says_type : List (List ℕ) → Bool
says_type texts = says texts (Sort New) || says texts (Sort Gone) || says texts (Sort Flags)

-- how many of the words that are said assert a cell
unfoldable pub asserting : List (List ℕ) → Direction → SyncType → ℕ
asserting texts d k = count_by (λ word. asserts d k word && says texts word) all_words

unfoldable pub is_cell_twice : List (List ℕ) → Bool
is_cell_twice texts = list_any (λ cell. nat_lt 1 (asserting texts cell.0 cell.1)) all_cells

unfoldable pub is_word_twice : List (List ℕ) → Bool
is_word_twice texts = list_any (λ word. nat_lt 1 (times texts word)) all_words

-- a cell is asserted twice in the second style, or Full stands beside a type in the first
unfoldable pub is_asserted_twice : List (List ℕ) → Bool
is_asserted_twice texts = if says_compound texts then is_cell_twice texts else says texts Full && says_type texts

-- a word is said twice, or None stands beside another word, or a cell is asserted twice
unfoldable pub is_twice : List (List ℕ) → Bool
is_twice texts = is_word_twice texts || (says texts Nothing && nat_lt 1 (length texts)) || is_asserted_twice texts

-- the words choose a cell: None chooses none; in the first style both its direction and its type are chosen, where no word of a class means all of that class
unfoldable pub is_on : List (List ℕ) → Direction → SyncType → Bool
is_on texts d k =
    if says texts Nothing then false
    else if says_compound texts then nat_lt 0 (asserting texts d k)
    else (says texts (Way d) || not (says_way texts)) && (says texts (Sort k) || not (says_type texts))

unfoldable pub directions_on : List (List ℕ) → SyncType → Directions
directions_on texts k = record { pull = is_on texts Pull k; push = is_on texts Push k }

-- what the words choose, or why they are refused
unfoldable pub sync_cells : List (List ℕ) → Result Cells SyncFault
sync_cells texts =
    if not (are_words texts) then Err BadWord
    else if is_twice texts then Err CellTwice
    else Ok (record { new = directions_on texts New; gone = directions_on texts Gone; flags = directions_on texts Flags })
