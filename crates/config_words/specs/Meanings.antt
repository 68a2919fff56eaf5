-- What a keyword says with its arguments, as values (docs/FORMATS.md, "Configuration").
use Rattle.std.specs.Prelude.{ℕ, ◌≡◌, ◌+◌, ◌==◌, nat_eq, nat_lt, nat_le, Bool, true, false, ◌&&◌, List, [], ◌∷◌, map, length, take, drop, position, Option, Some, None, is_some, option_map, Result, Ok, Err, codes, bytes_eq, decimal, string_bytes, if◌then◌else◌}
use Rattle.std.specs.List.{list_all, ends_with}
use Rattle.std.specs.Str.Parse.{digits_value}
use Rattle.mailcore.specs.declared.keywords.Keyword as mail
use Rattle.mailcore.specs.KeywordNames.{is_keyword_letter, is_keyword_name}
use Rattle.mailcore.specs.MailboxNames.{is_mailbox_name}
use Rattle.rules.specs.declared.options.Cells.{Cells}
use Rattle.rules.specs.declared.options.Sides.{Sides}
use Rattle.rules.specs.declared.sync_words.SyncFault.{SyncFault}
use Rattle.rules.specs.declared.sync_words.SyncFault.TheVariants.{BadWord, CellTwice}
use Rattle.rules.specs.SyncWords.{sync_cells}
use Rattle.config_words.specs.declared.keyword.FirstWord.{FirstWord}
use Rattle.config_words.specs.declared.keyword.FirstWord.TheVariants as keyword
use Rattle.config_words.specs.declared.fault.FaultKind.{FaultKind}
use Rattle.config_words.specs.declared.fault.FaultKind.TheVariants.{WrongArguments, NoMemory}
use Rattle.config_words.specs.declared.setting.BoxPlace.{BoxPlace}
use Rattle.config_words.specs.declared.setting.Setting.{Setting}
use Rattle.config_words.specs.declared.setting.Setting.TheVariants as says
use Rattle.config_words.specs.Inboxes.{is_inbox}
use Rattle.config_words.specs.Settings.{is_argument}

-- what a line says: that a section of this name begins, that the host is this one, and so on
pub data Said : Type 0 where
  SectionIs : List ℕ → Said
  GroupIs : List ℕ → List (List ℕ) → Said
  HostIs : List ℕ → Said
  PortIs : ℕ → Said
  UserIs : List ℕ → Said
  PassIs : List ℕ → Said
  PathIs : List ℕ → Said
  InboxIs : List ℕ → Said
  FarIs : List ℕ → Option (List ℕ) → Said
  NearIs : List ℕ → Option (List ℕ) → Said
  PatternsAre : List (List ℕ) → Said
  SyncIs : Option Cells → Said
  CreateIs : Sides → Said
  ExpungeIs : Sides → Said
  KeywordIs : mail.Keyword → Said
  ChannelsAre : List (List ℕ) → Said
  SaysNothing : Said

-- ---- arguments

-- a number from 1 to 65535, in decimal digits without a leading zero
abbrev pub port_of : List ℕ → Option ℕ
port_of text =
    if bytes_eq (decimal (digits_value 10 text)) text && nat_lt 0 (digits_value 10 text) && nat_le (digits_value 10 text) 65535
    then Some (digits_value 10 text) else None

-- a path ends with `/`
abbrev pub path_of : List ℕ → Option (List ℕ)
path_of text = if ends_with nat_eq text (codes "/") then Some text else None

-- the store and the mailbox of `:STORE:BOX`; STORE goes up to the next `:` (58)
abbrev pub parts_of : List ℕ → Option (List ℕ × List ℕ)
parts_of [] = None
parts_of (b ∷ text) = if b == 58 then option_map (λ k. (take k text, drop (k + 1) text)) (position (λ c. c == 58) text) else None

-- an empty BOX names no mailbox; INBOX is meant by it in any spelling
abbrev pub box_of : List ℕ → Option (Option (List ℕ))
box_of [] = Some None
box_of (b ∷ name) =
    if is_inbox (b ∷ name) then Some (Some (codes "INBOX"))
    else (if is_mailbox_name (b ∷ name) then Some (Some (b ∷ name)) else None)

abbrev pub place_from : Option (List ℕ × List ℕ) → Option (List ℕ × Option (List ℕ))
place_from None = None
place_from (Some parts) = option_map (λ mailbox. (parts.0, mailbox)) (box_of parts.1)

abbrev pub place_of : List ℕ → Option (List ℕ × Option (List ℕ))
place_of text = place_from (parts_of text)

abbrev pub sides_of : List ℕ → Option Sides
sides_of text =
    if bytes_eq text (codes "None") then Some (record { far = false; near = false })
    else (if bytes_eq text (codes "Far") then Some (record { far = true; near = false })
    else (if bytes_eq text (codes "Near") then Some (record { far = false; near = true })
    else (if bytes_eq text (codes "Both") then Some (record { far = true; near = true }) else None)))

-- the one word that a keyword takes
abbrev pub word_said : List ℕ → List ℕ → Option Said
word_said word text = if bytes_eq text word then Some SaysNothing else None

-- one name or more
abbrev pub some_of : List (List ℕ) → Option (List (List ℕ))
some_of [] = None
some_of (name ∷ names) = Some (name ∷ names)

-- one pattern or more, of at most 1024 bytes each
abbrev pub patterns_of : List (List ℕ) → Option (List (List ℕ))
patterns_of words = if list_all (λ word. nat_le (length word) 1024) words then some_of words else None

-- the cells that the words of Sync choose, or none where they assert one twice; other words are no words of Sync
abbrev pub cells_from : Result Cells SyncFault → Option (Option Cells)
cells_from (Ok cells) = Some (Some cells)
cells_from (Err CellTwice) = Some None
cells_from (Err BadWord) = None

abbrev pub cells_of : List (List ℕ) → Option (Option Cells)
cells_of words = cells_from (sync_cells words)

-- a letter from a to z, and the name of a keyword that it stands for
abbrev pub letter_said : List ℕ → List ℕ → Option Said
letter_said [] name = None
letter_said (letter ∷ []) name =
    if is_keyword_letter letter && is_keyword_name name then Some (KeywordIs (record { letter = letter; name = name })) else None
letter_said (letter ∷ other ∷ others) name = None

abbrev pub keyword_of : List (List ℕ) → Option Said
keyword_of [] = None
keyword_of (letter ∷ []) = None
keyword_of (letter ∷ name ∷ []) = letter_said letter name
keyword_of (letter ∷ name ∷ more ∷ others) = None

-- the name of a group, and its channels
abbrev pub group_of : List (List ℕ) → Option Said
group_of [] = None
group_of (name ∷ channels) = Some (GroupIs name channels)

-- ---- keywords

-- what a keyword says with one argument that may be any text
abbrev pub text_said : FirstWord → List ℕ → Option Said
text_said keyword.ImapStore text = Some (SectionIs text)
text_said keyword.MaildirStore text = Some (SectionIs text)
text_said keyword.Channel text = Some (SectionIs text)
text_said keyword.Host text = Some (HostIs text)
text_said keyword.User text = Some (UserIs text)
text_said keyword.Pass text = Some (PassIs text)
text_said keyword.Inbox text = Some (InboxIs text)
text_said _ text = None

-- and with one argument
abbrev pub one_said : FirstWord → List ℕ → Option Said
one_said keyword.Port text = option_map PortIs (port_of text)
one_said keyword.Path text = option_map PathIs (path_of text)
one_said keyword.Far text = option_map (λ place. FarIs place.0 place.1) (place_of text)
one_said keyword.Near text = option_map (λ place. NearIs place.0 place.1) (place_of text)
one_said keyword.Create text = option_map CreateIs (sides_of text)
one_said keyword.Expunge text = option_map ExpungeIs (sides_of text)
one_said keyword.SyncState text = word_said (codes "*") text
one_said keyword.SubFolders text = word_said (codes "Verbatim") text
one_said k text = text_said k text

abbrev pub only_said : FirstWord → List (List ℕ) → Option Said
only_said k (text ∷ []) = one_said k text
only_said k [] = None
only_said k (text ∷ more ∷ texts) = None

abbrev pub all_said : FirstWord → List (List ℕ) → Option Said
all_said keyword.Group arguments = group_of arguments
all_said keyword.Channels arguments = option_map ChannelsAre (some_of arguments)
all_said keyword.Patterns arguments = option_map PatternsAre (patterns_of arguments)
all_said keyword.Sync arguments = option_map SyncIs (cells_of arguments)
all_said keyword.Keyword arguments = keyword_of arguments
all_said k arguments = only_said k arguments

-- what a keyword says with these arguments; none where it does not take them
abbrev pub said : FirstWord → List (List ℕ) → Option Said
said k arguments = if list_all is_argument arguments then all_said k arguments else None

-- ---- settings

abbrev pub place_value : BoxPlace → List ℕ × Option (List ℕ)
place_value place = (string_bytes place.store, place.mailbox)

-- a setting as values
abbrev pub said_of : Setting → Said
said_of (says.Section name) = SectionIs (string_bytes name)
said_of (says.Group name channels) = GroupIs (string_bytes name) (map string_bytes channels.items)
said_of (says.Host host) = HostIs (string_bytes host)
said_of (says.Port port) = PortIs port
said_of (says.User user) = UserIs (string_bytes user)
said_of (says.Pass pass) = PassIs (string_bytes pass)
said_of (says.Path path) = PathIs (string_bytes path)
said_of (says.Inbox inbox) = InboxIs (string_bytes inbox)
said_of (says.Far place) = FarIs (string_bytes place.store) place.mailbox
said_of (says.Near place) = NearIs (string_bytes place.store) place.mailbox
said_of (says.Patterns patterns) = PatternsAre patterns.items
said_of (says.Sync cells) = SyncIs cells
said_of (says.Create sides) = CreateIs sides
said_of (says.Expunge sides) = ExpungeIs sides
said_of (says.Keyword letter name) = KeywordIs (record { letter = letter; name = string_bytes name })
said_of (says.Channels channels) = ChannelsAre (map string_bytes channels.items)
said_of says.Nothing = SaysNothing

-- whether it names a mailbox
abbrev pub names_a_box : Setting → Bool
names_a_box (says.Far place) = is_some place.mailbox
names_a_box (says.Near place) = is_some place.mailbox
names_a_box _ = false

-- the wanted value is given, or there is none and the arguments are wrong, or memory ran out
abbrev pub Gives : {A B : Type 0} (value : A → B) → Option B → Result A FaultKind → Type 0
Gives value wanted (Ok given) = wanted ≡ Some (value given)
Gives value wanted (Err WrongArguments) = wanted ≡ None
Gives value wanted (Err NoMemory) = Unit {0}
Gives value wanted (Err _) = ⊥
