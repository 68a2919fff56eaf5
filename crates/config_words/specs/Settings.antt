-- What the first line of a section says.
use Rattle.std.specs.Prelude.{ℕ, ◌≡◌, ◌==◌, nat_le, Bool, true, false, not, ◌&&◌, List, [], ◌∷◌, length, Option, Some, None, Result, Ok, Err, option_and_then, string_bytes, if◌then◌else◌}
use Rattle.std.specs.List.{list_all}
use Rattle.config_words.specs.declared.keyword.FirstWord.{FirstWord}
use Rattle.config_words.specs.declared.keyword.FirstWord.TheVariants as keyword
use Rattle.config_words.specs.declared.keyword.LinePlace.{LinePlace}
use Rattle.config_words.specs.declared.keyword.LinePlace.TheVariants as place
use Rattle.config_words.specs.declared.fault.FaultKind.{FaultKind}
use Rattle.config_words.specs.declared.fault.FaultKind.TheVariants.{WrongArguments, NoMemory}
use Rattle.config_words.specs.declared.setting.Setting.{Setting}
use Rattle.config_words.specs.declared.setting.Setting.TheVariants as says
use Rattle.config_words.specs.Keywords.{section_of}

-- at most 1024 bytes, and no tab (9)
abbrev pub is_argument : List ℕ → Bool
is_argument argument = nat_le (length argument) 1024 && list_all (λ b. not (b == 9)) argument

-- the name that arguments give a section: a group has channels after it, another section nothing
abbrev pub name_among : LinePlace → List (List ℕ) → Option (List ℕ)
name_among p [] = None
name_among p (name ∷ []) = Some name
name_among place.Group (name ∷ channel ∷ channels) = Some name
name_among _ (name ∷ channel ∷ channels) = None

-- the name that they give the section that begins, if one does; none where one of them is no argument
abbrev pub name_given : Option LinePlace → List (List ℕ) → Option (List ℕ)
name_given section arguments = if list_all is_argument arguments then option_and_then (λ p. name_among p arguments) section else None

-- the name of the section that a keyword begins
abbrev pub heading : FirstWord → List (List ℕ) → Option (List ℕ)
heading k arguments = name_given (section_of k) arguments

-- the name that a setting gives the section
abbrev pub name_said : Setting → Option (List ℕ)
name_said (says.Section name) = Some (string_bytes name)
name_said (says.Group name channels) = Some (string_bytes name)
name_said _ = None

-- arguments that a keyword does not take, or `NoMemory`
abbrev pub IsRefusal : FaultKind → Type 0
IsRefusal WrongArguments = Unit {0}
IsRefusal NoMemory = Unit {0}
IsRefusal _ = ⊥

-- a setting that is no section's first line, or such a refusal
abbrev pub SaysNoName : Result Setting FaultKind → Type 0
SaysNoName (Ok setting) = name_said setting ≡ None
SaysNoName (Err fault) = IsRefusal fault

-- a setting says the section's name, if one begins; where it is refused none is given
abbrev pub SaysName : Option (List ℕ) → Result Setting FaultKind → Type 0
SaysName name (Ok setting) = name_said setting ≡ name
SaysName name (Err WrongArguments) = name ≡ None
SaysName name (Err NoMemory) = Unit {0}
SaysName name (Err _) = ⊥

-- what a keyword says with one argument; Group is read apart
abbrev pub name_of_one : FirstWord → List ℕ → Option (List ℕ)
name_of_one keyword.ImapStore argument = Some argument
name_of_one keyword.MaildirStore argument = Some argument
name_of_one keyword.Channel argument = Some argument
name_of_one _ argument = None

abbrev pub SaysOne : FirstWord → List ℕ → Result Setting FaultKind → Type 0
SaysOne k argument result = SaysName (name_of_one k argument) result
