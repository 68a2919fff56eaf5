-- What the stores of a channel have.
use Rattle.std.specs.Prelude.{◌≡◌, ◌⊎◌, ℕ, List, not, string_bytes}
use Rattle.config.specs.declared.config.Boxes.{Boxes}
use Rattle.config.specs.declared.config.Boxes.TheVariants.{Pair, Matching}
use Rattle.rules.specs.declared.options.Sides.{Sides}
use Rattle.config_words.specs.Patterns.{IsChosen}
use Rattle.channels.specs.Asked.{Joined}
use Rattle.channels.specs.Boxes.{stands_in}

-- the sides whose list lacks a mailbox
abbrev pub absent_in : (fars nears : List (List ℕ)) (far near : List ℕ) → Sides
absent_in fars nears far near = record { far = not (stands_in fars far); near = not (stands_in nears near) }

-- one mailbox on each side: the channel has no patterns
abbrev pub IsPair : Boxes → Type 0
IsPair (Pair far near) = Unit {0}
IsPair (Matching patterns) = ⊥

-- the mailbox of this name in the store of this name is the one that a channel without patterns names there, or one that the patterns choose
abbrev pub CouldChooseAmong : Boxes → (far_store near_store store name : List ℕ) → Type 0
CouldChooseAmong (Pair far near) far_store near_store store name =
    ((far_store ≡ store) × (far ≡ name)) ⊎ ((near_store ≡ store) × (near ≡ name))
CouldChooseAmong (Matching patterns) far_store near_store store name =
    ((far_store ≡ store) ⊎ (near_store ≡ store)) × IsChosen patterns name

-- a channel could choose it, were its name within the limits
abbrev pub CouldChoose : Joined → (store name : List ℕ) → Type 0
CouldChoose of store name =
    CouldChooseAmong of.channel.boxes (string_bytes of.far_store.name) (string_bytes of.near_store.name) store name
