-- What is found in a list that rises by the places of its elements.
use Rattle.std.specs.Prelude.{ℕ, ◌≡◌, Bool, true, false, List, Option, Some, None}
use Rattle.std.specs.List.{list_any}
use Rattle.rules.specs.declared.entry.Entry.{Entry}
use Rattle.rules.specs.declared.plan.Note.TheVariants as note
use Rattle.sync_state.specs.JournalText.{note_place}

-- the place of an entry: that of a note which drops it
abbrev pub entry_place : Entry → ℕ × ℕ × ℕ
entry_place e = note_place (note.Drop e.far e.near)

-- what was found passes a test
abbrev pub passes : {X : Type 0} → (X → Bool) → Option X → Bool
passes test None = false
passes test (Some x) = test x

-- what was found stands for the list: a test that nothing passes but at this place is passed by it or not at all
abbrev pub Stands : {X : Type 0} → (X → ℕ × ℕ × ℕ) → ℕ × ℕ × ℕ → List X → Option X → Type 0
Stands {X} place k xs found =
    (test : X → Bool) → ((x : X) → test x ≡ true → place x ≡ k) → list_any test xs ≡ passes test found
