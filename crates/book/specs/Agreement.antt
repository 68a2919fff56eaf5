-- When a journal agrees with the state on which its plan was made: its plan does, and each copy has a UID of its own.
use Rattle.std.specs.Prelude.{ℕ, ◌+◌, ◌≡◌, ◌≢◌, All, AllPairs, Bool, true, false, not, ◌&&◌, ◌||◌, ◌==◌, List, [], ◌∷◌, ◌++◌, length, map, position, Option, None}
use Rattle.std.specs.List.{list_any, list_all, flat_map, zip}
use Rattle.std.specs.Option.{option_map}
use Rattle.mailcore.specs.declared.side.Side.{Side}
use Rattle.mailcore.specs.declared.side.Side.TheVariants.{Far, Near}
use Rattle.mailcore.specs.Sides.{source, target}
use Rattle.rules.specs.declared.entry.Entry.{Entry}
use Rattle.rules.specs.declared.plan.Step.{Step}
use Rattle.rules.specs.declared.plan.Step.TheVariants as step
pub use Rattle.rules.specs.PlanEntries.{is_pair, is_entry, is_named, step_agrees, note_agrees}
use Rattle.sync_state.specs.declared.journal.Logged.{Logged}
use Rattle.sync_state.specs.declared.journal.Logged.TheVariants.{Copied}
use Rattle.sync_state.specs.declared.journal.Journal.{Journal}

abbrev pub is_side : Side → Side → Bool
is_side Far Far = true
is_side Far Near = false
is_side Near Far = false
is_side Near Near = true

-- ---- the UIDs of copies

-- a copy: its side and its UID
abbrev pub Copy : Type 0
Copy = Side × ℕ

-- the copy that a logged step made
abbrev pub copy_of : Step → Logged → List Copy
copy_of (step.New direction uid flags mark) (Copied copy) = (target direction, copy) ∷ []
copy_of s logged = []

-- the copies that the logged steps made
abbrev pub copies_of : List Step → List Logged → List Copy
copies_of steps log = flat_map (λ p. copy_of p.0 p.1) (zip steps log)

-- a new message has this UID on this side: it is the source of a copy
abbrev pub is_source_of : Side → (uid : ℕ) → Step → Bool
is_source_of side uid (step.New direction source_uid flags mark) = is_side (source direction) side && source_uid == uid
is_source_of side uid s = false

-- an entry names this UID on this side, or a new message has it, or one of these copies
abbrev pub is_taken : List Entry → List Step → List Copy → Copy → Bool
is_taken entries steps copies (side, uid) =
    is_named entries side uid
    || (list_any (is_source_of side uid) steps || list_any (λ c. is_side c.0 side && c.1 == uid) copies)

-- each copy of the log has a UID that was not taken when it was made, after these copies
abbrev pub log_agrees : List Entry → (plan : List Step) → (copies : List Copy) → List Step → List Logged → List Bool
log_agrees entries plan copies [] log = []
log_agrees entries plan copies (s ∷ steps) [] = []
log_agrees entries plan copies (s ∷ steps) (logged ∷ log) =
    list_all (λ c. not (is_taken entries plan copies c)) (copy_of s logged)
    ∷ log_agrees entries plan (copies ++ copy_of s logged) steps log

-- ---- the lines of a journal after those of its numbers and keywords: those of steps, those of notes, `go`, and those of the log

abbrev pub lines_agree : List Entry → Journal → List Bool
lines_agree entries j =
    map (step_agrees entries) j.plan.steps
    ++ (map (note_agrees entries) j.plan.notes ++ true ∷ log_agrees entries j.plan.steps [] j.plan.steps j.log)

-- the number of the first step's line
abbrev pub first_line : Journal → ℕ
first_line j = 5 + length j.plan.keywords

-- the first line that does not agree
abbrev pub disagreement : List Entry → Journal → Option ℕ
disagreement entries j = option_map (λ i. i + first_line j) (position not (lines_agree entries j))

-- no line disagrees
abbrev pub Agrees : List Entry → Journal → Type 0
Agrees entries j = disagreement entries j ≡ None

-- what a journal that agrees says: each copy has a UID of its own, which no entry names and no new message has
pub record IsAgreed (entries : List Entry) (j : Journal) : Type 0 where
  pub steps : All (λ s. step_agrees entries s ≡ true) j.plan.steps
  pub notes : All (λ n. note_agrees entries n ≡ true) j.plan.notes
  pub new : All (λ c. is_taken entries j.plan.steps [] c ≡ false) (copies_of j.plan.steps j.log)
  pub once : AllPairs (λ a b. a ≢ b) (copies_of j.plan.steps j.log)
