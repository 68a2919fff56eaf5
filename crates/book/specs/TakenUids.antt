-- The UIDs that are taken on each side while a plan is pending, as they are kept in two sets.
use Rattle.std.specs.Prelude.{ℕ, zero, suc, ◌≡◌, ◌&&◌, ◌||◌, ◌==◌, Bool, true, false, List, [], ◌∷◌}
use Rattle.std.specs.List.{list_any}
use Rattle.std.specs.Ordering.{nat_cmp}
use Rattle.std.specs.BTreeSet.{contains}
use Rattle.mailcore.specs.declared.side.Side.{Side}
use Rattle.mailcore.specs.declared.side.Side.TheVariants.{Far, Near}
use Rattle.rules.specs.declared.entry.Entry.{Entry}
use Rattle.rules.specs.declared.plan.Step.{Step}
use Rattle.rules.specs.declared.plan.Step.TheVariants as step
use Rattle.sync_state.specs.declared.journal.Logged.{Logged}
use Rattle.book.specs.declared.book.Pending.{Pending}
use Rattle.book.specs.declared.book.Pending.TheVariants.{Missing, Useless, Planned}
use Rattle.book.specs.declared.taken.Taken.{Taken}
use Rattle.book.specs.Agreement.{Copy, copy_of, copies_of, is_side, is_taken}

-- this UID is kept for this side
abbrev pub has : Taken → Side → (uid : ℕ) → Bool
has t Far uid = contains nat_cmp t.far uid
has t Near uid = contains nat_cmp t.near uid

-- what is kept is what is taken by these entries, these steps and these copies
abbrev pub KnowsTaken : List Entry → List Step → List Copy → Taken → Type 0
KnowsTaken entries steps copies t = (side : Side) (uid : ℕ) → has t side uid ≡ is_taken entries steps copies (side, uid)

-- a step that copies a new message
abbrev pub copies_one : Step → Bool
copies_one (step.New direction uid flags mark) = true
copies_one s = false

-- what is kept is what is taken while this is pending, if a step of it makes a copy
abbrev pub Knows : List Entry → Pending → Taken → Type 0
Knows entries Missing t = Unit {0}
Knows entries Useless t = Unit {0}
Knows entries (Planned written) t =
    list_any copies_one written.journal.plan.steps ≡ true → KnowsTaken entries written.journal.plan.steps (copies_of written.journal.plan.steps written.journal.log) t

-- this UID is kept for this side too
abbrev pub Adds : Side → (uid : ℕ) → (old new : Taken) → Type 0
Adds side uid old new = (s : Side) (u : ℕ) → has new s u ≡ (is_side side s && uid == u || has old s u)

-- the copy that the step after so many makes where it is logged so
abbrev pub next_copies : List Step → ℕ → Logged → List Copy
next_copies [] k logged = []
next_copies (s ∷ steps) zero logged = copy_of s logged
next_copies (s ∷ steps) (suc k) logged = next_copies steps k logged
