-- What a plan says of the entries on which it was made.
use Rattle.std.specs.Prelude.{ℕ, ◌≡◌, Bool, true, not, ◌&&◌, ◌==◌, List, All, Option, Some}
use Rattle.std.specs.List.{list_any}
use Rattle.mailcore.specs.declared.side.Side.{Side}
use Rattle.mailcore.specs.Sides.{source}
use Rattle.rules.specs.declared.entry.Entry.{Entry}
use Rattle.rules.specs.declared.plan.Step.{Step}
use Rattle.rules.specs.declared.plan.Step.TheVariants as step
use Rattle.rules.specs.declared.plan.Note.{Note}
use Rattle.rules.specs.declared.plan.Note.TheVariants as note
use Rattle.rules.specs.declared.plan.Plan.{Plan}
use Rattle.rules.specs.Entries.{is_same, uid_of}

-- the entry is this pair
abbrev pub is_pair : (far near : Option ℕ) → Entry → Bool
is_pair far near e = is_same e.far far && is_same e.near near

abbrev pub is_entry : List Entry → (far near : Option ℕ) → Bool
is_entry entries far near = list_any (is_pair far near) entries

-- an entry names this UID on this side
abbrev pub is_named : List Entry → Side → (uid : ℕ) → Bool
is_named entries side uid = list_any (λ e. uid_of side e == uid) entries

-- the source of a new message is in no entry, and a pair is an entry
abbrev pub step_agrees : List Entry → Step → Bool
step_agrees entries (step.New direction uid flags mark) = not (is_named entries (source direction) uid)
step_agrees entries (step.Gone direction far near) = is_entry entries (Some far) (Some near)
step_agrees entries (step.Flags direction far near set cleared) = is_entry entries (Some far) (Some near)
step_agrees entries (step.Expunge side uid) = true

abbrev pub note_agrees : List Entry → Note → Bool
note_agrees entries (note.Record far near flags) = is_entry entries (Some far) (Some near)
note_agrees entries (note.Drop far near) = is_entry entries far near

-- each step and each note of a plan agrees with the entries
pub record PlanAgrees (entries : List Entry) (p : Plan) : Type 0 where
  pub steps : All (λ s. step_agrees entries s ≡ true) p.steps
  pub notes : All (λ n. note_agrees entries n ≡ true) p.notes
