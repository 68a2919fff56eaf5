-- Where a run with a plan may stand.
use Rattle.std.specs.Prelude.{◌≡◌, ◌≤◌, ◌⊎◌, All, ℕ, Bool, true, false, List, [], ◌∷◌, ◌++◌, Option, None, Some}
use Rattle.mailcore.specs.declared.side.Side.{Side}
use Rattle.rules.specs.declared.options.Options.{Options}
use Rattle.rules.specs.declared.plan.Plan.{Plan}
use Rattle.rules.specs.World.{World, store}
use Rattle.sync_state.specs.declared.version.Version.{Version}
use Rattle.sync_state.specs.declared.journal.Logged.{Logged}
use Rattle.sync_state.specs.declared.journal.Logged.TheVariants.{Copied}
use Rattle.book.specs.declared.book.Pending.{Pending}
use Rattle.book.specs.declared.book.Pending.TheVariants.{Missing, Planned}
use Rattle.book.specs.Books.{Holds}
use Rattle.law_outcome.specs.Steps.{Boxes, Fit, Rises, after, boxes_of, own}
use Rattle.law_outcome.specs.OwnLaws.{is_own}
use Rattle.law_outcome.specs.CommitLaws.{results_of}
use Rattle.outside.specs.Devices.{Device, Named, box}
use Rattle.run_states.specs.Plans.{IsPlanned, NamedBy, begun, next_of}

-- the messages of both mailboxes
abbrev pub boxes_at : Device → Boxes
boxes_at d = record { far = d.far.messages; near = d.near.store.messages }

-- a journal of this plan with this log
abbrev pub with_log : Version → Plan → List Logged → (is_torn : Bool) → Pending
with_log version plan log is_torn = Planned (record { version = version; journal = record { plan = plan; log = log }; is_torn = is_torn })

-- The plan of the world is in the journal, with this log, and each message that a call has named since stands in one of its steps. Both
-- mailboxes are those of the world after the steps that have these results, and after the first call of the next one, if it is half done;
-- what others added is left out. Where nobody adds any, nothing is left out and no file waits.
pub record Midway (ours : List ℕ → Bool) (alone : Bool) (earlier : List Named) (w : World) (options : Options) (version : Version) (plan : Plan) (log : List Logged) (is_torn : Bool) (results : List Logged) (is_half : Bool) (d : Device) : Type 0 where
  pub planned : IsPlanned ours w options plan
  pub files : Holds d.files w.state (with_log version plan log is_torn)
  pub fit : Fit plan.steps (results_of results)
  pub validity : (side : Side) → (box d side).validity ≡ (store w side).validity
  pub rises : (side : Side) → Rises side (store w side).next plan.steps (results_of results) (box d side).next
  pub boxes : own (is_own w planned.marks) (boxes_at d) ≡ begun is_half (after plan.steps (results_of results) (boxes_of w)) (next_of plan.steps results)
  pub named : NamedBy earlier plan.steps d.named
  pub nobody : alone ≡ true → (own (is_own w planned.marks) (boxes_at d) ≡ boxes_at d) × (d.near.waiting ≡ [])

-- after the steps that are logged none of the calls of the next one is done, or the first of two, or all of them
abbrev pub Stands : (List ℕ → Bool) → Bool → List Named → World → Options → Version → Plan → (log : List Logged) → (is_torn : Bool) → Device → Type 0
Stands ours alone earlier w options version plan log is_torn d =
    ((is_half : Bool) × Midway ours alone earlier w options version plan log is_torn log is_half d)
    ⊎ ((logged : Logged) × Midway ours alone earlier w options version plan log is_torn (log ++ logged ∷ []) false d)

pub record PlannedAt (ours : List ℕ → Bool) (alone : Bool) (earlier : List Named) (w : World) (options : Options) (d : Device) : Type 0 where
  pub version : Version
  pub plan : Plan
  pub log : List Logged
  pub is_torn : Bool
  pub stands : Stands ours alone earlier w options version plan log is_torn d

-- ---- before the plan

-- Both mailboxes of a device are those of a world that was listed, but for what others added since; no call has named a message, and there is
-- no journal. Where nobody adds any, nothing was added and no file waits.
pub record Listed (ours : List ℕ → Bool) (alone : Bool) (earlier : List Named) (w : World) (d : Device) : Type 0 where
  pub files : Holds d.files w.state Missing
  pub validity : (side : Side) → (box d side).validity ≡ (store w side).validity
  pub next : (side : Side) → (store w side).next ≤ (box d side).next
  pub boxes : (marks : List (List ℕ)) → All (λ mark. ours mark ≡ true) marks → own (is_own w marks) (boxes_at d) ≡ boxes_of w
  pub named : d.named ≡ earlier
  pub nobody : alone ≡ true → (boxes_at d ≡ boxes_of w) × (d.near.waiting ≡ [])

-- ---- the next step

-- of a step that sets flags and clears others the first call is done, if it makes one, or all of it is
abbrev pub HasBegun : (List ℕ → Bool) → Bool → List Named → World → Options → Version → Plan → (log : List Logged) → (is_made : Bool) → Device → Type 0
HasBegun ours alone earlier w options version plan log is_made d =
    ((is_half : Bool) × Midway ours alone earlier w options version plan log false log is_half d × (is_made ≡ true → is_half ≡ true))
    ⊎ ((logged : Logged) × Midway ours alone earlier w options version plan log false (log ++ logged ∷ []) false d)

-- a copy of the next step was looked for: it is there under this UID, or it is not made
abbrev pub IsSought : (List ℕ → Bool) → Bool → List Named → World → Options → Version → Plan → (log : List Logged) → (found : Option ℕ) → Device → Type 0
IsSought ours alone earlier w options version plan log None d = Midway ours alone earlier w options version plan log false log false d
IsSought ours alone earlier w options version plan log (Some copy) d = Midway ours alone earlier w options version plan log false (log ++ Copied copy ∷ []) false d
