-- The flags of the next step have names, so that the call gets them whole.
use Rattle.std.proofs.Common.{◌≡◌, inl, inr, ℕ, ◌^◌, Bool, true, false, List, [], ◌∷◌, map, Option, Some, sym, ap, ◌∙◌, subst}
use Rattle.std.specs.Prelude.{All}
use Rattle.std.proofs.lemmas.List.Elements.{All-contains, All-cons, All-head, All-nil, All-same, All-tail}
use Rattle.mailcore.specs.declared.keywords.Keyword.{Keyword}
use Rattle.mailcore.specs.declared.listing.Item.{Item}
use Rattle.mailcore.specs.declared.mailbox.Message.{Message}
use Rattle.mailcore.specs.declared.side.Direction.{Direction}
use Rattle.mailcore.specs.FlagSet.{DELETED}
use Rattle.mailcore.specs.KeywordNames.{IsWithin, kept}
use Rattle.mailcore.proofs.KnownFlags.{kept-same}
use Rattle.rules.specs.declared.options.Options.{Options}
use Rattle.rules.specs.declared.plan.Plan.{Plan}
use Rattle.rules.specs.declared.plan.Step.{Step}
use Rattle.rules.specs.declared.plan.Step.TheVariants as step
use Rattle.rules.specs.World.{World}
use Rattle.sync_state.specs.declared.journal.Logged.{Logged}
use Rattle.law_outcome.specs.Keywords.{IsWithinStep, IsWithinWorld}
use Rattle.law_outcome.proofs.Within.{deleted_within, plan_within}
use Rattle.outside.specs.Devices.{Device}
use Rattle.outside.specs.Opened.{Opened}
use Rattle.run_states.specs.Moments.{HasBegun, Stands}
use Rattle.run_states.specs.Openings.{Opening}
use Rattle.run_states.specs.Plans.{IsPlanned, next_of}
use Rattle.run_states.proofs.NextSteps.{next_contained}
use Rattle.runner.specs.Going.{DuringStep, AtMoment, BeforeStep, StepStart, log_at, next_at, plan_at, version_at}

-- ---- what is listed

-- messages of which each flag that is shown has a name
pub shown_within : (keywords : List Keyword) (show : Message → Item) → ((m : Message) → (show m).flags ≡ m.flags) → (is : List Item) (ms : List Message) → is ≡ map show ms → All (λ i. IsWithin keywords i.flags) is → All (λ m. IsWithin keywords m.flags) ms
shown_within keywords show same is ms e h = by_messages ms (All-same Shown (map show ms) is (sym e) h)
  where
    Shown : Item → Type 0
    Shown i = IsWithin keywords i.flags

    Has : Message → Type 0
    Has m = IsWithin keywords m.flags

    by_messages : (ms : List Message) → All Shown (map show ms) → All Has ms
    by_messages [] h = All-nil Has
    by_messages (m ∷ ms) h = All-cons Has m ms (subst (IsWithin keywords) (same m) (All-head Shown (show m) (map show ms) h)) (by_messages ms (All-tail Shown (show m) (map show ms) h))

-- ---- what a call gets

-- flags that have names by the map of the run, which is that of the outside
kept_whole : (keywords of_outside : List Keyword) (flags : ℕ) → keywords ≡ of_outside → IsWithin keywords flags → kept of_outside flags ≡ flags
kept_whole keywords of_outside flags same h = kept-same of_outside flags (subst (λ (ks : List Keyword). IsWithin ks flags) same h)

-- what marks as deleted, by any map
pub deleted_whole : (keywords : List Keyword) (flags : ℕ) → flags ≡ 2 ^ DELETED → kept keywords flags ≡ 2 ^ DELETED
deleted_whole keywords flags is = ap (kept keywords) is ∙ kept-same keywords (2 ^ DELETED) (deleted_within keywords)

-- ---- the next step

step_within : (keywords : List Keyword) (ours : List ℕ → Bool) (w : World) (options : Options) (plan : Plan) (log : List Logged) (s : Step) → IsWithinWorld keywords w → IsPlanned ours w options plan → next_of plan.steps log ≡ Some s → IsWithinStep keywords s
step_within keywords ours w options plan log s within p next =
    let steps : All (IsWithinStep keywords) plan.steps = All-same (IsWithinStep keywords) plan.steps _ p.is_plan.steps (plan_within keywords w options p.marks within) in
    All-contains (IsWithinStep keywords) plan.steps s steps (next_contained plan.steps log s next)

module _ {ours : List ℕ → Bool} {alone : Bool} (opening : Opening ours alone) (opened : Option Opened) (s : Step) (next : next_at opened ≡ Some s) where
  moment_within : (P : World → Type 0) → ((w : World) → P w → IsPlanned ours w opening.options (plan_at opened)) → AtMoment opening opened P → IsWithinStep opening.options.keywords s
  moment_within P f k = let n = k.since in step_within opening.options.keywords ours n.world opening.options (plan_at opened) (log_at opened) s n.within (f n.world n.holds) next

  stands_planned : (w : World) (d : Device) → Stands ours alone opening.named w opening.options (version_at opened) (plan_at opened) (log_at opened) false d → IsPlanned ours w opening.options (plan_at opened)
  stands_planned w d (inl k) = let m = k.1 in m.planned
  stands_planned w d (inr k) = let m = k.1 in m.planned

  ready_planned : (is_resumed : Bool) (w : World) (d : Device) → StepStart ours alone opening.named w opening.options (version_at opened) (plan_at opened) (log_at opened) is_resumed d → IsPlanned ours w opening.options (plan_at opened)
  ready_planned false w d m = m.planned
  ready_planned true w d k = stands_planned w d k

  begun_planned : (is_made : Bool) (w : World) (d : Device) → HasBegun ours alone opening.named w opening.options (version_at opened) (plan_at opened) (log_at opened) is_made d → IsPlanned ours w opening.options (plan_at opened)
  begun_planned is_made w d (inl k) = let m = k.1 in m.planned
  begun_planned is_made w d (inr k) = let m = k.1 in m.planned

  ready_within : (is_resumed : Bool) (d : Device) → BeforeStep opening opened is_resumed d → IsWithinStep opening.options.keywords s
  ready_within is_resumed d k = moment_within _ (λ w r. ready_planned is_resumed w d r) k

  begun_within : (is_made : Bool) (d : Device) → DuringStep opening opened is_made d → IsWithinStep opening.options.keywords s
  begun_within is_made d k = moment_within _ (λ w r. begun_planned is_made w d r) k

-- ---- the sets that its calls get

module _ {ours : List ℕ → Bool} {alone : Bool} (opening : Opening ours alone) (opened : Option Opened) (of_outside : List Keyword) (same : opening.options.keywords ≡ of_outside) where
  -- the flags of a copy
  pub copy_whole : (direction : Direction) (uid flags : ℕ) (mark : List ℕ) → next_at opened ≡ Some (step.New direction uid flags mark) → (d : Device) → BeforeStep opening opened false d → kept of_outside flags ≡ flags
  copy_whole direction uid flags mark next d k = kept_whole opening.options.keywords of_outside flags same (ready_within opening opened (step.New direction uid flags mark) next false d k)

  -- those that are set
  pub set_whole : (direction : Direction) (far near set cleared : ℕ) → next_at opened ≡ Some (step.Flags direction far near set cleared) → (d : Device) → BeforeStep opening opened true d → kept of_outside set ≡ set
  set_whole direction far near set cleared next d k = kept_whole opening.options.keywords of_outside set same (ready_within opening opened (step.Flags direction far near set cleared) next true d k).0

  -- and those that are cleared after them
  pub cleared_whole : (direction : Direction) (far near set cleared : ℕ) → next_at opened ≡ Some (step.Flags direction far near set cleared) → (is_made : Bool) (d : Device) → DuringStep opening opened is_made d → kept of_outside cleared ≡ cleared
  cleared_whole direction far near set cleared next is_made d k = kept_whole opening.options.keywords of_outside cleared same (begun_within opening opened (step.Flags direction far near set cleared) next is_made d k).1
