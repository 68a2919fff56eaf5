-- Where the next step stands on some world since the opening, and what calls make of that.
use Rattle.std.proofs.Common.{◌≡◌, ◌⊎◌, inl, inr, ℕ, Bool, true, false, List, [], ◌∷◌, ◌++◌, Option, Some, None, refl, sym, ◌∙◌, subst}
use Rattle.std.specs.Prelude.{All, Contains, flat_map}
use Rattle.std.proofs.lemmas.List.Elements.{All-head}
use Rattle.mailcore.specs.declared.side.Side.{Side}
use Rattle.mailcore.specs.declared.side.Direction.{Direction}
use Rattle.mailcore.specs.FlagSet.{DELETED, has}
use Rattle.mailcore.specs.Operations.{flags_added, flags_removed, marked_from}
use Rattle.mailcore.specs.Sides.{target}
use Rattle.rules.specs.declared.plan.Plan.{Plan}
use Rattle.rules.specs.declared.plan.Step.{Step}
use Rattle.rules.specs.declared.plan.Step.TheVariants as step
use Rattle.rules.specs.World.{World, NamesBelow}
use Rattle.sync_state.specs.declared.version.Version.{Version}
use Rattle.sync_state.specs.declared.journal.Logged.{Logged}
use Rattle.sync_state.specs.declared.journal.Logged.TheVariants.{Copied, Done}
use Rattle.law_outcome.specs.Steps.{changed_uid, step_after, box as messages_in}
use Rattle.outside.specs.declared.fault.OutsideFault.{OutsideFault}
use Rattle.outside.specs.declared.fault.OutsideFault.TheVariants as out
use Rattle.outside.specs.declared.outside.Carried.{Carried}
use Rattle.outside.specs.declared.outside.Carried.TheVariants.{Absent, Unfit, Made}
use Rattle.outside.specs.Arrivals.{Arrives}
use Rattle.outside.specs.MailboxOperations.{Reports, removed}
use Rattle.outside.specs.BoxCalls.{Carry, Names, SetsAside, Turns}
use Rattle.outside.specs.Calls.{DoesSome, LeavesBy}
use Rattle.outside.specs.Devices.{Device, Named, box}
use Rattle.outside.specs.Opened.{Opened}
use Rattle.run_states.specs.Conditions.{Underway}
use Rattle.run_states.specs.Moments.{HasBegun, Midway, PlannedAt, Stands, boxes_at}
use Rattle.run_states.specs.Openings.{Grows, Opening}
use Rattle.run_states.specs.Plans.{first_uid, names_of}
use Rattle.run_states.proofs.Arrived.{stands_arrives}
use Rattle.run_states.proofs.Copies.{brought, copy_found, not_absent, not_unfit, sought}
use Rattle.run_states.proofs.Expunging.{stands_deleted}
use Rattle.run_states.proofs.Flagging.{clear_made, clear_none, none_made, set_made}
use Rattle.run_states.proofs.Moves.{IsMoved, begun_named as has_begun_named, midway_arrives, midway_set_aside, moved, stands_named}
use Rattle.run_states.proofs.Naming.{named_next}
use Rattle.run_states.proofs.Plain.{any_whole}
use Rattle.runner.specs.Going.{DuringStep, AfterCopy, AfterStep, AtMoment, BeforeStep, AfterSearch, CopiesUnder, FoundCopy, StepStart, log_at, next_at, number_at, plan_at, version_at}
use Rattle.runner.specs.Faults.{RefusedAt}
use Rattle.runner.proofs.Wholes.{removed_is}

-- what is known of the world is known of it again
pub moment_map : {ours : List ℕ → Bool} {alone : Bool} (opening : Opening ours alone) (opened : Option Opened) (P Q : World → Type 0) → ((w : World) → Grows alone opening.world w → NamesBelow w → P w → Q w) → AtMoment opening opened P → AtMoment opening opened Q
moment_map opening opened P Q f k =
    let s = k.since in
    record { state = k.state; since = record { world = s.world; listed = s.listed; grows = s.grows; waited = s.waited; admitted = s.admitted; below = s.below; within = s.within; holds = f s.world s.grows s.below s.holds } }

-- a call that stopped or had another fault: with no effect, with a part of it, or with it
pub left_by : {T : Type 0} (q : Device → Type 0) (does : T → Device → Device → Type 0) (part : Device → Device → Type 0) (e : OutsideFault) (m d' : Device) → LeavesBy does part e m d' → q m → (part m d' → q d') → ((x : T) → does x m d' → q d') → q d'
left_by {T} q does part e m d' l here half made = by_fault e l
  where
    same : d' ≡ m → q d'
    same is = subst q (sym is) here

    any : (d' ≡ m) ⊎ (DoesSome does m d' ⊎ part m d') → q d'
    any (inl is) = same is
    any (inr (inl k)) = made k.answer k.done
    any (inr (inr k)) = half k

    by_fault : (e : OutsideFault) → LeavesBy does part e m d' → q d'
    by_fault out.Stopped l = any l
    by_fault out.NoMemory l = any l
    by_fault out.Refused l = same l
    by_fault (out.Box side number) l = same l
    by_fault (out.BadState line) l = same l
    by_fault (out.BadJournal line) l = same l

module _ {ours : List ℕ → Bool} {alone : Bool} (opening : Opening ours alone) (opened : Option Opened) where
  abbrev version : Version
  version = version_at opened

  abbrev plan : Plan
  plan = plan_at opened

  abbrev log : List Logged
  log = log_at opened

  -- ---- what others add

  ready_one : (w : World) (is_resumed : Bool) (d m : Device) → Arrives ours alone d m → StepStart ours alone opening.named w opening.options version plan log is_resumed d → StepStart ours alone opening.named w opening.options version plan log is_resumed m
  ready_one w false d m a at = midway_arrives ours alone w opening.options version plan log false log false d m a at
  ready_one w true d m a at = stands_arrives ours alone w opening.options version plan log false d m a at

  pub ready_arrives : (is_resumed : Bool) (d m : Device) → Arrives ours alone d m → BeforeStep opening opened is_resumed d → BeforeStep opening opened is_resumed m
  ready_arrives is_resumed d m a = moment_map opening opened _ _ (λ w g b at. ready_one w is_resumed d m a at)

  begun_one : (w : World) (is_made : Bool) (d m : Device) → Arrives ours alone d m → HasBegun ours alone opening.named w opening.options version plan log is_made d → HasBegun ours alone opening.named w opening.options version plan log is_made m
  begun_one w is_made d m a (inl k) = inl (k.0, midway_arrives ours alone w opening.options version plan log false log k.0 d m a k.1, k.2)
  begun_one w is_made d m a (inr k) = inr (k.0, midway_arrives ours alone w opening.options version plan log false (log ++ k.0 ∷ []) false d m a k.1)

  pub begun_arrives : (is_made : Bool) (d m : Device) → Arrives ours alone d m → DuringStep opening opened is_made d → DuringStep opening opened is_made m
  begun_arrives is_made d m a = moment_map opening opened _ _ (λ w g b at. begun_one w is_made d m a at)

  pub done_arrives : (logged : Logged) (d m : Device) → Arrives ours alone d m → AfterStep opening opened logged d → AfterStep opening opened logged m
  done_arrives logged d m a = moment_map opening opened _ _ (λ w g b at. midway_arrives ours alone w opening.options version plan log false (log ++ logged ∷ []) false d m a at)

  pub copied_arrives : (d m : Device) → Arrives ours alone d m → AfterCopy opening opened d → AfterCopy opening opened m
  copied_arrives d m a = moment_map opening opened _ _ (λ w g b at. (at.0, midway_arrives ours alone w opening.options version plan log false (log ++ Copied at.0 ∷ []) false d m a at.1))

  -- ---- each leaves a run underway

  pub planned : (P : World → Type 0) (d : Device) → ((w : World) → P w → PlannedAt ours alone opening.named w opening.options d) → AtMoment opening opened P → Underway opening d
  planned P d f k = let s = k.since in inr (inl (record { world = s.world; listed = s.listed; grows = s.grows; waited = s.waited; admitted = s.admitted; below = s.below; within = s.within; holds = f s.world s.holds }))

  stands_at : (w : World) (d : Device) → Stands ours alone opening.named w opening.options version plan log false d → PlannedAt ours alone opening.named w opening.options d
  stands_at w d s = record { version = version; plan = plan; log = log; is_torn = false; stands = s }

  pub stands_of : (w : World) (is_resumed : Bool) (d : Device) → StepStart ours alone opening.named w opening.options version plan log is_resumed d → Stands ours alone opening.named w opening.options version plan log false d
  stands_of w false d at = inl (false, at)
  stands_of w true d at = at

  pub ready_underway : (is_resumed : Bool) (d : Device) → BeforeStep opening opened is_resumed d → Underway opening d
  ready_underway is_resumed d = planned _ d (λ w at. stands_at w d (stands_of w is_resumed d at))

  begun_stands : (w : World) (is_made : Bool) (d : Device) → HasBegun ours alone opening.named w opening.options version plan log is_made d → Stands ours alone opening.named w opening.options version plan log false d
  begun_stands w is_made d (inl k) = inl (k.0, k.1)
  begun_stands w is_made d (inr k) = inr k

  pub begun_underway : (is_made : Bool) (d : Device) → DuringStep opening opened is_made d → Underway opening d
  begun_underway is_made d = planned _ d (λ w at. stands_at w d (begun_stands w is_made d at))

  pub done_underway : (logged : Logged) (d : Device) → AfterStep opening opened logged d → Underway opening d
  done_underway logged d = planned _ d (λ w at. stands_at w d (inr (logged, at)))

  pub copied_underway : (d : Device) → AfterCopy opening opened d → Underway opening d
  copied_underway d = planned _ d (λ w at. stands_at w d (inr (Copied at.0, at.1)))

  -- ---- and in each the files hold the plan, of which it is the next step

  stands_held : (w : World) (d : Device) → Stands ours alone opening.named w opening.options version plan log false d → RefusedAt (number_at opened) d
  stands_held w d (inl k) = let x = k.1 in record { state = w.state; written = record { version = version; journal = record { plan = plan; log = log }; is_torn = false }; held = x.files; next = refl }
  stands_held w d (inr k) = let x = k.1 in record { state = w.state; written = record { version = version; journal = record { plan = plan; log = log }; is_torn = false }; held = x.files; next = refl }

  pub ready_held : (is_resumed : Bool) (d : Device) → BeforeStep opening opened is_resumed d → RefusedAt (number_at opened) d
  ready_held is_resumed d k = let s = k.since in stands_held s.world d (stands_of s.world is_resumed d s.holds)

  pub begun_held : (is_made : Bool) (d : Device) → DuringStep opening opened is_made d → RefusedAt (number_at opened) d
  begun_held is_made d k = let s = k.since in stands_held s.world d (begun_stands s.world is_made d s.holds)

  pub done_held : (logged : Logged) (d : Device) → AfterStep opening opened logged d → RefusedAt (number_at opened) d
  done_held logged d k = let s = k.since in stands_held s.world d (inr (logged, s.holds))

  pub copied_held : (d : Device) → AfterCopy opening opened d → RefusedAt (number_at opened) d
  copied_held d k = let s = k.since in let at = s.holds in stands_held s.world d (inr (Copied at.0, at.1))

  -- a plan that was just made stands where its log says, and may be resumed
  pub either_ready : (is_resumed : Bool) (d : Device) → BeforeStep opening opened false d → BeforeStep opening opened is_resumed d
  either_ready false d k = k
  either_ready true d k = moment_map opening opened _ _ (λ w g b at. inl (false, at)) k

  pub as_resumed : (is_resumed : Bool) (d : Device) → BeforeStep opening opened is_resumed d → BeforeStep opening opened true d
  as_resumed is_resumed d k = moment_map opening opened _ _ (λ w g b at. stands_of w is_resumed d at) k

  -- ---- copies

  pub sought_reported : (dir : Direction) (mark : List ℕ) → CopiesUnder opened dir mark → (d m : Device) → Arrives ours alone d m → BeforeStep opening opened true d → (found : Option ℕ) → found ≡ marked_from mark (first_uid plan (target dir)) (box m (target dir)) → AfterSearch opening opened found m
  sought_reported dir mark next d m a r found reported = moment_map opening opened _ _ (λ w g b at. sought ours alone opening.named w opening.options version plan log g.in_order dir next.uid next.flags mark next.is m at found reported) (ready_arrives true d m a r)

  pub sought_none : (d : Device) → AfterSearch opening opened None d → BeforeStep opening opened false d
  sought_none d k = k

  pub sought_some : (copy : ℕ) (d : Device) → AfterSearch opening opened (Some copy) d → AfterStep opening opened (Copied copy) d
  sought_some copy d k = k

  pub copy_reported : (dir : Direction) (mark : List ℕ) → CopiesUnder opened dir mark → (d m : Device) → Arrives ours alone d m → AfterCopy opening opened d → (found : Option ℕ) → found ≡ marked_from mark (first_uid plan (target dir)) (box m (target dir)) → FoundCopy opening opened found m
  copy_reported dir mark next d m a r found reported = by_found found (λ w g at. reported ∙ copy_found ours alone opening.named w opening.options version plan log g.in_order dir next.uid next.flags mark next.is false at.0 m at.1) (copied_arrives d m a r)
    where
      by_found : (found : Option ℕ) → ((w : World) → Grows alone opening.world w → (at : (copy : ℕ) × Midway ours alone opening.named w opening.options version plan log false (log ++ Copied copy ∷ []) false m) → found ≡ Some at.0) → AfterCopy opening opened m → FoundCopy opening opened found m
      by_found None f k = let s = k.since in let e = f s.world s.grows s.holds in cc
      by_found (Some copy) f k = moment_map opening opened _ _ (λ w g b at. let e = f w g at in let same : at.0 ≡ copy = cc in subst (λ (x : ℕ). Midway ours alone opening.named w opening.options version plan log false (log ++ Copied x ∷ []) false m) same at.1) k

  module _ (dir : Direction) (uid flags : ℕ) (mark : List ℕ) (is : next_at opened ≡ Some (step.New dir uid flags mark)) where
    pub carry_made : (reported : Option ℕ) (d m d' : Device) → Arrives ours alone d m → BeforeStep opening opened false d → Carry dir uid flags mark (Made reported) m d' → AtMoment opening opened (λ w. (copy : ℕ) × Midway ours alone opening.named w opening.options version plan log false (log ++ Copied copy ∷ []) false d' × Reports reported copy)
    carry_made reported d m d' a r c = moment_map opening opened _ _ (λ w g b at. brought ours alone opening.named w opening.options version plan log g.in_order dir uid flags mark is false reported m d' at c) (ready_arrives false d m a r)

    pub carry_unreported : (reported : Option ℕ) (d m d' : Device) → Arrives ours alone d m → BeforeStep opening opened false d → Carry dir uid flags mark (Made reported) m d' → AfterCopy opening opened d'
    carry_unreported reported d m d' a r c = moment_map opening opened _ _ (λ w g b at. (at.0, at.1)) (carry_made reported d m d' a r c)

    pub carry_reported : (copy : ℕ) (d m d' : Device) → Arrives ours alone d m → BeforeStep opening opened false d → Carry dir uid flags mark (Made (Some copy)) m d' → AfterStep opening opened (Copied copy) d'
    carry_reported copy d m d' a r c = moment_map opening opened _ _ (λ w g b at. subst (λ (x : ℕ). Midway ours alone opening.named w opening.options version plan log false (log ++ Copied x ∷ []) false d') (sym at.2) at.1) (carry_made (Some copy) d m d' a r c)

    pub never_absent : (d m d' : Device) → Arrives ours alone d m → BeforeStep opening opened false d → Carry dir uid flags mark Absent m d' → ⊥
    never_absent d m d' a r c = let k = ready_arrives false d m a r in let s = k.since in not_absent ours alone opening.named s.world opening.options version plan log s.grows.in_order dir uid flags mark is false m s.holds c.1

    pub never_unfit : (d m d' : Device) → Arrives ours alone d m → BeforeStep opening opened false d → Carry dir uid flags mark Unfit m d' → ⊥
    never_unfit d m d' a r c = let k = ready_arrives false d m a r in let s = k.since in not_unfit ours alone opening.named s.world opening.options version plan log s.grows.in_order dir uid flags mark is false m s.holds c.1

    set_aside : (d m d' : Device) → Arrives ours alone d m → BeforeStep opening opened false d → SetsAside (target dir) m d' → BeforeStep opening opened false d'
    set_aside d m d' a r c = moment_map opening opened _ _ (λ w g b at. midway_set_aside ours alone w opening.options version plan (target dir) log false log false m d' c at) (ready_arrives false d m a r)

    -- whatever a copy that had a fault left
    pub carry_left : (e : OutsideFault) (d m d' : Device) → Arrives ours alone d m → BeforeStep opening opened false d → LeavesBy (Carry dir uid flags mark) (SetsAside (target dir)) e m d' → Underway opening d'
    carry_left e d m d' a r l =
        left_by (Underway opening) (Carry dir uid flags mark) (SetsAside (target dir)) e m d' l
        (ready_underway false m (ready_arrives false d m a r))
        (λ c. ready_underway false d' (set_aside d m d' a r c))
        done
      where
        done : (x : Carried) → Carry dir uid flags mark x m d' → Underway opening d'
        done Absent c = rw c.0 (ready_underway false m (ready_arrives false d m a r))
        done Unfit c = rw c.0 (ready_underway false m (ready_arrives false d m a r))
        done (Made reported) c = copied_underway d' (carry_unreported reported d m d' a r c)

  -- ---- a call that has named its message, and done nothing

  module _ (s : Step) (side : Side) (uid : ℕ) (is : next_at opened ≡ Some s) (names : names_of s ≡ record { side = side; uid = uid } ∷ []) where
    of_step : Contains (flat_map names_of plan.steps) (record { side = side; uid = uid })
    of_step = All-head (λ n. Contains (flat_map names_of plan.steps) n) (record { side = side; uid = uid }) [] (subst (λ (ns : List Named). All (λ n. Contains (flat_map names_of plan.steps) n) ns) names (named_next plan.steps log s is))

    pub ready_named : (d m d' : Device) → Arrives ours alone d m → BeforeStep opening opened true d → Names side uid m d' → BeforeStep opening opened true d'
    ready_named d m d' a r t = moment_map opening opened _ _ (λ w g b at. stands_named ours alone w opening.options version plan side uid log false m d' of_step t at) (ready_arrives true d m a r)

    pub begun_named : (is_made : Bool) (d m d' : Device) → Arrives ours alone d m → DuringStep opening opened is_made d → Names side uid m d' → DuringStep opening opened is_made d'
    begun_named is_made d m d' a r t = moment_map opening opened _ _ (λ w g b at. has_begun_named ours alone w opening.options version plan side uid log is_made m d' of_step t at) (begun_arrives is_made d m a r)

  -- ---- a call that is a whole step

  pub whole_made : (s : Step) → next_at opened ≡ Some s → Rattle.law_outcome.specs.Steps.makes_copy s ≡ false → (d m d' : Device) → Arrives ours alone d m → BeforeStep opening opened true d → IsMoved (names_of s) m d' (step_after (boxes_at m) s None) → AfterStep opening opened Done d'
  whole_made s is plain d m d' a r c = moment_map opening opened _ _ (λ w g b at. any_whole ours alone opening.named w opening.options version plan log s is plain false m d' at c) (ready_arrives true d m a r)

  -- a message whose expunge is next is marked as deleted, if it is there
  pub ready_deleted : (side : Side) (uid : ℕ) → next_at opened ≡ Some (step.Expunge side uid) → (d : Device) → BeforeStep opening opened true d → All (λ m. m.uid ≡ uid → has m.flags DELETED ≡ true) (messages_in (boxes_at d) side)
  ready_deleted side uid is d k = let s = k.since in stands_deleted ours alone opening.named s.world opening.options version plan log s.grows.in_order side uid is false d s.holds

  pub expunge_made : (side : Side) (uid : ℕ) → next_at opened ≡ Some (step.Expunge side uid) → (d m d' : Device) → Arrives ours alone d m → BeforeStep opening opened true d → Turns side uid (removed uid) m d' → AfterStep opening opened Done d'
  expunge_made side uid is d m d' a r t = whole_made (step.Expunge side uid) is refl d m d' a r (removed_is side uid m d' (ready_deleted side uid is m (ready_arrives true d m a r)) t)

  -- ---- flags

  module _ (dir : Direction) (far near set cleared : ℕ) (is : next_at opened ≡ Some (step.Flags dir far near set cleared)) where
    pub set_called : (is_made : Bool) (d m d' : Device) → Arrives ours alone d m → BeforeStep opening opened true d → Turns (target dir) (changed_uid dir far near) (flags_added (changed_uid dir far near) set) m d' → DuringStep opening opened is_made d'
    set_called is_made d m d' a r t = moment_map opening opened _ _ (λ w g b at. set_made ours alone opening.named w opening.options version plan log dir far near set cleared is is_made m d' at (moved (target dir) (changed_uid dir far near) _ m d' t)) (ready_arrives true d m a r)

    pub set_none : (d : Device) → BeforeStep opening opened true d → DuringStep opening opened false d
    set_none d r = moment_map opening opened _ _ (λ w g b at. none_made ours alone opening.named w opening.options version plan log dir far near set cleared is d at) r

    pub clear_called : (is_made : Bool) → (is_made ≡ false → set ≡ 0) → (d m d' : Device) → Arrives ours alone d m → DuringStep opening opened is_made d → Turns (target dir) (changed_uid dir far near) (flags_removed (changed_uid dir far near) cleared) m d' → AfterStep opening opened Done d'
    clear_called is_made f d m d' a r t = moment_map opening opened _ _ (λ w g b at. clear_made ours alone opening.named w opening.options version plan log dir far near set cleared is is_made f m d' at (moved (target dir) (changed_uid dir far near) _ m d' t)) (begun_arrives is_made d m a r)

    pub clear_uncalled : cleared ≡ 0 → (d : Device) → DuringStep opening opened true d → AfterStep opening opened Done d
    clear_uncalled none d r = moment_map opening opened _ _ (λ w g b at. clear_none ours alone opening.named w opening.options version plan log dir far near set cleared is none d at) r
