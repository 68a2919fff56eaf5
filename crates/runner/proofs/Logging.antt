-- How the next step is logged.
use Rattle.std.proofs.Common.{◌≡◌, ◌⊎◌, ◌+◌, inl, inr, not, ℕ, Bool, true, false, List, [], ◌∷◌, ◌++◌, length, Option, Some, None, refl, sym, ◌∙◌, ap, subst, unwrap_or}
use Rattle.std.proofs.lemmas.Bool.{both_ways}
use Rattle.device.specs.Calls.{Effect}
use Rattle.mailcore.specs.declared.side.Side.{Side}
use Rattle.mailcore.specs.declared.side.Side.TheVariants.{Far, Near}
use Rattle.rules.specs.declared.plan.Step.{Step}
use Rattle.rules.specs.declared.state.SyncState.{SyncState}
use Rattle.rules.specs.World.{World}
use Rattle.sync_state.specs.declared.journal.Logged.{Logged}
use Rattle.sync_state.specs.JournalReading.{FitsAt}
use Rattle.book.specs.declared.book.Pending.{Pending}
use Rattle.book.specs.declared.book.Pending.TheVariants.{Missing, Useless, Planned}
use Rattle.book.specs.Books.{Holds, torn, Turns, TurnsHalf}
use Rattle.book.specs.BookLogs.{MayLog, is_free, is_refused, logged_more}
use Rattle.book.specs.Shelves.{Files}
use Rattle.outside.specs.declared.fault.OutsideFault.{OutsideFault}
use Rattle.outside.specs.declared.fault.OutsideFault.TheVariants as out
use Rattle.outside.specs.Arrivals.{Arrives}
use Rattle.outside.specs.BookCalls.{FromLog, IsTaken, OfBook, OnFiles}
use Rattle.outside.specs.Calls.{LeavesBy}
use Rattle.outside.specs.Devices.{Device}
use Rattle.outside.specs.Opened.{IsOpen, Opened, TakesLog, journal_in, state_of, turned}
use Rattle.run_states.specs.Conditions.{Underway}
use Rattle.run_states.specs.Moments.{Midway, PlannedAt, with_log}
use Rattle.run_states.specs.Openings.{Opening}
use Rattle.run_states.specs.Plans.{next_of}
use Rattle.run_states.proofs.Moves.{midway_filed}
use Rattle.runner.specs.Going.{AfterStep, BeforeStep, FitsNext, HasLogged, HasUntorn, IsGoing, IsUntorn, log_at, next_at, no_journal, number_at, plan_at, version_at, version_in}
use Rattle.runner.proofs.FreeCopies.{copy_is_free}
use Rattle.runner.proofs.PartCalls.{ReportsNoBook}
use Rattle.runner.proofs.Stages.{done_arrives, done_underway, left_by, moment_map, planned, ready_underway}

fits_at : (steps : List Step) (log : List Logged) (logged : Logged) → FitsNext (next_of steps log) logged → FitsAt steps (length log) logged
fits_at [] log logged h = h
fits_at (s ∷ ss) [] logged h = h
fits_at (s ∷ ss) (r ∷ rs) logged h = fits_at ss rs logged h

-- logging a step is never refused
pub never_refused : (opened : Option Opened) (logged : Logged) (e : OutsideFault) → FromLog opened logged e → e ≡ out.Refused → ⊥
never_refused opened logged e reported is = subst (λ (x : OutsideFault). FromLog opened logged x) is reported

pub takes_log : (opened : Option Opened) (number : ℕ) (logged : Logged) → HasUntorn opened → number ≡ number_at opened → FitsNext (next_at opened) logged → TakesLog opened number logged
takes_log None number logged g n f = g
takes_log (Some o) number logged g n f = of_pending o.pending number logged g n f
  where
    of_pending : (p : Pending) (number : ℕ) (logged : Logged) → IsUntorn p → number ≡ length (unwrap_or (journal_in p) no_journal).log + 1 → FitsNext (next_of (unwrap_or (journal_in p) no_journal).plan.steps (unwrap_or (journal_in p) no_journal).log) logged → MayLog p number logged
    of_pending Missing number logged g n f = g
    of_pending Useless number logged g n f = g
    of_pending (Planned written) number logged g n f = record { whole = g; number = n; fits = fits_at written.journal.plan.steps written.journal.log logged f }

-- the effect on the plan that is pending
pub of_book : (does : Pending → Effect Files) (opened : Option Opened) (d d' : Device) → HasUntorn opened → OfBook does opened d d' → OnFiles (does (with_log (version_at opened) (plan_at opened) (log_at opened) false)) d d'
of_book does None d d' g e = absurd g
of_book does (Some o) d d' g e = of_pending o.pending g e
  where
    of_pending : (p : Pending) → IsUntorn p → OnFiles (does p) d d' → OnFiles (does (with_log (version_in p) (unwrap_or (journal_in p) no_journal).plan (unwrap_or (journal_in p) no_journal).log false)) d d'
    of_pending Missing g e = absurd g
    of_pending Useless g e = absurd g
    of_pending (Planned written) g e = subst (λ (b : Bool). OnFiles (does (Planned (record { version = written.version; journal = written.journal; is_torn = b }))) d d') g e

still_open : (f : Pending → Pending) (side : Side) (opened : Option Opened) → IsOpen side opened → IsOpen side (turned f opened)
still_open f side None h = h
still_open f Far (Some o) h = h
still_open f Near (Some o) h = h

-- what is said once the step is logged
pub has_logged : (opened : Option Opened) (logged : Logged) → IsGoing opened → HasLogged opened (turned (λ p. logged_more p logged) opened) (logged ∷ [])
has_logged None logged g = absurd g.untorn
has_logged (Some o) logged g = of_pending o.pending g.untorn (λ side. still_open (λ p. logged_more p logged) side (Some o) (g.boxes side))
  where
    of_pending : (p : Pending) → IsUntorn p → ((side : Side) → IsOpen side (Some (record o { pending = logged_more p logged }))) → HasLogged (Some (record o { pending = p })) (Some (record o { pending = logged_more p logged })) (logged ∷ [])
    of_pending Missing g f = absurd g
    of_pending Useless g f = absurd g
    of_pending (Planned written) g f = record { going = record { untorn = g; boxes = f }; state = refl; version = refl; plan = refl; log = refl; listed = refl }

taken_free : (opened : Option Opened) (logged : Logged) (s : SyncState) → HasUntorn opened → state_of opened ≡ Some s → IsTaken opened logged → is_free s.entries (record { plan = plan_at opened; log = log_at opened }) logged ≡ true → ⊥
taken_free None logged s g e t f = t
taken_free (Some o) logged s g e t f = let same : o.state ≡ s = cc in of_pending o.pending g t (subst (λ (x : SyncState). is_free x.entries (record { plan = plan_at (Some o); log = log_at (Some o) }) logged ≡ true) (sym same) f)
  where
    of_pending : (p : Pending) → IsUntorn p → is_refused o.state.entries p logged ≡ true → is_free o.state.entries (record { plan = (unwrap_or (journal_in p) no_journal).plan; log = (unwrap_or (journal_in p) no_journal).log }) logged ≡ true → ⊥
    of_pending Missing g t f = g
    of_pending Useless g t f = g
    of_pending (Planned written) g t f = both_ways true (sym t ∙ ap not f) refl

module _ {ours : List ℕ → Bool} {alone : Bool} (opening : Opening ours alone) (opened : Option Opened) (logged : Logged) where
  pub log_made : (now : Option Opened) (d m d' : Device) → IsGoing opened → HasLogged opened now (logged ∷ []) → Arrives ours alone d m → AfterStep opening opened logged d → OfBook (λ p. Turns p (logged_more p logged)) opened m d' → BeforeStep opening now false d'
  log_made now d m d' g h a at e =
      let t = of_book (λ p. Turns p (logged_more p logged)) opened m d' g.untorn e in
      let k = moment_map opening opened _ (λ w. Midway ours alone opening.named w opening.options (version_at opened) (plan_at opened) (log_at opened ++ logged ∷ []) false (log_at opened ++ logged ∷ []) false d')
      (λ w grows b x. midway_filed ours alone w opening.options (version_at opened) (plan_at opened) (log_at opened) (log_at opened ++ logged ∷ []) false false (log_at opened ++ logged ∷ []) false m d' t.far t.near t.named (t.files w.state x.files) x)
      (done_arrives opening opened logged d m a at) in
      rw (h.version, h.plan, h.log) (record { state = h.state ∙ k.state; since = k.since })

  made_underway : (d m d' : Device) → IsGoing opened → Arrives ours alone d m → AfterStep opening opened logged d → OfBook (λ p. Turns p (logged_more p logged)) opened m d' → Underway opening d'
  made_underway d m d' g a at e =
      let now = turned (λ p. logged_more p logged) opened in
      ready_underway opening now false d' (log_made now d m d' g (has_logged opened logged g) a at e)

  half_underway : (d m d' : Device) → IsGoing opened → Arrives ours alone d m → AfterStep opening opened logged d → OfBook (λ p. TurnsHalf p (torn p)) opened m d' → Underway opening d'
  half_underway d m d' g a at e =
      let t = of_book (λ p. TurnsHalf p (torn p)) opened m d' g.untorn e in
      planned opening opened (λ w. PlannedAt ours alone opening.named w opening.options d') d' (λ w p. p)
      (moment_map opening opened _ _ (λ w grows b x. by_files w t.far t.near t.named x (t.files w.state x.files)) (done_arrives opening opened logged d m a at))
    where
      by_files : (w : World) → d'.far ≡ m.far → d'.near ≡ m.near → d'.named ≡ m.named → Midway ours alone opening.named w opening.options (version_at opened) (plan_at opened) (log_at opened) false (log_at opened ++ logged ∷ []) false m → Holds d'.files w.state (with_log (version_at opened) (plan_at opened) (log_at opened) false) ⊎ Holds d'.files w.state (with_log (version_at opened) (plan_at opened) (log_at opened) true) → PlannedAt ours alone opening.named w opening.options d'
      by_files w far near named x (inl held) = record { version = version_at opened; plan = plan_at opened; log = log_at opened; is_torn = false; stands = inr (logged, midway_filed ours alone w opening.options (version_at opened) (plan_at opened) (log_at opened) (log_at opened) false false (log_at opened ++ logged ∷ []) false m d' far near named held x) }
      by_files w far near named x (inr held) = record { version = version_at opened; plan = plan_at opened; log = log_at opened; is_torn = true; stands = inr (logged, midway_filed ours alone w opening.options (version_at opened) (plan_at opened) (log_at opened) (log_at opened) false true (log_at opened ++ logged ∷ []) false m d' far near named held x) }

  -- the UID of a copy that was made is not taken
  never_taken : (d m : Device) → IsGoing opened → Arrives ours alone d m → AfterStep opening opened logged d → IsTaken opened logged → ⊥
  never_taken d m g a at taken =
      let k = done_arrives opening opened logged d m a at in
      let s = k.since in
      let free = copy_is_free ours alone s.world opening.options (version_at opened) (plan_at opened) (log_at opened) s.grows.in_order s.below logged m s.holds in
      taken_free opened logged s.world.state g.untorn (k.state ∙ ap (λ (x : SyncState). Some x) (sym s.grows.state)) taken free

  -- whatever a fault leaves
  pub log_left : (e : OutsideFault) (d m d' : Device) → IsGoing opened → Arrives ours alone d m → AfterStep opening opened logged d → FromLog opened logged e → LeavesBy {T = Unit {0}} (λ _. OfBook (λ p. Turns p (logged_more p logged)) opened) (OfBook (λ p. TurnsHalf p (torn p)) opened) e m d' → ReportsNoBook e × Underway opening d'
  log_left e d m d' g a at reported l = (states e reported, left_by (Underway opening) _ _ e m d' l (done_underway opening opened logged m (done_arrives opening opened logged d m a at)) (half_underway d m d' g a at) (λ x. made_underway d m d' g a at))
    where
      states : (e : OutsideFault) → FromLog opened logged e → ReportsNoBook e
      states out.Stopped t = tt
      states out.Refused t = tt
      states (out.Box side number) t = tt
      states (out.BadState line) t = never_taken d m g a at t.1
      states (out.BadJournal line) t = t
      states out.NoMemory t = tt
