-- How the parts of a run join.
use Rattle.std.proofs.Common.{◌≡◌, ◌⊎◌, ◌≤◌, ◌<◌, ◌+◌, ◌-◌, inl, inr, ℕ, Bool, true, List, [], ◌∷◌, All, length, drop, Option, Some, None, unwrap_or, Result, Ok, Err, IfOk, IsErr, OnOk, Vec, refl, sym, ◌∙◌, ap, subst, arith, length-append}
use Rattle.std.proofs.lemmas.List.{length-drop, length-map}
use Rattle.std.specs.Global.{Global}
use Rattle.rand_core.specs.Stream.{Stream}
use Rattle.mailcore.specs.declared.keywords.Keyword.{Keyword}
use Rattle.mailcore.specs.declared.side.Side.{Side}
use Rattle.mailcore.specs.declared.listing.Listing.{Listing}
use Rattle.mailcore.specs.Draws.{Draws}
use Rattle.rules.specs.declared.options.Options.{Options}
use Rattle.rules.specs.declared.plan.Plan.{Plan}
use Rattle.rules.specs.declared.plan.Step.{Step}
use Rattle.rules.specs.declared.state.SyncState.{SyncState}
use Rattle.rules.specs.Outcome.{count_new}
use Rattle.rules.specs.Opening.{IsOpening}
use Rattle.rules.specs.Scene.{scene}
use Rattle.rules.specs.World.{World, IsInOrder, scene_of}
use Rattle.planner.specs.Listed.{all_unfit, marks_of}
use Rattle.sync_state.specs.JournalText.{IsLog}
use Rattle.sync_state.specs.declared.journal.Logged.{Logged}
use Rattle.book.specs.declared.book.Pending.{Pending}
use Rattle.book.specs.declared.book.Pending.TheVariants.{Missing, Useless, Planned}
use Rattle.book.specs.Books.{Fits, Holds, IsPlanned as HasPlanned, mended}
use Rattle.book.specs.BookLogs.{begun}
use Rattle.book.specs.Commits.{CommitsHalf, CommitsTo, IsFinished}
use Rattle.book.specs.Shelves.{Files}
use Rattle.book.proofs.KnownBooks.{book_known}
use Rattle.outside.specs.Arrivals.{Arrives}
use Rattle.outside.specs.BookCalls.{OfBook}
use Rattle.outside.specs.Devices.{Device}
use Rattle.outside.specs.Calls.{Seen}
use Rattle.outside.specs.Opened.{IsBook, IsHeld, IsRead, Opened, TakesCommit, journal_in, state_of, turned, with_box}
use Rattle.mailcore.specs.declared.side.Side.TheVariants.{Far, Near}
use Rattle.run_states.specs.Conditions.{IsOver, IsPending, Underway}
use Rattle.run_states.specs.Endings.{DoneAt, IsDone}
use Rattle.run_states.specs.Moments.{PlannedAt, Stands}
use Rattle.run_states.specs.Openings.{Grows, IsIdle, Opening, Since, Unplanned, once_listed}
use Rattle.run_states.specs.Plans.{IsPlanned}
use Rattle.run_states.proofs.Ends.{done_is_done, ended, ended_done, half_ended}
use Rattle.run_states.proofs.Growth.{since_any, since_map}
use Rattle.run_states.proofs.Spared.{underway_named}
use Rattle.runner.specs.declared.fault.RunFault.{RunFault}
use Rattle.runner.specs.declared.fault.RunFault.TheVariants as run
use Rattle.runner.specs.declared.pass.Pass.{Pass}
use Rattle.runner.specs.declared.pass.Pass.TheVariants.{Already, Ran, Finished}
use Rattle.runner.specs.declared.performed.Performed.{Performed}
use Rattle.runner.specs.Faults.{IsBeyond, IsCaused, LeavesRun, ReadsBeyond, Reasons}
use Rattle.runner.specs.Answers.{Answers, AnswersTo, AreUnfit, RunEnd, HasRepeats, Inputs, IsDrawn, PassStart, IsPlanFault, IsRest, IsRestOf, IsRun, PassEnd, RepeatsIn, RunsBy, as_read, made_in, run_of}
use Rattle.runner.specs.Maps.{HasMap, HasMapIn, HasOtherMapIn}
use Rattle.runner.specs.Before.{AreShown, BothListed, HasNoPlan, HasNone, HasPlan, IsEmptied, ReadUnderway, IsMade, IsShown, Resumed, world_shown}
use Rattle.runner.specs.Going.{AreOpen, BeforeStep, HasLogged, HasUntorn, IsGoing, IsUntorn, log_at, logged_of, logs_of, next_at, no_journal, plan_at, steps_of, version_at}
use Rattle.runner.specs.Parts.{PartOr}
use Rattle.runner.specs.Validities.{IsKept, LeavesBoxes}
use Rattle.runner.proofs.Logging.{of_book}
use Rattle.runner.proofs.PlanFacts.{count_is, no_pairs, unfit_by}
use Rattle.runner.proofs.Readings.{planned_files, turned_open}
use Rattle.runner.proofs.Stages.{ready_arrives, stands_of}
use Rattle.runner.proofs.Naming.{HasSpared}

-- ---- what was read

pub run_same : (old new : Option Opened) → state_of new ≡ state_of old → run_of new ≡ run_of old
run_same None None e = refl
run_same None (Some o) e = cc
run_same (Some o) None e = cc
run_same (Some o) (Some p) e = let s : p.state ≡ o.state = cc in ap (λ (x : SyncState). x.run) s

pub run_of_state : (opened : Option Opened) (s : SyncState) → state_of opened ≡ Some s → run_of opened ≡ s.run
run_of_state None s e = cc
run_of_state (Some o) s e = let same : o.state ≡ s = cc in ap (λ (x : SyncState). x.run) same

pub turned_run : (f : Pending → Pending) (opened : Option Opened) → run_of (turned f opened) ≡ run_of opened
turned_run f None = refl
turned_run f (Some o) = refl

pub boxed_run : (v w : ℕ) (opened : Option Opened) → run_of (with_box Near w (with_box Far v opened)) ≡ run_of opened
boxed_run v w None = refl
boxed_run v w (Some o) = refl

pub boxed_book : (v w : ℕ) (opened : Option Opened) → IsBook opened → IsBook (with_box Near w (with_box Far v opened))
boxed_book v w None b = b
boxed_book v w (Some o) b = b

pub boxed_answers : (v w : ℕ) (run : ℕ) (opened : Option Opened) (r : Result Pass RunFault) → IfOk r (AnswersTo run (with_box Near w (with_box Far v opened))) → IfOk r (AnswersTo run opened)
boxed_answers v w run None r a = a
boxed_answers v w run (Some o) (Ok pass) a = a
boxed_answers v w run (Some o) (Err e) a = tt

same_run : (a b : Option Opened) (options : Options) (stream : Stream) (steps : List Step) (unfit : List (Side × ℕ)) → state_of a ≡ state_of b → IsRun a options stream steps unfit → IsRun b options stream steps unfit
same_run None b options stream steps unfit e k = absurd k.drawn
same_run (Some o) None options stream steps unfit e k = cc
same_run (Some o) (Some p) options stream steps unfit e k =
    let s : o.state ≡ p.state = cc in
    record { far = k.far; near = k.near; drawn = rw (← s) k.drawn; unfit_are = rw (← s) k.unfit_are }

same_runs : (a b : Option Opened) (options : Options) (stream : Stream) (pass : Pass) → state_of a ≡ state_of b → (HasMapIn options.keywords a → HasMapIn options.keywords b) → RunsBy a options stream pass → RunsBy b options stream pass
same_runs a b options stream Already e m k = tt
same_runs a b options stream (Ran performed unfit) e m k = same_run a b options stream (steps_of performed.items) unfit.items e k
same_runs a b options stream (Finished performed) e m k = m k

-- an open box is of the same plan
pub boxed_map : (v w : ℕ) (keywords : List Keyword) (opened : Option Opened) → HasMapIn keywords (with_box Near w (with_box Far v opened)) → HasMapIn keywords opened
boxed_map v w keywords None m = m
boxed_map v w keywords (Some o) m = m

pub boxed_other_map : (v w : ℕ) (keywords : List Keyword) (opened : Option Opened) → HasOtherMapIn keywords (with_box Near w (with_box Far v opened)) → HasOtherMapIn keywords opened
boxed_other_map v w keywords None m = m
boxed_other_map v w keywords (Some o) m = m

boxed_state : (v w : ℕ) (opened : Option Opened) → state_of (with_box Near w (with_box Far v opened)) ≡ state_of opened
boxed_state v w None = refl
boxed_state v w (Some o) = refl

pub boxed_runs : (v w : ℕ) (opened : Option Opened) (options : Options) (stream : Stream) (r : Result Pass RunFault) → IfOk r (RunsBy (with_box Near w (with_box Far v opened)) options stream) → IfOk r (RunsBy opened options stream)
boxed_runs v w opened options stream (Ok pass) k = same_runs (with_box Near w (with_box Far v opened)) opened options stream pass (boxed_state v w opened) (boxed_map v w options.keywords opened) k
boxed_runs v w opened options stream (Err e) k = tt

pub run_here : (opened now : Option Opened) (options : Options) (stream : Stream) (far near : Listing) (plan : Plan) (steps : List Step) (unfit : List (Side × ℕ)) → state_of now ≡ state_of opened → steps ≡ plan.steps → IsDrawn now stream far near options plan.steps → AreUnfit now far near options unfit → IsRun opened options stream steps unfit
run_here opened now options stream far near plan steps unfit e s d u =
    same_run now opened options stream steps unfit e (record { far = far; near = near; drawn = rw s d; unfit_are = u })

-- ---- the log is as long as the plan

log_few : (steps : List Step) (log : List Logged) → IsLog steps log → length log ≤ length steps
log_few steps [] f = omega arith
log_few [] (l ∷ ls) f = absurd f
log_few (s ∷ ss) (l ∷ ls) f = omega (arith, log_few ss ls f.1)

pub book_few : (opened : Option Opened) → IsBook opened → length (log_at opened) ≤ length (plan_at opened).steps
book_few None b = absurd b
book_few (Some o) b = of_pending o.pending b.1
  where
    of_pending : (p : Pending) → Fits o.state p → length (unwrap_or (journal_in p) no_journal).log ≤ length (unwrap_or (journal_in p) no_journal).plan.steps
    of_pending Missing f = omega arith
    of_pending Useless f = omega arith
    of_pending (Planned written) f = let h = f.has_text in log_few written.journal.plan.steps written.journal.log h.log

takes_all : (opened : Option Opened) → HasUntorn opened → length (log_at opened) ≡ length (plan_at opened).steps → TakesCommit opened
takes_all None g e = g
takes_all (Some o) g e = of_pending o.pending g e
  where
    of_pending : (p : Pending) → IsUntorn p → length (unwrap_or (journal_in p) no_journal).log ≡ length (unwrap_or (journal_in p) no_journal).plan.steps → IsFinished p
    of_pending Missing g e = g
    of_pending Useless g e = g
    of_pending (Planned written) g e = e

pub takes_commit : (old new : Option Opened) (performed : List Performed) → length (log_at old) ≤ length (plan_at old).steps → HasLogged old new (logs_of performed) → steps_of performed ≡ drop (length (log_at old)) (plan_at old).steps → TakesCommit new
takes_commit old new performed few h steps =
    let g = h.going in
    let logs : length (logs_of performed) ≡ length performed = length-map performed (λ p. logged_of p.result) in
    let many : length (steps_of performed) ≡ length performed = length-map performed (λ p. p.step) in
    let left : length (steps_of performed) ≡ length (plan_at old).steps - length (log_at old) = ap (λ (l : List Step). length l) steps ∙ length-drop (length (log_at old)) (plan_at old).steps in
    let log : length (log_at new) ≡ length (log_at old) + length (logs_of performed) = ap (λ (l : List Logged). length l) h.log ∙ length-append {A = Logged} (log_at old) (logs_of performed) in
    let plan : length (plan_at new).steps ≡ length (plan_at old).steps = ap (λ (p : Plan). length p.steps) h.plan in
    takes_all new g.untorn (omega (arith, logs, many, left, log, plan, few))

-- ---- the journal after a plan is written, or after a torn line goes

pub begun_going : (opened : Option Opened) (plan : Plan) → IsRead opened → AreOpen opened → IsGoing (turned (λ _. begun plan) opened)
begun_going None plan read are = absurd read
begun_going (Some o) plan read are = record { untorn = refl; boxes = turned_open (λ _. begun plan) (Some o) are }

pub begun_log : (opened : Option Opened) (plan : Plan) → IsRead opened → log_at (turned (λ _. begun plan) opened) ≡ []
begun_log None plan read = absurd read
begun_log (Some o) plan read = refl

pub begun_plan : (opened : Option Opened) (plan : Plan) → IsRead opened → plan_at (turned (λ _. begun plan) opened) ≡ plan
begun_plan None plan read = absurd read
begun_plan (Some o) plan read = refl

pub mended_going : (opened : Option Opened) → HasPlan opened → AreOpen opened → IsGoing (turned mended opened)
mended_going None plan are = absurd plan
mended_going (Some o) plan are = of_pending o.pending plan (turned_open mended (Some o) are)
  where
    of_pending : (p : Pending) → HasPlanned p → AreOpen (Some (record o { pending = mended p })) → IsGoing (Some (record o { pending = mended p }))
    of_pending Missing h k = absurd h
    of_pending Useless h k = absurd h
    of_pending (Planned written) h k = record { untorn = refl; boxes = k }

pub mended_book : (opened : Option Opened) → IsBook opened → IsBook (turned mended opened)
mended_book None b = b
mended_book (Some o) b = (b.0, of_pending o.pending b.1)
  where
    of_pending : (p : Pending) → Fits o.state p → Fits o.state (mended p)
    of_pending Missing f = f
    of_pending Useless f = f
    of_pending (Planned written) f = f

pub mended_rest : (opened : Option Opened) (performed : List Performed) → HasPlan opened → steps_of performed ≡ drop (length (log_at (turned mended opened))) (plan_at (turned mended opened)).steps → IsRestOf opened performed
mended_rest None performed h e = h
mended_rest (Some o) performed h e = of_pending o.pending h e
  where
    of_pending : (p : Pending) → HasPlanned p → steps_of performed ≡ drop (length (unwrap_or (journal_in (mended p)) no_journal).log) (unwrap_or (journal_in (mended p)) no_journal).plan.steps → IsRest p performed
    of_pending Missing h e = h
    of_pending Useless h e = h
    of_pending (Planned written) h e = e

pub ran_answers : (opened : Option Opened) (performed : Vec Performed Global) (unfit : Vec (Side × ℕ) Global) → HasNoPlan opened → AnswersTo (run_of opened + 1) opened (Ran performed unfit)
ran_answers None performed unfit h = h
ran_answers (Some o) performed unfit h = (refl, h)

pub finished_answers : (opened : Option Opened) (performed : Vec Performed Global) → IsRestOf opened performed.items → AnswersTo (run_of opened + 1) opened (Finished performed)
finished_answers None performed h = h
finished_answers (Some o) performed h = (refl, h)

-- ---- the answers by the files

pub answers_held : (run : ℕ) (opened : Option Opened) (d : Device) (h0 h1 : Type 0) (r : Result Pass RunFault) → IfOk r (AnswersTo run opened) → (h1 → h0) → (h0 → IsHeld opened d) → IfOk r (λ pass. h1 → (s : SyncState) → (p : Pending) → Holds d.files s p → Answers run s p pass)
answers_held run opened d h0 h1 (Err e) a f g = tt
answers_held run opened d h0 h1 (Ok pass) a f g = λ h s p k. by_opened opened a (g (f h)) s p k
  where
    by_opened : (opened : Option Opened) → AnswersTo run opened pass → IsHeld opened d → (s : SyncState) (p : Pending) → Holds d.files s p → Answers run s p pass
    by_opened None a held s p k = absurd a
    by_opened (Some o) a held s p k =
        let e = book_known d.files o.state s o.pending p held k in
        subst (λ (x : SyncState). Answers run x p pass) e.0 (subst (λ (q : Pending). Answers run o.state q pass) e.1 a)

pub runs_held : (opened : Option Opened) (options : Options) (stream : Stream) (d : Device) (h0 h1 : Type 0) (r : Result Pass RunFault) → IfOk r (RunsBy opened options stream) → (h1 → h0) → (h0 → IsHeld opened d) → IfOk r (λ pass. h1 → (s : SyncState) → (p : Pending) → Holds d.files s p → RunsBy (as_read s p) options stream pass)
runs_held opened options stream d h0 h1 (Err e) a f g = tt
runs_held opened options stream d h0 h1 (Ok pass) a f g = λ h s p k. by_opened opened a (g (f h)) s p k
  where
    by_opened : (opened : Option Opened) → RunsBy opened options stream pass → IsHeld opened d → (s : SyncState) (p : Pending) → Holds d.files s p → RunsBy (as_read s p) options stream pass
    by_opened None a held s p k = absurd held
    by_opened (Some o) a held s p k =
        let e = book_known d.files o.state s o.pending p held k in
        same_runs (Some o) (as_read s p) options stream pass (ap (λ (x : SyncState). Some x) e.0) (λ m. subst (HasMap options.keywords) e.1 m) a

pub stores_joined : (alone : Bool) (h0 h1 : Type 0) (d0 d1 d2 : Device) (r : Result Pass RunFault) → IfOk r (λ p. p ≡ Already → LeavesBoxes h1 alone d1 d2) → (h1 → h0) → (h0 → IsKept alone d0 d1) → IfOk r (λ p. p ≡ Already → LeavesBoxes h1 alone d0 d2)
stores_joined alone h0 h1 d0 d1 d2 (Ok p) k f g = λ is h.
    let x = k is h in
    let kept = g (f h) in
    (x.0 ∙ kept.named, λ e. let y = x.1 e in let same = kept.same e in (y.0 ∙ ap (λ (d : Device). d.far) same, y.1 ∙ ap (λ (d : Device). d.near) same))
stores_joined alone h0 h1 d0 d1 d2 (Err e) k f g = tt

-- the run that was read is that of the files
read_run : (opened : Option Opened) (d : Device) (s : SyncState) (p : Pending) → IsHeld opened d → Holds d.files s p → run_of opened ≡ s.run
read_run None d s p held now = absurd held
read_run (Some o) d s p held now = let e = book_known d.files o.state s o.pending p held now in ap (λ (x : SyncState). x.run) e.0

-- a run beyond the next one
pub reads_beyond : (opened : Option Opened) (run : ℕ) → IsRead opened → run_of opened + 1 < run → ReadsBeyond opened run
reads_beyond None run read more = absurd read
reads_beyond (Some o) run read more = more

pub beyond_is_read : (opened : Option Opened) (run : ℕ) → ReadsBeyond opened run → IsRead opened
beyond_is_read None run more = more
beyond_is_read (Some o) run more = tt

pub beyond_read : (opened : Option Opened) (d : Device) (run : ℕ) → IsHeld opened d → ReadsBeyond opened run → IsBeyond run d
beyond_read None d run held more = absurd held
beyond_read (Some o) d run held more = record { state = o.state; pending = o.pending; held = held; beyond = more }

pub beyond_held : (alone : Bool) (opened : Option Opened) (run : ℕ) (h0 h1 : Type 0) (d0 : Device) (s1 s2 : Seen) (r : Result Pass RunFault) → (run_of opened + 1 < run → IsErr r × (s2 ≡ s1)) → (h1 → h0) → (h0 → IsHeld opened d0) → (h0 → IsKept alone d0 s1.device)
    → h1 → (s : SyncState) (p : Pending) → Holds d0.files s p → s.run + 1 < run → IsErr r × IsKept alone d0 s2.device
beyond_held alone opened run h0 h1 d0 s1 s2 r reported f held kept h s p now more =
    let same = read_run opened d0 s p (held (f h)) now in
    let t = reported (omega (arith, same, more)) in
    (t.0, subst (λ (x : Seen). IsKept alone d0 x.device) (sym t.1) (kept (f h)))

-- a journal without a plan goes
pub emptied_held : (opened : Option Opened) (d0 d1 d2 : Device) (h0 h1 : Type 0) (r : Result Pass RunFault) → IfOk r (λ pass. pass ≡ Already → h1 → IsHeld opened d1 → IsEmptied opened d2) → (h1 → h0) → (h0 → IsHeld opened d0) → (h0 → d1.files ≡ d0.files)
    → IfOk r (λ pass. pass ≡ Already → h1 → (s : SyncState) → (p : Pending) → Holds d0.files s p → IsIdle p → Holds d2.files s Missing)
emptied_held opened d0 d1 d2 h0 h1 (Err e) k f held same = tt
emptied_held opened d0 d1 d2 h0 h1 (Ok pass) k f held same = λ is h s p now idle. by_opened opened (held (f h)) (same (f h)) (λ there. k is h there) s p now idle
  where
    by_opened : (opened : Option Opened) → IsHeld opened d0 → d1.files ≡ d0.files → (IsHeld opened d1 → IsEmptied opened d2) → (s : SyncState) (p : Pending) → Holds d0.files s p → IsIdle p → Holds d2.files s Missing
    by_opened None there is g s p now idle = absurd there
    by_opened (Some o) there is g s p now idle =
        let e = book_known d0.files o.state s o.pending p there now in
        subst (λ (x : SyncState). Holds d2.files x Missing) e.0 (g (subst (λ (f : Files). Holds f o.state o.pending) (sym is) there) (subst IsIdle (sym e.1) idle))

module _ {ours : List ℕ → Bool} {alone : Bool} (opening : Opening ours alone) where
  -- ---- the plan of two listings

  pub plan_made : (opened : Option Opened) (options : Options) (stream : Stream) (far near : Listing) (plan : Plan) → IsDrawn opened stream far near options plan.steps
      → ((w : World) → IsInOrder w → state_of opened ≡ Some w.state → AreShown w far near → All (λ mark. ours mark ≡ true) (marks_of plan.steps) → IsPlanned ours w options plan)
      → (d : Device) → Inputs opening options stream → BothListed opening opened far near d → IsMade opening opened plan d
  plan_made None options stream far near plan drawn is d asked both = absurd drawn
  plan_made (Some o) options stream far near plan drawn is d asked both =
      let c = both.clear in
      let draws = drawn.0 in
      let mine : All (λ mark. ours mark ≡ true) (marks_of plan.steps) = asked.are_ours 0 (count_new (scene far near o.state options)) (marks_of plan.steps) (subst (λ (x : Stream). Draws x (count_new (scene far near o.state options)) (marks_of plan.steps)) (sym (no_pairs stream)) draws.drawn) in
      record {
        clear = c;
        since = since_map (once_listed opening (world_shown (Some o))) _ _ (λ w g k. (subst (λ (x : Options). IsPlanned ours w x plan) (sym asked.called ∙ c.chosen) (is w g.in_order (c.state ∙ ap (λ (x : SyncState). Some x) (sym g.state)) k.0 mine), k.1)) both.since;
      }

  -- the messages that were skipped are those of the world that was listed
  pub skipped_by : (opened : Option Opened) (options : Options) (stream : Stream) (far near : Listing) (unfit : List (Side × ℕ)) → AreUnfit opened far near options unfit → (d : Device) → Inputs opening options stream → BothListed opening opened far near d → unfit ≡ all_unfit (scene_of (world_shown opened) opening.options)
  skipped_by None options stream far near unfit are d asked both = absurd are
  skipped_by (Some o) options stream far near unfit are d asked both =
      let c = both.clear in
      let s = both.since in
      let read = c.state in
      let g = s.grows in
      let shown = s.holds in
      let first : o.state ≡ opening.world.state = cc in
      let of_call : unfit ≡ all_unfit (scene_of s.world options) = unfit_by ours s.world o.state options far near (first ∙ sym g.state) shown.0 unfit are in
      let of_opening : unfit ≡ all_unfit (scene_of s.world opening.options) = subst (λ (x : Options). unfit ≡ all_unfit (scene_of s.world x)) (sym asked.called ∙ c.chosen) of_call in
      subst (λ (w : World). unfit ≡ all_unfit (scene_of w opening.options)) (s.listed (world_shown (Some o)) refl) of_opening

  -- as many marks are wanted as that world has new messages
  pub repeats_since : (opened : Option Opened) (options : Options) (stream : Stream) (far near : Listing) (honest from : Type 0) (d : Device) → IsShown opened (world_shown opened) → RepeatsIn opened stream far near options → (honest → from → BothListed opening opened far near d) → HasRepeats opening opened honest from options stream
  repeats_since None options stream far near honest from d shown k listed = absurd k
  repeats_since (Some o) options stream far near honest from d shown k listed = record {
    count = count_new (scene far near o.state options);
    repeats = k;
    wanted = λ h at.
        let both = listed h at in
        let c = both.clear in
        let read = c.state in
        let first : o.state ≡ opening.world.state = cc in
        let s = both.since in
        let g = s.grows in
        let x = s.holds in
        let is : s.world ≡ world_shown (Some o) = s.listed (world_shown (Some o)) refl in
        since_any opening (world_shown (Some o)) _ c.unlisted (record {
          world = s.world;
          listed = s.listed;
          grows = g;
          waited = s.waited;
          admitted = s.admitted;
          below = s.below;
          within = s.within;
          holds = (subst (IsShown (Some o)) (sym is) shown, count_is ours s.world o.state options far near (first ∙ sym g.state) x.0);
        });
  }

  -- ---- the end

  pub ended_at : (opened : Option Opened) (is_resumed : Bool) (d m d' : Device) → IsGoing opened → next_at opened ≡ None → Arrives ours alone d m → BeforeStep opening opened is_resumed d → OfBook CommitsTo opened m d' → RunEnd opening d'
  ended_at opened is_resumed d m d' g none a k t =
      let r = ready_arrives opening opened is_resumed d m a k in
      let does = of_book CommitsTo opened m d' g.untorn t in
      since_map opening _ _ (λ w grows at. (marks_of (plan_at opened).steps, ended ours alone w opening.options (version_at opened) (plan_at opened) (log_at opened) none m d' grows.in_order (stands_of opening opened w is_resumed m at) does)) r.since

  split_done : (d : Device) → Since opening (λ w. PlannedAt ours alone opening.named w opening.options d ⊎ DoneAt ours alone opening.named w opening.options d) → Underway opening d
  split_done d s = by_world s.holds
    where
      by_world : PlannedAt ours alone opening.named s.world opening.options d ⊎ DoneAt ours alone opening.named s.world opening.options d → Underway opening d
      by_world (inl p) = inr (inl (record { world = s.world; listed = s.listed; grows = s.grows; waited = s.waited; admitted = s.admitted; below = s.below; within = s.within; holds = p }))
      by_world (inr x) = inr (inr (record { world = s.world; listed = s.listed; grows = s.grows; waited = s.waited; admitted = s.admitted; below = s.below; within = s.within; holds = x }))

  pub half_ended_at : (opened : Option Opened) (is_resumed : Bool) (d m d' : Device) → IsGoing opened → next_at opened ≡ None → Arrives ours alone d m → BeforeStep opening opened is_resumed d → OfBook CommitsHalf opened m d' → Underway opening d'
  half_ended_at opened is_resumed d m d' g none a k t =
      let r = ready_arrives opening opened is_resumed d m a k in
      let does = of_book CommitsHalf opened m d' g.untorn t in
      split_done d' (since_map opening _ _ (λ w grows at. half_ended ours alone w opening.options (version_at opened) (plan_at opened) (log_at opened) none m d' grows.in_order (stands_of opening opened w is_resumed m at) does) r.since)

  end_over : (d : Device) → RunEnd opening d → IsOver opening d
  end_over d s = since_map opening _ _ (λ w g k. ended_done ours alone w opening.options d k) s

  pub end_underway : (d : Device) → RunEnd opening d → Underway opening d
  end_underway d s = inr (inr (end_over d s))

  pub end_reaches : (run : ℕ) (d : Device) → RunEnd opening d → PassEnd opening run d
  end_reaches run d s = record { underway = end_underway d s; done = λ e. end_over d s }

  -- ---- which condition a run that is underway is in, by what was read

  done_run : (w : World) (d : Device) → Grows alone opening.world w → (x : DoneAt ours alone opening.named w opening.options d) → x.state.run ≡ opening.world.state.run + 1
  done_run w d g x = let a = x.alike in let k = a.alike in let st = k.state in st.run ∙ ap (λ (s : SyncState). s.run + 1) g.state

  pub planned_state : (o : Opened) (w : World) (d : Device) → Grows alone opening.world w → IsHeld (Some o) d → (p : PlannedAt ours alone opening.named w opening.options d) → (o.state ≡ opening.world.state) × HasPlanned o.pending
  planned_state o w d g held p =
      let e = book_known d.files o.state w.state o.pending _ held (planned_files opening w d p) in
      (e.0 ∙ g.state, subst HasPlanned (sym e.1) tt)

  done_state : (o : Opened) (w : World) (d : Device) → Grows alone opening.world w → IsHeld (Some o) d → DoneAt ours alone opening.named w opening.options d → o.state.run ≡ opening.world.state.run + 1
  done_state o w d g held x =
      let e = book_known d.files o.state x.state o.pending x.pending held x.files in
      ap (λ (s : SyncState). s.run) e.0 ∙ done_run w d g x

  pub unplanned_state : (o : Opened) (d : Device) → IsHeld (Some o) d → Unplanned opening d → (o.state ≡ opening.world.state) × IsIdle o.pending
  unplanned_state o d held n =
      let e = book_known d.files o.state opening.world.state o.pending n.pending held n.files in
      (e.0, subst IsIdle (sym e.1) n.idle)

  idle_planned : (p : Pending) → IsIdle p → HasPlanned p → ⊥
  idle_planned Missing i p = p
  idle_planned Useless i p = p
  idle_planned (Planned written) i p = i

  planned_map : (keywords : List Keyword) (o : Opened) (w : World) (d : Device) → IsHeld (Some o) d → (p : PlannedAt ours alone opening.named w opening.options d) → HasMap keywords o.pending → opening.options.keywords ≡ keywords
  planned_map keywords o w d held p m =
      let e = book_known d.files o.state w.state o.pending _ held (planned_files opening w d p) in
      let made : p.plan.keywords ≡ keywords = subst (HasMap keywords) e.1 m in
      by_stands p.stands made
    where
      by_stands : Stands ours alone opening.named w opening.options p.version p.plan p.log p.is_torn d → p.plan.keywords ≡ keywords → opening.options.keywords ≡ keywords
      by_stands (inl k) made = let at = k.1 in let is = at.planned.is_plan in sym is.keywords ∙ made
      by_stands (inr k) made = let at = k.1 in let is = at.planned.is_plan in sym is.keywords ∙ made

  -- where a plan that is pending goes by the map of the call, so does the opening's, whether it is made or not
  pub known_map : (opened : Option Opened) (options : Options) (stream : Stream) (d : Device) → run_of opened + 1 ≤ opening.world.state.run + 1 → HasMapIn options.keywords opened → Inputs opening options stream → ReadUnderway opening opened d → opening.options.keywords ≡ options.keywords
  known_map None options stream d le m asked k = absurd m
  known_map (Some o) options stream d le m asked k = by_case k.underway
    where
      by_case : Underway opening d → opening.options.keywords ≡ options.keywords
      by_case (inl u) = ap (λ (x : Options). x.keywords) (sym u.chosen ∙ asked.called)
      by_case (inr (inl s)) = planned_map options.keywords o s.world d k.held s.holds m
      by_case (inr (inr s)) = let e = done_state o s.world d s.grows k.held s.holds in absurd (omega arith)

  -- a run that is not done yet: its plan is pending, or there is none
  pub known_planned : (opened : Option Opened) (d : Device) → HasPlan opened → run_of opened + 1 ≤ opening.world.state.run + 1 → ReadUnderway opening opened d → Resumed opening opened d
  known_planned None d plan le k = absurd plan
  known_planned (Some o) d plan le k = record { pending = by_case k.underway; held = k.held }
    where
      by_case : Underway opening d → IsPending opening d
      by_case (inl u) = absurd (idle_planned o.pending (unplanned_state o d k.held u).1 plan)
      by_case (inr (inl s)) = s
      by_case (inr (inr s)) = let e = done_state o s.world d s.grows k.held s.holds in absurd (omega arith)

  pub known_unplanned : (opened : Option Opened) (d : Device) → HasNoPlan opened → run_of opened + 1 ≤ opening.world.state.run + 1 → ReadUnderway opening opened d → HasNone opening opened d
  known_unplanned None d none le k = absurd none
  known_unplanned (Some o) d none le k = record { unplanned = by_case k.underway; held = k.held }
    where
      by_case : Underway opening d → Unplanned opening d
      by_case (inl u) = u
      by_case (inr (inl s)) = absurd (idle_planned o.pending none (planned_state o s.world d s.grows k.held s.holds).1)
      by_case (inr (inr s)) = let e = done_state o s.world d s.grows k.held s.holds in absurd (omega arith)

  -- what was read is of the opening's run or of the one after it
  pub known_least : (opened : Option Opened) (d : Device) → ReadUnderway opening opened d → opening.world.state.run ≤ run_of opened
  known_least None d k = absurd k.held
  known_least (Some o) d k = by_case k.underway
    where
      by_case : Underway opening d → opening.world.state.run ≤ o.state.run
      by_case (inl u) = let e = ap (λ (s : SyncState). s.run) (unplanned_state o d k.held u).0 in omega arith
      by_case (inr (inl s)) = let e = ap (λ (s : SyncState). s.run) (planned_state o s.world d s.grows k.held s.holds).0 in omega arith
      by_case (inr (inr s)) = let e = done_state o s.world d s.grows k.held s.holds in omega arith

  -- a state of the run, or of a later one, is that of its end
  pub known_reaches : (opened : Option Opened) (run : ℕ) (d : Device) → run ≤ run_of opened → ReadUnderway opening opened d → PassEnd opening run d
  known_reaches None run d le k = absurd k.held
  known_reaches (Some o) run d le k = record { underway = k.underway; done = λ e. by_case e k.underway }
    where
      by_case : opening.world.state.run + 1 ≤ run → Underway opening d → IsOver opening d
      by_case e (inl u) = let s = ap (λ (s : SyncState). s.run) (unplanned_state o d k.held u).0 in absurd (omega arith)
      by_case e (inr (inl x)) = let s = ap (λ (s : SyncState). s.run) (planned_state o x.world d x.grows k.held x.holds).0 in absurd (omega arith)
      by_case e (inr (inr x)) = x

-- ---- a fault of the planner

pub caused_plan : (reasons : Reasons) (f : RunFault) (s0 s1 : Seen) → IsPlanFault f → ((side : Side) → f ≡ run.ValidityChanged side → reasons.changed side) → (f ≡ run.MarksRepeat → reasons.repeats) → IsCaused reasons f s0 s1
caused_plan reasons run.Stopped s0 s1 h g k = absurd h
caused_plan reasons (run.Refused step) s0 s1 h g k = absurd h
caused_plan reasons (run.ValidityChanged side) s0 s1 h g k = g side refl
caused_plan reasons (run.BadState line) s0 s1 h g k = absurd h
caused_plan reasons (run.BadJournal line) s0 s1 h g k = absurd h
caused_plan reasons (run.StoreFault side number) s0 s1 h g k = absurd h
caused_plan reasons run.MarksRepeat s0 s1 h g k = k refl
caused_plan reasons run.NoMemory s0 s1 h g k = tt
caused_plan reasons run.KeywordsChanged s0 s1 h g k = absurd h

pub memory_plan : (f : RunFault) → f ≡ run.NoMemory → IsPlanFault f
memory_plan f e = rw e tt

pub caused_memory : (reasons : Reasons) (f : RunFault) (s0 s1 : Seen) → f ≡ run.NoMemory → IsCaused reasons f s0 s1
caused_memory reasons f s0 s1 e = rw e tt

pub after_plan : (u : Device → Type 0) (f : RunFault) (s0 s1 : Seen) → IsPlanFault f → u s1.device → LeavesRun u f s0 s1
after_plan u run.Stopped s0 s1 h k = absurd h
after_plan u (run.Refused step) s0 s1 h k = absurd h
after_plan u (run.ValidityChanged side) s0 s1 h k = k
after_plan u (run.BadState line) s0 s1 h k = h
after_plan u (run.BadJournal line) s0 s1 h k = h
after_plan u (run.StoreFault side number) s0 s1 h k = absurd h
after_plan u run.MarksRepeat s0 s1 h k = k
after_plan u run.NoMemory s0 s1 h k = k
after_plan u run.KeywordsChanged s0 s1 h k = k

pub none_few : (opened : Option Opened) → log_at opened ≡ [] → length (log_at opened) ≤ length (plan_at opened).steps
none_few opened e = rw e (omega arith)

pub whole_steps : (opened : Option Opened) (performed : List Performed) → log_at opened ≡ [] → steps_of performed ≡ drop (length (log_at opened)) (plan_at opened).steps → steps_of performed ≡ (plan_at opened).steps
whole_steps opened performed e s = s ∙ ap (λ (l : List Logged). drop (length l) (plan_at opened).steps) e

-- ---- where nobody else adds messages

pub over_alike : {ours : List ℕ → Bool} {alone : Bool} (opening : Opening ours alone) (d : Device) → alone ≡ true → IsOpening opening.world → IsOver opening d → IsDone opening.world opening.options d
over_alike {ours} {alone} opening d nobody sound over =
    subst (λ (x : Bool). (o : Opening ours x) → IsOpening o.world → IsOver o d → IsDone o.world o.options d) (sym nobody) (λ o s k. done_is_done o d s k) opening sound over

pub pass_alike : (reasons : Reasons) (honest : Type 0) {ours : List ℕ → Bool} {alone : Bool} (opening : Opening ours alone) (run : ℕ) (options : Options) (stream : Stream) (s0 s1 : Seen) (r : Result Pass RunFault)
    → PartOr reasons honest (PassStart opening run options stream) (Underway opening) made_in (λ _. PassEnd opening run) s0 s1 r
    → OnOk r (honest → alone ≡ true → PassStart opening run options stream s0.device → opening.world.state.run + 1 ≤ run → IsOpening opening.world → IsDone opening.world opening.options s1.device)
pass_alike reasons honest {ours} {alone} opening run options stream s0 s1 (Ok x) p = λ h nobody at least sound. let r = p.reaches h at in over_alike opening s1.device nobody sound (r.done least)
pass_alike reasons honest opening run options stream s0 s1 (Err e) p = tt

pub pass_others : (reasons : Reasons) (honest : Type 0) {ours : List ℕ → Bool} {alone : Bool} (opening : Opening ours alone) (run : ℕ) (options : Options) (stream : Stream) (s0 s1 : Seen) (r : Result Pass RunFault)
    → PartOr reasons honest (PassStart opening run options stream) (Underway opening) made_in (λ _. PassEnd opening run) s0 s1 r
    → OnOk r (honest → PassStart opening run options stream s0.device → HasSpared opening s0.device s1.device)
pass_others reasons honest opening run options stream s0 s1 (Ok x) p = λ h at. let on = p.goes_on h in (underway_named opening s0.device at.underway, on.spares)
pass_others reasons honest opening run options stream s0 s1 (Err e) p = tt
