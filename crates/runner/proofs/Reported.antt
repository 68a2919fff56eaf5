-- What is reported of a run: the copies stand in the state that a commit makes, and the steps are those of the plan of its world.
use Rattle.std.proofs.Common.{◌≡◌, ℕ, All, List, [], ◌∷◌, ◌++◌, length, drop, take, Bool, false, Option, Some, None, unwrap_or, Result, Ok, Err, IfOk, refl, sym, ◌∙◌, ap, subst}
use Rattle.std.specs.Prelude.{Contains, IsPermutation}
use Rattle.std.proofs.lemmas.List.{take-append-drop}
use Rattle.std.proofs.lemmas.List.Elements.{All-cons, All-contains_itself, All-head, All-nil, All-tail, All-weaker, Contains-append_left, Contains-append_right}
use Rattle.std.proofs.lemmas.List.Sorted.{Contains-permutation}
use Rattle.mailcore.specs.declared.side.Side.{Side}
use Rattle.mailcore.specs.declared.side.Direction.TheVariants.{Pull, Push}
use Rattle.rules.specs.declared.entry.Entry.{Entry}
use Rattle.rules.specs.declared.plan.Plan.{Plan}
use Rattle.rules.specs.declared.plan.Step.{Step}
use Rattle.rules.specs.declared.plan.Step.TheVariants as step
use Rattle.rules.specs.declared.state.SyncState.{SyncState}
use Rattle.rules.specs.World.{World, scene_of}
use Rattle.planner.specs.Listed.{all_unfit, marks_of}
use Rattle.sync_state.specs.JournalText.{FitsStep}
use Rattle.sync_state.specs.declared.journal.Logged.{Logged}
use Rattle.book.specs.declared.book.Pending.{Pending}
use Rattle.book.specs.declared.book.Pending.TheVariants.{Missing, Useless, Planned}
use Rattle.book.specs.Books.{Holds}
use Rattle.book.specs.Commits.{CommitsTo, Makes}
use Rattle.book.specs.Committed.{entries_of_copies, entry_of_copy, kept_entries}
use Rattle.law_outcome.specs.Steps.{Fit}
use Rattle.law_outcome.specs.CommitLaws.{results_of}
use Rattle.outside.specs.Arrivals.{Arrives}
use Rattle.outside.specs.BookCalls.{OfBook}
use Rattle.outside.specs.Devices.{Device}
use Rattle.outside.specs.Opened.{AreCommitted, IsHeld, Opened, journal_in}
use Rattle.run_states.specs.Endings.{EndedUnder}
use Rattle.run_states.specs.Openings.{Opening}
use Rattle.run_states.specs.Plans.{IsPlanned, NamedBy}
use Rattle.run_states.proofs.Ends.{ended, whole_at}
use Rattle.run_states.proofs.Growth.{since_map}
use Rattle.run_states.proofs.Spared.{named_by_plan}
use Rattle.runner.specs.declared.fault.RunFault.{RunFault}
use Rattle.runner.specs.declared.pass.Pass.{Pass}
use Rattle.runner.specs.declared.performed.Performed.{Performed}
use Rattle.runner.specs.declared.performed.StepResult.{StepResult}
use Rattle.runner.specs.declared.performed.StepResult.TheVariants as did
use Rattle.runner.specs.Before.{IsShown}
use Rattle.runner.specs.Going.{BeforeStep, HasLogged, IsGoing, log_at, logged_of, logs_of, next_at, no_journal, plan_at, steps_of, version_at}
use Rattle.runner.specs.Results.{AreResults, AreStepsOf, EndsBy, IsOtherResult, IsResult, RestReport, WholeReport}
use Rattle.runner.proofs.Logging.{of_book}
use Rattle.runner.proofs.Stages.{ready_arrives, stands_of}

-- a step was performed in a way in which it may be logged
abbrev pub IsFitting : Performed → Type 0
IsFitting p = FitsStep p.step (logged_of p.result)

-- the entry of its copy, if it has one, is among these
abbrev IsAmong : List Entry → Performed → Type 0
IsAmong entries p = All (Contains entries) (entry_of_copy p.step (logged_of p.result))

among_more : (before entries : List Entry) (p : Performed) → IsAmong entries p → IsAmong (before ++ entries) p
among_more before entries p k = All-weaker (Contains entries) (Contains (before ++ entries)) (λ e c. Contains-append_right before entries e c) (entry_of_copy p.step (logged_of p.result)) k

among_first : (ps : List Performed) → All (IsAmong (entries_of_copies (steps_of ps) (logs_of ps))) ps
among_first [] = All-nil (IsAmong [])
among_first (p ∷ ps) =
    let own = entry_of_copy p.step (logged_of p.result) in
    let rest = entries_of_copies (steps_of ps) (logs_of ps) in
    All-cons (IsAmong (own ++ rest)) p ps
    (All-weaker (Contains own) (Contains (own ++ rest)) (λ e c. Contains-append_left own rest e c) own (All-contains_itself own))
    (All-weaker (IsAmong rest) (IsAmong (own ++ rest)) (λ q k. among_more own rest q k) ps (among_first ps))

-- the entries of the last steps are among those of all
among : (steps : List Step) (log : List Logged) (ps : List Performed) → steps_of ps ≡ drop (length log) steps → All (IsAmong (entries_of_copies steps (log ++ logs_of ps))) ps
among steps [] ps e = subst (λ (xs : List Step). All (IsAmong (entries_of_copies xs (logs_of ps))) ps) e (among_first ps)
among [] (l ∷ ls) [] e = All-nil (IsAmong [])
among [] (l ∷ ls) (p ∷ ps) e = cc
among (s ∷ steps) (l ∷ ls) ps e =
    let rest = entries_of_copies steps (ls ++ logs_of ps) in
    All-weaker (IsAmong rest) (IsAmong (entry_of_copy s l ++ rest)) (λ q k. among_more (entry_of_copy s l) rest q k) ps (among steps ls ps e)

-- ---- what is reported of a step

is_other : (r : StepResult) → FitsStep (step.Gone Pull 0 0) (logged_of r) → IsOtherResult r
is_other (did.Made copy) f = f
is_other (did.Found copy) f = f
is_other did.Void f = f
is_other did.Plain f = tt

is_result : (entries : List Entry) (s : Step) (r : StepResult) → FitsStep s (logged_of r) → All (Contains entries) (entry_of_copy s (logged_of r)) → IsResult entries s r
is_result entries (step.New Pull uid flags mark) (did.Made copy) f k = All-head (Contains entries) _ [] k
is_result entries (step.New Pull uid flags mark) (did.Found copy) f k = All-head (Contains entries) _ [] k
is_result entries (step.New Pull uid flags mark) did.Void f k = tt
is_result entries (step.New Pull uid flags mark) did.Plain f k = f
is_result entries (step.New Push uid flags mark) (did.Made copy) f k = All-head (Contains entries) _ [] k
is_result entries (step.New Push uid flags mark) (did.Found copy) f k = All-head (Contains entries) _ [] k
is_result entries (step.New Push uid flags mark) did.Void f k = tt
is_result entries (step.New Push uid flags mark) did.Plain f k = f
is_result entries (step.Gone direction far near) r f k = is_other r f
is_result entries (step.Flags direction far near set cleared) r f k = is_other r f
is_result entries (step.Expunge side uid) r f k = is_other r f

results : (entries : List Entry) (ps : List Performed) → All IsFitting ps → All (IsAmong entries) ps → All (λ p. IsResult entries p.step p.result) ps
results entries [] f k = All-nil (λ (p : Performed). IsResult entries p.step p.result)
results entries (p ∷ ps) f k =
    All-cons (λ (p : Performed). IsResult entries p.step p.result) p ps (is_result entries p.step p.result (All-head IsFitting p ps f) (All-head (IsAmong entries) p ps k))
    (results entries ps (All-tail IsFitting p ps f) (All-tail (IsAmong entries) p ps k))

-- ---- the state that is committed

committed_entries : (p : Pending) (s t : SyncState) → Makes p s t
    → IsPermutation (kept_entries (unwrap_or (journal_in p) no_journal) s.entries ++ entries_of_copies (unwrap_or (journal_in p) no_journal).plan.steps (unwrap_or (journal_in p) no_journal).log) t.entries
committed_entries Missing s t k = absurd k
committed_entries Useless s t k = absurd k
committed_entries (Planned written) s t k = k.entries

pub reported : (old now new : Option Opened) (ps : List Performed) (d : Device) → HasLogged old now (logs_of ps) → steps_of ps ≡ drop (length (log_at old)) (plan_at old).steps → All IsFitting ps → AreCommitted now new → IsHeld new d → AreResults ps d
reported old None new ps d h steps f made held = absurd made
reported old (Some n) None ps d h steps f made held = absurd made
reported old (Some n) (Some m) ps d h steps f made held =
    let kept = kept_entries (unwrap_or (journal_in n.pending) no_journal) n.state.entries in
    let copies = entries_of_copies (plan_at (Some n)).steps (log_at (Some n)) in
    let there : All (IsAmong copies) ps = rw (h.plan, h.log) (among (plan_at old).steps (log_at old) ps steps) in
    let moves = committed_entries n.pending n.state m.state made.made in
    record {
      state = m.state;
      files = subst (λ (p : Pending). Holds d.files m.state p) made.pending held;
      each = results m.state.entries ps f (All-weaker (IsAmong copies) (IsAmong m.state.entries)
          (λ p k. All-weaker (Contains copies) (Contains m.state.entries) (λ e c. Contains-permutation (kept ++ copies) m.state.entries e moves (Contains-append_right kept copies e c)) (entry_of_copy p.step (logged_of p.result)) k) ps there);
    }

-- ---- of which plan the steps are

-- the last steps have the last results
fit_rest : (steps : List Step) (log more : List Logged) → Fit steps (results_of (log ++ more)) → Fit (drop (length log) steps) (results_of more)
fit_rest steps [] more k = k
fit_rest [] (l ∷ ls) more k = absurd k
fit_rest (s ∷ steps) (l ∷ ls) more k = fit_rest steps ls more k.1

module _ {ours : List ℕ → Bool} {alone : Bool} (opening : Opening ours alone) where
  pub ends_by : (opened : Option Opened) (is_resumed : Bool) (d m d' : Device) → IsGoing opened → next_at opened ≡ None → Arrives ours alone d m → BeforeStep opening opened is_resumed d → OfBook CommitsTo opened m d'
      → EndsBy opening (plan_at opened) (log_at opened) d'
  ends_by opened is_resumed d m d' g none a k t =
      let r = ready_arrives opening opened is_resumed d m a k in
      let does = of_book CommitsTo opened m d' g.untorn t in
      since_map opening _ _ (λ w grows at.
      let stands = stands_of opening opened w is_resumed m at in
      let whole = whole_at ours alone w opening.options (version_at opened) (plan_at opened) (log_at opened) none false m stands in
      record { ended = ended ours alone w opening.options (version_at opened) (plan_at opened) (log_at opened) none m d' grows.in_order stands does; planned = whole.planned; fit = whole.fit }) r.since

  -- the plan that was carried out is the one that was pending
  pub named_last : (old now : Option Opened) (results : List Logged) (d : Device) → HasLogged old now results → EndsBy opening (plan_at now) (log_at now) d → NamedBy opening.named (plan_at old).steps d.named
  named_last old now results d h ends =
      let last = ends.holds in
      subst (λ (p : Plan). NamedBy opening.named p.steps d.named) h.plan (named_by_plan ours ends.world opening.options (plan_at now) opening.named d.named last.planned last.ended.alike.named)

  reported_last : (old now : Option Opened) (ps : List Performed) (d : Device) → HasLogged old now (logs_of ps) → steps_of ps ≡ drop (length (log_at old)) (plan_at old).steps → (ends : EndsBy opening (plan_at now) (log_at now) d)
      → (all : AreStepsOf opening (plan_at old) (take (length (log_at old)) (plan_at old).steps) ps d) × (all.over.world ≡ ends.world)
  reported_last old now ps d h steps ends =
      let n = length (log_at old) in
      let before = take n (plan_at old).steps in
      let last = ends.holds in
      let logged : Fit (plan_at old).steps (results_of (log_at old ++ logs_of ps)) = subst (λ (l : List Logged). Fit (plan_at old).steps (results_of l)) h.log (subst (λ (p : Plan). Fit p.steps (results_of (log_at now))) h.plan last.fit) in (
        record {
          steps = sym (take-append-drop n (plan_at old).steps) ∙ ap (λ (l : List Step). before ++ l) (sym steps);
          copies = subst (λ (l : List Step). Fit l (results_of (logs_of ps))) (sym steps) (fit_rest (plan_at old).steps (log_at old) (logs_of ps) logged);
          over = record {
            world = ends.world;
            listed = ends.listed;
            grows = ends.grows;
            waited = ends.waited;
            admitted = ends.admitted;
            below = ends.below;
            within = ends.within;
            holds = (subst (λ (p : Plan). EndedUnder ours alone opening.named ends.world opening.options (marks_of p.steps) d) h.plan last.ended, subst (λ (p : Plan). IsPlanned ours ends.world opening.options p) h.plan last.planned);
          };
          named = named_last old now (logs_of ps) d h ends;
        },
        refl,
      )

  pub reported_rest : (old now : Option Opened) (ps : List Performed) (d : Device) → HasLogged old now (logs_of ps) → steps_of ps ≡ drop (length (log_at old)) (plan_at old).steps → EndsBy opening (plan_at now) (log_at now) d
      → RestReport opening ps d
  reported_rest old now ps d h steps ends = record { plan = plan_at old; before = take (length (log_at old)) (plan_at old).steps; last = (reported_last old now ps d h steps ends).0 }

  pub reported_whole : (old now new : Option Opened) (ps : List Performed) (unfit : List (Side × ℕ)) (d : Device) → log_at old ≡ [] → HasLogged old now (logs_of ps) → steps_of ps ≡ drop (length (log_at old)) (plan_at old).steps → (ends : EndsBy opening (plan_at now) (log_at now) d)
      → IsShown new ends.world → unfit ≡ all_unfit (scene_of ends.world opening.options) → WholeReport opening new ps unfit d
  reported_whole old now new ps unfit d none h steps ends shown skipped =
      let whole = subst (λ (l : List Logged). (all : AreStepsOf opening (plan_at old) (take (length l) (plan_at old).steps) ps d) × (all.over.world ≡ ends.world)) none (reported_last old now ps d h steps ends) in
      record {
        plan = plan_at old;
        all = whole.0;
        shown = subst (IsShown new) (sym whole.1) shown;
        skipped = subst (λ (w : World). unfit ≡ all_unfit (scene_of w opening.options)) (sym whole.1) skipped;
      }

-- ---- from one condition to another

pub reported_from : (r : Result Pass RunFault) (honest from start : Type 0) (reported : Pass → Type 0) → (honest → start → from) → IfOk r (λ pass. honest → from → reported pass) → IfOk r (λ pass. honest → start → reported pass)
reported_from (Ok pass) honest from start reported leads k = λ h at. k h (leads h at)
reported_from (Err e) honest from start reported leads k = tt
