-- How the stages of a pass join, and what leads from one to another.
use Rattle.std.proofs.Common.{◌≡◌, ◌∙◌, ◌≤◌, ◌+◌, ℕ, Option, Some, None, Result, Ok, Err, IfOk, OnOk, ap, sym, subst, arith}
use Rattle.rand_core.specs.Stream.{Stream}
use Rattle.rules.specs.declared.options.Options.{Options}
use Rattle.outside.specs.declared.outside.Outside.{Ghosts}
use Rattle.book.specs.declared.book.Pending.{Pending}
use Rattle.book.specs.declared.book.Pending.TheVariants.{Missing, Useless, Planned}
use Rattle.book.specs.Books.{IsPlanned as HasPlanned}
use Rattle.outside.specs.Devices.{Device}
use Rattle.outside.specs.Opened.{IsHeld, IsRead, Opened}
use Rattle.run_states.specs.Conditions.{Underway}
use Rattle.run_states.specs.Openings.{IsIdle, Opening}
use Rattle.runner.specs.declared.fault.RunFault.{RunFault}
use Rattle.runner.specs.declared.pass.Pass.{Pass}
use Rattle.runner.specs.declared.pass.Pass.TheVariants.{Already, Ran, Finished}
use Rattle.runner.specs.Answers.{AnswersTo, HasRepeats, Moves, RunsBy, made_in, run_of}
use Rattle.runner.specs.Asking.{Asks, read_back}
use Rattle.runner.specs.Before.{HasPlan, IsEmptied}
use Rattle.runner.specs.Faults.{Reasons, ReportsRefused, or_refused, or_repeats}
use Rattle.runner.specs.Finding.{FindsBy, FindsSame, OfSame}
use Rattle.runner.specs.Going.{plan_at}
use Rattle.runner.specs.Maps.{HasMapIn}
use Rattle.runner.specs.Naming.{NamesBy}
use Rattle.runner.specs.Parts.{Left, Never}
use Rattle.runner.specs.PassStages.{DrawnStage, Frame, LeavesSkipped, Stage, StageAnswer}
use Rattle.runner.specs.Results.{HasResults, Report}
use Rattle.runner.specs.Validities.{LeavesBoxes, OpensBoth}
use Rattle.runner.proofs.Finding.{boxed_plan, finds_from}
use Rattle.runner.proofs.Naming.{names_from}
use Rattle.runner.proofs.Passes.{boxed_answers}
use Rattle.runner.proofs.PartCalls.{AreReasons, part_reported, part_weaker}
use Rattle.runner.proofs.StepParts.{steps_reported, refused_from, repeats_from}

-- ---- which answer it is

-- a run that comes next was not made before
pub never_already : (opened : Option Opened) (pass : Pass) → AnswersTo (run_of opened + 1) opened pass → pass ≡ Already → ⊥
never_already None pass a e = a
never_already (Some o) pass a e = let le : o.state.run + 1 ≤ o.state.run = subst (λ (x : Pass). AnswersTo (o.state.run + 1) (Some o) x) e a in absurd (omega (arith, le))

-- a plan that was pending goes by the map of the options
pub resumed_runs : (opened : Option Opened) (options : Options) (stream : Stream) (pass : Pass) → HasPlan opened → HasMapIn options.keywords opened → AnswersTo (run_of opened + 1) opened pass → RunsBy opened options stream pass
resumed_runs None options stream pass plan m a = absurd plan
resumed_runs (Some o) options stream Already plan m a = tt
resumed_runs (Some o) options stream (Ran performed unfit) plan m a = absurd (never_idle o.pending plan a.1)
  where
    never_idle : (p : Pending) → HasPlanned p → IsIdle p → ⊥
    never_idle Missing plan idle = plan
    never_idle Useless plan idle = plan
    never_idle (Planned written) plan idle = idle
resumed_runs (Some o) options stream (Finished performed) plan m a = m

-- ---- stages

-- for the same reasons
pub are_same : (c : Reasons) → AreReasons c c
are_same c = record { changed = λ side t. t; keywords = λ t. t; repeats = λ t. t; beyond = λ t. t; greatest = λ t. t; unread = λ e t. t; refused = λ step t. t }

module _ {O : Type 0} (o : Ghosts O) where
  pub frame_then : (a b c : O) → Frame o a b → Frame o b c → Frame o a c
  frame_then a b c p q = record { was_honest = λ h. p.was_honest (q.was_honest h); keywords = q.keywords ∙ p.keywords }

  -- of a call that says the two by themselves
  pub frame_of : (a b : O) → (o.honest b → o.honest a) → o.keywords b ≡ o.keywords a → Frame o a b
  frame_of a b h k = record { was_honest = h; keywords = k }

  module _ (opening : Opening o.ours o.alone) where
    -- a stage that ended with an error
    pub stage_left : (run : ℕ) (reasons : Reasons) (from reaches : Device → Type 0) (old new : O) (f : RunFault) → Frame o old new → Asks o.noted (read_back (plan_at (o.opened old))) (o.asked old) (o.asked new)
        → Left (or_refused (ReportsRefused (o.opened new) (o.honest new) (from (o.seen old).device) (o.seen new).device) reasons) (o.honest new) from (Underway opening) f (o.seen old) (o.seen new)
        → Stage o opening run reasons from reaches old new (Err f)
    stage_left run reasons from reaches old new f frame asked part = record { frame = frame; asked = asked; answer = tt; part = part }

    pub drawn_left : (run : ℕ) (options : Options) (stream drawn : Stream) (reasons : Reasons) (from reaches : Device → Type 0) (old new : O) (f : RunFault) → Frame o old new → Asks o.noted (read_back (plan_at (o.opened old))) (o.asked old) (o.asked new) → Moves stream drawn
        → Left (or_refused (ReportsRefused (o.opened new) (o.honest new) (from (o.seen old).device) (o.seen new).device) (or_repeats (HasRepeats opening (o.opened new) (o.honest new) (from (o.seen old).device) options stream) reasons)) (o.honest new) from (Underway opening) f (o.seen old) (o.seen new)
        → DrawnStage o opening run options stream drawn reasons from reaches old new (Err f)
    drawn_left run options stream drawn reasons from reaches old new f frame asked moved part = record { stage = stage_left run _ from reaches old new f frame asked part; runs = tt; moved = moved }

    -- ---- where another condition leads to that of the stage

    pub answer_from : (run : ℕ) (from start : Device → Type 0) (old new : O) (r : Result Pass RunFault) → (start (o.seen old).device → from (o.seen old).device) → IfOk r (StageAnswer o opening run from old new) → IfOk r (StageAnswer o opening run start old new)
    answer_from run from start old new (Ok pass) leads a = record { by_files = a.by_files; results = a.results; reported = λ h at. a.reported h (leads at); found = λ h at. a.found h (leads at); named = λ h at. a.named h (leads at) }
    answer_from run from start old new (Err f) leads a = tt

    pub drawn_weaker : (run : ℕ) (options : Options) (stream drawn : Stream) (reasons reasons' : Reasons) (from start reaches reaches' : Device → Type 0) (old new : O) (r : Result Pass RunFault) → AreReasons reasons reasons' → ((d : Device) → start d → from d) → ((d : Device) → reaches d → reaches' d)
        → DrawnStage o opening run options stream drawn reasons from reaches old new r → DrawnStage o opening run options stream drawn reasons' start reaches' old new r
    drawn_weaker run options stream drawn reasons reasons' from start reaches reaches' old new r are leads ends s =
        let stage = s.stage in
        let h = o.honest new in
        let s0 = o.seen old in
        let s1 = o.seen new in
        record {
          stage = record {
            frame = stage.frame;
            asked = stage.asked;
            answer = answer_from run from start old new r (leads s0.device) stage.answer;
            part = part_weaker _ h from start (Underway opening) made_in (λ _. reaches) (λ _. reaches') s0 s1 r leads (λ x. ends) (part_reported _ _ h from (Underway opening) made_in (λ _. reaches) s0 s1 r (record {
              changed = are.changed;
              keywords = are.keywords;
              repeats = λ k. repeats_from opening (o.opened new) h (from s0.device) (start s0.device) options stream (λ honest at. leads s0.device at) k;
              beyond = are.beyond;
              greatest = are.greatest;
              unread = are.unread;
              refused = refused_from (o.opened new) h (from s0.device) (start s0.device) s1.device (λ honest at. leads s0.device at);
            }) stage.part);
          };
          runs = s.runs;
          moved = s.moved;
        }

    -- a plan that is pending is resumed where one might have been made
    pub drawn_resumed : (run : ℕ) (options : Options) (stream drawn : Stream) (reasons : Reasons) (from start reaches : Device → Type 0) (old new : O) (r : Result Pass RunFault) → ((d : Device) → start d → from d) → IfOk r (RunsBy (o.opened old) options stream) → Moves stream drawn
        → Stage o opening run Never from reaches old new r → DrawnStage o opening run options stream drawn reasons start reaches old new r
    drawn_resumed run options stream drawn reasons from start reaches old new r leads runs moved stage =
        let h = o.honest new in
        let s0 = o.seen old in
        let s1 = o.seen new in
        record {
          stage = record {
            frame = stage.frame;
            asked = stage.asked;
            answer = answer_from run from start old new r (leads s0.device) stage.answer;
            part = part_weaker _ h from start (Underway opening) made_in (λ _. reaches) (λ _. reaches) s0 s1 r leads (λ x d k. k)
                (part_reported _ _ h from (Underway opening) made_in (λ _. reaches) s0 s1 r (steps_reported _ _ (refused_from (o.opened new) h (from s0.device) (start s0.device) s1.device (λ honest at. leads s0.device at))) stage.part);
          };
          runs = runs;
          moved = moved;
        }

  -- the map was that of the call
  pub runs_resumed : (opening : Opening o.ours o.alone) (options : Options) (stream : Stream) (from : Device → Type 0) (old new : O) (r : Result Pass RunFault) → HasPlan (o.opened old) → HasMapIn options.keywords (o.opened old) → IfOk r (StageAnswer o opening (run_of (o.opened old) + 1) from old new) → IfOk r (RunsBy (o.opened old) options stream)
  runs_resumed opening options stream from old new (Ok pass) plan m a = resumed_runs (o.opened old) options stream pass plan m a.by_files
  runs_resumed opening options stream from old new (Err f) plan m a = tt

  -- a stage after both boxes were opened, by another opening that is the same
  pub answer_after : (x y : Opening o.ours o.alone) (run : ℕ) (from start : Device → Type 0) (old mid new : O) (r : Result Pass RunFault) → (o.honest new → o.honest mid) → OpensBoth (o.opened old) (o.opened mid)
      → (o.honest mid → FindsSame o.ours (o.seen old).device (o.seen mid).device) → (o.honest mid → (o.seen mid).device.named ≡ (o.seen old).device.named)
      → (o.honest new → start (o.seen old).device → from (o.seen mid).device × (x ≡ y)) → IfOk r (StageAnswer o x run from mid new) → IfOk r (StageAnswer o y run start old new)
  answer_after x y run from start old mid new (Ok pass) honest opened same named leads a =
      let before = o.opened old in
      let d0 = (o.seen old).device in
      let d1 = (o.seen mid).device in
      let d2 = (o.seen new).device in
      let plan : plan_at (o.opened mid) ≡ plan_at before = ap plan_at opened.opened ∙ boxed_plan opened.far opened.near before in
      record {
        by_files = boxed_answers opened.far opened.near run before (Ok pass) (subst (λ (b : Option Opened). AnswersTo run b pass) opened.opened a.by_files);
        results = a.results;
        reported = λ h at. let l = leads h at in subst (λ (z : Opening o.ours o.alone). Report z (o.opened new) pass d2) l.1 (a.reported h l.0);
        found = finds_from o.ours before (o.opened mid) d0 d1 (Ok pass) (o.honest mid) (o.honest new) (from d1) (start d0) plan honest (λ h at. (leads h at).0) same a.found;
        named = λ h at. let l = leads h at in names_from y before (o.opened mid) pass d0 d1 d2 plan (named (honest h)) (subst (λ (z : Opening o.ours o.alone). NamesBy z (o.opened mid) pass d1 d2) l.1 (a.named h l.0));
      }
  answer_after x y run from start old mid new (Err f) honest opened same named leads a = tt

  -- ---- a run that was made before

  pub answer_skipped : (opening : Opening o.ours o.alone) (run : ℕ) (start : Device → Type 0) (old new : O) (r : Result Pass RunFault) → IsRead (o.opened old) → run ≤ run_of (o.opened old) → IfOk r (λ pass. pass ≡ Already) → OnOk r (LeavesSkipped o old new) → IfOk r (StageAnswer o opening run start old new)
  answer_skipped opening run start old new (Ok pass) read le e leaves = subst (StageAnswer o opening run start old new) (sym e) (record {
    by_files = made_before (o.opened old) read le;
    results = λ h. tt;
    reported = λ h at. tt;
    found = λ h at d to. tt;
    named = λ h at. (leaves.stores h).0;
  })
    where
      made_before : (opened : Option Opened) → IsRead opened → run ≤ run_of opened → AnswersTo run opened Already
      made_before None read le = absurd read
      made_before (Some b) read le = le
  answer_skipped opening run start old new (Err f) read le e leaves = tt

  pub runs_skipped : (opened : Option Opened) (options : Options) (stream : Stream) (r : Result Pass RunFault) → IfOk r (λ pass. pass ≡ Already) → IfOk r (RunsBy opened options stream)
  runs_skipped opened options stream (Ok pass) e = rw e tt
  runs_skipped opened options stream (Err f) e = tt

  pub never_skipped : (opening : Opening o.ours o.alone) (from : Device → Type 0) (old new : O) (r : Result Pass RunFault) → IfOk r (StageAnswer o opening (run_of (o.opened old) + 1) from old new) → IfOk r (λ pass. pass ≡ Already → LeavesSkipped o old new)
  never_skipped opening from old new (Ok pass) a = λ e. absurd (never_already (o.opened old) pass a.by_files e)
  never_skipped opening from old new (Err f) a = tt

  -- ---- what an answer says, piece by piece

  module _ (opening : Opening o.ours o.alone) (run : ℕ) (from : Device → Type 0) (old new : O) where
    pub by_files_in : (r : Result Pass RunFault) → IfOk r (StageAnswer o opening run from old new) → IfOk r (AnswersTo run (o.opened old))
    by_files_in (Ok pass) a = a.by_files
    by_files_in (Err f) a = tt

    pub results_in : (r : Result Pass RunFault) → IfOk r (StageAnswer o opening run from old new) → IfOk r (λ pass. o.honest new → HasResults pass (o.seen new).device)
    results_in (Ok pass) a = a.results
    results_in (Err f) a = tt

    pub report_in : (r : Result Pass RunFault) → IfOk r (StageAnswer o opening run from old new) → IfOk r (λ pass. o.honest new → from (o.seen old).device → Report opening (o.opened new) pass (o.seen new).device)
    report_in (Ok pass) a = a.reported
    report_in (Err f) a = tt

    pub copies_in : (r : Result Pass RunFault) → IfOk r (StageAnswer o opening run from old new) → IfOk r (λ pass. o.honest new → from (o.seen old).device → OfSame o.ours (o.seen old).device (λ d. FindsBy (o.opened old) d pass))
    copies_in (Ok pass) a = a.found
    copies_in (Err f) a = tt

    pub names_in : (r : Result Pass RunFault) → IfOk r (StageAnswer o opening run from old new) → IfOk r (λ pass. o.honest new → from (o.seen old).device → NamesBy opening (o.opened old) pass (o.seen old).device (o.seen new).device)
    names_in (Ok pass) a = a.named
    names_in (Err f) a = tt

  pub stores_in : (old new : O) (r : Result Pass RunFault) → IfOk r (λ pass. pass ≡ Already → LeavesSkipped o old new) → IfOk r (λ pass. pass ≡ Already → LeavesBoxes (o.honest new) o.alone (o.seen old).device (o.seen new).device)
  stores_in old new (Ok pass) k = λ e. (k e).stores
  stores_in old new (Err f) k = tt

  pub emptied_in : (old new : O) (r : Result Pass RunFault) → IfOk r (λ pass. pass ≡ Already → LeavesSkipped o old new) → IfOk r (λ pass. pass ≡ Already → o.honest new → IsHeld (o.opened old) (o.seen old).device → IsEmptied (o.opened old) (o.seen new).device)
  emptied_in old new (Ok pass) k = λ e. (k e).emptied
  emptied_in old new (Err f) k = tt
