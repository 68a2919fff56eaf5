-- The end of a run.
use Rattle.std.proofs.Common.{◌≡◌, ◌⊎◌, ◌≤◌, ◌+◌, inl, inr, ℕ, Bool, true, false, List, [], ◌∷◌, ◌++◌, length, Option, Some, None, refl, sym, ◌∙◌, ap, subst, arith}
use Rattle.mailcore.specs.declared.side.Side.TheVariants.{Far, Near as NearSide}
use Rattle.mailcore.specs.declared.mailbox.Message.{Message}
use Rattle.mailcore.specs.Stores.{Waiting}
use Rattle.rules.specs.declared.options.Options.{Options}
use Rattle.rules.specs.declared.plan.Plan.{Plan}
use Rattle.rules.specs.declared.plan.Step.{Step}
use Rattle.rules.specs.declared.state.SyncState.{SyncState}
use Rattle.rules.specs.Admission.{AreAdmission, admitted_under, numbered_under}
use Rattle.rules.specs.AlikeBy.{AlikeBy}
use Rattle.rules.specs.Opening.{IsOpening}
use Rattle.rules.specs.World.{World, IsInOrder, Store, store, scene_of}
use Rattle.rules.specs.WorldAfter.{messages_under}
use Rattle.planner.specs.Listed.{marks_of}
use Rattle.planner.specs.Written.{all_steps}
use Rattle.planner.proofs.Theorem.{in_turn}
use Rattle.sync_state.specs.declared.version.Version.{Version}
use Rattle.sync_state.specs.declared.journal.Logged.{Logged}
use Rattle.book.specs.declared.book.Pending.{Pending}
use Rattle.book.specs.declared.book.Pending.TheVariants.{Missing, Useless}
use Rattle.book.specs.Books.{Holds}
use Rattle.book.specs.Commits.{CommitsTo, CommitsHalf, HoldsCommitted}
use Rattle.book.specs.Committed.{Commits}
use Rattle.law_outcome.specs.Steps.{Boxes, Fit, Rises, after, boxes_of, given, box as messages_in}
use Rattle.law_outcome.proofs.Given.{each_given}
use Rattle.law_outcome.proofs.WholePlans.{plan_reaches}
use Rattle.law_outcome.specs.AlikeLaws.{own_world}
use Rattle.law_outcome.specs.CommitLaws.{results_of}
use Rattle.law_outcome.proofs.Committed.{commit_reaches}
use Rattle.law_outcome.proofs.Whole.{alike_under_admission}
use Rattle.outside.specs.BookCalls.{OnFiles}
use Rattle.outside.specs.Devices.{Device, Named}
use Rattle.run_states.specs.Plans.{IsPlanned, NamedBy, begun, next_of}
use Rattle.run_states.specs.Openings.{Grows, IsIdle, Opening, Since, world_at}
use Rattle.run_states.specs.Moments.{Midway, PlannedAt, Stands, boxes_at, with_log}
use Rattle.run_states.specs.Endings.{AlikeAt, DoneAt, EndedAt, EndedUnder, IsDone}
use Rattle.run_states.proofs.Arrived.{alike_filed}
use Rattle.run_states.proofs.Foreign.{two}
use Rattle.run_states.proofs.Moves.{midway_filed}
use Rattle.run_states.proofs.NextSteps.{fit_few, fit_past, none_left, results_length}

-- what is seen of both mailboxes, as a world
abbrev with_boxes : Device → SyncState → Boxes → List Waiting → World
with_boxes d s b waiting = record {
  far = record { validity = d.far.validity; next = d.far.next; messages = b.far };
  near = record { validity = d.near.store.validity; next = d.near.store.next; messages = b.near };
  waiting = waiting;
  state = s;
}

-- the marks of a plan are those of its steps
pub marks_are : (ours : List ℕ → Bool) (w : World) (options : Options) (plan : Plan) (p : IsPlanned ours w options plan) → marks_of plan.steps ≡ p.marks
marks_are ours w options plan p = in_turn (scene_of w options) (scene_of w options) refl p.marks plan.steps (p.are_marks).count (p.is_plan).steps

module _ (ours : List ℕ → Bool) (alone : Bool) {earlier : List Named} (w : World) (options : Options) (version : Version) (plan : Plan) (log : List Logged) (none : next_of plan.steps log ≡ None) where
  -- after the last step nothing is half done
  pub whole_at : (torn : Bool) (d : Device) → Stands ours alone earlier w options version plan log torn d → Midway ours alone earlier w options version plan log torn log false d
  whole_at torn d (inl k) =
      let at = k.1 in
      record {
        planned = at.planned;
        files = at.files;
        fit = at.fit;
        validity = at.validity;
        rises = at.rises;
        boxes = at.boxes ∙ ap (λ (o : Option Step). begun k.0 (after plan.steps (results_of log) (boxes_of w)) o) none ∙ nothing k.0;
        named = at.named;
        nobody = at.nobody;
      }
    where
      nothing : (is_half : Bool) → begun is_half (after plan.steps (results_of log) (boxes_of w)) None ≡ after plan.steps (results_of log) (boxes_of w)
      nothing true = refl
      nothing false = refl
  whole_at torn d (inr k) = let at = k.1 in absurd (fit_past plan.steps log k.0 none at.fit)

  pub alike_now : (torn : Bool) (d : Device) (s : SyncState) → IsInOrder w → Midway ours alone earlier w options version plan log torn log false d → Commits (record { plan = plan; log = log }) w.state s → AlikeAt ours alone earlier w options (marks_of plan.steps) d s
  alike_now torn d s sound at c =
      let p = at.planned in
      let marks : List (List ℕ) = p.marks in
      let counted = (p.are_marks).count in
      let results : List (Option ℕ) = results_of log in
      let steps : List Step = all_steps (scene_of w options) marks in
      let steps_are : plan.steps ≡ steps = p.is_plan.steps in
      let many : length log ≡ length plan.steps = let few = fit_few plan.steps results at.fit in let n = results_length log in let left = none_left plan.steps log none in omega arith in
      let enough : length results ≡ length steps = results_length log ∙ many ∙ ap (λ (xs : List Step). length xs) steps_are in
      let fit : Fit steps results = subst (λ (xs : List Step). Fit xs results) steps_are at.fit in
      let found : World = own_world w marks (world_at d s) in
      let far : Rises Far w.far.next steps results d.far.next = subst (λ (xs : List Step). Rises Far w.far.next xs results d.far.next) steps_are (at.rises Far) in
      let near : Rises NearSide w.near.next steps results d.near.store.next = subst (λ (xs : List Step). Rises NearSide w.near.next xs results d.near.store.next) steps_are (at.rises NearSide) in
      let boxes = at.boxes ∙ ap (λ (xs : List Step). after xs results (boxes_of w)) steps_are in
      let reaches = plan_reaches w options marks results d.far.next d.near.store.next sound counted enough fit far near in
      let by : AlikeBy w options found = record {
        uids = λ side. given side steps results;
        marks = marks;
        are_marks = p.are_marks;
        each = each_given w options marks results counted enough fit;
        rise = two (λ side. Rises side (store w side).next steps results (store found side).next) far near;
        messages = two (λ side. (store found side).messages ≡ messages_under w options side (given side steps results) marks) (ap (λ (b : Boxes). messages_in b Far) boxes ∙ reaches Far) (ap (λ (b : Boxes). messages_in b NearSide) boxes ∙ reaches NearSide);
        validity = two (λ side. (store found side).validity ≡ (store w side).validity) (at.validity Far) (at.validity NearSide);
        waiting = refl;
        state = commit_reaches w options marks (record { plan = plan; log = log }) s sound p.is_plan many at.fit c;
      } in
      subst (λ (ms : List (List ℕ)). AlikeAt ours alone earlier w options ms d s) (sym (marks_are ours w options plan p)) (record {
        are_ours = p.are_ours;
        alike = by;
        borne = refl;
        named = subst (λ (xs : List Step). NamedBy earlier xs d.named) steps_are at.named;
        nobody = λ e. ap (λ (b : Boxes). with_boxes d s b []) (at.nobody e).0 ∙ ap (λ (fs : List Waiting). with_boxes d s (boxes_at d) fs) (sym (at.nobody e).1);
      })

  pub ended : (m d' : Device) → IsInOrder w → Stands ours alone earlier w options version plan log false m → OnFiles (CommitsTo (with_log version plan log false)) m d' → EndedUnder ours alone earlier w options (marks_of plan.steps) d'
  ended m d' sound stands t =
      let at = whole_at false m stands in
      let made = t.files w.state at.files in
      record { state = made.state; files = made.held; alike = alike_filed ours alone w options (marks_of plan.steps) m d' made.state t.far t.near t.named (alike_now false m made.state sound at made.made) }

  pub half_ended : (m d' : Device) → IsInOrder w → Stands ours alone earlier w options version plan log false m → OnFiles (CommitsHalf (with_log version plan log false)) m d' → PlannedAt ours alone earlier w options d' ⊎ DoneAt ours alone earlier w options d'
  half_ended m d' sound stands t = by_files (t.files w.state at.files)
    where
      at : Midway ours alone earlier w options version plan log false log false m
      at = whole_at false m stands

      done : (pending : Pending) → IsIdle pending → (s : SyncState) → Commits (record { plan = plan; log = log }) w.state s → Holds d'.files s pending → DoneAt ours alone earlier w options d'
      done pending idle s made held = record { state = s; pending = pending; idle = idle; files = held; marks = marks_of plan.steps; alike = alike_filed ours alone w options (marks_of plan.steps) m d' s t.far t.near t.named (alike_now false m s sound at made) }

      committed : (k : HoldsCommitted (with_log version plan log false) w.state d'.files) → DoneAt ours alone earlier w options d'
      committed k = by_held k.held
        where
          by_held : Holds d'.files k.state Useless ⊎ Holds d'.files k.state Missing → DoneAt ours alone earlier w options d'
          by_held (inl held) = done Useless tt k.state k.made held
          by_held (inr held) = done Missing tt k.state k.made held

      by_files : Holds d'.files w.state (with_log version plan log false) ⊎ HoldsCommitted (with_log version plan log false) w.state d'.files → PlannedAt ours alone earlier w options d' ⊎ DoneAt ours alone earlier w options d'
      by_files (inl held) = inl (record { version = version; plan = plan; log = log; is_torn = false; stands = inl (false, midway_filed ours alone w options version plan log log false false log false m d' t.far t.near t.named held at) })
      by_files (inr k) = inr (committed k)

pub ended_done : (ours : List ℕ → Bool) (alone : Bool) {earlier : List Named} (w : World) (options : Options) (d : Device) → EndedAt ours alone earlier w options d → DoneAt ours alone earlier w options d
ended_done ours alone w options d e = let x = e.1 in record { state = x.state; pending = Missing; idle = tt; files = x.files; marks = e.0; alike = x.alike }

-- ---- in the words of the rules

-- where nobody adds any, the world of the listings is the opening, admitted under some UIDs
pub admitted_is : (w now : World) → Grows true w now → now.waiting ≡ [] → (uids : List ℕ) × AreAdmission w uids now.near.next × (now ≡ admitted_under uids now.near.next w)
admitted_is w now g none =
    let nobody = g.nobody refl in
    let all = nobody.1 in
    let named : g.named ≡ w.waiting = sym (Rattle.std.proofs.Common.append-nil g.named) ∙ ap (λ (fs : List Waiting). g.named ++ fs) (sym none) ∙ all in
    let v : now.near.validity ≡ w.near.validity = g.validity NearSide in
    let messages : now.near.messages ≡ w.near.messages ++ numbered_under g.uids w.waiting = g.near ∙ ap (λ (fs : List Waiting). w.near.messages ++ numbered_under g.uids fs) named in (
      g.uids,
      record { each = g.each ∙ ap (λ (fs : List Waiting). length fs) named; rise = g.rise },
      ap (λ (x : Store). record now { far = x }) nobody.0
          ∙ ap (λ (x : ℕ). record now { far = w.far; near = record now.near { validity = x } }) v
          ∙ ap (λ (ms : List Message). record now { far = w.far; near = record { validity = w.near.validity; next = now.near.next; messages = ms } }) messages
          ∙ ap (λ (fs : List Waiting). record { far = w.far; near = record { validity = w.near.validity; next = now.near.next; messages = w.near.messages ++ numbered_under g.uids w.waiting }; waiting = fs; state = now.state }) none
          ∙ ap (λ (s : SyncState). record { far = w.far; near = record { validity = w.near.validity; next = now.near.next; messages = w.near.messages ++ numbered_under g.uids w.waiting }; waiting = []; state = s }) g.state,
    )

pub done_is_done : {ours : List ℕ → Bool} (opening : Opening ours true) (d : Device) → IsOpening opening.world → Since opening (λ w. DoneAt ours true opening.named w opening.options d) → IsDone opening.world opening.options d
done_is_done opening d sound s =
    let done = s.holds in
    let k = done.alike in
    let a = admitted_is opening.world s.world s.grows (s.admitted refl) in
    let by_lists : AlikeBy (admitted_under a.0 s.world.near.next opening.world) opening.options (world_at d done.state) =
    subst (λ (x : World). AlikeBy x opening.options (world_at d done.state)) a.2 (subst (λ (x : World). AlikeBy s.world opening.options x) (k.nobody refl) k.alike) in
    record {
      state = done.state;
      pending = done.pending;
      idle = done.idle;
      files = done.files;
      alike = λ marks copies. alike_under_admission opening.world opening.options a.0 s.world.near.next marks (world_at d done.state) sound a.1 copies by_lists;
    }
