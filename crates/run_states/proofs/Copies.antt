-- A step that makes a copy.
use Rattle.std.proofs.Common.{◌≡◌, ◌≤◌, ◌<◌, ◌+◌, inl, inr, ℕ, Bool, true, false, cond, List, [], ◌∷◌, ◌++◌, All, Option, Some, None, refl, sym, ◌∙◌, ap, subst, arith, unwrap_or}
use Rattle.std.specs.Prelude.{Contains, find, nat_le, ◌&&◌}
use Rattle.std.specs.Option.{option_map}
use Rattle.std.proofs.lemmas.Bool.{both_ways}
use Rattle.std.proofs.lemmas.List.Elements.{All-nil, All-cons, All-contains}
use Rattle.mailcore.specs.declared.side.Side.{Side}
use Rattle.mailcore.specs.declared.side.Side.TheVariants.{Far, Near}
use Rattle.mailcore.specs.declared.side.Direction.{Direction}
use Rattle.mailcore.specs.declared.side.Direction.TheVariants.{Pull, Push}
use Rattle.mailcore.specs.declared.mailbox.Message.{Message}
use Rattle.mailcore.specs.Content.{fit, mark_of}
use Rattle.mailcore.specs.Operations.{bytes_of, is_mark, marked_among, marked_from}
use Rattle.mailcore.specs.Rise.{Rise}
use Rattle.mailcore.specs.Sides.{source, target}
use Rattle.rules.specs.declared.options.Options.{Options}
use Rattle.rules.specs.declared.plan.Plan.{Plan}
use Rattle.rules.specs.declared.plan.Step.{Step}
use Rattle.rules.specs.declared.plan.Step.TheVariants as step
use Rattle.rules.specs.Copies.{copy_of}
use Rattle.rules.specs.World.{World, IsInOrder, store, scene_of}
use Rattle.rules.proofs.WorldLemmas.{store_is}
use Rattle.planner.specs.Written.{all_steps}
use Rattle.sync_state.specs.declared.version.Version.{Version}
use Rattle.sync_state.specs.declared.journal.Logged.{Logged}
use Rattle.sync_state.specs.declared.journal.Logged.TheVariants.{Copied, Done, Void}
use Rattle.law_outcome.specs.Steps.{Boxes, Test, after, boxes_of, bytes_at, given, own, own_in, step_after, uid_given, box as messages_in, with_box as with_messages_in}
use Rattle.law_outcome.specs.OwnLaws.{bears, is_own, is_the, marked_uid}
use Rattle.law_outcome.proofs.Among.{among, more_among}
use Rattle.law_outcome.proofs.Copying.{uid_given-new}
use Rattle.law_outcome.proofs.Fold.{fit-more, given-more, rises-more}
use Rattle.law_outcome.proofs.OwnPlan.{plan_step_own, not_found, found_after}
use Rattle.law_outcome.specs.CommitLaws.{results_of}
use Rattle.outside.specs.MailboxOperations.{Reports}
use Rattle.outside.specs.BoxCalls.{Carries, IsUnfit, with_copy}
use Rattle.outside.specs.Devices.{Device, Named, box, on_box}
use Rattle.run_states.specs.Plans.{IsPlanned, begun, first_uid, next_of}
use Rattle.run_states.specs.Moments.{IsSought, Midway, Stands, boxes_at}
use Rattle.run_states.proofs.Foreign.{below_own}
use Rattle.run_states.proofs.NextSteps.{fit_last, next_contained, result_is, result_less, results_more}
use Rattle.run_states.proofs.Sources.{IsSource, source_of, source_bytes, seen_bytes}

messages_at : (d : Device) (side : Side) → messages_in (boxes_at d) side ≡ (box d side).messages
messages_at d Far = refl
messages_at d Near = refl

own_at : (test : Test) (b : Boxes) (side : Side) → messages_in (own test b) side ≡ own_in test side (messages_in b side)
own_at test b Far = refl
own_at test b Near = refl

same_mark : (mark : List ℕ) (o : Option (List ℕ)) → is_mark o mark ≡ is_the mark o
same_mark mark None = refl
same_mark mark (Some found) = refl

marked_same : (mark : List ℕ) (from : ℕ) (ms : List Message) → marked_among mark from ms ≡ marked_uid mark from ms
marked_same mark from [] = refl
marked_same mark from (m ∷ ms) =
    ap (λ b. option_map (λ (x : Message). x.uid) (cond (nat_le from m.uid && b) (Some m) (find (λ x. nat_le from x.uid && is_mark (mark_of x.bytes) mark) ms))) (same_mark mark (mark_of m.bytes))
    ∙ by_test (nat_le from m.uid && bears mark m.bytes) (marked_same mark from ms)
  where
    by_test : (b : Bool) → marked_among mark from ms ≡ marked_uid mark from ms → option_map (λ (x : Message). x.uid) (cond b (Some m) (find (λ x. nat_le from x.uid && is_mark (mark_of x.bytes) mark) ms)) ≡ option_map (λ (x : Message). x.uid) (cond b (Some m) (find (λ x. nat_le from x.uid && bears mark x.bytes) ms))
    by_test true e = refl
    by_test false e = e

rise_last : (least : ℕ) (us : List ℕ) (u bound : ℕ) → Rise least (us ++ u ∷ []) bound → least ≤ u
rise_last least [] u bound h = h.0
rise_last least (v ∷ us) u bound h = let k = rise_last (v + 1) us u bound h.1 in let j = h.0 in omega arith

-- the device with a copy
copied_boxes : (dir : Direction) (copy : Message) (next : ℕ) (d : Device) → boxes_at (on_box (target dir) (with_copy copy next) d) ≡ with_messages_in (boxes_at d) (target dir) (messages_in (boxes_at d) (target dir) ++ copy ∷ [])
copied_boxes Pull copy next d = refl
copied_boxes Push copy next d = refl

copied_validity : (dir : Direction) (copy : Message) (next : ℕ) (d : Device) (k : Side) → (box (on_box (target dir) (with_copy copy next) d) k).validity ≡ (box d k).validity
copied_validity Pull copy next d Far = refl
copied_validity Pull copy next d Near = refl
copied_validity Push copy next d Far = refl
copied_validity Push copy next d Near = refl

copied_files : (dir : Direction) (copy : Message) (next : ℕ) (d : Device) → (on_box (target dir) (with_copy copy next) d).files ≡ d.files
copied_files Pull copy next d = refl
copied_files Push copy next d = refl

copied_named : (dir : Direction) (copy : Message) (next : ℕ) (d : Device) → (on_box (target dir) (with_copy copy next) d).named ≡ d.named
copied_named Pull copy next d = refl
copied_named Push copy next d = refl

copied_waiting : (dir : Direction) (copy : Message) (next : ℕ) (d : Device) → (on_box (target dir) (with_copy copy next) d).near.waiting ≡ d.near.waiting
copied_waiting Pull copy next d = refl
copied_waiting Push copy next d = refl

-- its UID is between the next one and the next one then, on its side, and on the other nothing is given
copied_between : (dir : Direction) (uid flags : ℕ) (mark : List ℕ) (copy next : ℕ) (m : Message) (d : Device) → (box d (target dir)).next ≤ copy → copy < next → (k : Side) →
    ((box d k).next ≤ (box (on_box (target dir) (with_copy m next) d) k).next)
    × All (λ u. ((box d k).next ≤ u) × (u < (box (on_box (target dir) (with_copy m next) d) k).next)) (uid_given k (step.New dir uid flags mark) (Some copy))
copied_between Pull uid flags mark copy next m d least below Far = (omega arith, All-nil (λ u. (d.far.next ≤ u) × (u < d.far.next)))
copied_between Pull uid flags mark copy next m d least below Near = (omega arith, All-cons (λ u. (d.near.store.next ≤ u) × (u < next)) copy [] (least, below) (All-nil (λ u. (d.near.store.next ≤ u) × (u < next))))
copied_between Push uid flags mark copy next m d least below Far = (omega arith, All-cons (λ u. (d.far.next ≤ u) × (u < next)) copy [] (least, below) (All-nil (λ u. (d.far.next ≤ u) × (u < next))))
copied_between Push uid flags mark copy next m d least below Near = (omega arith, All-nil (λ u. (d.near.store.next ≤ u) × (u < d.near.store.next)))

module _ (ours : List ℕ → Bool) (alone : Bool) (earlier : List Named) (w : World) (options : Options) (version : Version) (plan : Plan) (log : List Logged) (sound : IsInOrder w) (dir : Direction) (uid flags : ℕ) (mark : List ℕ) (is : next_of plan.steps log ≡ Some (step.New dir uid flags mark)) where
  abbrev s : Step
  s = step.New dir uid flags mark

  abbrev before : Boxes
  before = after plan.steps (results_of log) (boxes_of w)

  module _ (p : IsPlanned ours w options plan) where
    abbrev all : List Step
    all = all_steps (scene_of w options) p.marks

    all_is : next_of all log ≡ Some s
    all_is = rw (← p.is_plan.steps) is

    contained : Contains all s
    contained = next_contained all log s all_is

    all_before : after all (results_of log) (boxes_of w) ≡ before
    all_before = ap (λ (steps : List Step). after steps (results_of log) (boxes_of w)) (sym p.is_plan.steps)

  -- ---- where it is looked for

  first : (p : IsPlanned ours w options plan) (d : Device) → marked_from mark (first_uid plan (target dir)) (box d (target dir)) ≡ marked_uid mark (store w (target dir)).next (messages_in (boxes_at d) (target dir))
  first p d = ap (λ (x : ℕ). marked_from mark x (box d (target dir))) (p.next (target dir)) ∙ marked_same mark (store w (target dir)).next (box d (target dir)).messages ∙ ap (λ (ms : List Message). marked_uid mark (store w (target dir)).next ms) (sym (messages_at d (target dir)))

  none_found : (torn : Bool) (d : Device) → Midway ours alone earlier w options version plan log torn log false d → marked_from mark (first_uid plan (target dir)) (box d (target dir)) ≡ None
  none_found torn d at =
      let p = at.planned in
      first p d
      ∙ not_found w options p.marks (results_of log) (boxes_at d) dir uid flags mark sound p.are_marks (result_less (all p) log s (all_is p)) (result_is (all p) log s (all_is p)) (at.boxes ∙ sym (all_before p))

  pub copy_found : (torn : Bool) (copy : ℕ) (d : Device) → Midway ours alone earlier w options version plan log torn (log ++ Copied copy ∷ []) false d → marked_from mark (first_uid plan (target dir)) (box d (target dir)) ≡ Some copy
  copy_found torn copy d at =
      let p = at.planned in
      let more = results_more log (Copied copy) in
      let gives : given (target dir) plan.steps (results_of (log ++ Copied copy ∷ [])) ≡ given (target dir) plan.steps (results_of log) ++ copy ∷ [] =
      ap (λ (rs : List (Option ℕ)). given (target dir) plan.steps rs) more
      ∙ given-more (target dir) plan.steps (results_of log) s (Some copy) (result_less plan.steps log s is) (result_is plan.steps log s is)
      ∙ ap (λ (us : List ℕ). given (target dir) plan.steps (results_of log) ++ us) (uid_given-new dir uid flags mark copy) in
      let least = rise_last (store w (target dir)).next (given (target dir) plan.steps (results_of log)) copy (box d (target dir)).next (subst (λ (us : List ℕ). Rise (store w (target dir)).next us (box d (target dir)).next) gives (at.rises (target dir))) in
      first p d
      ∙ found_after w options p.marks (results_of log) (boxes_at d) dir uid flags mark copy sound p.are_marks (result_less (all p) log s (all_is p)) (result_is (all p) log s (all_is p)) least
      (at.boxes ∙ ap (λ (rs : List (Option ℕ)). after plan.steps rs (boxes_of w)) more ∙ ap (λ (steps : List Step). after steps (results_of log ++ Some copy ∷ []) (boxes_of w)) p.is_plan.steps)

  -- a step that copies is not half done
  not_half : (torn is_half : Bool) (d : Device) → Midway ours alone earlier w options version plan log torn log is_half d → Midway ours alone earlier w options version plan log torn log false d
  not_half torn false d at = at
  not_half torn true d at = record {
    planned = at.planned;
    files = at.files;
    fit = at.fit;
    validity = at.validity;
    rises = at.rises;
    boxes = at.boxes ∙ ap (λ (o : Option Step). begun true before o) is;
    named = at.named;
    nobody = at.nobody;
  }

  by_logged : (r : Logged) (d : Device) (found : Option ℕ) → found ≡ marked_from mark (first_uid plan (target dir)) (box d (target dir)) → Midway ours alone earlier w options version plan log false (log ++ r ∷ []) false d → IsSought ours alone earlier w options version plan log found d
  by_logged (Copied copy) d found reported at = subst (λ (o : Option ℕ). IsSought ours alone earlier w options version plan log o d) (sym (reported ∙ copy_found false copy d at)) at
  by_logged Done d found reported at = absurd (both_ways false refl (fit_last plan.steps log s Done at.fit is))
  by_logged Void d found reported at = absurd (both_ways false refl (fit_last plan.steps log s Void at.fit is))

  pub sought : (d : Device) → Stands ours alone earlier w options version plan log false d → (found : Option ℕ) → found ≡ marked_from mark (first_uid plan (target dir)) (box d (target dir)) → IsSought ours alone earlier w options version plan log found d
  sought d (inl k) found reported = let at = not_half false k.0 d k.1 in subst (λ (o : Option ℕ). IsSought ours alone earlier w options version plan log o d) (sym (reported ∙ none_found false d at)) at
  sought d (inr k) found reported = by_logged k.0 d found reported k.1

  -- ---- its source

  source_at : (p : IsPlanned ours w options plan) → IsSource w dir uid
  source_at p = source_of w options p.marks dir uid flags mark (contained p)

  source_below : (p : IsPlanned ours w options plan) → uid < (store w (source dir)).next
  source_below p = let k = source_at p in let less = All-contains (λ (m : Message). m.uid < (store w (source dir)).next) (store w (source dir)).messages k.message (store_is w sound (source dir)).below k.is_there in let same = k.same in omega arith

  source_there : (torn : Bool) (d : Device) (at : Midway ours alone earlier w options version plan log torn log false d) → bytes_at uid (messages_in (boxes_at d) (source dir)) ≡ Some (source_at at.planned).message.bytes
  source_there torn d at =
      let p = at.planned in
      let test = is_own w p.marks in
      sym (seen_bytes test (source dir) uid (messages_in (boxes_at d) (source dir)) (λ bytes. below_own w p.marks (source dir) uid bytes (source_below p)))
      ∙ ap (λ (ms : List Message). bytes_at uid ms) (sym (own_at test (boxes_at d) (source dir)))
      ∙ ap (λ (b : Boxes). bytes_at uid (messages_in b (source dir))) (at.boxes ∙ sym (all_before p))
      ∙ source_bytes w options p.marks log dir uid flags mark sound (source_at p) (all_is p)

  source_here : (torn : Bool) (d : Device) (at : Midway ours alone earlier w options version plan log torn log false d) → bytes_of uid (box d (source dir)) ≡ Some (source_at at.planned).message.bytes
  source_here torn d at = ap (λ (ms : List Message). bytes_at uid ms) (sym (messages_at d (source dir))) ∙ source_there torn d at

  pub not_absent : (torn : Bool) (d : Device) → Midway ours alone earlier w options version plan log torn log false d → bytes_of uid (box d (source dir)) ≡ None → ⊥
  not_absent torn d at none = let there = source_here torn d at in cc

  pub not_unfit : (torn : Bool) (d : Device) → Midway ours alone earlier w options version plan log torn log false d → IsUnfit dir uid d → ⊥
  not_unfit torn d at u =
      let k = source_at at.planned in
      let there = source_here torn d at in
      let same : u.bytes ≡ k.message.bytes = cc (u.is_there, there) in
      both_ways (fit (source dir) u.bytes) u.is_unfit (ap (λ (b : List ℕ). fit (source dir) b) same ∙ k.is_fit)

  -- ---- the copy

  module _ (torn : Bool) (d : Device) (copy next : ℕ) (bytes : List ℕ) (at : Midway ours alone earlier w options version plan log torn log false d) (there : bytes_of uid (box d (source dir)) ≡ Some bytes) (least : (box d (target dir)).next ≤ copy) (below : copy < next) where
    abbrev message : Message
    message = copy_of (target dir) copy flags mark bytes

    abbrev now : Device
    now = on_box (target dir) (with_copy message next) d

    found_bytes : unwrap_or (bytes_at uid (messages_in (boxes_at d) (source dir))) [] ≡ bytes
    found_bytes = ap (λ (o : Option (List ℕ)). unwrap_or o []) (ap (λ (ms : List Message). bytes_at uid ms) (messages_at d (source dir)) ∙ there)

    is_step : boxes_at now ≡ step_after (boxes_at d) s (Some copy)
    is_step = copied_boxes dir message next d ∙ ap (λ (b : List ℕ). with_messages_in (boxes_at d) (target dir) (messages_in (boxes_at d) (target dir) ++ copy_of (target dir) copy flags mark b ∷ [])) (sym found_bytes)

    copied_now : Midway ours alone earlier w options version plan log torn (log ++ Copied copy ∷ []) false now
    copied_now =
        let p = at.planned in
        let test = is_own w p.marks in
        let more = results_more log (Copied copy) in
        let less = result_less plan.steps log s is in
        let is_next = result_is plan.steps log s is in
        let own_step = plan_step_own w options p.marks (boxes_at d) s (Some copy) sound p.are_marks (contained p) in
        record {
          planned = p;
          files = rw (copied_files dir message next d) at.files;
          fit = rw more (fit-more plan.steps (results_of log) s (Some copy) less is_next at.fit refl);
          validity = λ k. copied_validity dir message next d k ∙ at.validity k;
          rises = λ k. let b = copied_between dir uid flags mark copy next message d least below k in
              rw more (rises-more k (store w k).next plan.steps (results_of log) s (Some copy) (box d k).next (box now k).next less is_next (at.rises k) b.0 b.1);
          boxes = ap (λ (x : Boxes). own test x) is_step ∙ more_among test plan.steps (results_of log) s (Some copy) (boxes_of w) (boxes_at d) (boxes_at d) less is_next at.boxes refl own_step ∙ ap (λ (rs : List (Option ℕ)). after plan.steps rs (boxes_of w)) (sym more);
          named = rw (copied_named dir message next d) at.named;
          nobody = λ a. (ap (λ (x : Boxes). own test x) is_step ∙ among test (boxes_at d) s (Some copy) own_step ∙ ap (λ (x : Boxes). step_after x s (Some copy)) (at.nobody a).0 ∙ sym is_step, copied_waiting dir message next d ∙ (at.nobody a).1);
        }

  pub brought : (torn : Bool) (reported : Option ℕ) (d d' : Device) → Midway ours alone earlier w options version plan log torn log false d → Carries dir uid flags mark reported d d' → (copy : ℕ) × Midway ours alone earlier w options version plan log torn (log ++ Copied copy ∷ []) false d' × Reports reported copy
  brought torn reported d d' at c =
      let m = c.makes in
      (m.copy, subst (λ (x : Device). Midway ours alone earlier w options version plan log torn (log ++ Copied m.copy ∷ []) false x) (sym m.now) (copied_now torn d m.copy m.next m.bytes at m.is_there m.least m.below), c.states)
