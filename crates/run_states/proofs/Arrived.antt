-- What others add keeps a run underway.
use Rattle.std.proofs.Common.{◌≡◌, inl, inr, ℕ, Bool, true, false, List, [], ◌∷◌, ◌++◌, map, refl, sym, ◌∙◌, subst}
use Rattle.std.proofs.lemmas.Bool.{both_ways}
use Rattle.mailcore.specs.declared.mailbox.Message.{Message}
use Rattle.mailcore.specs.declared.side.Side.TheVariants.{Far, Near as NearSide}
use Rattle.mailcore.specs.Rise.{Rise}
use Rattle.mailcore.proofs.RiseLemmas.{rise-ends}
use Rattle.rules.specs.AlikeBy.{AlikeBy}
use Rattle.rules.specs.declared.options.Options.{Options}
use Rattle.rules.specs.declared.plan.Plan.{Plan}
use Rattle.rules.specs.declared.state.SyncState.{SyncState}
use Rattle.rules.specs.World.{World, store}
use Rattle.rules.specs.WorldAfter.{messages_under}
use Rattle.sync_state.specs.declared.version.Version.{Version}
use Rattle.sync_state.specs.declared.journal.Logged.{Logged}
use Rattle.law_outcome.specs.OwnLaws.{is_own}
use Rattle.law_outcome.proofs.Among.{unseen}
use Rattle.law_outcome.proofs.Fold.{rise-raised}
use Rattle.law_outcome.specs.AlikeLaws.{own_world}
use Rattle.outside.specs.Arrivals.{Arrives}
use Rattle.outside.specs.Devices.{Device, Named}
use Rattle.run_states.specs.Conditions.{IsOver, IsPending, Underway}
use Rattle.run_states.specs.Endings.{AlikeAt, DoneAt}
use Rattle.run_states.specs.Moments.{PlannedAt, Stands}
use Rattle.run_states.specs.Openings.{Opening, world_at}
use Rattle.run_states.proofs.Foreign.{two, foreign_unseen}
use Rattle.run_states.proofs.Growth.{files_same, since_map, unplanned_arrives}
use Rattle.run_states.proofs.Moves.{midway_arrives}

pub stands_arrives : (ours : List ℕ → Bool) (alone : Bool) {earlier : List Named} (w : World) (options : Options) (version : Version) (plan : Plan) (log : List Logged) (torn : Bool) (d m : Device) → Arrives ours alone d m → Stands ours alone earlier w options version plan log torn d → Stands ours alone earlier w options version plan log torn m
stands_arrives ours alone w options version plan log torn d m a (inl k) = inl (k.0, midway_arrives ours alone w options version plan log torn log k.0 d m a k.1)
stands_arrives ours alone w options version plan log torn d m a (inr k) = inr (k.0, midway_arrives ours alone w options version plan log torn (log ++ k.0 ∷ []) false d m a k.1)

pub planned_arrives : (ours : List ℕ → Bool) (alone : Bool) {earlier : List Named} (w : World) (options : Options) (d m : Device) → Arrives ours alone d m → PlannedAt ours alone earlier w options d → PlannedAt ours alone earlier w options m
planned_arrives ours alone w options d m a p = record { version = p.version; plan = p.plan; log = p.log; is_torn = p.is_torn; stands = stands_arrives ours alone w options p.version p.plan p.log p.is_torn d m a p.stands }

-- ---- a run that is done

pub alike_arrives : (ours : List ℕ → Bool) (alone : Bool) {earlier : List Named} (w : World) (options : Options) (marks : List (List ℕ)) (d m : Device) (s : SyncState) → Arrives ours alone d m → AlikeAt ours alone earlier w options marks d s → AlikeAt ours alone earlier w options marks m s
alike_arrives ours true {earlier} w options marks d m s a k = subst (λ (x : Device). AlikeAt ours true earlier w options marks x s) (sym (a.nobody refl)) k
alike_arrives ours false {earlier} w options marks d m s a k =
    let b = k.alike in
    let now : Device = record d { far = record d.far { next = a.next; messages = d.far.messages ++ a.messages }; near = record d.near { waiting = a.waiting } } in
    let low = rise-ends d.far.next (map (λ (x : Message). x.uid) a.messages) a.next a.rise in
    let least = rise-ends w.far.next (b.uids Far) d.far.next (b.rise Far) in
    subst (λ (x : Device). AlikeAt ours false earlier w options marks x s) (sym a.now) (record {
      are_ours = k.are_ours;
      alike = record {
        uids = b.uids;
        marks = b.marks;
        are_marks = b.are_marks;
        each = b.each;
        rise = two (λ side. Rise (store w side).next (b.uids side) (store (own_world w marks (world_at now s)) side).next) (rise-raised w.far.next (b.uids Far) d.far.next a.next (b.rise Far) low) (b.rise NearSide);
        messages = two (λ side. (store (own_world w marks (world_at now s)) side).messages ≡ messages_under w options side (b.uids side) b.marks)
            (unseen (is_own w marks) Far d.far.messages a.messages (foreign_unseen ours w marks Far d.far.next a.next a.messages k.are_ours least a.rise a.far_foreign) ∙ b.messages Far)
            (b.messages NearSide);
        validity = two (λ side. (store (own_world w marks (world_at now s)) side).validity ≡ (store w side).validity) (b.validity Far) (b.validity NearSide);
        waiting = refl;
        state = b.state;
      };
      borne = k.borne;
      named = k.named;
      nobody = λ e. absurd (both_ways false refl e);
    })

pub done_arrives : (ours : List ℕ → Bool) (alone : Bool) {earlier : List Named} (w : World) (options : Options) (d m : Device) → Arrives ours alone d m → DoneAt ours alone earlier w options d → DoneAt ours alone earlier w options m
done_arrives ours alone w options d m a h = record {
  state = h.state;
  pending = h.pending;
  idle = h.idle;
  files = rw (files_same ours alone d m a) h.files;
  marks = h.marks;
  alike = alike_arrives ours alone w options h.marks d m h.state a h.alike;
}

-- both mailboxes as they were
pub alike_filed : (ours : List ℕ → Bool) (alone : Bool) {earlier : List Named} (w : World) (options : Options) (marks : List (List ℕ)) (d d' : Device) (s : SyncState) → d'.far ≡ d.far → d'.near ≡ d.near → d'.named ≡ d.named → AlikeAt ours alone earlier w options marks d s → AlikeAt ours alone earlier w options marks d' s
alike_filed ours alone w options marks d d' s far near named k =
    let same : world_at d s ≡ world_at d' s = rw (far, near) refl in
    let by : (a : AlikeBy w options (own_world w marks (world_at d' s))) × (a.marks ≡ marks) = subst (λ (x : World). (a : AlikeBy w options (own_world w marks x)) × (a.marks ≡ marks)) same (k.alike, k.borne) in
    record {
      are_ours = k.are_ours;
      alike = by.0;
      borne = by.1;
      named = rw named k.named;
      nobody = λ e. subst (λ (x : World). own_world w marks x ≡ x) same (k.nobody e);
    }

-- ---- all of them

pub pending_arrives : {ours : List ℕ → Bool} {alone : Bool} (opening : Opening ours alone) (d m : Device) → Arrives ours alone d m → IsPending opening d → IsPending opening m
pending_arrives {ours} {alone} opening d m a = since_map opening _ _ (λ w g p. planned_arrives ours alone w opening.options d m a p)

pub over_arrives : {ours : List ℕ → Bool} {alone : Bool} (opening : Opening ours alone) (d m : Device) → Arrives ours alone d m → IsOver opening d → IsOver opening m
over_arrives {ours} {alone} opening d m a = since_map opening _ _ (λ w g p. done_arrives ours alone w opening.options d m a p)

pub underway_arrives : {ours : List ℕ → Bool} {alone : Bool} (opening : Opening ours alone) (d m : Device) → Arrives ours alone d m → Underway opening d → Underway opening m
underway_arrives {ours} {alone} opening d m a (inl u) = inl (unplanned_arrives opening d m a u)
underway_arrives {ours} {alone} opening d m a (inr (inl p)) = inr (inl (pending_arrives opening d m a p))
underway_arrives {ours} {alone} opening d m a (inr (inr e)) = inr (inr (over_arrives opening d m a e))
