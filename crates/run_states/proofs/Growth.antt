-- What others add to a device, before there is a plan.
use Rattle.std.proofs.Common.{◌≡◌, ℕ, Bool, true, false, List, ◌++◌, map, Option, None, Some, inl, inr, refl, sym, ◌∙◌, ap, subst, arith, append_assoc}
use Rattle.std.proofs.lemmas.Bool.{both_ways}
use Rattle.std.specs.Prelude.{IsPermutation}
use Rattle.std.proofs.lemmas.List.Sorted.{IsPermutation-append_left, IsPermutation-append_right, IsPermutation-trans}
use Rattle.mailcore.specs.declared.mailbox.Message.{Message}
use Rattle.mailcore.specs.declared.side.Side.TheVariants.{Far, Near as NearSide}
use Rattle.mailcore.specs.Stores.{Waiting}
use Rattle.mailcore.proofs.RiseLemmas.{rise-ends}
use Rattle.rules.specs.declared.state.SyncState.{SyncState}
use Rattle.rules.specs.World.{World, store}
use Rattle.book.specs.declared.book.Pending.{Pending}
use Rattle.book.specs.Books.{Holds}
use Rattle.outside.specs.Arrivals.{Arrives}
use Rattle.outside.specs.Devices.{Device}
use Rattle.outside.proofs.Order.{store_more}
use Rattle.run_states.specs.Conditions.{Underway}
use Rattle.run_states.specs.Openings.{Opening, Grows, IsIdle, Since, Unplanned, once_listed, world_at}
use Rattle.run_states.proofs.Foreign.{two}

-- files come after those that have come, some of which have their UIDs
gathered_more : (ws arrived named waiting files now : List Waiting) → IsPermutation (ws ++ arrived) (named ++ waiting) → IsPermutation (waiting ++ files) now → IsPermutation (ws ++ (arrived ++ files)) (named ++ now)
gathered_more ws arrived named waiting files now m k =
    subst (λ (l : List Waiting). IsPermutation l (named ++ now)) (append_assoc ws arrived files)
    (IsPermutation-trans ((ws ++ arrived) ++ files) ((named ++ waiting) ++ files) (named ++ now) (IsPermutation-append_left files (ws ++ arrived) (named ++ waiting) m)
    (subst (λ (l : List Waiting). IsPermutation l (named ++ now)) (sym (append_assoc named waiting files)) (IsPermutation-append_right named (waiting ++ files) now k)))

module _ (ours : List ℕ → Bool) where
  -- where others add any
  grown : (w : World) (s : SyncState) (d m : Device) → Grows false w (world_at d s) → (a : Arrives ours false d m)
      → Grows false w (world_at (record d { far = record d.far { next = a.next; messages = d.far.messages ++ a.messages }; near = record d.near { waiting = a.waiting } }) s)
  grown w s d m g a =
      let now : Device = record d { far = record d.far { next = a.next; messages = d.far.messages ++ a.messages }; near = record d.near { waiting = a.waiting } } in
      let low = rise-ends d.far.next (map (λ (x : Message). x.uid) a.messages) a.next a.rise in
      let v = g.validity in
      record {
        in_order = record { far = store_more d.far.validity d.far.next a.next d.far.messages a.messages g.in_order.far a.rise; near = g.in_order.near; pairs = g.in_order.pairs };
        state = g.state;
        validity = two (λ side. (store (world_at now s) side).validity ≡ (store w side).validity) (v Far) (v NearSide);
        far_next = let k = g.far_next in omega arith;
        far_added = g.far_added ++ a.messages;
        far = ap (λ (l : List Message). l ++ a.messages) g.far ∙ append_assoc w.far.messages g.far_added a.messages;
        uids = g.uids;
        rise = g.rise;
        arrived = g.arrived ++ a.files;
        named = g.named;
        gathered = gathered_more w.waiting g.arrived g.named d.near.waiting a.files a.waiting g.gathered a.gathered;
        each = g.each;
        near = g.near;
        nobody = λ e. absurd (both_ways false refl e);
      }

  -- files that have their UIDs keep them: whatever is so of those is so still
  pub grows_with : (P : List Waiting → Type 0) (alone : Bool) (w : World) (s : SyncState) (d m : Device) (g : Grows alone w (world_at d s)) → Arrives ours alone d m → P g.named → (h : Grows alone w (world_at m s)) × P h.named
  unfolding grown
  grows_with P true w s d m g a p = subst (λ (x : Device). (h : Grows true w (world_at x s)) × P h.named) (sym (a.nobody refl)) (g, p)
  grows_with P false w s d m g a p = subst (λ (x : Device). (h : Grows false w (world_at x s)) × P h.named) (sym a.now) (grown w s d m g a, p)

  pub grows_arrives : (alone : Bool) (w : World) (s : SyncState) (d m : Device) → Grows alone w (world_at d s) → Arrives ours alone d m → Grows alone w (world_at m s)
  grows_arrives alone w s d m g a = (grows_with (λ _. Unit {0}) alone w s d m g a tt).0

  pub files_same : (alone : Bool) (d m : Device) → Arrives ours alone d m → m.files ≡ d.files
  files_same alone d m a = ap (λ (x : Device). x.files) a.now

  pub named_same : (alone : Bool) (d m : Device) → Arrives ours alone d m → m.named ≡ d.named
  named_same alone d m a = ap (λ (x : Device). x.named) a.now

pub unplanned_arrives : {ours : List ℕ → Bool} {alone : Bool} (opening : Opening ours alone) (d m : Device) → Arrives ours alone d m → Unplanned opening d → Unplanned opening m
unplanned_arrives {ours} {alone} opening d m a u = record {
  pending = u.pending;
  idle = u.idle;
  files = rw (files_same ours alone d m a) u.files;
  chosen = u.chosen;
  below = u.below;
  grows = grows_arrives ours alone opening.world opening.world.state d m u.grows a;
  named = named_same ours alone d m a ∙ u.named;
  unlisted = u.unlisted;
}

-- another journal, and both mailboxes as they were
pub unplanned_filed : {ours : List ℕ → Bool} {alone : Bool} (opening : Opening ours alone) (pending : Pending) (d d' : Device) → IsIdle pending → d'.far ≡ d.far → d'.near ≡ d.near → d'.named ≡ d.named → Holds d'.files opening.world.state pending → Unplanned opening d → Unplanned opening d'
unplanned_filed opening pending d d' idle far near named holds u = record {
  pending = pending;
  idle = idle;
  files = holds;
  chosen = u.chosen;
  below = u.below;
  grows = rw (far, near) u.grows;
  named = named ∙ u.named;
  unlisted = u.unlisted;
}

-- what is so of some world since the opening is so with all that is known of the world
pub since_map : {ours : List ℕ → Bool} {alone : Bool} (opening : Opening ours alone) (P Q : World → Type 0) → ((w : World) → Grows alone opening.world w → P w → Q w) → Since opening P → Since opening Q
since_map opening P Q f s = record { world = s.world; listed = s.listed; grows = s.grows; waited = s.waited; admitted = s.admitted; below = s.below; within = s.within; holds = f s.world s.grows s.holds }

-- what is so of the world that was listed is so of some world since
pub since_any : {ours : List ℕ → Bool} {alone : Bool} (opening : Opening ours alone) (listed : World) (P : World → Type 0) → opening.listed ≡ None → Since (once_listed opening listed) P → Since opening P
since_any opening listed P none s = record {
  world = s.world;
  listed = λ w is. let never : Some w ≡ None = sym is ∙ none in cc;
  grows = s.grows;
  waited = s.waited;
  admitted = s.admitted;
  below = s.below;
  within = s.within;
  holds = s.holds;
}

pub since_any_world : {ours : List ℕ → Bool} {alone : Bool} (opening : Opening ours alone) (listed : World) (P : World → Type 0) (none : opening.listed ≡ None) (s : Since (once_listed opening listed) P) → (since_any opening listed P none s).world ≡ s.world
unfolding since_any
since_any_world opening listed P none s = refl

-- a run whose listings were made has a plan or is over
pub underway_any : {ours : List ℕ → Bool} {alone : Bool} (opening : Opening ours alone) (listed : World) (d : Device) → opening.listed ≡ None → Underway (once_listed opening listed) d → Underway opening d
underway_any opening listed d none (inl u) = let never : Some listed ≡ None = u.unlisted in cc
underway_any opening listed d none (inr (inl p)) = inr (inl (since_any opening listed _ none p))
underway_any opening listed d none (inr (inr o)) = inr (inr (since_any opening listed _ none o))
