-- The world that two listings show, and the plan that is made of it.
use Rattle.std.proofs.Common.{◌≡◌, ◌≤◌, ◌<◌, ℕ, Bool, true, false, List, [], ◌∷◌, ◌++◌, map, refl, sym, ◌∙◌, ap, subst, arith}
use Rattle.std.proofs.lemmas.List.Elements.{All-weaker}
use Rattle.mailcore.specs.declared.listing.Listing.{Listing}
use Rattle.mailcore.specs.declared.mailbox.Message.{Message}
use Rattle.mailcore.specs.declared.side.Side.{Side}
use Rattle.mailcore.specs.declared.side.Side.TheVariants.{Far, Near}
use Rattle.mailcore.proofs.RiseLemmas.{rise-ends}
use Rattle.mailcore.specs.Mailboxes.{Mailbox}
use Rattle.mailcore.specs.Stores.{Waiting}
use Rattle.sync_state.specs.declared.version.Version.{Version}
use Rattle.rules.specs.declared.entry.Entry.{Entry}
use Rattle.rules.specs.declared.options.Options.{Options}
use Rattle.rules.specs.declared.plan.Plan.{Plan}
use Rattle.rules.specs.declared.plan.Step.{Step}
use Rattle.rules.specs.declared.state.SyncState.{SyncState}
use Rattle.rules.specs.Entries.{uid_of}
use Rattle.rules.specs.World.{World, NamesBelow, store}
use Rattle.book.specs.declared.book.Pending.TheVariants.{Missing}
use Rattle.book.specs.Books.{Holds}
use Rattle.law_outcome.specs.Steps.{Boxes, Fit, boxes_of, own}
use Rattle.law_outcome.specs.OwnLaws.{is_own}
use Rattle.law_outcome.proofs.Fold.{after-none, given-none}
use Rattle.law_outcome.proofs.OwnPlan.{opening_own}
use Rattle.outside.specs.MailboxOperations.{ReportsNext}
use Rattle.outside.proofs.Listed.{reported_alone, reported_least, reported_store}
use Rattle.outside.specs.Arrivals.{Arrives}
use Rattle.outside.specs.Devices.{Device, Named, box}
use Rattle.run_states.specs.Openings.{Grows, listed_world, world_at}
use Rattle.run_states.specs.Moments.{Listed, Midway, boxes_at, with_log}
use Rattle.run_states.specs.Plans.{IsPlanned}
use Rattle.run_states.proofs.Foreign.{two, own_arrived}
use Rattle.run_states.proofs.Moves.{same_boxes}
use Rattle.run_states.proofs.Naming.{named_none}

-- it has grown, and the files that have their UIDs in it are those of the near listing
pub listed_with : (P : List Waiting → Type 0) (alone : Bool) (w : World) (s : SyncState) (far : Listing) (d m : Device) → Grows alone w (world_at d s) → (h : Grows alone w (world_at m s)) → P h.named → ReportsNext alone w.far.next far d.far
    → (g : Grows alone w (listed_world s far.next d m)) × P g.named
listed_with P alone w s far d m g h p reported =
    let v = g.validity in
    let n = h.validity in
    let grown : Grows alone w (listed_world s far.next d m) = record {
      in_order = record { far = reported_store alone w.far.next far d.far reported g.in_order.far; near = h.in_order.near; pairs = h.in_order.pairs };
      state = h.state;
      validity = two (λ side. (store (listed_world s far.next d m) side).validity ≡ (store w side).validity) (v Far) (n Near);
      far_next = reported_least alone w.far.next far d.far g.far_next reported;
      far_added = g.far_added;
      far = g.far;
      uids = h.uids;
      rise = h.rise;
      arrived = h.arrived;
      named = h.named;
      gathered = h.gathered;
      each = h.each;
      near = h.near;
      nobody = λ e. (ap (λ (n : ℕ). record d.far { next = n }) (reported_alone alone w.far.next far d.far reported e) ∙ (g.nobody e).0, (h.nobody e).1);
    } in
    (grown, p)

-- UIDs are given again by neither side
pub grows_next : (alone : Bool) (w now : World) → Grows alone w now → (side : Side) → (store w side).next ≤ (store now side).next
grows_next alone w now g Far = g.far_next
grows_next alone w now g Near = rise-ends w.near.next g.uids now.near.next g.rise

-- what the state names was given
pub names_below : (alone : Bool) (w now : World) → Grows alone w now → NamesBelow w → NamesBelow now
names_below alone w now g b =
    let far = grows_next alone w now g Far in
    let near = grows_next alone w now g Near in
    rw g.state (record {
      pulled = let k = b.pulled in omega arith;
      pushed = let k = b.pushed in omega arith;
      far = All-weaker (λ (e : Entry). uid_of Far e < w.far.next) (λ (e : Entry). uid_of Far e < now.far.next) (λ e k. omega arith) w.state.entries b.far;
      near = All-weaker (λ (e : Entry). uid_of Near e < w.near.next) (λ (e : Entry). uid_of Near e < now.near.next) (λ e k. omega arith) w.state.entries b.near;
    })

fit_none : (steps : List Step) → Fit steps []
fit_none [] = tt
fit_none (s ∷ steps) = tt

module _ (ours : List ℕ → Bool) (alone : Bool) {earlier : List Named} where
  pub listed_arrives : (w : World) (d m : Device) → Arrives ours alone d m → Listed ours alone earlier w d → Listed ours alone earlier w m
  listed_arrives w d m a l =
      let now : Device = record d { far = record d.far { next = a.next; messages = d.far.messages ++ a.messages }; near = record d.near { waiting = a.waiting } } in
      let low = rise-ends d.far.next (map (λ (x : Message). x.uid) a.messages) a.next a.rise in
      let next = l.next in
      let far_next = next Far in
      let v = l.validity in
      subst (λ (x : Device). Listed ours alone earlier w x) (sym a.now) (record {
        files = l.files;
        validity = two (λ side. (box now side).validity ≡ (store w side).validity) (v Far) (v Near);
        next = two (λ side. (store w side).next ≤ (box now side).next) (omega arith) (next Near);
        boxes = λ marks mine. own_arrived ours w marks d.far.messages d.near.store.messages a.messages d.far.next a.next mine far_next a.rise a.far_foreign ∙ l.boxes marks mine;
        named = l.named;
        nobody = λ e. subst (λ (x : Device). (boxes_at x ≡ boxes_of w) × (x.near.waiting ≡ [])) (sym (a.nobody e) ∙ a.now) (l.nobody e);
      })

  -- it is shown by the far listing on d, and the near one on m, before which others added
  pub listed_here : (w : World) (s : SyncState) (next : ℕ) (d m : Device) → Grows alone w (listed_world s next d m) → next ≤ d.far.next → (alone ≡ true → m.near.waiting ≡ []) → Arrives ours alone d m → Holds m.files s Missing → m.named ≡ earlier → Listed ours alone earlier (listed_world s next d m) m
  listed_here w s next d m g most admitted a files named =
      let here : World = listed_world s next d m in
      let low = rise-ends d.far.next (map (λ (x : Message). x.uid) a.messages) a.next a.rise in
      let far_is : m.far ≡ record d.far { next = a.next; messages = d.far.messages ++ a.messages } = ap (λ (x : Device). x.far) a.now in
      record {
        files = files;
        validity = two (λ side. (box m side).validity ≡ (store here side).validity) (rw far_is refl) refl;
        next = two (λ side. (store here side).next ≤ (box m side).next) (rw far_is (omega (arith, low, most))) (omega arith);
        boxes = λ marks mine. rw far_is (own_arrived ours here marks d.far.messages m.near.store.messages a.messages d.far.next a.next mine most a.rise a.far_foreign ∙ opening_own here marks g.in_order);
        named = named;
        nobody = λ e. (let same : m.far ≡ d.far = ap (λ (x : Device). x.far) (a.nobody e) in rw same refl, admitted e);
      }

  -- ---- the plan is written

  pub plan_written : (w : World) (options : Options) (version : Version) (plan : Plan) (m d' : Device) → IsPlanned ours w options plan → Listed ours alone earlier w m → d'.far ≡ m.far → d'.near ≡ m.near → d'.named ≡ m.named → Holds d'.files w.state (with_log version plan [] false) → Midway ours alone earlier w options version plan [] false [] false d'
  plan_written w options version plan m d' p l far near named holds =
      let same = same_boxes m d' far near in
      let boxes : boxes_at d' ≡ boxes_at m = rw (far, near) refl in
      let own_is = l.boxes p.marks p.are_ours in
      record {
        planned = p;
        files = holds;
        fit = fit_none plan.steps;
        validity = λ side. rw (same side) (l.validity side);
        rises = λ side. rw (same side, given-none side plan.steps) (l.next side);
        boxes = ap (λ (b : Boxes). own (is_own w p.marks) b) boxes ∙ own_is ∙ sym (after-none plan.steps (boxes_of w));
        named = named_none earlier plan.steps d'.named (named ∙ l.named);
        nobody = λ e. (ap (λ (b : Boxes). own (is_own w p.marks) b) boxes ∙ own_is ∙ sym (boxes ∙ (l.nobody e).0), ap (λ (n : Mailbox). n.waiting) near ∙ (l.nobody e).1);
      }
