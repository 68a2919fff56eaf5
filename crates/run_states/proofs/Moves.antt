-- How what others add, a change of one mailbox, and another journal move a device that is midway in a plan.
use Rattle.std.proofs.Common.{◌≡◌, ◌≤◌, ℕ, Bool, false, List, [], ◌∷◌, ◌++◌, All, inl, inr, refl, sym, ◌∙◌, ap, subst, append_assoc}
use Rattle.std.specs.Prelude.{Contains, flat_map}
use Rattle.std.proofs.lemmas.List.Elements.{All-append, All-cons}
use Rattle.mailcore.specs.declared.side.Side.{Side}
use Rattle.mailcore.specs.declared.side.Side.TheVariants.{Far, Near}
use Rattle.mailcore.specs.declared.mailbox.Message.{Message}
use Rattle.mailcore.specs.Operations.{with_messages}
use Rattle.mailcore.proofs.RiseLemmas.{rise-ends}
use Rattle.mailcore.specs.Mailboxes.{Mailbox}
use Rattle.rules.specs.declared.options.Options.{Options}
use Rattle.rules.specs.declared.plan.Plan.{Plan}
use Rattle.rules.specs.declared.plan.Step.{Step}
use Rattle.rules.specs.World.{World, store}
use Rattle.sync_state.specs.declared.version.Version.{Version}
use Rattle.sync_state.specs.declared.journal.Logged.{Logged}
use Rattle.book.specs.Books.{Holds}
use Rattle.law_outcome.specs.Steps.{Boxes, Rises, given, own, box as messages_in, with_box as with_messages_in}
use Rattle.law_outcome.specs.OwnLaws.{is_own}
use Rattle.law_outcome.proofs.Fold.{rise-raised}
use Rattle.law_outcome.specs.CommitLaws.{results_of}
use Rattle.outside.specs.Arrivals.{Arrives}
use Rattle.outside.specs.Devices.{Device, Named, box, naming, on_box}
use Rattle.outside.specs.BoxCalls.{Names, SetsAside, Turns}
use Rattle.run_states.specs.Moments.{HasBegun, Midway, Stands, boxes_at, with_log}
use Rattle.run_states.specs.Plans.{NamedBy, names_of}
use Rattle.run_states.proofs.Foreign.{two, own_arrived}

-- a device with others of its messages, after a call that named these
pub record IsMoved (names : List Named) (d d' : Device) (b : Boxes) : Type 0 where
  pub validity : (side : Side) → (box d' side).validity ≡ (box d side).validity
  pub next : (side : Side) → (box d' side).next ≡ (box d side).next
  pub boxes : boxes_at d' ≡ b
  pub waiting : d'.near.waiting ≡ d.near.waiting
  pub files : d'.files ≡ d.files
  pub named : d'.named ≡ names ++ d.named

abbrev one : Side → (uid : ℕ) → List Named
one side uid = record { side = side; uid = uid } ∷ []

moved_to : (side : Side) (uid : ℕ) (change : List Message → List Message) (d : Device) → IsMoved (one side uid) d (naming side uid (on_box side (with_messages change) d)) (with_messages_in (boxes_at d) side (change (messages_in (boxes_at d) side)))
moved_to Far uid change d = record {
  validity = two (λ k. (box (naming Far uid (on_box Far (with_messages change) d)) k).validity ≡ (box d k).validity) refl refl;
  next = two (λ k. (box (naming Far uid (on_box Far (with_messages change) d)) k).next ≡ (box d k).next) refl refl;
  boxes = refl;
  waiting = refl;
  files = refl;
  named = refl;
}
moved_to Near uid change d = record {
  validity = two (λ k. (box (naming Near uid (on_box Near (with_messages change) d)) k).validity ≡ (box d k).validity) refl refl;
  next = two (λ k. (box (naming Near uid (on_box Near (with_messages change) d)) k).next ≡ (box d k).next) refl refl;
  boxes = refl;
  waiting = refl;
  files = refl;
  named = refl;
}

pub moved : (side : Side) (uid : ℕ) (change : List Message → List Message) (d d' : Device) → Turns side uid (with_messages change) d d' → IsMoved (one side uid) d d' (with_messages_in (boxes_at d) side (change (messages_in (boxes_at d) side)))
moved side uid change d d' is = subst (λ (x : Device). IsMoved (one side uid) d x (with_messages_in (boxes_at d) side (change (messages_in (boxes_at d) side)))) (sym is) (moved_to side uid change d)

-- what a call named stands in these steps, and what was named before does
pub named_moved : (earlier : List Named) (steps : List Step) (names : List Named) (d d' : Device) (b : Boxes) → IsMoved names d d' b → All (λ n. Contains (flat_map names_of steps) n) names → NamedBy earlier steps d.named → NamedBy earlier steps d'.named
named_moved earlier steps names d d' b m of_step by = record {
  since = names ++ by.since;
  now = m.named ∙ ap (λ (ns : List Named). names ++ ns) by.now ∙ sym (append_assoc names by.since earlier);
  each = All-append (λ n. Contains (flat_map names_of steps) n) names by.since of_step by.each;
}

pub same_boxes : (d d' : Device) → d'.far ≡ d.far → d'.near ≡ d.near → (side : Side) → box d' side ≡ box d side
same_boxes d d' far near Far = far
same_boxes d d' far near Near = ap (λ (n : Mailbox). n.store) near

module _ (ours : List ℕ → Bool) (alone : Bool) {earlier : List Named} (w : World) (options : Options) (version : Version) (plan : Plan) where
  -- ---- others

  pub midway_arrives : (log : List Logged) (torn : Bool) (results : List Logged) (is_half : Bool) (d m : Device) → Arrives ours alone d m → Midway ours alone earlier w options version plan log torn results is_half d → Midway ours alone earlier w options version plan log torn results is_half m
  midway_arrives log torn results is_half d m a at =
      let now : Device = record d { far = record d.far { next = a.next; messages = d.far.messages ++ a.messages }; near = record d.near { waiting = a.waiting } } in
      let far_next = rise-ends w.far.next (given Far plan.steps (results_of results)) d.far.next (at.rises Far) in
      subst (λ (x : Device). Midway ours alone earlier w options version plan log torn results is_half x) (sym a.now) (record {
        planned = at.planned;
        files = at.files;
        fit = at.fit;
        validity = two (λ side. (box now side).validity ≡ (store w side).validity) (at.validity Far) (at.validity Near);
        rises = two (λ side. Rises side (store w side).next plan.steps (results_of results) (box now side).next)
            (rise-raised w.far.next (given Far plan.steps (results_of results)) d.far.next a.next (at.rises Far) (rise-ends d.far.next _ a.next a.rise))
            (at.rises Near);
        boxes = own_arrived ours w at.planned.marks d.far.messages d.near.store.messages a.messages d.far.next a.next at.planned.are_ours far_next a.rise a.far_foreign ∙ at.boxes;
        named = at.named;
        nobody = λ e. subst (λ (x : Device). (own (is_own w at.planned.marks) (boxes_at x) ≡ boxes_at x) × (x.near.waiting ≡ [])) (sym (a.nobody e) ∙ a.now) (at.nobody e);
      })

  -- ---- the journal

  -- both mailboxes as they were, and another journal
  pub midway_filed : (log now : List Logged) (torn torn' : Bool) (results : List Logged) (is_half : Bool) (d d' : Device) → d'.far ≡ d.far → d'.near ≡ d.near → d'.named ≡ d.named → Holds d'.files w.state (with_log version plan now torn') → Midway ours alone earlier w options version plan log torn results is_half d → Midway ours alone earlier w options version plan now torn' results is_half d'
  midway_filed log now torn torn' results is_half d d' far near named holds at =
      let same = same_boxes d d' far near in
      let boxes : boxes_at d' ≡ boxes_at d = rw (far, near) refl in
      record {
        planned = at.planned;
        files = holds;
        fit = at.fit;
        validity = λ side. rw (same side) (at.validity side);
        rises = λ side. rw (same side) (at.rises side);
        boxes = ap (λ (b : Boxes). own (is_own w at.planned.marks) b) boxes ∙ at.boxes;
        named = rw named at.named;
        nobody = λ e. rw (far, near) (at.nobody e);
      }

  -- ---- a next UID

  set_aside_to : (side : Side) (log : List Logged) (torn : Bool) (results : List Logged) (is_half : Bool) (d : Device) (next : ℕ) → (box d side).next ≤ next → Midway ours alone earlier w options version plan log torn results is_half d → Midway ours alone earlier w options version plan log torn results is_half (on_box side (λ s. record s { next = next }) d)
  set_aside_to Far log torn results is_half d next le at = record {
    planned = at.planned;
    files = at.files;
    fit = at.fit;
    validity = two (λ k. (box (on_box Far (λ s. record s { next = next }) d) k).validity ≡ (store w k).validity) (at.validity Far) (at.validity Near);
    rises = two (λ k. Rises k (store w k).next plan.steps (results_of results) (box (on_box Far (λ s. record s { next = next }) d) k).next)
        (rise-raised w.far.next (given Far plan.steps (results_of results)) d.far.next next (at.rises Far) le) (at.rises Near);
    boxes = at.boxes;
    named = at.named;
    nobody = at.nobody;
  }
  set_aside_to Near log torn results is_half d next le at = record {
    planned = at.planned;
    files = at.files;
    fit = at.fit;
    validity = two (λ k. (box (on_box Near (λ s. record s { next = next }) d) k).validity ≡ (store w k).validity) (at.validity Far) (at.validity Near);
    rises = two (λ k. Rises k (store w k).next plan.steps (results_of results) (box (on_box Near (λ s. record s { next = next }) d) k).next)
        (at.rises Far) (rise-raised w.near.next (given Near plan.steps (results_of results)) d.near.store.next next (at.rises Near) le);
    boxes = at.boxes;
    named = at.named;
    nobody = at.nobody;
  }

  pub midway_set_aside : (side : Side) (log : List Logged) (torn : Bool) (results : List Logged) (is_half : Bool) (d d' : Device) → SetsAside side d d' → Midway ours alone earlier w options version plan log torn results is_half d → Midway ours alone earlier w options version plan log torn results is_half d'
  midway_set_aside side log torn results is_half d d' s at = subst (λ (x : Device). Midway ours alone earlier w options version plan log torn results is_half x) (sym s.now) (set_aside_to side log torn results is_half d s.next s.least at)

  -- ---- a message is named, and nothing is changed

  midway_named_to : (side : Side) (uid : ℕ) (log : List Logged) (torn : Bool) (results : List Logged) (is_half : Bool) (d : Device) → Contains (flat_map names_of plan.steps) (record { side = side; uid = uid }) → Midway ours alone earlier w options version plan log torn results is_half d → Midway ours alone earlier w options version plan log torn results is_half (naming side uid d)
  midway_named_to side uid log torn results is_half d of_step at = record {
    planned = at.planned;
    files = at.files;
    fit = at.fit;
    validity = two (λ k. (box (naming side uid d) k).validity ≡ (store w k).validity) (at.validity Far) (at.validity Near);
    rises = two (λ k. Rises k (store w k).next plan.steps (results_of results) (box (naming side uid d) k).next) (at.rises Far) (at.rises Near);
    boxes = at.boxes;
    named = (let by = at.named in record {
      since = record { side = side; uid = uid } ∷ by.since;
      now = ap (λ (ns : List Named). record { side = side; uid = uid } ∷ ns) by.now;
      each = All-cons (λ n. Contains (flat_map names_of plan.steps) n) (record { side = side; uid = uid }) by.since of_step by.each;
    });
    nobody = at.nobody;
  }

  pub midway_named : (side : Side) (uid : ℕ) (log : List Logged) (torn : Bool) (results : List Logged) (is_half : Bool) (d d' : Device) → Contains (flat_map names_of plan.steps) (record { side = side; uid = uid }) → Names side uid d d' → Midway ours alone earlier w options version plan log torn results is_half d → Midway ours alone earlier w options version plan log torn results is_half d'
  midway_named side uid log torn results is_half d d' of_step is at = subst (λ (x : Device). Midway ours alone earlier w options version plan log torn results is_half x) (sym is) (midway_named_to side uid log torn results is_half d of_step at)

  pub stands_named : (side : Side) (uid : ℕ) (log : List Logged) (torn : Bool) (d d' : Device) → Contains (flat_map names_of plan.steps) (record { side = side; uid = uid }) → Names side uid d d' → Stands ours alone earlier w options version plan log torn d → Stands ours alone earlier w options version plan log torn d'
  stands_named side uid log torn d d' of_step is (inl k) = inl (k.0, midway_named side uid log torn log k.0 d d' of_step is k.1)
  stands_named side uid log torn d d' of_step is (inr k) = inr (k.0, midway_named side uid log torn (log ++ k.0 ∷ []) false d d' of_step is k.1)

  pub begun_named : (side : Side) (uid : ℕ) (log : List Logged) (is_made : Bool) (d d' : Device) → Contains (flat_map names_of plan.steps) (record { side = side; uid = uid }) → Names side uid d d' → HasBegun ours alone earlier w options version plan log is_made d → HasBegun ours alone earlier w options version plan log is_made d'
  begun_named side uid log is_made d d' of_step is (inl k) = inl (k.0, midway_named side uid log false log k.0 d d' of_step is k.1, k.2)
  begun_named side uid log is_made d d' of_step is (inr k) = inr (k.0, midway_named side uid log false (log ++ k.0 ∷ []) false d d' of_step is k.1)
