-- One device and two runs, and the run after one that is done.
use Rattle.std.proofs.Common.{◌≡◌, ℕ, Bool, List, [], Option, Some, None, inl, inr, refl, sym, ap, subst, ◌∙◌, arith, append-nil}
use Rattle.std.proofs.Math.Logic.{∥∥₁_elim}
use Rattle.std.proofs.Props.{props}
use Rattle.rules.specs.declared.entry.Entry.{Entry}
use Rattle.rules.specs.declared.options.Options.{Options}
use Rattle.rules.specs.declared.plan.Plan.{Plan}
use Rattle.rules.specs.declared.state.SyncState.{SyncState}
use Rattle.rules.specs.Admission.{admitted_under}
use Rattle.rules.specs.AlikeBy.{AlikeBy}
use Rattle.rules.specs.Entries.{ArePairs}
use Rattle.rules.specs.World.{IsInOrder, World}
use Rattle.sync_state.specs.declared.version.Version.{Version}
use Rattle.sync_state.specs.declared.journal.Logged.{Logged}
use Rattle.sync_state.specs.declared.journal.WrittenJournal.{WrittenJournal}
use Rattle.sync_state.proofs.StateLemmas.{no_pairs}
use Rattle.book.specs.declared.book.Pending.{Pending}
use Rattle.book.specs.Books.{Held, Holds, HoldsState}
use Rattle.book.proofs.KnownBooks.{book_known}
use Rattle.law_outcome.specs.AlikeLaws.{own_world}
use Rattle.law_outcome.proofs.FoundAgain.{admitted_is_opening, found_is_opening}
use Rattle.law_outcome.proofs.Named.{names_below}
use Rattle.outside.proofs.Quiet.{none_come}
use Rattle.outside.specs.Devices.{Device, Named}
use Rattle.run_states.specs.Moments.{PlannedAt, Stands, with_log}
use Rattle.run_states.specs.Openings.{Grows, IsIdle, world_at}
use Rattle.run_states.proofs.Ends.{admitted_is}
use Rattle.run_states.specs.Runs.{DoneIsOpening, DoneIsUnplanned, OnePlan, OneState, PlannedOrNot}

-- ---- what the files hold

stands_files : (ours : List ℕ → Bool) (alone : Bool) {earlier : List Named} (w : World) (options : Options) (version : Version) (plan : Plan) (log : List Logged) (torn : Bool) (d : Device) → Stands ours alone earlier w options version plan log torn d → Holds d.files w.state (with_log version plan log torn)
stands_files ours alone w options version plan log torn d (inl k) = let at = k.1 in at.files
stands_files ours alone w options version plan log torn d (inr k) = let at = k.1 in at.files

plan_files : (ours : List ℕ → Bool) (alone : Bool) {earlier : List Named} (w : World) (options : Options) (d : Device) (p : PlannedAt ours alone earlier w options d) → Holds d.files w.state (with_log p.version p.plan p.log p.is_torn)
plan_files ours alone w options d p = stands_files ours alone w options p.version p.plan p.log p.is_torn d p.stands

pub one_plan : OnePlan
one_plan ours others alone quiet opening other d a b =
    let p = a.holds in
    let q = b.holds in
    let known = book_known d.files a.world.state b.world.state (with_log p.version p.plan p.log p.is_torn) (with_log q.version q.plan q.log q.is_torn)
    (plan_files ours alone a.world opening.options d p) (plan_files others quiet b.world other.options d q) in
    let one : WrittenJournal = record { version = p.version; journal = record { plan = p.plan; log = p.log }; is_torn = p.is_torn } in
    let two : WrittenJournal = record { version = q.version; journal = record { plan = q.plan; log = q.log }; is_torn = q.is_torn } in
    let same : one ≡ two = (let x = known.1 in cc) in
    (ap (λ (w : WrittenJournal). w.journal.plan) same, ap (λ (w : WrittenJournal). w.journal.log) same)

pub one_state : OneState
one_state ours others alone quiet opening other d a b =
    let p = a.holds in
    let q = b.holds in
    let known = book_known d.files a.world.state b.world.state (with_log p.version p.plan p.log p.is_torn) (with_log q.version q.plan q.log q.is_torn)
    (plan_files ours alone a.world opening.options d p) (plan_files others quiet b.world other.options d q) in
    sym a.grows.state ∙ known.0 ∙ b.grows.state

pub planned_or_not : PlannedOrNot
planned_or_not ours others alone quiet opening other d a u =
    let p = a.holds in
    let known = book_known d.files a.world.state other.world.state (with_log p.version p.plan p.log p.is_torn) u.pending (plan_files ours alone a.world opening.options d p) u.files in
    subst IsIdle (sym known.1) u.idle

-- ---- the next run

pub grows_none : (alone : Bool) (w : World) → IsInOrder w → Grows alone w w
grows_none alone w order = record {
  in_order = order;
  state = refl;
  validity = λ side. refl;
  far_next = omega arith;
  far_added = [];
  far = sym (append-nil w.far.messages);
  uids = [];
  rise = omega arith;
  arrived = [];
  named = [];
  gathered = none_come w.waiting;
  each = refl;
  near = sym (append-nil w.near.messages);
  nobody = λ e. (refl, refl);
}

pub done_is_unplanned : DoneIsUnplanned
done_is_unplanned ours alone opening d options over order =
    let x = over.holds in
    let k = x.alike in
    let b = names_below over.world opening.options (own_world over.world x.marks (world_at d x.state)) over.grows.in_order over.below k.alike in
    record {
      pending = x.pending;
      idle = x.idle;
      files = x.files;
      chosen = refl;
      below = record { pulled = b.pulled; pushed = b.pushed; far = b.far; near = b.near };
      grows = grows_none alone (world_at d x.state) order;
      named = refl;
      unlisted = refl;
    }

-- the entries of a state that the files hold are pairs
file_pairs : (file : Option (List ℕ)) (s : SyncState) → HoldsState file s → ArePairs s.entries
file_pairs None s h = subst (λ (es : List Entry). ArePairs es) (sym h.entries) no_pairs
file_pairs (Some text) s h = let f = h.is_text.fits in f.pairs

pub held_pairs : (d : Device) (s : SyncState) (p : Pending) → Holds d.files s p → ArePairs s.entries
held_pairs d s p h =
    let one : IsProp (ArePairs s.entries) = hlevel props in
    ∥∥₁_elim h one (λ (held : Held d.files s p). file_pairs d.files.state s held.state_file)

pub done_is_opening : DoneIsOpening
done_is_opening ours opening d over sound =
    let x = over.holds in
    let k = x.alike in
    let found = world_at d x.state in
    let a = admitted_is opening.world over.world over.grows (over.admitted refl) in
    let by_lists : AlikeBy (admitted_under a.0 over.world.near.next opening.world) opening.options found =
    subst (λ (w : World). AlikeBy w opening.options found) a.2 (subst (λ (w : World). AlikeBy over.world opening.options w) (k.nobody refl) k.alike) in
    found_is_opening (admitted_under a.0 over.world.near.next opening.world) opening.options found (admitted_is_opening opening.world a.0 over.world.near.next sound a.1) by_lists (held_pairs d x.state x.pending x.files)
