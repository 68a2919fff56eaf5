-- A run that begins after a plan was given up.
use Rattle.std.proofs.Common.{◌≡◌, ◌⊎◌, ◌<◌, ◌∙◌, ◌^◌, ◌++◌, inl, inr, ℕ, List, map, Option, Some, None, arith}
use Rattle.std.specs.Prelude.{All, ◌≢◌}
use Rattle.std.proofs.lemmas.List.Elements.{All-append, All-map, All-weaker}
use Rattle.std.proofs.lemmas.List.Sorted.{All-permutation}
use Rattle.mailcore.specs.declared.side.Side.{Side}
use Rattle.mailcore.specs.declared.side.Side.TheVariants.{Far, Near}
use Rattle.mailcore.specs.FlagSet.{FLAGS}
use Rattle.rules.specs.declared.entry.Entry.{Entry}
use Rattle.rules.specs.Entries.{uid_of, uid_on}
use Rattle.rules.specs.World.{NamesBelow}
use Rattle.rules.specs.Opening.{IsLater, IsMailbox}
use Rattle.sync_state.specs.declared.version.Version.TheVariants.{Two}
use Rattle.sync_state.specs.StateText.{IsEntry}
use Rattle.sync_state.specs.Words.{IsUidOrNone}
use Rattle.sync_state.specs.declared.journal.Journal.{Journal}
use Rattle.book.specs.Committed.{entries_of_copies}
use Rattle.book.specs.GivingUp.{left_entry}
use Rattle.book.specs.LostSides.{Lost}
use Rattle.book.proofs.GivenUpPairs.{kept_uid, left_kept}
use Rattle.law_outcome.proofs.Admission.{opening_names}
use Rattle.outside.specs.Devices.{Device, box}
use Rattle.run_states.specs.Openings.{world_at}
use Rattle.run_states.proofs.Foreign.{two}
use Rattle.run_states.specs.GivenUp.{GivenUpIsOpening}

not_zero : (o : Option ℕ) → IsUidOrNone o → o ≢ Some 0
not_zero None fits e = cc
not_zero (Some u) fits e = let same : u ≡ 0 = cc in omega (arith, fits.positive, same)

no_zero : (side : Side) (e : Entry) → IsEntry Two e → uid_on side e ≢ Some 0
no_zero Far e fits = not_zero e.far fits.far
no_zero Near e fits = not_zero e.near fits.near

uid_below : (a b next : ℕ) → (b ≡ a) ⊎ (b ≡ 0) → a < next → b < next
uid_below a b next (inl same) h = omega (arith, same, h)
uid_below a b next (inr none) h = omega (arith, none, h)

left_below : (j : Journal) (lost : Lost) (side : Side) (es : List Entry) (next : ℕ) → All (λ e. uid_of side e < next) es → All (λ e. uid_of side e < next) (map (left_entry j lost) es)
left_below j lost side es next h =
    All-map (λ (e : Entry). uid_of side e < next) (left_entry j lost) es
    (All-weaker (λ (e : Entry). uid_of side e < next) (λ e. uid_of side (left_entry j lost e) < next)
    (λ e b. uid_below (uid_of side e) (uid_of side (left_entry j lost e)) next (kept_uid side e (left_entry j lost e) (left_kept j lost e)) b) es h)

pub given_up_is_opening : GivenUpIsOpening
given_up_is_opening j lost s t d over left text =
    let w = over.sound in
    let copies = entries_of_copies j.plan.steps j.log in
    let following = left_entry j lost in
    let names = opening_names (world_at d s) w in
    let far : All (λ e. uid_of Far e < d.far.next) t.entries = All-permutation (λ (e : Entry). uid_of Far e < d.far.next) (map following s.entries ++ copies) t.entries left.entries
    (All-append (λ (e : Entry). uid_of Far e < d.far.next) (map following s.entries) copies (left_below j lost Far s.entries d.far.next names.far)
    (All-weaker (λ (e : Entry). (side : Side) → uid_of side e < (box d side).next) (λ e. uid_of Far e < d.far.next) (λ e g. g Far) copies over.given)) in
    let near : All (λ e. uid_of Near e < d.near.store.next) t.entries = All-permutation (λ (e : Entry). uid_of Near e < d.near.store.next) (map following s.entries ++ copies) t.entries left.entries
    (All-append (λ (e : Entry). uid_of Near e < d.near.store.next) (map following s.entries) copies (left_below j lost Near s.entries d.near.store.next names.near)
    (All-weaker (λ (e : Entry). (side : Side) → uid_of side e < (box d side).next) (λ e. uid_of Near e < d.near.store.next) (λ e g. g Near) copies over.given)) in
    let below : NamesBelow (world_at d t) = record { pulled = rw left.max_pulled names.pulled; pushed = rw left.max_pushed names.pushed; far = far; near = near } in
    let later : IsLater (world_at d t) = record {
      run = omega (arith, left.run, over.run);
      far_validity = left.far_validity ∙ over.far_validity;
      near_validity = left.near_validity ∙ over.near_validity;
      below = below;
    } in
    record {
      world = record {
        in_order = record { far = w.world.in_order.far; near = w.world.in_order.near; pairs = text.pairs };
        far_flags = w.world.far_flags;
        near_flags = w.world.near_flags;
      };
      mailbox = two (λ side. IsMailbox side (box d side)) (w.mailbox Far) (w.mailbox Near);
      waiting = w.waiting;
      named = λ side. All-weaker (IsEntry Two) (λ e. uid_on side e ≢ Some 0) (no_zero side) t.entries text.entries;
      recorded = All-weaker (IsEntry Two) (λ e. e.flags < 2 ^ FLAGS) (λ e f. f.flags) t.entries text.entries;
      unchanged = inr later;
    }
