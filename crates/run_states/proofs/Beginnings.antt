-- A run that begins with the world that a device holds.
use Rattle.std.proofs.Common.{◌<◌, ◌≤◌, ◌^◌, ◌++◌, inl, inr, refl, sym, subst, ℕ, Bool, List, map, arith}
use Rattle.std.proofs.lemmas.List.Elements.{All-append, All-weaker}
use Rattle.std.proofs.lemmas.List.Sorted.{All-permutation}
use Rattle.mailcore.specs.declared.mailbox.Message.{Message}
use Rattle.mailcore.specs.declared.side.Side.TheVariants.{Far, Near}
use Rattle.mailcore.specs.FlagSet.{FLAGS}
use Rattle.mailcore.proofs.RiseLemmas.{rise-ends}
use Rattle.rules.specs.declared.entry.Entry.{Entry}
use Rattle.rules.specs.declared.state.SyncState.{SyncState}
use Rattle.rules.specs.Entries.{uid_of}
use Rattle.rules.specs.Opening.{AreBytes, IsFile, IsMailbox, IsOpening, IsUnchanged, least_byte}
use Rattle.rules.specs.World.{World, store}
use Rattle.book.specs.declared.book.Pending.TheVariants.{Missing}
use Rattle.outside.specs.BoxArrivals.{IsFarMessage}
use Rattle.law_outcome.proofs.Admission.{opening_names}
use Rattle.outside.specs.Arrivals.{Arrives}
use Rattle.outside.specs.Devices.{Device}
use Rattle.outside.proofs.Order.{store_more}
use Rattle.run_states.specs.Openings.{Grows, world_at}
use Rattle.run_states.proofs.Foreign.{two}
use Rattle.run_states.specs.Beginnings.{OthersKeepOpening, WorldIsUnplanned}
use Rattle.run_states.proofs.Runs.{grows_none}

pub world_is_unplanned : WorldIsUnplanned
world_is_unplanned ours alone w options d held sound = record {
  pending = Missing;
  idle = tt;
  files = held.files;
  chosen = refl;
  below = opening_names w sound;
  grows = subst (λ (now : World). Grows alone w now) (sym held.world) (grows_none alone w sound.world.in_order);
  named = held.unnamed;
  unlisted = refl;
}

-- ---- others add messages

module _ (ours : List ℕ → Bool) (alone : Bool) (state : SyncState) (d m : Device) (a : Arrives ours alone d m) (h : IsOpening (world_at d state)) where
  abbrev grown : Device
  grown = record d { far = record d.far { next = a.next; messages = d.far.messages ++ a.messages }; near = record d.near { waiting = a.waiting } }

  later_next : d.far.next ≤ a.next
  later_next = rise-ends d.far.next (map (λ x. x.uid) a.messages) a.next a.rise

  far_grown : IsMailbox Far grown.far
  far_grown = let first : 0 < d.far.next = (h.mailbox Far).next in record {
    validity = (h.mailbox Far).validity;
    next = omega (arith, first, later_next);
    uids = All-append (λ (x : Message). 0 < x.uid) d.far.messages a.messages (h.mailbox Far).uids (All-weaker IsFarMessage (λ x. 0 < x.uid) (λ x k. k.uid) a.messages a.far_sound);
    bytes = All-append (λ (x : Message). AreBytes (least_byte Far) x.bytes) d.far.messages a.messages (h.mailbox Far).bytes
        (All-weaker IsFarMessage (λ x. AreBytes (least_byte Far) x.bytes) (λ x k. k.bytes) a.messages a.far_sound);
  }

  still_unchanged : IsUnchanged (world_at d state) → IsUnchanged (world_at grown state)
  still_unchanged (inl first) = inl first
  still_unchanged (inr later) =
      let b = later.below in
      let pulled = b.pulled in
      inr (record {
        run = later.run;
        far_validity = later.far_validity;
        near_validity = later.near_validity;
        below = record {
          pulled = omega (arith, pulled, later_next);
          pushed = b.pushed;
          far = All-weaker (λ (e : Entry). uid_of Far e < d.far.next) (λ e. uid_of Far e < a.next) (λ e l. omega (arith, l, later_next)) state.entries b.far;
          near = b.near;
        };
      })

  grown_opening : IsOpening (world_at grown state)
  grown_opening = let order = h.world.in_order in record {
    world = record {
      in_order = record { far = store_more d.far.validity d.far.next a.next d.far.messages a.messages order.far a.rise; near = order.near; pairs = order.pairs };
      far_flags = All-append (λ (x : Message). x.flags < 2 ^ FLAGS) d.far.messages a.messages h.world.far_flags
          (All-weaker IsFarMessage (λ x. x.flags < 2 ^ FLAGS) (λ x k. k.in_set) a.messages a.far_sound);
      near_flags = h.world.near_flags;
    };
    mailbox = two (λ side. IsMailbox side (store (world_at grown state) side)) far_grown (h.mailbox Near);
    waiting = All-permutation IsFile (d.near.waiting ++ a.files) a.waiting a.gathered (All-append IsFile d.near.waiting a.files h.waiting a.near_sound);
    named = h.named;
    recorded = h.recorded;
    unchanged = still_unchanged h.unchanged;
  }

  opening_kept : IsOpening (world_at m state)
  opening_kept = subst (λ (x : Device). IsOpening (world_at x state)) (sym a.now) grown_opening

pub others_keep_opening : OthersKeepOpening
others_keep_opening = opening_kept
