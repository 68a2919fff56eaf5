-- The world whose waiting files have UIDs: it is a world, and the state names no more than before.
use Rattle.std.proofs.Common.{◌≡◌, ◌<◌, ◌≤◌, ◌+◌, ℕ, List, [], ◌∷◌, length, refl, sym, ap, subst, arith, inl, inr}
use Rattle.std.specs.Prelude.{All, AllPairs}
use Rattle.std.specs.List.{range_with_len}
use Rattle.std.proofs.lemmas.List.Elements.{All-nil, All-cons, All-append, All-weaker, All-contains}
use Rattle.std.proofs.lemmas.List.Kept.{AllPairs-cons}
use Rattle.std.proofs.lemmas.List.FromFn.{length-range_with_len}
use Rattle.mailcore.specs.declared.side.Side.TheVariants.{Far, Near}
use Rattle.mailcore.specs.declared.mailbox.Message.{Message}
use Rattle.mailcore.specs.Rise.{Rise}
use Rattle.mailcore.proofs.RiseLemmas.{rise-ends, range_rises}
use Rattle.rules.specs.declared.entry.Entry.{Entry}
use Rattle.rules.specs.Entries.{uid_of}
use Rattle.rules.specs.World.{World, Waiting, IsStore, IsInOrder, NamesBelow, numbered}
use Rattle.rules.specs.Admission.{numbered_under, admitted_under, AreAdmission, admission_uids, next_admitted}
use Rattle.rules.specs.Opening.{IsOpening}
use Rattle.rules.proofs.Walks.{AllPairs-nil, AllPairs-append}
use Rattle.law_outcome.specs.AlikeLaws.{AdmittedInTurn}

-- ---- rising UIDs

pub numbered_least : (least : ℕ) (uids : List ℕ) (bound : ℕ) (fs : List Waiting) → Rise least uids bound → All (λ m. least ≤ m.uid) (numbered_under uids fs)
numbered_least least [] bound fs h = All-nil (λ (m : Message). least ≤ m.uid)
numbered_least least (u ∷ uids) bound [] h = All-nil (λ (m : Message). least ≤ m.uid)
numbered_least least (u ∷ uids) bound (f ∷ fs) h =
    All-cons (λ (m : Message). least ≤ m.uid) (record { uid = u; flags = f.flags; bytes = f.bytes }) (numbered_under uids fs) h.0
    (All-weaker (λ (m : Message). u + 1 ≤ m.uid) (λ m. least ≤ m.uid) (λ m l. let k : least ≤ u = h.0 in omega arith) (numbered_under uids fs) (numbered_least (u + 1) uids bound fs h.1))

numbered_below : (least : ℕ) (uids : List ℕ) (bound : ℕ) (fs : List Waiting) → Rise least uids bound → All (λ m. m.uid < bound) (numbered_under uids fs)
numbered_below least [] bound fs h = All-nil (λ (m : Message). m.uid < bound)
numbered_below least (u ∷ uids) bound [] h = All-nil (λ (m : Message). m.uid < bound)
numbered_below least (u ∷ uids) bound (f ∷ fs) h =
    All-cons (λ (m : Message). m.uid < bound) (record { uid = u; flags = f.flags; bytes = f.bytes }) (numbered_under uids fs)
    (let k = rise-ends (u + 1) uids bound h.1 in let l : u < bound = omega arith in l) (numbered_below (u + 1) uids bound fs h.1)

numbered_rising : (least : ℕ) (uids : List ℕ) (bound : ℕ) (fs : List Waiting) → Rise least uids bound → AllPairs (λ a b. a.uid < b.uid) (numbered_under uids fs)
numbered_rising least [] bound fs h = AllPairs-nil (λ (a b : Message). a.uid < b.uid)
numbered_rising least (u ∷ uids) bound [] h = AllPairs-nil (λ (a b : Message). a.uid < b.uid)
numbered_rising least (u ∷ uids) bound (f ∷ fs) h =
    AllPairs-cons (λ (a b : Message). a.uid < b.uid) (record { uid = u; flags = f.flags; bytes = f.bytes }) (numbered_under uids fs)
    (All-weaker (λ (m : Message). u + 1 ≤ m.uid) (λ m. u < m.uid) (λ m l. omega arith) (numbered_under uids fs) (numbered_least (u + 1) uids bound fs h.1))
    (numbered_rising (u + 1) uids bound fs h.1)

-- ---- the admitted world

pub admitted_sound : (w : World) (uids : List ℕ) (next : ℕ) → IsInOrder w → AreAdmission w uids next → IsInOrder (admitted_under uids next w)
admitted_sound w uids next h a =
    let ends = rise-ends w.near.next uids next a.rise in
    let near : IsStore (admitted_under uids next w).near = record {
      rising = AllPairs-append (λ (x y : Message). x.uid < y.uid) w.near.messages (numbered_under uids w.waiting) h.near.rising (numbered_rising w.near.next uids next w.waiting a.rise)
          (λ x y c d.
          let l : x.uid < w.near.next = All-contains (λ (m : Message). m.uid < w.near.next) w.near.messages x h.near.below c in
          let k : w.near.next ≤ y.uid = All-contains (λ (m : Message). w.near.next ≤ m.uid) (numbered_under uids w.waiting) y (numbered_least w.near.next uids next w.waiting a.rise) d in
          omega arith);
      below = All-append (λ (m : Message). m.uid < next) w.near.messages (numbered_under uids w.waiting)
          (All-weaker (λ (m : Message). m.uid < w.near.next) (λ m. m.uid < next) (λ m l. omega arith) w.near.messages h.near.below)
          (numbered_below w.near.next uids next w.waiting a.rise);
    } in
    record { far = h.far; near = near; pairs = h.pairs }

pub admitted_names : (w : World) (uids : List ℕ) (next : ℕ) → NamesBelow w → AreAdmission w uids next → NamesBelow (admitted_under uids next w)
admitted_names w uids next b a =
    let ends = rise-ends w.near.next uids next a.rise in
    record {
      pulled = b.pulled;
      pushed = let l : w.state.max_pushed < w.near.next = b.pushed in omega arith;
      far = b.far;
      near = All-weaker (λ (e : Entry). uid_of Near e < w.near.next) (λ e. uid_of Near e < next) (λ e l. omega arith) w.state.entries b.near;
    }

-- ---- the UIDs from next on

numbered_is : (k : ℕ) (fs : List Waiting) → numbered_under (range_with_len k (length fs)) fs ≡ numbered k fs
numbered_is k [] = refl
numbered_is k (f ∷ fs) = ap (λ ms. record { uid = k; flags = f.flags; bytes = f.bytes } ∷ ms) (numbered_is (k + 1) fs)

pub turn_admits : (w : World) → AreAdmission w (admission_uids w) (next_admitted w)
turn_admits w = record { each = length-range_with_len w.near.next (length w.waiting); rise = range_rises w.near.next (length w.waiting) }

pub admitted_in_turn : AdmittedInTurn
admitted_in_turn w = (numbered_is w.near.next w.waiting, turn_admits w)

-- ---- openings

pub opening_names : (w : World) → IsOpening w → NamesBelow w
opening_names w h = elim h.unchanged [
  | inl first ↦ record {
    pulled = let a : 0 < w.far.next = (h.mailbox Far).next in let e : w.state.max_pulled ≡ 0 = first.max_pulled in omega arith;
    pushed = let a : 0 < w.near.next = (h.mailbox Near).next in let e : w.state.max_pushed ≡ 0 = first.max_pushed in omega arith;
    far = subst (λ es. All (λ e. uid_of Far e < w.far.next) es) (sym first.entries) (All-nil (λ (e : Entry). uid_of Far e < w.far.next));
    near = subst (λ es. All (λ e. uid_of Near e < w.near.next) es) (sym first.entries) (All-nil (λ (e : Entry). uid_of Near e < w.near.next));
  }
  | inr later ↦ later.below
]
