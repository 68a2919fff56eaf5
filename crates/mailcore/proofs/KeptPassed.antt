-- What is remembered of the marks stays true with each operation on a mailbox: none changes the bytes of a message, and a new
-- message has a UID of its own.
use Rattle.std.proofs.Common.{ℕ, ◌+◌, ◌<◌, ◌≤◌, Bool, true, false, not, cond, eqb, List, [], ◌∷◌, ◌++◌, map, take, All, arith}
use Rattle.std.specs.List.{list_any}
use Rattle.std.proofs.lemmas.List.Elements.{All-nil, All-cons, All-append, All-filter, All-map, All-weaker}
use Rattle.mailcore.specs.declared.mailbox.Message.{Message}
use Rattle.mailcore.specs.Mailboxes.{Mailbox, some_admitted, delivered}
use Rattle.mailcore.specs.Operations.{added, with_flags, flagged, expunged}
use Rattle.mailcore.specs.Rise.{Rise}
use Rattle.mailcore.specs.Stores.{Store, Waiting, numbered}
use Rattle.mailcore.specs.declared.passed_marks.PassedMarks.{PassedMarks}
use Rattle.mailcore.specs.Passed.{ArePassed, BearsOther}

-- ---- flags

others_flagged : (change : ℕ → ℕ) (uid : ℕ) (p : PassedMarks) (mark : List ℕ) (m : Message) → BearsOther p mark m → BearsOther p mark (with_flags change uid m)
others_flagged change uid p mark m bears = by_test (eqb m.uid uid)
  where
    by_test : (b : Bool) → BearsOther p mark (cond b (record m { flags = change m.flags }) m)
    by_test true = bears
    by_test false = bears

pub passed_flagged : (change : ℕ → ℕ) (uid : ℕ) (s : Store) (p : PassedMarks) → ArePassed s.next s.messages p → ArePassed s.next (flagged change uid s).messages p
passed_flagged change uid s p is = record {
  below = is.below;
  marks = λ mark other. All-map (BearsOther p mark) (with_flags change uid) s.messages
      (All-weaker (BearsOther p mark) (λ m. BearsOther p mark (with_flags change uid m)) (others_flagged change uid p mark) s.messages (is.marks mark other));
}

-- ---- messages are removed

pub passed_expunged : (uids : List ℕ) (s : Store) (p : PassedMarks) → ArePassed s.next s.messages p → ArePassed s.next (expunged uids s).messages p
passed_expunged uids s p is =
    let stays : Message → Bool = λ m. not (list_any (λ uid. eqb m.uid uid) uids) in
    record {
      below = is.below;
      marks = λ mark other. All-filter stays (BearsOther p mark) s.messages (is.marks mark other);
    }

-- ---- messages are added

other_later : (p : PassedMarks) (mark : List ℕ) (next uid : ℕ) (flags : ℕ) (bytes : List ℕ) → (p.from < p.below → p.below ≤ next) → next ≤ uid
    → BearsOther p mark (record { uid = uid; flags = flags; bytes = bytes })
other_later p mark next uid flags bytes within above up under =
    absurd (let below : p.below ≤ next = within (omega (arith, up, under)) in omega (arith, below, above, under))

-- under any UID from the next one on
pub passed_added : (uid flags : ℕ) (bytes : List ℕ) (s : Store) (p : PassedMarks) → s.next ≤ uid → ArePassed s.next s.messages p
    → ArePassed (added uid flags bytes s).next (added uid flags bytes s).messages p
passed_added uid flags bytes s p least is =
    let m : Message = record { uid = uid; flags = flags; bytes = bytes } in
    record {
      below = λ some. let below : p.below ≤ s.next = is.below some in omega (arith, below, least);
      marks = λ mark other. All-append (BearsOther p mark) s.messages (m ∷ []) (is.marks mark other)
          (All-cons (BearsOther p mark) m [] (other_later p mark s.next uid flags bytes is.below least) (All-nil (BearsOther p mark)));
    }

pub passed_delivered : (bytes : List ℕ) (flags : ℕ) (n : Mailbox) (p : PassedMarks) → ArePassed n.store.next n.store.messages p
    → ArePassed (delivered bytes flags n).store.next (delivered bytes flags n).store.messages p
passed_delivered bytes flags n p is = passed_added n.store.next flags bytes n.store p (omega arith) is

others_numbered : (p : PassedMarks) (mark : List ℕ) (next uid : ℕ) (files : List Waiting) → (p.from < p.below → p.below ≤ next) → next ≤ uid → All (BearsOther p mark) (numbered uid files)
others_numbered p mark next uid [] within above = All-nil (BearsOther p mark)
others_numbered p mark next uid (file ∷ files) within above =
    All-cons (BearsOther p mark) (record { uid = uid; flags = file.flags; bytes = file.bytes }) (numbered (uid + 1) files)
    (other_later p mark next uid file.flags file.bytes within above) (others_numbered p mark next (uid + 1) files within (omega (arith, above)))

pub passed_numbered : (count : ℕ) (n : Mailbox) (p : PassedMarks) → ArePassed n.store.next n.store.messages p
    → ArePassed (some_admitted count n).store.next (some_admitted count n).store.messages p
passed_numbered count n p is =
    let s : Store = n.store in
    record {
      below = λ some. let below : p.below ≤ s.next = is.below some in omega (arith, below);
      marks = λ mark other. All-append (BearsOther p mark) s.messages (numbered s.next (take count n.waiting)) (is.marks mark other)
          (others_numbered p mark s.next s.next (take count n.waiting) is.below (omega arith));
    }

-- others added messages under UIDs that rise from the next one on
others_rising : (p : PassedMarks) (mark : List ℕ) (next low top : ℕ) (more : List Message) → (p.from < p.below → p.below ≤ next) → next ≤ low → Rise low (map (λ m. m.uid) more) top
    → All (BearsOther p mark) more
others_rising p mark next low top [] within least rise = All-nil (BearsOther p mark)
others_rising p mark next low top (m ∷ more) within least rise =
    let first : low ≤ m.uid = rise.0 in
    All-cons (BearsOther p mark) m more (other_later p mark next m.uid m.flags m.bytes within (omega (arith, least, first)))
    (others_rising p mark next (m.uid + 1) top more within (omega (arith, least, first)) rise.1)

rise_low : (low : ℕ) (uids : List ℕ) (top : ℕ) → Rise low uids top → low ≤ top
rise_low low [] top rise = omega (arith, rise)
rise_low low (uid ∷ uids) top rise = let first = rise.0 in let rest = rise_low (uid + 1) uids top rise.1 in omega (arith, first, rest)

pub passed_gained : (next next' : ℕ) (messages more : List Message) (p : PassedMarks) → Rise next (map (λ m. m.uid) more) next' → ArePassed next messages p → ArePassed next' (messages ++ more) p
passed_gained next next' messages more p rise is = record {
  below = λ some. let below : p.below ≤ next = is.below some in let low = rise_low next (map (λ m. m.uid) more) next' rise in omega (arith, below, low);
  marks = λ mark other. All-append (BearsOther p mark) messages more (is.marks mark other) (others_rising p mark next next next' more is.below (omega arith) rise);
}
