-- The worked examples meet the premises of the laws.
use Rattle.std.proofs.Common.{◌≡◌, ◌≢◌, ◌<◌, ◌≤◌, ◌^◌, ℕ, List, [], ◌∷◌, ◌++◌, length, refl, arith, inr, true, false, Some, None}
use Rattle.std.specs.Prelude.{All, AllPairs, ◌&&◌, nat_le, nat_lt, codes}
use Rattle.std.specs.List.{list_all}
use Rattle.std.proofs.lemmas.Bool.{and_parts, leb-true, ltb-true}
use Rattle.std.proofs.lemmas.List.Elements.{All-nil, All-cons}
use Rattle.std.proofs.lemmas.Option.{same_Some}
use Rattle.std.proofs.lemmas.List.Kept.{AllPairs-cons}
use Rattle.std.proofs.lemmas.List.Sorted.{IsPermutation-refl}
use Rattle.mailcore.specs.declared.side.Side.{Side}
use Rattle.mailcore.specs.declared.side.Side.TheVariants.{Far, Near}
use Rattle.mailcore.specs.declared.mailbox.Message.{Message}
use Rattle.mailcore.specs.FlagSet.{FLAGS, each_flag, union, minus}
use Rattle.mailcore.specs.Content.{LF, content, without_marks, copy_text}
use Rattle.mailcore.specs.Mark.{IsMark}
use Rattle.mailcore.specs.Rise.{Rise}
use Rattle.mailcore.specs.Sides.{towards}
use Rattle.rules.specs.declared.entry.Entry.{Entry}
use Rattle.rules.specs.Entries.{EntryBefore, has_a_side, uid_of, uid_on}
use Rattle.rules.specs.FlagRule.{taken, recorded_after, with_deleted}
use Rattle.rules.specs.World.{IsWorld, store}
use Rattle.rules.specs.Opening.{AreBytes, IsMailbox, IsFile, IsLater, IsOpening}
use Rattle.rules.specs.Admission.{AreAdmission, admitted}
use Rattle.rules.specs.WorldAfter.{new_messages, messages_under}
use Rattle.rules.specs.AlikeBy.{AreCopyMarks, AlikeBy}
use Rattle.rules.specs.AlikeExamples.{everything, pair, mark, other_mark, waits, late, late_found, cleaned, cleaned_found}
use Rattle.rules.proofs.Walks.{AllPairs-nil}
use Rattle.law_outcome.specs.Examples.{LateIsAlike, CleanedIsAlike}
use Rattle.law_outcome.proofs.Whole.{alike_under_admission}
use Rattle.law_outcome.proofs.Finished.{alike_without_waiting}

-- ---- short lists

one : {X : Type 0} (P : X → Type 0) (x : X) → P x → All P (x ∷ [])
one P x h = All-cons P x [] h (All-nil P)

two : {X : Type 0} (P : X → Type 0) (x y : X) → P x → P y → All P (x ∷ y ∷ [])
two P x y h k = All-cons P x (y ∷ []) h (one P y k)

alone : {X : Type 0} (R : X → X → Type 0) (x : X) → AllPairs R (x ∷ [])
alone R x = AllPairs-cons R x [] (All-nil (R x)) (AllPairs-nil R)

both : {X : Type 0} (R : X → X → Type 0) (x y : X) → R x y → AllPairs R (x ∷ y ∷ [])
both R x y h = AllPairs-cons R x (y ∷ []) (one (R x) y h) (alone R y)

-- bytes by their test
bytes_are : (least : ℕ) (bytes : List ℕ) → list_all (λ b. nat_le least b && nat_lt b 256) bytes ≡ true → AreBytes least bytes
bytes_are least [] h = All-nil (λ b. (least ≤ b) × (b < 256))
bytes_are least (b ∷ bytes) h =
    let p = and_parts (nat_le least b && nat_lt b 256) (list_all (λ x. nat_le least x && nat_lt x 256) bytes) h in
    let q = and_parts (nat_le least b) (nat_lt b 256) p.0 in
    All-cons (λ x. (least ≤ x) × (x < 256)) b bytes (leb-true least b q.0, ltb-true b 256 q.1) (bytes_are least bytes p.1)

all_bytes : (least : ℕ) (ms : List Message) → list_all (λ m. list_all (λ b. nat_le least b && nat_lt b 256) m.bytes) ms ≡ true → All (λ m. AreBytes least m.bytes) ms
all_bytes least [] h = All-nil (λ (m : Message). AreBytes least m.bytes)
all_bytes least (m ∷ ms) h =
    let p = and_parts (list_all (λ b. nat_le least b && nat_lt b 256) m.bytes) (list_all (λ (x : Message). list_all (λ b. nat_le least b && nat_lt b 256) x.bytes) ms) h in
    All-cons (λ (x : Message). AreBytes least x.bytes) m ms (bytes_are least m.bytes p.0) (all_bytes least ms p.1)

-- no entry names a 0
up : (u : ℕ) → 0 < u → Some u ≢ Some 0
up u l e = let k : u ≡ 0 = same_Some u 0 e in omega arith

differ : (u v : ℕ) → u < v → Some u ≢ Some v
differ u v l e = let k : u ≡ v = same_Some u v e in omega arith

-- ---- a waiting file under another UID

waits_is_opening : IsOpening waits
waits_is_opening = record {
  world = sound;
  mailbox = mailbox;
  waiting = one IsFile _ (record { in_set = omega arith; bytes = bytes_are 0 (codes "y" ++ LF ∷ []) refl });
  named = named;
  recorded = one (λ (e : Entry). e.flags < 2 ^ FLAGS) _ (omega arith);
  unchanged = inr later;
}
  where
    sound : IsWorld waits
    sound = record {
      in_order = record {
        far = record { rising = alone (λ (a b : Message). a.uid < b.uid) _; below = one (λ (m : Message). m.uid < 9) _ (omega arith) };
        near = record { rising = alone (λ (a b : Message). a.uid < b.uid) _; below = one (λ (m : Message). m.uid < 4) _ (omega arith) };
        pairs = record {
          ordered = alone EntryBefore (pair 8 3 16);
          some = one (λ (e : Entry). has_a_side e ≡ true) (pair 8 3 16) refl;
          far_once = alone (λ (a b : Entry). a.far ≡ b.far → a.far ≡ None) (pair 8 3 16);
          near_once = alone (λ (a b : Entry). a.near ≡ b.near → a.near ≡ None) (pair 8 3 16);
        };
      };
      far_flags = one (λ (m : Message). m.flags < 2 ^ FLAGS) _ (omega arith);
      near_flags = one (λ (m : Message). m.flags < 2 ^ FLAGS) _ (omega arith);
    }

    mailbox : (side : Side) → IsMailbox side (store waits side)
    mailbox Far = record { validity = omega arith; next = omega arith; uids = one (λ (m : Message). 0 < m.uid) _ (omega arith); bytes = all_bytes 1 waits.far.messages refl }
    mailbox Near = record { validity = omega arith; next = omega arith; uids = one (λ (m : Message). 0 < m.uid) _ (omega arith); bytes = all_bytes 0 waits.near.messages refl }

    named : (side : Side) → All (λ e. uid_on side e ≢ Some 0) waits.state.entries
    named Far = one (λ (e : Entry). e.far ≢ Some 0) (pair 8 3 16) (up 8 (omega arith))
    named Near = one (λ (e : Entry). e.near ≢ Some 0) (pair 8 3 16) (up 3 (omega arith))

    later : IsLater waits
    later = record {
      run = omega arith;
      far_validity = refl;
      near_validity = refl;
      below = record {
        pulled = omega arith;
        pushed = omega arith;
        far = one (λ (e : Entry). uid_of Far e < 9) (pair 8 3 16) (omega arith);
        near = one (λ (e : Entry). uid_of Near e < 4) (pair 8 3 16) (omega arith);
      };
    }

admission : AreAdmission waits (6 ∷ []) 7
admission = record { each = refl; rise = (omega arith, omega arith) }

late_lists : AlikeBy late (everything false) late_found
unfolding each_flag union minus taken recorded_after with_deleted content without_marks copy_text
late_lists = record {
  uids = uids;
  marks = other_mark ∷ [];
  are_marks = record { count = refl; each = one IsMark other_mark refl; differ = alone (λ (a b : List ℕ). a ≢ b) other_mark };
  each = each;
  rise = rise;
  messages = messages;
  validity = validity;
  waiting = refl;
  state = record { run = refl; far_validity = refl; near_validity = refl; max_pulled = refl; max_pushed = refl; entries = IsPermutation-refl late_found.state.entries };
}
  where
    uids : Side → List ℕ
    uids Far = 11 ∷ []
    uids Near = []

    each : (side : Side) → length (uids side) ≡ length (new_messages late (everything false) (towards side))
    each Far = refl
    each Near = refl

    rise : (side : Side) → Rise (store late side).next (uids side) (store late_found side).next
    rise Far = (omega arith, omega arith)
    rise Near = omega arith

    messages : (side : Side) → (store late_found side).messages ≡ messages_under late (everything false) side (uids side) (other_mark ∷ [])
    messages Far = refl
    messages Near = refl

    validity : (side : Side) → (store late_found side).validity ≡ (store late side).validity
    validity Far = refl
    validity Near = refl

late_marks : AreCopyMarks (admitted waits) (everything false) (mark ∷ [])
unfolding each_flag union minus taken recorded_after with_deleted content without_marks copy_text
late_marks = record { count = refl; each = one IsMark mark refl }

pub late_is_alike : LateIsAlike
late_is_alike = record {
  opening = waits_is_opening;
  admission = admission;
  lists = late_lists;
  maps = alike_under_admission waits (everything false) (6 ∷ []) 7 (mark ∷ []) late_found waits_is_opening admission late_marks late_lists;
}

-- ---- a run with Expunge

cleaned_is_opening : IsOpening cleaned
cleaned_is_opening = record {
  world = sound;
  mailbox = mailbox;
  waiting = All-nil IsFile;
  named = named;
  recorded = two (λ (e : Entry). e.flags < 2 ^ FLAGS) _ _ (omega arith) (omega arith);
  unchanged = inr later;
}
  where
    far_apart : (pair 1 5 0).far ≡ (pair 2 6 16).far → (pair 1 5 0).far ≡ None
    far_apart e = absurd (differ 1 2 (omega arith) e)

    near_apart : (pair 1 5 0).near ≡ (pair 2 6 16).near → (pair 1 5 0).near ≡ None
    near_apart e = absurd (differ 5 6 (omega arith) e)

    sound : IsWorld cleaned
    sound = record {
      in_order = record {
        far = record { rising = both (λ (a b : Message). a.uid < b.uid) _ _ (omega arith); below = two (λ (m : Message). m.uid < 4) _ _ (omega arith) (omega arith) };
        near = record { rising = both (λ (a b : Message). a.uid < b.uid) _ _ (omega arith); below = two (λ (m : Message). m.uid < 7) _ _ (omega arith) (omega arith) };
        pairs = record {
          ordered = both EntryBefore (pair 1 5 0) (pair 2 6 16) (omega arith, λ e. omega arith);
          some = two (λ (e : Entry). has_a_side e ≡ true) (pair 1 5 0) (pair 2 6 16) refl refl;
          far_once = both (λ (a b : Entry). a.far ≡ b.far → a.far ≡ None) (pair 1 5 0) (pair 2 6 16) far_apart;
          near_once = both (λ (a b : Entry). a.near ≡ b.near → a.near ≡ None) (pair 1 5 0) (pair 2 6 16) near_apart;
        };
      };
      far_flags = two (λ (m : Message). m.flags < 2 ^ FLAGS) _ _ (omega arith) (omega arith);
      near_flags = two (λ (m : Message). m.flags < 2 ^ FLAGS) _ _ (omega arith) (omega arith);
    }

    mailbox : (side : Side) → IsMailbox side (store cleaned side)
    mailbox Far = record { validity = omega arith; next = omega arith; uids = two (λ (m : Message). 0 < m.uid) _ _ (omega arith) (omega arith); bytes = all_bytes 1 cleaned.far.messages refl }
    mailbox Near = record { validity = omega arith; next = omega arith; uids = two (λ (m : Message). 0 < m.uid) _ _ (omega arith) (omega arith); bytes = all_bytes 0 cleaned.near.messages refl }

    named : (side : Side) → All (λ e. uid_on side e ≢ Some 0) cleaned.state.entries
    named Far = two (λ (e : Entry). e.far ≢ Some 0) (pair 1 5 0) (pair 2 6 16) (up 1 (omega arith)) (up 2 (omega arith))
    named Near = two (λ (e : Entry). e.near ≢ Some 0) (pair 1 5 0) (pair 2 6 16) (up 5 (omega arith)) (up 6 (omega arith))

    later : IsLater cleaned
    later = record {
      run = omega arith;
      far_validity = refl;
      near_validity = refl;
      below = record {
        pulled = omega arith;
        pushed = omega arith;
        far = two (λ (e : Entry). uid_of Far e < 4) (pair 1 5 0) (pair 2 6 16) (omega arith) (omega arith);
        near = two (λ (e : Entry). uid_of Near e < 7) (pair 1 5 0) (pair 2 6 16) (omega arith) (omega arith);
      };
    }

cleaned_lists : AlikeBy cleaned (everything true) cleaned_found
unfolding each_flag union minus taken recorded_after with_deleted content without_marks copy_text
cleaned_lists = record {
  uids = uids;
  marks = mark ∷ [];
  are_marks = record { count = refl; each = one IsMark mark refl; differ = alone (λ (a b : List ℕ). a ≢ b) mark };
  each = each;
  rise = rise;
  messages = messages;
  validity = validity;
  waiting = refl;
  state = record { run = refl; far_validity = refl; near_validity = refl; max_pulled = refl; max_pushed = refl; entries = IsPermutation-refl cleaned_found.state.entries };
}
  where
    uids : Side → List ℕ
    uids Far = []
    uids Near = 9 ∷ []

    each : (side : Side) → length (uids side) ≡ length (new_messages cleaned (everything true) (towards side))
    each Far = refl
    each Near = refl

    rise : (side : Side) → Rise (store cleaned side).next (uids side) (store cleaned_found side).next
    rise Far = omega arith
    rise Near = (omega arith, omega arith)

    messages : (side : Side) → (store cleaned_found side).messages ≡ messages_under cleaned (everything true) side (uids side) (mark ∷ [])
    messages Far = refl
    messages Near = refl

    validity : (side : Side) → (store cleaned_found side).validity ≡ (store cleaned side).validity
    validity Far = refl
    validity Near = refl

cleaned_marks : AreCopyMarks cleaned (everything true) (mark ∷ [])
unfolding each_flag union minus taken recorded_after with_deleted content without_marks copy_text
cleaned_marks = record { count = refl; each = one IsMark mark refl }

pub cleaned_is_alike : CleanedIsAlike
cleaned_is_alike = record {
  opening = cleaned_is_opening;
  lists = cleaned_lists;
  maps = alike_without_waiting cleaned (everything true) (mark ∷ []) cleaned_found cleaned_is_opening refl cleaned_marks cleaned_lists;
}
