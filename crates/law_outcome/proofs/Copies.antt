-- Messages that stay and copies, as they are found.
use Rattle.std.proofs.Common.{append_assoc, ◌≡◌, ◌≢◌, ◌<◌, ◌≤◌, ◌+◌, ℕ, cond, List, [], ◌∷◌, ◌++◌, Option, Some, length, map, refl, sym, ap, ◌∙◌, arith, inl, inr}
use Rattle.std.specs.Prelude.{codes, All, AllPairs, filter, nat_le}
use Rattle.std.specs.List.{AllZip, flat_map}
use Rattle.std.proofs.lemmas.Bool.{lt-leb, le-leb, cases_order}
use Rattle.std.proofs.lemmas.Option.{same_Some}
use Rattle.std.proofs.lemmas.List.Elements.{All-head, All-tail}
use Rattle.mailcore.specs.declared.side.Side.{Side}
use Rattle.mailcore.specs.declared.mailbox.Message.{Message}
use Rattle.mailcore.specs.Mark.{IsMark}
use Rattle.mailcore.specs.Content.{line_end_bytes, line_bytes, content_lines, copy_text, mark_of}
use Rattle.mailcore.proofs.CopyLemmas.{copy_text-bytes, mark_of-copy_text}
use Rattle.rules.specs.Copies.{line_end, copy_of, copies_under}
use Rattle.rules.specs.Renaming.{IsRenaming}
use Rattle.rules.specs.Alike.{DifferInMark, IsFoundAs, marks_from}
use Rattle.rules.proofs.Walks.{AllPairs-map}
use Rattle.law_outcome.proofs.Maps.{mono, Follows}
use Rattle.law_outcome.proofs.Worlds.{sent}
use Rattle.law_outcome.proofs.InTurn.{copies}

-- ---- one by one

pub zip_append : {X Y : Type 0} (R : X → Y → Type 0) (xs us : List X) (ys vs : List Y) → AllZip R xs ys → AllZip R us vs → AllZip R (xs ++ us) (ys ++ vs)
zip_append R [] us [] vs h k = k
zip_append R [] us (y ∷ ys) vs h k = absurd h
zip_append R (x ∷ xs) us [] vs h k = absurd h
zip_append R (x ∷ xs) us (y ∷ ys) vs h k = (h.0, zip_append R xs us ys vs h.1 k)

-- old messages and waiting files
pub zip_stay : (t : ℕ → ℕ) (from : ℕ) (ms : List Message) → All (λ m. m.uid < from) ms → AllZip (IsFoundAs t from) ms (map (sent t) ms)
zip_stay t from [] below = tt
zip_stay t from (m ∷ ms) below =
    let l : m.uid < from = All-head (λ (x : Message). x.uid < from) m ms below in (
      record { uid = refl; flags = refl; old = λ k. refl; copy = λ k. absurd (omega arith) },
      zip_stay t from ms (All-tail (λ (x : Message). x.uid < from) m ms below),
    )

pub copy_is : (side : Side) (mark bytes : List ℕ) → IsMark mark →
    copy_text mark bytes (line_end side) ≡ (codes "X-TUID: " ++ mark) ++ (line_end_bytes (line_end side) ++ flat_map (line_bytes (line_end side)) (content_lines bytes))
copy_is side mark bytes is =
    copy_text-bytes mark bytes (line_end side) is
    ∙ append_assoc (codes "X-TUID: " ++ mark) (line_end_bytes (line_end side)) (flat_map (line_bytes (line_end side)) (content_lines bytes))

other_mark : (side : Side) (mark other bytes : List ℕ) → IsMark mark → IsMark other → DifferInMark (copy_text mark bytes (line_end side)) (copy_text other bytes (line_end side))
other_mark side mark other bytes is are = record {
  mark = mark;
  other = other;
  rest = line_end_bytes (line_end side) ++ flat_map (line_bytes (line_end side)) (content_lines bytes);
  is_mark = is;
  is_other = are;
  one = copy_is side mark bytes is;
  two = copy_is side other bytes are;
}

-- copies under the UIDs from k on, and under these UIDs
pub zip_copies : (side : Side) (t s : ℕ → ℕ) (from k : ℕ) (uids : List ℕ) (theirs marks : List (List ℕ)) (ms : List Message) → from ≤ k → Follows t k uids →
    length uids ≡ length ms → length theirs ≡ length ms → length marks ≡ length ms → All IsMark theirs → All IsMark marks →
    AllZip (IsFoundAs t from) (copies side k theirs ms) (copies_under side uids marks (map (sent s) ms))
zip_copies side t s from k [] [] marks [] le f l m n is are = tt
zip_copies side t s from k [] [] marks (x ∷ ms) le f l m n is are = absurd (omega arith)
zip_copies side t s from k [] (mark ∷ theirs) marks ms le f l m n is are = absurd (omega arith)
zip_copies side t s from k (u ∷ uids) theirs marks [] le f l m n is are = absurd (omega arith)
zip_copies side t s from k (u ∷ uids) [] marks (x ∷ ms) le f l m n is are = absurd (omega arith)
zip_copies side t s from k (u ∷ uids) (mark ∷ theirs) [] (x ∷ ms) le f l m n is are = absurd (omega arith)
zip_copies side t s from k (u ∷ uids) (mark ∷ theirs) (other ∷ marks) (x ∷ ms) le f l m n is are =
    let one : DifferInMark (copy_text mark x.bytes (line_end side)) (copy_text other x.bytes (line_end side)) =
    other_mark side mark other x.bytes (All-head IsMark mark theirs is) (All-head IsMark other marks are) in (
      record { uid = sym f.0; flags = refl; old = λ below. absurd (omega arith); copy = λ above. one },
      zip_copies side t s from (k + 1) uids theirs marks ms (omega arith) f.1 (omega arith) (omega arith) (omega arith) (All-tail IsMark mark theirs is) (All-tail IsMark other marks are),
    )

-- ---- marks that are found

-- messages below are skipped
pub marks_after : (from : ℕ) (ms more : List Message) → All (λ m. m.uid < from) ms → marks_from from (ms ++ more) ≡ marks_from from more
marks_after from [] more below = refl
marks_after from (m ∷ ms) more below =
    ap (λ b. map (λ (x : Message). mark_of x.bytes) (cond b (m ∷ filter (λ (x : Message). nat_le from x.uid) (ms ++ more)) (filter (λ (x : Message). nat_le from x.uid) (ms ++ more))))
    (lt-leb from m.uid (All-head (λ (x : Message). x.uid < from) m ms below))
    ∙ marks_after from ms more (All-tail (λ (x : Message). x.uid < from) m ms below)

not_under : (next : ℕ) (t : ℕ → ℕ) → IsRenaming next t → (a b : ℕ) → a ≤ b → t a ≤ t b
not_under next t h a b l = elim (cases_order a b) [
  | inl same ↦ let e : t a ≡ t b = ap t same in omega arith
  | inr differ ↦ let k = mono next t h a b (omega arith) in omega arith
]

pub marks_copied : (side : Side) (next : ℕ) (t : ℕ → ℕ) → IsRenaming next t → (from k : ℕ) (uids : List ℕ) (marks : List (List ℕ)) (ms : List Message) → from ≤ k → Follows t k uids →
    length uids ≡ length ms → length marks ≡ length ms → All IsMark marks → marks_from (t from) (copies_under side uids marks ms) ≡ map (λ mark. Some mark) marks
marks_copied side next t h from k [] [] ms le f l n are = refl
marks_copied side next t h from k [] (mark ∷ marks) ms le f l n are = absurd (omega arith)
marks_copied side next t h from k (u ∷ uids) marks [] le f l n are = absurd (omega arith)
marks_copied side next t h from k (u ∷ uids) [] (m ∷ ms) le f l n are = absurd (omega arith)
marks_copied side next t h from k (u ∷ uids) (mark ∷ marks) (m ∷ ms) le f l n are =
    let up : t from ≤ t k = not_under next t h from k le in
    let here : t k ≡ u = f.0 in
    ap (λ b. map (λ (x : Message). mark_of x.bytes) (cond b (copy_of side u m.flags mark m.bytes ∷ filter (λ (x : Message). nat_le (t from) x.uid) (copies_under side uids marks ms)) (filter (λ (x : Message). nat_le (t from) x.uid) (copies_under side uids marks ms))))
    (le-leb (t from) u (omega arith))
    ∙ ap (λ o. o ∷ marks_from (t from) (copies_under side uids marks ms)) (mark_of-copy_text mark m.bytes (line_end side) (All-head IsMark mark marks are))
    ∙ ap (λ os. Some mark ∷ os) (marks_copied side next t h from (k + 1) uids marks ms (omega arith) f.1 (omega arith) (omega arith) (All-tail IsMark mark marks are))

pub marks_apart : (marks : List (List ℕ)) → AllPairs (λ a b. a ≢ b) marks → AllPairs (λ a b. a ≢ b) (map (λ mark. Some mark) marks)
marks_apart marks h =
    AllPairs-map (λ (a b : Option (List ℕ)). a ≢ b) (λ mark. Some mark) marks
    (λ i j d l k e. h i j d l k (same_Some _ _ e))
