-- A search for a mark goes on after the messages that were passed.
use Rattle.std.proofs.Common.{◌≡◌, ℕ, zero, suc, ◌+◌, ◌-◌, ◌<◌, ◌≤◌, true, false, ltb, leb, ◌&&◌, List, [], ◌∷◌, length, get_or, take, drop, map, All, Option, None, Some, inl, inr, refl, sym, ap, subst, ◌∙◌, arith}
use Rattle.std.specs.List.Sorted.{IsNonDecreasingBy, IsPartitionPoint}
use Rattle.std.proofs.lemmas.Bool.{cases_lt}
use Rattle.std.proofs.lemmas.Bool.Decides.{nat_tests}
use Rattle.std.proofs.lemmas.List.{get_or-drop, get_or-map, get_or_default, length-drop, length-map, take_rest}
use Rattle.mailcore.specs.declared.keywords.Keyword.{Keyword}
use Rattle.mailcore.specs.declared.mailbox.Message.{Message}
use Rattle.mailcore.specs.Content.{mark_of}
use Rattle.mailcore.specs.Operations.{is_mark, marked_among}
use Rattle.maildir.specs.Folders.{Stored}
use Rattle.near_box.specs.declared.known_mark.KnownMarks.{KnownMarks}
use Rattle.mailcore.specs.declared.passed_marks.PassedMarks.{PassedMarks}
use Rattle.near_box.specs.declared.survey.SurveyEntry.{SurveyEntry}
use Rattle.near_box.specs.Entries.{AreRising, AreThere, IsThere, bytes_in, message_at}
use Rattle.near_box.specs.KnownMarks.{AreKnown, AreMarksAmong, AreMarksOfFile, IsMarkAmong, mark_at}
use Rattle.mailcore.specs.Passed.{ArePassed}
use Rattle.near_box.proofs.KnownMarkLemmas.{known_of_file, mark_of_file, only_entry}
use Rattle.near_box.proofs.ReadLemmas.{above_test, and_left, and_right, entry_there, marked_here, marked_nowhere, marked_passed}

-- ---- the entries that are left

size_of_rest : (es : List SurveyEntry) (first : ℕ) → length (take (length es - first) (drop first es)) ≡ length es - first
size_of_rest es first = ap length (take_rest es first) ∙ length-drop first es

pub place_of_rest : (es : List SurveyEntry) (first i : ℕ) → i < length (take (length es - first) (drop first es)) → first + i < length es
place_of_rest es first i within = let size = size_of_rest es first in omega (arith, size, within)

pub end_of_rest : (es : List SurveyEntry) (first i : ℕ) → length (take (length es - first) (drop first es)) ≤ i → length es ≤ first + i
end_of_rest es first i past = let size = size_of_rest es first in omega (arith, size, past)

pub entry_of_rest : (es : List SurveyEntry) (first i : ℕ) (entry : SurveyEntry) → entry ≡ get_or (take (length es - first) (drop first es)) i entry → entry ≡ get_or es (first + i) entry
entry_of_rest es first i entry is = is ∙ ap (λ (l : List SurveyEntry). get_or l i entry) (take_rest es first) ∙ get_or-drop first es i entry

-- ---- how far a search is

-- none of the entries before this one has the mark, and the messages of those that it may have are passed
pub record IsAt (keywords : List Keyword) (s : Stored) (es : List SurveyEntry) (mark : List ℕ) (from next k : ℕ) (known : KnownMarks) : Type 0 where
  pub are_known : AreKnown next (map (message_at keywords s) es) known
  pub reached : from ≤ known.passed.below
  pub before : (j : ℕ) (d : SurveyEntry) → j < k → (get_or es j d).uid < known.passed.below
  pub following : (j : ℕ) (d : SurveyEntry) → k ≤ j → j < length es → known.passed.below ≤ (get_or es j d).uid
  pub none_before : marked_among mark from (map (message_at keywords s) (drop k es)) ≡ marked_among mark from (map (message_at keywords s) es)

-- what does not have the mark in front is skipped
none_in_front : (keywords : List Keyword) (mark : List ℕ) (from : ℕ) (s : Stored) (es : List SurveyEntry) (k : ℕ) → k ≤ length es
    → ((j : ℕ) (d : SurveyEntry) → j < k → (leb from (get_or es j d).uid && is_mark (mark_of (bytes_in s (get_or es j d))) mark) ≡ false)
    → marked_among mark from (map (message_at keywords s) (drop k es)) ≡ marked_among mark from (map (message_at keywords s) es)
none_in_front keywords mark from s es zero within fail = refl
none_in_front keywords mark from s [] (suc k) within fail = refl
none_in_front keywords mark from s (e ∷ es) (suc k) within fail =
    let first : (leb from e.uid && is_mark (mark_of (bytes_in s e)) mark) ≡ false = fail 0 e (omega arith) in
    none_in_front keywords mark from s es k (omega (arith, within)) (λ j d less. fail (suc j) d (omega (arith, less))) ∙ sym (rw first refl)

below_is : (m n : ℕ) → ltb m n ≡ true → m < n
below_is m n less = grind (arith, nat_tests)

above_is : (m n : ℕ) → ltb m n ≡ false → n ≤ m
above_is m n least = grind (arith, nat_tests)

search_begins_at : (keywords : List Keyword) (s : Stored) (es : List SurveyEntry) (mark : List ℕ) (from next first : ℕ) (known : KnownMarks) (passed : PassedMarks) → first ≤ length es
    → AreKnown next (map (message_at keywords s) es) known → ArePassed next (map (message_at keywords s) es) passed → from ≤ passed.below
    → All (λ m. from ≤ m.uid → m.uid < passed.below → is_mark (mark_of m.bytes) mark ≡ false) (map (message_at keywords s) es)
    → IsPartitionPoint (λ (e : SurveyEntry). ltb e.uid passed.below ≡ true) (λ (e : SurveyEntry). ltb e.uid passed.below ≡ false) es first
    → IsAt keywords s es mark from next first (record { by_uid = known.by_uid; passed = passed })
search_begins_at keywords s es mark from next first known passed within are goes reached other parts = record {
  are_known = record { each = are.each; passed = goes };
  reached = reached;
  before = λ j d less. below_is (get_or es j d).uid passed.below (parts.0 j d (omega arith) less);
  following = λ j d least within. above_is (get_or es j d).uid passed.below (parts.1 j d least within);
  none_before = none_in_front keywords mark from s es first within (λ j d less. elim (cases_lt (get_or es j d).uid from) [
    | inl low ↦ and_left _ _ (above_test from (get_or es j d).uid low)
    | inr high ↦ and_right (leb from (get_or es j d).uid) _ (has_not j d less high)
  ]);
}
  where
    has_not : (j : ℕ) (d : SurveyEntry) → j < first → from ≤ (get_or es j d).uid → is_mark (mark_of (bytes_in s (get_or es j d))) mark ≡ false
    has_not j d less high =
        let here : j < length es = omega (arith, less, within) in
        let m : Message = message_at keywords s (get_or es j d) in
        let same : get_or (map (message_at keywords s) es) j m ≡ m = get_or-map (message_at keywords s) es j d m here in
        let below : m.uid < passed.below = below_is (get_or es j d).uid passed.below (parts.0 j d (omega arith) less) in
        let there : j < length (map (message_at keywords s) es) = subst (λ (n : ℕ). j < n) (sym (length-map es (message_at keywords s))) here in
        subst (λ (x : Message). from ≤ x.uid → x.uid < passed.below → is_mark (mark_of x.bytes) mark ≡ false) same (other j m there) high below

pub search_begins : (keywords : List Keyword) (s : Stored) (es : List SurveyEntry) (mark : List ℕ) (from next first k : ℕ) (known : KnownMarks) (passed : PassedMarks) → k ≡ first → first ≤ length es → AreRising es
    → AreKnown next (map (message_at keywords s) es) known → ArePassed next (map (message_at keywords s) es) passed → from ≤ passed.below
    → All (λ m. from ≤ m.uid → m.uid < passed.below → is_mark (mark_of m.bytes) mark ≡ false) (map (message_at keywords s) es)
    → (IsNonDecreasingBy (λ (e : SurveyEntry). e.uid) es → IsPartitionPoint (λ (e : SurveyEntry). ltb e.uid passed.below ≡ true) (λ (e : SurveyEntry). ltb e.uid passed.below ≡ false) es first)
    → IsAt keywords s es mark from next k (record { by_uid = known.by_uid; passed = passed })
search_begins keywords s es mark from next first k known passed same within rising are goes reached other parts =
    subst (λ (n : ℕ). IsAt keywords s es mark from next n (record { by_uid = known.by_uid; passed = passed })) (sym same)
    (search_begins_at keywords s es mark from next first known passed within are goes reached other (parts not_falling))
  where
    not_falling : IsNonDecreasingBy (λ (e : SurveyEntry). e.uid) es
    not_falling i j d order here = elim (cases_lt i j) [
      | inl less ↦ let above = rising i j d less here in omega (arith, above)
      | inr least ↦ let alike : (get_or es i d).uid ≡ (get_or es j d).uid = ap (λ (n : ℕ). (get_or es n d).uid) (let one : i ≡ j = omega (arith, order, least) in one) in omega (arith, alike)
    ]

-- the message of the next entry is the one that is passed next
next_passed : (keywords : List Keyword) (s : Stored) (es : List SurveyEntry) (mark : List ℕ) (from next k : ℕ) (known : KnownMarks) (entry : SurveyEntry) (found : Option (List ℕ)) → IsAt keywords s es mark from next k known
    → k < length es → entry ≡ get_or es k entry → AreRising es → found ≡ mark_of (bytes_in s entry)
    → All (λ m. known.passed.below ≤ m.uid → m.uid ≤ entry.uid → mark_of m.bytes ≡ found) (map (message_at keywords s) es)
next_passed keywords s es mark from next k known entry found at here is rising same = only_entry keywords s es k entry known.passed.below found here is rising at.before same

-- what its file says of it is known then
pub next_known : (keywords : List Keyword) (s t : Stored) (es : List SurveyEntry) (mark : List ℕ) (from next k : ℕ) (known now : KnownMarks) (entry : SurveyEntry) (found : Option (List ℕ)) → IsAt keywords s es mark from next k known
    → k < length es → entry ≡ get_or es k entry → AreRising es → AreThere es s → All (λ e. e.uid < next) es → t ≡ s
    → (IsThere t entry → AreMarksOfFile t entry known.by_uid.items → found ≡ mark_of (bytes_in t entry))
    → (IsThere t entry → (n : ℕ) (messages : List Message) → IsMarkAmong n messages (mark_at t entry) → AreMarksAmong n messages known.by_uid.items → AreMarksAmong n messages now.by_uid.items)
    → ((n : ℕ) (messages : List Message) → entry.uid < n → ArePassed n messages known.passed
    → All (λ m. known.passed.below ≤ m.uid → m.uid ≤ entry.uid → mark_of m.bytes ≡ found) messages → ArePassed n messages now.passed)
    → (found ≡ mark_of (bytes_in s entry)) × AreKnown next (map (message_at keywords s) es) now
next_known keywords s t es mark from next k known now entry found at here is rising there within same read keeps passes =
    let here_t : IsThere t entry = entry_there s t es k entry here is there same in
    let messages : List Message = map (message_at keywords s) es in
    let of_file : AreMarksOfFile t entry known.by_uid.items = subst (λ (u : Stored). AreMarksOfFile u entry known.by_uid.items) (sym same) (known_of_file keywords s es k entry next known.by_uid.items here is at.are_known.each) in
    let own : IsMarkAmong next messages (mark_at t entry) = subst (λ (u : Stored). IsMarkAmong next messages (mark_at u entry)) (sym same) (mark_of_file keywords s es k entry next here is rising within) in
    let is_so : found ≡ mark_of (bytes_in s entry) = read here_t of_file ∙ ap (λ (u : Stored). mark_of (bytes_in u entry)) same in (
      is_so,
      record {
        each = keeps here_t next messages own at.are_known.each;
        passed = passes next messages (subst (λ (e : SurveyEntry). e.uid < next) (sym is) (within k entry here)) at.are_known.passed
            (next_passed keywords s es mark from next k known entry found at here is rising is_so);
      },
    )

-- it does not have the mark
pub search_goes_on : (keywords : List Keyword) (s : Stored) (es : List SurveyEntry) (mark : List ℕ) (from next k k' : ℕ) (known now : KnownMarks) (entry : SurveyEntry) (found : Option (List ℕ)) → IsAt keywords s es mark from next k known → k' ≡ k + 1
    → k < length es → entry ≡ get_or es k entry → AreRising es → found ≡ mark_of (bytes_in s entry) → is_mark found mark ≡ false
    → AreKnown next (map (message_at keywords s) es) now → now.passed.below ≡ entry.uid + 1 → IsAt keywords s es mark from next k' now
search_goes_on keywords s es mark from next k k' known now entry found at step here is rising same other are range = record {
  are_known = are;
  reached = let up = at.following k entry (omega arith) here in let own = own_uid in omega (arith, up, own, range, at.reached);
  before = λ j d less. elim (cases_lt j k) [
    | inl before ↦ let low = at.before j d before in let up = at.following k entry (omega arith) here in let own = own_uid in omega (arith, low, up, own, range)
    | inr least ↦ let at_it : (get_or es j d).uid ≡ entry.uid = ap (λ (n : ℕ). (get_or es n d).uid) (let alike : j ≡ k = omega (arith, least, less, step) in alike) ∙ ap (λ (e : SurveyEntry). e.uid) (get_or_default es k d entry here ∙ sym is) in
        omega (arith, at_it, range)
  ];
  following = λ j d least within.
      let above = rising k j d (omega (arith, least, step)) within in
      let at_it : (get_or es k d).uid ≡ entry.uid = ap (λ (e : SurveyEntry). e.uid) (get_or_default es k d entry here ∙ sym is) in
      omega (arith, above, at_it, range);
  none_before =
      ap (λ (n : ℕ). marked_among mark from (map (message_at keywords s) (drop n es))) step
      ∙ marked_passed keywords mark from s es k entry here is (and_right (leb from entry.uid) _ (ap (λ o. is_mark o mark) (sym same) ∙ other)) ∙ at.none_before;
}
  where
    own_uid : (get_or es k entry).uid ≡ entry.uid
    own_uid = ap (λ (e : SurveyEntry). e.uid) (sym is)

-- it has the mark
pub search_finds : (keywords : List Keyword) (s : Stored) (es : List SurveyEntry) (mark : List ℕ) (from next k : ℕ) (known : KnownMarks) (entry : SurveyEntry) (found : Option (List ℕ)) → IsAt keywords s es mark from next k known
    → k < length es → entry ≡ get_or es k entry → found ≡ mark_of (bytes_in s entry) → is_mark found mark ≡ true
    → Some entry.uid ≡ marked_among mark from (map (message_at keywords s) es)
search_finds keywords s es mark from next k known entry found at here is same has =
    let up = at.following k entry (omega arith) here in
    let own : (get_or es k entry).uid ≡ entry.uid = ap (λ (e : SurveyEntry). e.uid) (sym is) in
    marked_here keywords mark from s es k entry here is (omega (arith, up, own, at.reached)) (ap (λ o. is_mark o mark) (sym same) ∙ has) ∙ at.none_before

-- no entry is left
pub search_ends : (keywords : List Keyword) (s : Stored) (es : List SurveyEntry) (mark : List ℕ) (from next k : ℕ) (known : KnownMarks) → IsAt keywords s es mark from next k known → length es ≤ k
    → None ≡ marked_among mark from (map (message_at keywords s) es)
search_ends keywords s es mark from next k known at past = marked_nowhere keywords mark from s es k past ∙ at.none_before
