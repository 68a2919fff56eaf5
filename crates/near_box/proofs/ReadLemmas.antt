-- Messages are read one after another.
use Rattle.std.specs.Prelude.{filter}
use Rattle.std.proofs.Common.{◌≡◌, ℕ, zero, suc, ◌+◌, ◌<◌, ◌≤◌, Bool, true, false, ltb, leb, eqb, eq-eqb, ◌&&◌, List, [], ◌∷◌, ◌++◌, length, get_or, take, drop, map, add-one, Option, None, Some, All, refl, sym, ap, subst, ◌∙◌, ◌⊎◌, inl, inr, arith, cond, not}
use Rattle.std.specs.Prelude.{find}
use Rattle.std.specs.List.{list_all}
use Rattle.mailcore.specs.declared.keywords.Keyword.{Keyword}
use Rattle.mailcore.specs.declared.mailbox.Message.{Message}
use Rattle.std.proofs.lemmas.Bool.{true≢false}
use Rattle.std.proofs.lemmas.Bool.Decides.{nat_tests}
use Rattle.std.specs.Option.{option_map}
use Rattle.std.proofs.Math.Seq.{drop-cons}
use Rattle.std.proofs.lemmas.List.{drop_all, get_or_default, length-take, take_more, map-append, get_or-take}
use Rattle.std.proofs.lemmas.List.Elements.{All-map, All-head, All-tail}
use Rattle.std.proofs.lemmas.List.Sums.{list_all-from_AllPass}
use Rattle.mailcore.specs.Content.{mark_of}
use Rattle.mailcore.specs.declared.listing.Item.{Item}
use Rattle.device.specs.declared.DeviceFault.TheVariants.{NoMemory}
use Rattle.near_box.specs.declared.read_fault.ReadFault.{ReadFault}
use Rattle.near_box.specs.declared.read_fault.ReadFault.TheVariants.{Gone, Device}
use Rattle.near_box.specs.declared.survey.SurveyEntry.{SurveyEntry}
use Rattle.maildir.specs.Folders.{Stored, bytes_at}
use Rattle.maildir.specs.FlaggedNames.{flags_by_name}
use Rattle.mailcore.specs.Operations.{bytes_among, is_mark, marked_among}
use Rattle.near_box.specs.Entries.{AreRising, AreSpared, AreThere, AreThereUnless, IsThere, IsThereUnless, count_asked, bytes_in, message_at, item_at}

-- what is read of a file that stands in the folder
pub bytes_there : (s : Stored) (es : List SurveyEntry) (i : ℕ) (entry : SurveyEntry) → i < length es → entry ≡ get_or es i entry → AreThere es s
    → bytes_at entry.place entry.name s ≡ Some (bytes_in s entry)
bytes_there s es i entry below is there =
    subst (λ (e : SurveyEntry). bytes_at e.place e.name s ≡ Some (bytes_in s e)) (sym is) (there i entry below)

-- the same of a folder that is as it was
pub entry_there : (s t : Stored) (es : List SurveyEntry) (i : ℕ) (entry : SurveyEntry) → i < length es → entry ≡ get_or es i entry → AreThere es s → t ≡ s → IsThere t entry
entry_there s t es i entry below is there same = subst (λ (u : Stored). IsThere u entry) (sym same) (bytes_there s es i entry below is there)

-- and where some are spared
pub entry_there_unless : (spared : ℕ → Bool) (s t : Stored) (es : List SurveyEntry) (i : ℕ) (entry : SurveyEntry) → i < length es → entry ≡ get_or es i entry → AreThereUnless spared es s → t ≡ s
    → IsThereUnless spared t entry
entry_there_unless spared s t es i entry below is there same =
    subst (λ (u : Stored). IsThereUnless spared u entry) (sym same) (subst (λ (e : SurveyEntry). IsThereUnless spared s e) (sym is) (there i entry below))

-- those that are there are there whichever are spared
pub there_unless : (spared : ℕ → Bool) (s : Stored) (es : List SurveyEntry) → AreThere es s → AreThereUnless spared es s
there_unless spared s es there = λ i d below asked. there i d below

-- a message of a list of which all are spared is spared
pub one_spared : (spared : ℕ → Bool) (es : List SurveyEntry) (i : ℕ) (entry : SurveyEntry) → i < length es → entry ≡ get_or es i entry → AreSpared spared es → spared entry.uid ≡ true
one_spared spared es i entry below is all = subst (λ (e : SurveyEntry). spared e.uid ≡ true) (sym is) (all i entry below)

-- ---- how many are asked

count_after : (spared : ℕ → Bool) (xs : List SurveyEntry) (entry : SurveyEntry) → count_asked spared (xs ++ entry ∷ []) ≡ count_asked spared xs + count_asked spared (entry ∷ [])
count_after spared [] entry = omega arith
count_after spared (x ∷ xs) entry = by_test (not (spared x.uid)) (count_after spared xs entry)
  where
    by_test : (b : Bool) → count_asked spared (xs ++ entry ∷ []) ≡ count_asked spared xs + count_asked spared (entry ∷ [])
        → length (cond b (x ∷ filter (λ e. not (spared e.uid)) (xs ++ entry ∷ [])) (filter (λ e. not (spared e.uid)) (xs ++ entry ∷ [])))
        ≡ length (cond b (x ∷ filter (λ e. not (spared e.uid)) xs) (filter (λ e. not (spared e.uid)) xs)) + count_asked spared (entry ∷ [])
    by_test true more = omega (arith, more)
    by_test false more = more

pub count_more : (spared : ℕ → Bool) (es : List SurveyEntry) (i : ℕ) (entry : SurveyEntry) → i < length es → entry ≡ get_or es i entry
    → count_asked spared (take (i + 1) es) ≡ count_asked spared (take i es) + count_asked spared (entry ∷ [])
count_more spared es i entry below is =
    ap (λ (l : List SurveyEntry). count_asked spared l) (take_more es i entry below)
    ∙ count_after spared (take i es) (get_or es i entry)
    ∙ ap (λ (e : SurveyEntry). count_asked spared (take i es) + count_asked spared (e ∷ [])) (sym is)

pub count_step : (spared : ℕ → Bool) (before : ℕ) (es : List SurveyEntry) (i : ℕ) (entry : SurveyEntry) → i < length es → entry ≡ get_or es i entry
    → before + count_asked spared (take i es) + count_asked spared (entry ∷ []) ≡ before + count_asked spared (take (i + 1) es)
count_step spared before es i entry below is = omega (arith, count_more spared es i entry below is)

-- ---- a message by its UID

less_unequal : (m n : ℕ) → m < n → eqb m n ≡ false
less_unequal m n less = grind (arith, nat_tests)

unequal_test : (m n : ℕ) → (m ≡ n → ⊥) → eqb m n ≡ false
unequal_test m n other = grind (arith, nat_tests)

-- the one message with this UID
message_found : (keywords : List Keyword) (s : Stored) (uid : ℕ) (es : List SurveyEntry) (i : ℕ) (d : SurveyEntry) → i < length es → AreRising es → (get_or es i d).uid ≡ uid
    → find (λ m. eqb m.uid uid) (map (message_at keywords s) es) ≡ Some (message_at keywords s (get_or es i d))
message_found keywords s uid [] i d below rising is = absurd (omega arith)
message_found keywords s uid (e ∷ es) zero d below rising is = rw (eq-eqb e.uid uid is) refl
message_found keywords s uid (e ∷ es) (suc i) d below rising is =
    rw (less_unequal e.uid uid (subst (λ (n : ℕ). e.uid < n) is (rising 0 (suc i) d (omega arith) below)))
    (message_found keywords s uid es i d (omega arith) (λ j k d less below'. rising (suc j) (suc k) d (omega arith) (omega arith)) is)

pub bytes_found : (keywords : List Keyword) (s : Stored) (uid : ℕ) (es : List SurveyEntry) (i : ℕ) (entry : SurveyEntry) → i < length es → entry ≡ get_or es i entry → AreRising es → AreThere es s
    → entry.uid ≡ uid → bytes_at entry.place entry.name s ≡ bytes_among uid (map (message_at keywords s) es)
bytes_found keywords s uid es i entry below is rising there same =
    bytes_there s es i entry below is there
    ∙ ap (λ (e : SurveyEntry). Some (bytes_in s e)) is
    ∙ sym (ap (λ (o : Option Message). option_map (λ m. m.bytes) o) (message_found keywords s uid es i entry below rising (sym (ap (λ (e : SurveyEntry). e.uid) is) ∙ same)))

pub bytes_missing : (keywords : List Keyword) (s : Stored) (uid : ℕ) (es : List SurveyEntry) → All (λ e. e.uid ≡ uid → ⊥) es → None ≡ bytes_among uid (map (message_at keywords s) es)
bytes_missing keywords s uid [] other = refl
bytes_missing keywords s uid (e ∷ es) other =
    rw (unequal_test e.uid uid (All-head (λ e. e.uid ≡ uid → ⊥) e es other)) (bytes_missing keywords s uid es (All-tail (λ e. e.uid ≡ uid → ⊥) e es other))

-- ---- items

item_more : (keywords : List Keyword) (spared : ℕ → Bool) (s : Stored) (es : List SurveyEntry) (i : ℕ) (entry : SurveyEntry) → i < length es → entry ≡ get_or es i entry
    → map (item_at keywords spared s) (take i es) ++ item_at keywords spared s entry ∷ [] ≡ map (item_at keywords spared s) (take (i + 1) es)
item_more keywords spared s es i entry below is =
    ap (λ (e : SurveyEntry). map (item_at keywords spared s) (take i es) ++ item_at keywords spared s e ∷ []) is
    ∙ sym (map-append (item_at keywords spared s) (take i es) (get_or es i entry ∷ []))
    ∙ ap (λ (l : List SurveyEntry). map (item_at keywords spared s) l) (sym (take_more es i entry below))

below_test : (m n : ℕ) → m < n → ltb m n ≡ true
below_test m n less = grind (arith, nat_tests)

pub all_below : (keywords : List Keyword) (spared : ℕ → Bool) (s : Stored) (es : List SurveyEntry) (i : ℕ) (entry : SurveyEntry) → i < length es → entry ≡ get_or es i entry → AreRising es
    → list_all (λ x. ltb x.uid entry.uid) (map (item_at keywords spared s) (take i es)) ≡ true
all_below keywords spared s es i entry below is rising =
    list_all-from_AllPass (λ x. ltb x.uid entry.uid) (map (item_at keywords spared s) (take i es))
    (All-map (λ (x : Item). ltb x.uid entry.uid ≡ true) (item_at keywords spared s) (take i es)
    (λ k d less. earlier k d (omega (arith, length-take i es)) less))
  where
    earlier : (k : ℕ) (d : SurveyEntry) → k < i → k < length (take i es) → ltb (get_or (take i es) k d).uid entry.uid ≡ true
    earlier k d first less =
        rw (get_or-take i es k d first)
        (below_test (get_or es k d).uid entry.uid (subst (λ (e : SurveyEntry). (get_or es k d).uid < e.uid) (get_or_default es i d entry below ∙ sym is) (rising k i d first below)))

-- what is read makes the item
pub item_read : (keywords : List Keyword) (spared : ℕ → Bool) (s : Stored) (entry : SurveyEntry) (flags : ℕ) (is_fit : Bool) → flags ≡ flags_by_name keywords entry.name → is_fit ≡ (item_at keywords spared s entry).fit
    → (let item : Item = record { uid = entry.uid; flags = flags; fit = is_fit } in item) ≡ item_at keywords spared s entry
item_read keywords spared s entry flags is_fit same_flags same_fit = rw (same_flags, same_fit) refl

-- a pushed item follows those of the entries before, since their UIDs rise
pub item_pushed : (keywords : List Keyword) (spared : ℕ → Bool) (s : Stored) (es : List SurveyEntry) (i : ℕ) (entry : SurveyEntry) (before after : List Item) (item : Item)
    → i < length es → entry ≡ get_or es i entry → before ≡ map (item_at keywords spared s) (take i es) → item ≡ item_at keywords spared s entry
    → after ≡ before ++ item ∷ [] → after ≡ map (item_at keywords spared s) (take (i + 1) es)
item_pushed keywords spared s es i entry before after item below is so_far same pushed =
    pushed ∙ ap (λ (l : List Item). l ++ item ∷ []) so_far ∙ ap (λ (x : Item). map (item_at keywords spared s) (take i es) ++ x ∷ []) same ∙ item_more keywords spared s es i entry below is

-- it may stand there
pub item_in_order : (keywords : List Keyword) (spared : ℕ → Bool) (s : Stored) (es : List SurveyEntry) (i : ℕ) (entry : SurveyEntry) (before : List Item) (uid : ℕ)
    → i < length es → entry ≡ get_or es i entry → AreRising es → before ≡ map (item_at keywords spared s) (take i es) → uid ≡ entry.uid → list_all (λ x. ltb x.uid uid) before ≡ true
item_in_order keywords spared s es i entry before uid below is rising so_far same =
    ap (λ (u : ℕ). list_all (λ x. ltb x.uid u) before) same
    ∙ ap (λ (l : List Item). list_all (λ x. ltb x.uid entry.uid) l) so_far
    ∙ all_below keywords spared s es i entry below is rising

-- so nothing is taken for gone
pub not_gone : (fault : ReadFault) (b : Bool) → b ≡ true → (fault ≡ Device NoMemory) ⊎ ((fault ≡ Gone) × (b ≡ false)) → fault ≡ Gone → ⊥
not_gone fault b holds (inl memory) gone = cc
not_gone fault b holds (inr (_, fails)) gone = true≢false (sym holds ∙ fails)

-- ---- marks

marked_first : (keywords : List Keyword) (mark : List ℕ) (from : ℕ) (s : Stored) (es : List SurveyEntry) (i : ℕ) (entry : SurveyEntry) → i < length es → entry ≡ get_or es i entry
    → marked_among mark from (map (message_at keywords s) (drop i es)) ≡ marked_among mark from (message_at keywords s entry ∷ map (message_at keywords s) (drop (i + 1) es))
marked_first keywords mark from s es i entry below is =
    ap (λ (l : List SurveyEntry). marked_among mark from (map (message_at keywords s) l))
    (drop-cons es i entry below ∙ ap (λ (e : SurveyEntry). e ∷ drop (suc i) es) (sym is) ∙ ap (λ (n : ℕ). entry ∷ drop n es) (sym (add-one i)))

-- one that is skipped
pub marked_passed : (keywords : List Keyword) (mark : List ℕ) (from : ℕ) (s : Stored) (es : List SurveyEntry) (i : ℕ) (entry : SurveyEntry) → i < length es → entry ≡ get_or es i entry
    → (leb from entry.uid && is_mark (mark_of (bytes_in s entry)) mark) ≡ false
    → marked_among mark from (map (message_at keywords s) (drop (i + 1) es)) ≡ marked_among mark from (map (message_at keywords s) (drop i es))
marked_passed keywords mark from s es i entry below is other = sym (marked_first keywords mark from s es i entry below is ∙ rw other refl)

reached_test : (m n : ℕ) → m ≤ n → leb m n ≡ true
reached_test m n up = grind (arith, nat_tests)

-- one that is sought
pub marked_here : (keywords : List Keyword) (mark : List ℕ) (from : ℕ) (s : Stored) (es : List SurveyEntry) (i : ℕ) (entry : SurveyEntry) → i < length es → entry ≡ get_or es i entry
    → from ≤ entry.uid → is_mark (mark_of (bytes_in s entry)) mark ≡ true → Some entry.uid ≡ marked_among mark from (map (message_at keywords s) (drop i es))
marked_here keywords mark from s es i entry below is up holds = sym (marked_first keywords mark from s es i entry below is ∙ rw (reached_test from entry.uid up, holds) refl)

-- none is left
pub marked_nowhere : (keywords : List Keyword) (mark : List ℕ) (from : ℕ) (s : Stored) (es : List SurveyEntry) (i : ℕ) → length es ≤ i → None ≡ marked_among mark from (map (message_at keywords s) (drop i es))
marked_nowhere keywords mark from s es i past = sym (ap (λ (l : List SurveyEntry). marked_among mark from (map (message_at keywords s) l)) (drop_all i es past))

pub and_right : (a b : Bool) → b ≡ false → (a && b) ≡ false
and_right true b e = e
and_right false b e = refl

pub and_left : (a b : Bool) → a ≡ false → (a && b) ≡ false
and_left true b e = absurd (true≢false e)
and_left false b e = refl

pub above_test : (m n : ℕ) → n < m → leb m n ≡ false
above_test m n less = grind (arith, nat_tests)
