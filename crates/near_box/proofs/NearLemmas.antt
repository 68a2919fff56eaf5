-- What a survey says of the mailbox that stands in the folder.
use Rattle.std.specs.Prelude.{filter}
use Rattle.std.proofs.Common.{◌≡◌, ◌<◌, ℕ, suc, get_or, Bool, true, false, ltb, List, [], ◌∷◌, map, Option, None, Some, All, refl, sym, ap, subst, ◌∙◌, arith, length, cond, not}
use Rattle.std.specs.Prelude.{find, unwrap_or, Result, Ok, Err, IfOk}
use Rattle.std.specs.List.{filter_map, cons_option}
use Rattle.std.specs.Option.{option_map}
use Rattle.std.proofs.lemmas.List.Elements.{All-nil, All-cons, All-head, All-tail, All-weaker}
use Rattle.std.proofs.lemmas.List.Sorted.{All-permutation}
use Rattle.mailcore.specs.declared.keywords.Keyword.{Keyword}
use Rattle.mailcore.specs.declared.mailbox.Message.{Message}
use Rattle.mailcore.specs.declared.listing.Item.{Item}
use Rattle.mailcore.specs.declared.side.Side.TheVariants.{Near as NearSide}
use Rattle.mailcore.specs.Listed.{item_of}
use Rattle.mailcore.specs.declared.listing.Listing.{Listing}
use Rattle.near_box.specs.declared.near_fault.NearFault.{NearFault}
use Rattle.maildir.specs.declared.folder.File.{File}
use Rattle.maildir.specs.declared.meta.Meta.{Meta}
use Rattle.near_box.specs.declared.survey.SurveyEntry.{SurveyEntry}
use Rattle.near_box.specs.declared.survey.Survey.{Survey}
use Rattle.maildir.specs.Folders.{Stored, AreApart, is_at, bytes_at, name_of_file}
use Rattle.maildir.specs.Names.{uid_in}
use Rattle.maildir.specs.FlaggedNames.{flags_by_name}
use Rattle.near_box.specs.Mailboxes.{message_of, messages_in, by_uid, near_of, first_meta}
use Rattle.mailcore.specs.Operations.{Shows, ShowsSparing, bytes_among, bytes_of, item_sparing, marked_among, marked_from}
use Rattle.near_box.specs.Surveys.{Surveys, entry_of}
use Rattle.near_box.specs.declared.known_mark.KnownMarks.{KnownMarks}
use Rattle.near_box.specs.KnownMarks.{AreKnown, AreMarksOf}
use Rattle.near_box.specs.Entries.{bytes_in, message_at, item_at, asked, count_asked, AreSpared, AreThere, AreThereUnless, AreRising}
use Rattle.near_box.specs.Sorting.{sorted}
use Rattle.maildir.proofs.FileLemmas.{at_itself, at_true}
use Rattle.near_box.proofs.ReadLemmas.{there_unless}
use Rattle.near_box.proofs.SortingLemmas.{sorted_map, sorted_permutes}

-- ---- a file is found where it stands

other_place : (x z : File) → (name_of_file x ≡ name_of_file z → ⊥) → is_at z.place z.name x ≡ false
other_place x z apart = by_test (is_at z.place z.name x) refl
  where
    by_test : (b : Bool) → is_at z.place z.name x ≡ b → b ≡ false
    by_test true e = absurd (apart (at_true (name_of_file z) x e))
    by_test false e = refl

pub found_itself : (files : List File) → AreApart files → All (λ z. find (is_at z.place z.name) files ≡ Some z) files
found_itself [] apart = All-nil (λ z. find (is_at z.place z.name) [] ≡ Some z)
found_itself (x ∷ xs) apart =
    let others = found_itself xs (λ i j d less below. apart (suc i) (suc j) d (omega arith) (omega arith)) in
    All-cons (λ z. find (is_at z.place z.name) (x ∷ xs) ≡ Some z) x xs (rw (at_itself x) refl)
    (λ k d below. rw (other_place x (get_or xs k d) (apart 0 (suc k) d (omega arith) (omega arith))) (others k d below))

-- a file's bytes are the ones at its place under its name
abbrev pub IsThere : Stored → File → Type 0
IsThere s file = bytes_at file.place file.name s ≡ Some file.bytes

pub files_are_there : (s : Stored) → AreApart s.files → All (IsThere s) s.files
files_are_there s apart =
    All-weaker (λ z. find (is_at z.place z.name) s.files ≡ Some z) (IsThere s) (λ z found. ap (λ o. option_map (λ file. file.bytes) o) found) s.files (found_itself s.files apart)

-- ---- messages

message_of_entry : (keywords : List Keyword) (s : Stored) (file : File) → IsThere s file → message_of keywords file ≡ option_map (message_at keywords s) (entry_of file)
message_of_entry keywords s file there = by_uid_of (uid_in file.name)
  where
    by_uid_of : (uid : Option ℕ) → option_map (λ uid. let m : Message = record { uid = uid; flags = flags_by_name keywords file.name; bytes = file.bytes } in m) uid
        ≡ option_map (message_at keywords s) (option_map (λ uid. let e : SurveyEntry = record { uid = uid; place = file.place; name = file.name } in e) uid)
    by_uid_of None = refl
    by_uid_of (Some uid) = rw there refl

messages_of_entries : (keywords : List Keyword) (s : Stored) (files : List File) → All (IsThere s) files → messages_in keywords files ≡ map (message_at keywords s) (filter_map entry_of files)
messages_of_entries keywords s [] there = refl
messages_of_entries keywords s (file ∷ files) there =
    rw (message_of_entry keywords s file (All-head (IsThere s) file files there))
    (by_entry (entry_of file) (messages_of_entries keywords s files (All-tail (IsThere s) file files there)))
  where
    by_entry : (e : Option SurveyEntry) → messages_in keywords files ≡ map (message_at keywords s) (filter_map entry_of files)
        → cons_option (option_map (message_at keywords s) e) (messages_in keywords files) ≡ map (message_at keywords s) (cons_option e (filter_map entry_of files))
    by_entry None more = more
    by_entry (Some entry) more = ap (λ (l : List Message). message_at keywords s entry ∷ l) more

pub near_messages : (survey : Survey) (fresh : ℕ) (keywords : List Keyword) (s : Stored) → Surveys survey fresh keywords s
    → (near_of fresh keywords s).store.messages ≡ map (message_at keywords s) survey.entries.items
near_messages survey fresh keywords s surveys =
    ap by_uid (messages_of_entries keywords s s.files (files_are_there s surveys.apart))
    ∙ sorted_map (λ e. e.uid) (λ m. m.uid) (message_at keywords s) (λ e. refl) (filter_map entry_of s.files)
    ∙ ap (λ (l : List SurveyEntry). map (message_at keywords s) l) (sym surveys.entries)

entries_there : (s : Stored) (files : List File) → All (IsThere s) files → AreThere (filter_map entry_of files) s
entries_there s [] there = All-nil (λ e. bytes_at e.place e.name s ≡ Some (bytes_in s e))
entries_there s (file ∷ files) there =
    by_uid_of (uid_in file.name) (All-head (IsThere s) file files there) (entries_there s files (All-tail (IsThere s) file files there))
  where
    by_uid_of : (uid : Option ℕ) → IsThere s file → AreThere (filter_map entry_of files) s
        → AreThere (cons_option (option_map (λ uid. let e : SurveyEntry = record { uid = uid; place = file.place; name = file.name } in e) uid) (filter_map entry_of files)) s
    by_uid_of None here more = more
    by_uid_of (Some uid) here more =
        let entry : SurveyEntry = record { uid = uid; place = file.place; name = file.name } in
        All-cons (λ e. bytes_at e.place e.name s ≡ Some (bytes_in s e)) entry (filter_map entry_of files) (rw here refl) more

-- the file of each entry stands in the folder
pub near_files : (survey : Survey) (fresh : ℕ) (keywords : List Keyword) (s : Stored) → Surveys survey fresh keywords s → AreThere survey.entries.items s
near_files survey fresh keywords s surveys =
    let es = filter_map entry_of s.files in
    subst (λ (l : List SurveyEntry). AreThere l s) (sym surveys.entries)
    (All-permutation (λ e. bytes_at e.place e.name s ≡ Some (bytes_in s e)) es (sorted (λ a b. ltb a.uid b.uid) es)
    (sorted_permutes (λ a b. ltb a.uid b.uid) es) (entries_there s s.files (files_are_there s surveys.apart)))

-- ---- the meta file

pub near_validity : (survey : Survey) (fresh : ℕ) (keywords : List Keyword) (s : Stored) → Surveys survey fresh keywords s → (near_of fresh keywords s).store.validity ≡ survey.meta.validity
near_validity survey fresh keywords s surveys = ap (λ (o : Option Meta). (unwrap_or o (first_meta fresh)).validity) surveys.meta

pub near_next : (survey : Survey) (fresh : ℕ) (keywords : List Keyword) (s : Stored) → Surveys survey fresh keywords s → (near_of fresh keywords s).store.next ≡ survey.meta.next
near_next survey fresh keywords s surveys = ap (λ (o : Option Meta). (unwrap_or o (first_meta fresh)).next) surveys.meta

-- ---- what calls answer, stated of the mailbox

-- the survey, its entries and what is stored, as a call has them at hand
pub record AtHand (survey : Survey) (fresh : ℕ) (keywords : List Keyword) (s : Stored) (es : List SurveyEntry) (t : Stored) : Type 0 where
  pub rising : AreRising es
  pub there : AreThere es t
  pub messages : map (message_at keywords t) es ≡ (near_of fresh keywords s).store.messages

pub at_hand : (survey now : Survey) (fresh : ℕ) (keywords : List Keyword) (s t : Stored) (es : List SurveyEntry) → Surveys survey fresh keywords s → now ≡ survey → es ≡ now.entries.items → t ≡ s
    → AtHand survey fresh keywords s es t
at_hand survey now fresh keywords s t es surveys same is unchanged =
    let entries : es ≡ survey.entries.items = is ∙ ap (λ (v : Survey). v.entries.items) same in
    record {
      rising = subst AreRising (sym entries) surveys.rising;
      there = subst (λ (l : List SurveyEntry). AreThere l t) (sym entries) (subst (AreThere survey.entries.items) (sym unchanged) (near_files survey fresh keywords s surveys));
      messages = ap (λ (u : Stored). map (message_at keywords u) es) unchanged ∙ ap (λ (l : List SurveyEntry). map (message_at keywords s) l) entries ∙ sym (near_messages survey fresh keywords s surveys);
    }

items_of_messages : (keywords : List Keyword) (spared : ℕ → Bool) (t : Stored) (es : List SurveyEntry) → map (item_at keywords spared t) es ≡ map (item_sparing NearSide spared) (map (message_at keywords t) es)
items_of_messages keywords spared t [] = refl
items_of_messages keywords spared t (e ∷ es) = ap (λ (l : List Item). item_at keywords spared t e ∷ l) (items_of_messages keywords spared t es)

pub near_shown : (spared : ℕ → Bool) (survey now : Survey) (fresh : ℕ) (keywords : List Keyword) (s t : Stored) (es : List SurveyEntry) (items : List Item) → Surveys survey fresh keywords s → now ≡ survey → es ≡ now.entries.items → t ≡ s
    → (AreRising es → AreThereUnless spared es t → items ≡ map (item_at keywords spared t) es)
    → (items ≡ map (item_sparing NearSide spared) (near_of fresh keywords s).store.messages) × (now.meta.validity ≡ (near_of fresh keywords s).store.validity) × (now.meta.next ≡ (near_of fresh keywords s).store.next)
near_shown spared survey now fresh keywords s t es items surveys same is unchanged shown =
    let hand = at_hand survey now fresh keywords s t es surveys same is unchanged in (
      shown hand.rising (there_unless spared t es hand.there) ∙ items_of_messages keywords spared t es ∙ ap (λ (l : List Message). map (item_sparing NearSide spared) l) hand.messages,
      ap (λ (v : Survey). v.meta.validity) same ∙ sym (near_validity survey fresh keywords s surveys),
      ap (λ (v : Survey). v.meta.next) same ∙ sym (near_next survey fresh keywords s surveys),
    )

-- the messages of entries are asked where these are
asked_entries : (keywords : List Keyword) (spared : ℕ → Bool) (t : Stored) (es : List SurveyEntry) → length (asked spared (map (message_at keywords t) es)) ≡ count_asked spared es
asked_entries keywords spared t [] = refl
asked_entries keywords spared t (e ∷ es) = by_test (not (spared e.uid)) (asked_entries keywords spared t es)
  where
    by_test : (b : Bool) → length (asked spared (map (message_at keywords t) es)) ≡ count_asked spared es
        → length (cond b (message_at keywords t e ∷ asked spared (map (message_at keywords t) es)) (asked spared (map (message_at keywords t) es)))
        ≡ length (cond b (e ∷ filter (λ e. not (spared e.uid)) es) (filter (λ e. not (spared e.uid)) es))
    by_test true more = ap suc more
    by_test false more = more

pub near_asked : (spared : ℕ → Bool) (survey now : Survey) (fresh : ℕ) (keywords : List Keyword) (s : Stored) (es : List SurveyEntry) → Surveys survey fresh keywords s → now ≡ survey → es ≡ now.entries.items
    → count_asked spared es ≡ length (asked spared (near_of fresh keywords s).store.messages)
near_asked spared survey now fresh keywords s es surveys same is =
    ap (λ (l : List SurveyEntry). count_asked spared l) (is ∙ ap (λ (v : Survey). v.entries.items) same)
    ∙ sym (asked_entries keywords spared s survey.entries.items)
    ∙ ap (λ (l : List Message). length (asked spared l)) (sym (near_messages survey fresh keywords s surveys))

-- where none is asked, all entries are spared
pub near_known : (spared : ℕ → Bool) (survey now : Survey) (fresh : ℕ) (keywords : List Keyword) (s : Stored) (es : List SurveyEntry) → Surveys survey fresh keywords s → now ≡ survey → es ≡ now.entries.items
    → asked spared (near_of fresh keywords s).store.messages ≡ [] → AreSpared spared es
near_known spared survey now fresh keywords s es surveys same is none =
    all_spared es (near_asked spared survey now fresh keywords s es surveys same is ∙ ap (λ (l : List Message). length l) none)
  where
    head_spared : (b : Bool) (e : SurveyEntry) (es : List SurveyEntry) → length (cond (not b) (e ∷ filter (λ e. not (spared e.uid)) es) (filter (λ e. not (spared e.uid)) es)) ≡ 0
        → (b ≡ true) × (count_asked spared es ≡ 0)
    head_spared true e es none = (refl, none)
    head_spared false e es none = absurd (omega (arith, none))

    all_spared : (es : List SurveyEntry) → count_asked spared es ≡ 0 → AreSpared spared es
    all_spared [] none = All-nil (λ e. spared e.uid ≡ true)
    all_spared (e ∷ es) none =
        let head = head_spared (spared e.uid) e es none in
        All-cons (λ e. spared e.uid ≡ true) e es head.0 (all_spared es head.1)

pub near_marked : (survey now : Survey) (fresh : ℕ) (keywords : List Keyword) (s t : Stored) (es : List SurveyEntry) (mark : List ℕ) (from : ℕ) (found : Option ℕ) (before after : KnownMarks) → Surveys survey fresh keywords s → now ≡ survey → es ≡ now.entries.items → before ≡ now.marks → t ≡ s
    → (AreThere es t → (next : ℕ) → AreRising es → All (λ e. e.uid < next) es → AreKnown next (map (message_at keywords t) es) before
    → (found ≡ marked_among mark from (map (message_at keywords t) es)) × AreKnown next (map (message_at keywords t) es) after)
    → (found ≡ marked_from mark from (near_of fresh keywords s).store) × AreMarksOf (near_of fresh keywords s).store after
near_marked survey now fresh keywords s t es mark from found before after surveys same is known unchanged says =
    let hand = at_hand survey now fresh keywords s t es surveys same is unchanged in
    let next : ℕ = (near_of fresh keywords s).store.next in
    let entries : es ≡ survey.entries.items = is ∙ ap (λ (v : Survey). v.entries.items) same in
    let marks : before ≡ survey.marks = known ∙ ap (λ (v : Survey). v.marks) same in
    let below = subst (λ (l : List SurveyEntry). All (λ e. e.uid < next) l) (sym entries) (subst (λ (n : ℕ). All (λ e. e.uid < n) survey.entries.items) (sym (near_next survey fresh keywords s surveys)) surveys.below) in
    let are = subst (λ (k : KnownMarks). AreKnown next (map (message_at keywords t) es) k) (sym marks) (subst (λ (ms : List Message). AreKnown next ms survey.marks) (sym hand.messages) surveys.marks) in
    let reported = says hand.there next hand.rising below are in (
      reported.0 ∙ ap (λ (l : List Message). marked_among mark from l) hand.messages,
      subst (λ (ms : List Message). AreKnown next ms after) hand.messages reported.1,
    )

-- the survey that knows more marks
pub surveys_marked : (survey new : Survey) (fresh : ℕ) (keywords : List Keyword) (s t : Stored) → Surveys survey fresh keywords s → t ≡ s → new.entries.items ≡ survey.entries.items → new.waiting.items ≡ survey.waiting.items
    → new.meta ≡ survey.meta → new.has_meta ≡ survey.has_meta → AreMarksOf (near_of fresh keywords s).store new.marks → Surveys new fresh keywords t
surveys_marked survey new fresh keywords s t surveys unchanged entries waiting meta has_meta marks =
    subst (λ (u : Stored). Surveys new fresh keywords u) (sym unchanged) (record {
      is_there = surveys.is_there;
      apart = surveys.apart;
      entries = entries ∙ surveys.entries;
      rising = subst AreRising (sym entries) surveys.rising;
      below = subst (λ (l : List SurveyEntry). All (λ e. e.uid < new.meta.next) l) (sym entries) (subst (λ (m : Meta). All (λ e. e.uid < m.next) survey.entries.items) (sym meta) surveys.below);
      waiting = waiting ∙ surveys.waiting;
      meta = surveys.meta ∙ ap (λ (m : Meta). Some m) (sym meta);
      has_meta = surveys.has_meta ∙ sym has_meta;
      marks = marks;
    })

pub near_bytes : (survey now : Survey) (fresh : ℕ) (keywords : List Keyword) (s t : Stored) (es : List SurveyEntry) (uid : ℕ) (read found : Option (List ℕ)) → read ≡ found → Surveys survey fresh keywords s → now ≡ survey → es ≡ now.entries.items → t ≡ s
    → (AreRising es → AreThere es t → read ≡ bytes_among uid (map (message_at keywords t) es)) → bytes_of uid (near_of fresh keywords s).store ≡ found
near_bytes survey now fresh keywords s t es uid read found is_found surveys same is unchanged says =
    let hand = at_hand survey now fresh keywords s t es surveys same is unchanged in
    sym (says hand.rising hand.there ∙ ap (λ (l : List Message). bytes_among uid l) hand.messages) ∙ is_found

-- a listing that spares none shows all
pub shows_all : (spared : ℕ → Bool) (fresh : ℕ) (keywords : List Keyword) (s : Stored) (r : Result Listing NearFault) → map (item_sparing NearSide spared) (near_of fresh keywords s).store.messages ≡ map (item_of NearSide) (near_of fresh keywords s).store.messages
    → IfOk r (λ listing. ShowsSparing NearSide spared (near_of fresh keywords s).store listing) → IfOk r (λ listing. Shows NearSide (near_of fresh keywords s).store listing)
shows_all spared fresh keywords s (Ok listing) same shows = record { validity = shows.validity; next = shows.next; items = shows.items ∙ same }
shows_all spared fresh keywords s (Err fault) same shows = tt
