-- A file that gets the next UID comes after all messages.
use Rattle.std.proofs.Common.{◌≡◌, ℕ, ◌+◌, ◌<◌, ◌^◌, Bool, true, false, not, ltb, List, [], ◌∷◌, ◌++◌, map, filter, Option, None, Some, All, refl, sym, ap, subst, ◌∙◌, arith}
use Rattle.std.specs.Prelude.{AllPairs, unwrap_or, is_some, IfSome}
use Rattle.std.specs.List.{filter_map, cons_option}
use Rattle.std.specs.Option.{option_map}
use Rattle.std.proofs.lemmas.Bool.{false_from_ne_true, lt-ltb, le-ltb, or_right}
use Rattle.std.proofs.lemmas.Bool.Decides.{nat_tests}
use Rattle.std.proofs.lemmas.List.Elements.{All-nil, All-cons, All-head, All-tail, All-append, All-weaker, filter_map-append, filter-append}
use Rattle.std.proofs.lemmas.List.Quantifiers.{all_pairs_push}
use Rattle.mailcore.specs.declared.keywords.Keyword.{Keyword}
use Rattle.mailcore.specs.declared.mailbox.Message.{Message}
use Rattle.maildir.specs.declared.folder.File.{File}
use Rattle.maildir.specs.declared.folder.FileName.{FileName}
use Rattle.maildir.specs.declared.meta.Meta.{Meta}
use Rattle.near_box.specs.declared.survey.SurveyEntry.{SurveyEntry}
use Rattle.near_box.specs.declared.survey.Survey.{Survey}
use Rattle.maildir.specs.Folders.{Stored, AreApart, is_at, left, is_left, name_of_file}
use Rattle.maildir.specs.Names.{uid_in, is_waiting}
use Rattle.maildir.specs.FlaggedNames.{flags_by_name}
use Rattle.near_box.specs.NearEffects.{raised}
use Rattle.mailcore.specs.Mailboxes.{Mailbox}
use Rattle.near_box.specs.Mailboxes.{messages_in, by_uid, waiting_files, waiting_of, meta_in, first_meta, store_of, near_of}
use Rattle.near_box.specs.Surveys.{Surveys, entry_of, entries_in, entry_at}
use Rattle.maildir.specs.Metas.{is_meta, meta_of, meta_text}
use Rattle.near_box.specs.Sorting.{sorted}
use Rattle.maildir.proofs.FileLemmas.{at_true}
use Rattle.maildir.proofs.MetaLemmas.{meta_is_spelled, spelled_meta_is_read}
use Rattle.near_box.proofs.KeptLemmas.{filter_all}
use Rattle.near_box.proofs.PutLemmas.{All-sorted, All-from_sorted, sorted_last}
use Rattle.near_box.specs.KnownMarks.{AreMarksOf}

-- every UID is below this one
abbrev pub HasUidBelow : ℕ → File → Type 0
HasUidBelow n file = (uid : ℕ) → uid_in file.name ≡ Some uid → uid < n

abbrev pub UidsBelow : ℕ → List File → Type 0
UidsBelow n files = All (HasUidBelow n) files

pub above_all : (n : ℕ) (files : List File) → UidsBelow n files → UidsBelow (n + 1) files
above_all n files below =
    All-weaker (HasUidBelow n) (HasUidBelow (n + 1)) (λ file less uid e. let l = less uid e in omega arith) files below

pub All-parts : {A : Type 0} (P : A → Type 0) (xs ys : List A) → All P (xs ++ ys) → All P xs × All P ys
All-parts P [] ys all = (All-nil P, all)
All-parts P (x ∷ xs) ys all =
    let rest = All-parts P xs ys (All-tail P x (xs ++ ys) all) in
    (All-cons P x xs (All-head P x (xs ++ ys) all) rest.0, rest.1)

-- ---- what stands for the files with a UID: messages, or where they stand

module _ {T : Type 0} (make : File → ℕ → T) (key : T → ℕ) (is_key : (file : File) (uid : ℕ) → key (make file uid) ≡ uid) where
  abbrev pub made : File → Option T
  made file = option_map (make file) (uid_in file.name)

  abbrev in_order : List File → List T
  in_order files = sorted (λ a b. ltb (key a) (key b)) (filter_map made files)

  made_below : (n : ℕ) (files : List File) → UidsBelow n files → All (λ t. key t < n) (filter_map made files)
  made_below n [] below = All-nil (λ t. key t < n)
  made_below n (file ∷ files) below =
      by_uid_of (uid_in file.name) (All-head (HasUidBelow n) file files below) (made_below n files (All-tail (HasUidBelow n) file files below))
    where
      by_uid_of : (u : Option ℕ) → ((uid : ℕ) → u ≡ Some uid → uid < n) → All (λ t. key t < n) (filter_map made files)
          → All (λ t. key t < n) (cons_option (option_map (make file) u) (filter_map made files))
      by_uid_of None less rest = rest
      by_uid_of (Some uid) less rest =
          All-cons (λ t. key t < n) (make file uid) (filter_map made files) (subst (λ (k : ℕ). k < n) (sym (is_key file uid)) (less uid refl)) rest

  below_made : (n : ℕ) (files : List File) → All (λ t. key t < n) (filter_map made files) → UidsBelow n files
  below_made n [] below = All-nil (HasUidBelow n)
  below_made n (file ∷ files) below =
      let parts = by_uid_of (uid_in file.name) below in
      All-cons (HasUidBelow n) file files parts.0 (below_made n files parts.1)
    where
      by_uid_of : (u : Option ℕ) → All (λ t. key t < n) (cons_option (option_map (make file) u) (filter_map made files))
          → ((uid : ℕ) → u ≡ Some uid → uid < n) × All (λ t. key t < n) (filter_map made files)
      by_uid_of None all = (λ uid e. cc, all)
      by_uid_of (Some uid) all =
          let first = All-head (λ t. key t < n) (make file uid) (filter_map made files) all in
          (λ other e. let same : uid ≡ other = cc in subst (λ (k : ℕ). k < n) (is_key file uid ∙ same) first, All-tail (λ t. key t < n) (make file uid) (filter_map made files) all)

  -- a file with the next UID
  numbered_made : (n : ℕ) (front back : List File) (file : File) → uid_in file.name ≡ Some n → UidsBelow n front → UidsBelow n back
      → in_order (front ++ file ∷ back) ≡ in_order (front ++ back) ++ make file n ∷ []
  numbered_made n front back file has before after =
      let lt : T → T → Bool = λ a b. ltb (key a) (key b) in
      let is = is_key file n in
      ap (sorted lt) (filter_map-append made front (file ∷ back)
      ∙ ap (λ (u : Option ℕ). filter_map made front ++ cons_option (option_map (make file) u) (filter_map made back)) has)
      ∙ sorted_last lt (make file n) (filter_map made front) (filter_map made back)
      (All-weaker (λ t. key t < n) (λ t. lt t (make file n) ≡ true) (λ t less. lt-ltb (key t) (key (make file n)) (omega arith)) (filter_map made front) (made_below n front before))
      (All-weaker (λ t. key t < n) (λ t. lt (make file n) t ≡ false) (λ t less. le-ltb (key (make file n)) (key t) (omega arith)) (filter_map made back) (made_below n back after))
      ∙ ap (λ (ts : List T). sorted lt ts ++ make file n ∷ []) (sym (filter_map-append made front back))

  -- a file without a UID
  pub unnumbered_made : (front back : List File) (file : File) → uid_in file.name ≡ None → filter_map made (front ++ file ∷ back) ≡ filter_map made (front ++ back)
  unnumbered_made front back file none =
      filter_map-append made front (file ∷ back)
      ∙ ap (λ (u : Option ℕ). filter_map made front ++ cons_option (option_map (make file) u) (filter_map made back)) none
      ∙ sym (filter_map-append made front back)

abbrev pub message_in : (keywords : List Keyword) → File → ℕ → Message
message_in keywords file uid = record { uid = uid; flags = flags_by_name keywords file.name; bytes = file.bytes }

abbrev pub entry_in : File → ℕ → SurveyEntry
entry_in file uid = entry_at uid (name_of_file file)

-- ---- no file stands at a name with the next UID

pub none_there : (n : ℕ) (files : List File) (to : FileName) → uid_in to.name ≡ Some n → UidsBelow n files → All (λ x. is_at to.place to.name x ≡ false) files
none_there n files to has below =
    All-weaker (HasUidBelow n) (λ x. is_at to.place to.name x ≡ false)
    (λ x less. false_from_ne_true (is_at to.place to.name x) (λ at.
    let l : n < n = less n (ap (λ (f : FileName). uid_in f.name) (at_true to x at) ∙ has) in
    absurd (omega arith)))
    files below

pub left_all : (spared : Option FileName) (to : FileName) (files : List File) → All (λ x. is_at to.place to.name x ≡ false) files → left spared to.place to.name files ≡ files
left_all None to files none =
    filter_all (is_left None to.place to.name) files
    (All-weaker (λ x. is_at to.place to.name x ≡ false) (λ x. is_left None to.place to.name x ≡ true) (λ x e. ap not e) files none)
left_all (Some from) to files none =
    filter_all (is_left (Some from) to.place to.name) files
    (All-weaker (λ x. is_at to.place to.name x ≡ false) (λ x. is_left (Some from) to.place to.name x ≡ true)
    (λ x e. or_right (is_at from.place from.name x) (not (is_at to.place to.name x)) (ap not e)) files none)

-- ---- the files of a mailbox

pub record Holds (files : List File) (next : ℕ) : Type 0 where
  pub apart : AreApart files
  pub below : UidsBelow next files
  pub rising : AllPairs (λ a b. a.uid < b.uid) (entries_in files)

-- a file with the next UID is there too
pub record Gains (keywords : List Keyword) (old new : List File) (file : File) (number : ℕ) : Type 0 where
  pub holds : Holds new (number + 1)
  pub messages : by_uid (messages_in keywords new) ≡ by_uid (messages_in keywords old) ++ message_in keywords file number ∷ []
  pub entries : entries_in new ≡ entries_in old ++ entry_in file number ∷ []

-- where the rest of the files are the ones of messages before
pub gains : (keywords : List Keyword) (n : ℕ) (old front back : List File) (file : File) → uid_in file.name ≡ Some n → AreApart (front ++ file ∷ back) → UidsBelow n front → UidsBelow n back
    → messages_in keywords (front ++ back) ≡ messages_in keywords old → filter_map entry_of (front ++ back) ≡ filter_map entry_of old → Holds old n → Gains keywords old (front ++ file ∷ back) file n
gains keywords n old front back file has apart before after same_messages same_entries holds =
    let messages = numbered_made (message_in keywords) (λ m. m.uid) (λ file uid. refl) n front back file has before after ∙ ap (λ (ms : List Message). by_uid ms ++ message_in keywords file n ∷ []) same_messages in
    let entries : entries_in (front ++ file ∷ back) ≡ entries_in old ++ entry_in file n ∷ [] =
    numbered_made entry_in (λ e. e.uid) (λ file uid. refl) n front back file has before after
    ∙ ap (λ (es : List SurveyEntry). sorted (λ a b. ltb a.uid b.uid) es ++ entry_in file n ∷ []) same_entries in
    let below_old : All (λ (e : SurveyEntry). e.uid < n) (entries_in old) =
    All-sorted (λ (a b : SurveyEntry). ltb a.uid b.uid) (λ (e : SurveyEntry). e.uid < n) (filter_map entry_of old) (made_below entry_in (λ e. e.uid) (λ file uid. refl) n old holds.below) in
    record {
      holds = record {
        apart = apart;
        below = All-append (HasUidBelow (n + 1)) front (file ∷ back) (above_all n front before)
            (All-cons (HasUidBelow (n + 1)) file back (λ uid e. let same : n ≡ uid = some_same n uid (sym has ∙ e) in omega arith) (above_all n back after));
        rising = subst (λ (es : List SurveyEntry). AllPairs (λ a b. a.uid < b.uid) es) (sym entries)
            (all_pairs_push (λ a b. a.uid < b.uid) (entries_in old) (entry_in file n) holds.rising (λ k d within. below_old k d within));
      };
      messages = messages;
      entries = entries;
    }
  where
    some_same : (a b : ℕ) → Some a ≡ Some b → a ≡ b
    some_same a b e = cc

-- ---- surveys

pub holds_from_survey : (survey : Survey) (fresh : ℕ) (keywords : List Keyword) (s : Stored) → Surveys survey fresh keywords s → Holds s.files survey.meta.next
holds_from_survey survey fresh keywords s surveys = record {
  apart = surveys.apart;
  below = below_made entry_in (λ e. e.uid) (λ file uid. refl) survey.meta.next s.files
      (All-from_sorted (λ (a b : SurveyEntry). ltb a.uid b.uid) (λ (e : SurveyEntry). e.uid < survey.meta.next) (filter_map entry_of s.files)
      (subst (λ (es : List SurveyEntry). All (λ e. e.uid < survey.meta.next) es) surveys.entries surveys.below));
  rising = subst (λ (es : List SurveyEntry). AllPairs (λ a b. a.uid < b.uid) es) surveys.entries surveys.rising;
}

pub survey_from_holds : (survey : Survey) (fresh : ℕ) (keywords : List Keyword) (s : Stored) → Holds s.files survey.meta.next → s.is_there ≡ true → survey.entries.items ≡ entries_in s.files
    → survey.waiting.items ≡ map name_of_file (waiting_files s.files) → meta_in fresh s.meta ≡ Some survey.meta → is_some s.meta ≡ survey.has_meta
    → AreMarksOf (near_of fresh keywords s).store survey.marks → Surveys survey fresh keywords s
survey_from_holds survey fresh keywords s holds is_there entries waiting meta has_meta marks = record {
  is_there = is_there;
  apart = holds.apart;
  entries = entries;
  rising = subst (λ (es : List SurveyEntry). AllPairs (λ a b. a.uid < b.uid) es) (sym entries) holds.rising;
  below = subst (λ (es : List SurveyEntry). All (λ e. e.uid < survey.meta.next) es) (sym entries)
      (All-sorted (λ (a b : SurveyEntry). ltb a.uid b.uid) (λ (e : SurveyEntry). e.uid < survey.meta.next) (filter_map entry_of s.files)
      (made_below entry_in (λ e. e.uid) (λ file uid. refl) survey.meta.next s.files holds.below));
  waiting = waiting;
  meta = meta;
  has_meta = has_meta;
  marks = marks;
}

pub surveys_same : (k k' : List Keyword) (v v' : Survey) (n n' : ℕ) (s s' : Stored) → k ≡ k' → v ≡ v' → n ≡ n' → s ≡ s' → Surveys v' n' k' s' → Surveys v n k s
surveys_same k k' v v' n n' s s' words a b c surveys =
    subst (λ (x : List Keyword). Surveys v n x s) (sym words)
    (subst (λ (x : Survey). Surveys x n k' s) (sym a) (subst (λ (x : ℕ). Surveys v' x k' s) (sym b) (subst (λ (x : Stored). Surveys v' n' k' x) (sym c) surveys)))

-- ---- the mailbox by its parts

abbrev pub near_with : (keywords : List Keyword) → Meta → List Message → List File → Mailbox
near_with keywords meta messages waiting = record {
  store = record { validity = meta.validity; next = meta.next; messages = messages };
  waiting = map (waiting_of keywords) waiting;
}

pub near_is : (fresh : ℕ) (keywords : List Keyword) (s : Stored) (meta : Meta) → meta_in fresh s.meta ≡ Some meta → near_of fresh keywords s ≡ near_with keywords meta (by_uid (messages_in keywords s.files)) (waiting_files s.files)
near_is fresh keywords s meta e = ap (λ (m : Option Meta). let n : Mailbox = record { store = store_of keywords (unwrap_or m (first_meta fresh)) s.files; waiting = map (waiting_of keywords) (waiting_files s.files) } in n) e

-- a file that does not wait
pub waits_not : (front back : List File) (file : File) → is_waiting file.name ≡ false
    → filter (λ f. is_waiting f.name) (front ++ file ∷ back) ≡ filter (λ f. is_waiting f.name) (front ++ back)
waits_not front back file e =
    let waits : File → Bool = λ f. is_waiting f.name in
    filter_more (filter-append waits front (file ∷ back)) ∙ sym (filter-append waits front back)
  where
    filter_more : {l : List File} → l ≡ filter (λ f. is_waiting f.name) front ++ filter (λ f. is_waiting f.name) (file ∷ back)
        → l ≡ filter (λ f. is_waiting f.name) front ++ filter (λ f. is_waiting f.name) back
    filter_more h = h ∙ rw e refl

-- ---- the meta file

pub meta_fits : (fresh : ℕ) (text : Option (List ℕ)) (meta : Meta) → 0 < fresh → fresh < 2 ^ 32 → meta_in fresh text ≡ Some meta → is_meta meta ≡ true
meta_fits fresh None meta positive small read =
    let is : first_meta fresh ≡ meta = cc in
    subst (λ (m : Meta). is_meta m ≡ true) is (grind (arith, nat_tests))
meta_fits fresh (Some text) meta positive small read = (meta_is_spelled meta text read).is

pub raised_is_read : (meta : Meta) (count : ℕ) → is_meta meta ≡ true → meta.next + count < 2 ^ 32 → meta_of (meta_text (raised meta count)) ≡ Some (raised meta count)
raised_is_read meta count is fits = spelled_meta_is_read (raised meta count) (meta_text (raised meta count)) (record { parts = refl; is = grind (arith, nat_tests) })

pub meta_is_positive : (meta : Meta) → is_meta meta ≡ true → (0 < meta.validity) × (meta.validity < 2 ^ 32) × (0 < meta.next)
meta_is_positive meta is = (grind (arith, nat_tests), grind (arith, nat_tests), grind (arith, nat_tests))

pub spelled_numbers : (text : List ℕ) (meta : Option Meta) → meta ≡ meta_of text → IfSome meta (λ m. (0 < m.validity) × (0 < m.next))
spelled_numbers text None e = tt
spelled_numbers text (Some meta) e = let bounds = meta_is_positive meta (meta_is_spelled meta text (sym e)).is in (bounds.0, bounds.2)
