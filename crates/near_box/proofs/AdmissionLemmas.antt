-- What an admission does to the mailbox.
use Rattle.std.proofs.Common.{◌≡◌, ℕ, zero, suc, ◌+◌, ◌<◌, ◌≤◌, ◌^◌, Bool, true, cond, List, [], ◌∷◌, ◌++◌, length, get_or, take, drop, map, filter, All, Some, refl, sym, ap, subst, ◌∙◌, ◌⊎◌, inl, inr, append-nil, append_assoc, length-append, arith}
use Rattle.std.specs.Prelude.{is_some}
use Rattle.std.specs.List.{filter_map}
use Rattle.std.proofs.lemmas.Bool.{false_from_ne_true, cases_lt}
use Rattle.std.proofs.lemmas.Bool.Decides.{nat_tests}
use Rattle.std.proofs.lemmas.List.{map-append, get_or_at, drop-map, length-map, take_all, drop_all}
use Rattle.std.proofs.lemmas.List.Elements.{All-nil, All-cons, All-tail, All-weaker, All-filter, filter-append}
use Rattle.mailcore.specs.declared.keywords.Keyword.{Keyword}
use Rattle.mailcore.specs.declared.mailbox.Message.{Message}
use Rattle.mailcore.specs.Stores.{Waiting, numbered}
use Rattle.maildir.specs.declared.folder.File.{File}
use Rattle.maildir.specs.declared.folder.FileName.{FileName}
use Rattle.near_box.specs.declared.survey.SurveyEntry.{SurveyEntry}
use Rattle.near_box.specs.declared.survey.Survey.{Survey}
use Rattle.maildir.specs.Folders.{Stored, AreApart, is_at, left, moved, name_of_file, renamed_file}
use Rattle.mailcore.specs.Mailboxes.{Mailbox, all_admitted, some_admitted, AdmitsSome}
use Rattle.near_box.specs.Mailboxes.{by_uid, is_before, meta_in, messages_in, near_of, waiting_files, waiting_of}
use Rattle.maildir.specs.Metas.{is_meta}
use Rattle.maildir.specs.Names.{is_uid, is_waiting}
use Rattle.maildir.specs.FlaggedNames.{flags_by_name}
use Rattle.near_box.specs.NearEffects.{Admitting, admitted, admitted_all, name_admitted, raised, set_aside_all}
use Rattle.near_box.specs.Sorting.{sorted}
use Rattle.near_box.specs.Surveys.{Surveys, Extends, entries_from, entries_in, entry_at, entry_of}
use Rattle.maildir.proofs.FileLemmas.{apart_moved, at_itself, at_true, moved_none}
use Rattle.near_box.proofs.NewNameLemmas.{admitted_is_numbered, waiting_has_no_uid}
use Rattle.near_box.proofs.NewUidLemmas.{All-parts, Gains, gains, Holds, HasUidBelow, holds_from_survey, survey_from_holds, left_all, none_there, meta_fits, meta_is_positive, near_is, near_with, raised_is_read, waits_not, message_in, entry_in, unnumbered_made}
use Rattle.near_box.proofs.PutLemmas.{first_stands, sorted_rest}
use Rattle.near_box.proofs.KnownMarkLemmas.{marks_after, marks_numbered}

-- ---- one file gets its UID

-- the other files stand elsewhere
others_apart : (front : List File) (file : File) (back : List File) → AreApart (front ++ file ∷ back)
    → All (λ x. name_of_file x ≡ name_of_file file → ⊥) front × All (λ x. name_of_file x ≡ name_of_file file → ⊥) back
others_apart [] file back apart =
    (All-nil (λ x. name_of_file x ≡ name_of_file file → ⊥), λ k d below same. apart 0 (suc k) d (omega arith) (omega arith) (sym same))
others_apart (x ∷ front) file back apart =
    let rest = others_apart front file back (λ i j d less below. apart (suc i) (suc j) d (omega arith) (omega arith)) in
    let here : get_or (front ++ file ∷ back) (length front) file ≡ file = get_or_at front file back file (length front) refl in
    let first : name_of_file x ≡ name_of_file file → ⊥ =
    λ same. apart 0 (suc (length front)) file (omega arith) (omega (arith, length-append front (file ∷ back))) (same ∙ ap name_of_file (sym here)) in
    (All-cons (λ x. name_of_file x ≡ name_of_file file → ⊥) x front first rest.0, rest.1)

abbrev admitted_file : File → ℕ → File
admitted_file file n = record { place = file.place; name = name_admitted file.name n; bytes = file.bytes }

others_stay : (file : File) (to : FileName) (files : List File) → All (λ x. name_of_file x ≡ name_of_file file → ⊥) files → map (moved (name_of_file file) to) files ≡ files
others_stay file to files others =
    moved_none (name_of_file file) to files (λ k d below.
    let other : File = get_or files k d in
    false_from_ne_true (is_at file.place file.name other) (λ at. others k d below (at_true (name_of_file file) other at)))

-- where a waiting file stands among the others
record Waits (files : List File) (file : File) (rest : List File) : Type 0 where
  waits : is_waiting file.name ≡ true
  front : List File
  back : List File
  parts : files ≡ front ++ file ∷ back
  before : All (λ x. name_of_file x ≡ name_of_file file → ⊥) front
  following : All (λ x. name_of_file x ≡ name_of_file file → ⊥) back
  others : sorted is_before (filter (λ f. is_waiting f.name) (front ++ back)) ≡ rest

first_waits : (files : List File) (file : File) (rest : List File) → AreApart files → waiting_files files ≡ file ∷ rest → Waits files file rest
first_waits files file rest apart is =
    let waits : File → Bool = λ f. is_waiting f.name in
    let stands = first_stands is_before waits file files rest is in
    let others = others_apart stands.front file stands.back (subst AreApart stands.parts apart) in
    let split : waiting_files files ≡ sorted is_before (filter waits stands.front ++ file ∷ filter waits stands.back) =
    ap waiting_files stands.parts ∙ ap (sorted is_before) (filter-append waits stands.front (file ∷ stands.back))
    ∙ ap (λ (b : Bool). sorted is_before (filter waits stands.front ++ cond b (file ∷ filter waits stands.back) (filter waits stands.back))) stands.passes in
    let unlike : (l : List File) → All (λ x. name_of_file x ≡ name_of_file file → ⊥) l → All (λ x. x ≡ file → ⊥) (filter waits l) =
    λ l all. All-filter waits (λ x. x ≡ file → ⊥) l (All-weaker (λ x. name_of_file x ≡ name_of_file file → ⊥) (λ x. x ≡ file → ⊥) (λ x other same. other (ap name_of_file same)) l all) in
    record {
      waits = stands.passes;
      front = stands.front;
      back = stands.back;
      parts = stands.parts;
      before = others.0;
      following = others.1;
      others = ap (sorted is_before) (filter-append waits stands.front stands.back)
          ∙ sorted_rest is_before file (filter waits stands.front) (filter waits stands.back) rest (unlike stands.front others.0) (unlike stands.back others.1) (sym split ∙ is);
    }

-- the file is a message after the others, and waits no longer
record Turns (keywords : List Keyword) (files : List File) (file : File) (rest : List File) (n : ℕ) (new : List File) : Type 0 where
  holds : Holds new (n + 1)
  messages : by_uid (messages_in keywords new) ≡ by_uid (messages_in keywords files) ++ (let m : Message = record { uid = n; flags = flags_by_name keywords file.name; bytes = file.bytes } in m) ∷ []
  entries : entries_in new ≡ entries_in files ++ entry_at n (admitted (name_of_file file) n) ∷ []
  waiting : waiting_files new ≡ rest

abbrev renamed_files : List File → File → ℕ → List File
renamed_files files file n =
    map (moved (name_of_file file) (admitted (name_of_file file) n)) (left (Some (name_of_file file)) file.place (name_admitted file.name n) files)

turns : (keywords : List Keyword) (files : List File) (file : File) (rest : List File) (n : ℕ) → is_uid n ≡ true → Holds files n → waiting_files files ≡ file ∷ rest
    → Turns keywords files file rest n (renamed_files files file n)
turns keywords files file rest n is holds first =
    let w = first_waits files file rest holds.apart first in
    let from : FileName = name_of_file file in
    let to : FileName = admitted from n in
    let new : File = admitted_file file n in
    let has = admitted_is_numbered keywords file.name n w.waits is in
    let below = All-parts (HasUidBelow n) w.front (file ∷ w.back) (subst (λ (l : List File). All (HasUidBelow n) l) w.parts holds.below) in
    let stays : left (Some from) to.place to.name files ≡ files = left_all (Some from) to files (none_there n files to has.uid holds.below) in
    let itself : moved from to file ≡ new = rw (at_itself file) refl in
    let now : renamed_files files file n ≡ w.front ++ new ∷ w.back =
    ap (map (moved from to)) (stays ∙ w.parts) ∙ map-append (moved from to) w.front (file ∷ w.back)
    ∙ rw (others_stay file to w.front w.before, others_stay file to w.back w.following, itself) refl in
    let none = waiting_has_no_uid file.name w.waits in
    let g : Gains keywords files (renamed_files files file n) new n =
    subst (λ (l : List File). Gains keywords files l new n) (sym now)
    (gains keywords n files w.front w.back new has.uid (subst AreApart now (apart_moved from to files holds.apart)) below.0 (All-tail (HasUidBelow n) file w.back below.1)
    (sym (unnumbered_made (message_in keywords) (λ m. m.uid) (λ file uid. refl) w.front w.back file none) ∙ ap (messages_in keywords) (sym w.parts))
    (sym (unnumbered_made entry_in (λ e. e.uid) (λ file uid. refl) w.front w.back file none) ∙ ap (filter_map entry_of) (sym w.parts)) holds) in
    record {
      holds = g.holds;
      messages = g.messages ∙ ap (λ (f : ℕ). by_uid (messages_in keywords files) ++ (let m : Message = record { uid = n; flags = f; bytes = file.bytes } in m) ∷ []) has.flags;
      entries = g.entries;
      waiting = ap waiting_files now ∙ ap (sorted is_before) (waits_not w.front w.back new has.waits) ∙ w.others;
    }

-- ---- one after the other

-- the first of the waiting files have their UIDs
pub record First (keywords : List Keyword) (s s' : Stored) (files : List File) (n k : ℕ) : Type 0 where
  pub holds : Holds s'.files (n + k)
  pub messages : by_uid (messages_in keywords s'.files) ≡ by_uid (messages_in keywords s.files) ++ numbered n (take k (map (waiting_of keywords) files))
  pub entries : entries_in s'.files ≡ entries_in s.files ++ entries_from n (take k (map name_of_file files))
  pub waiting : waiting_files s'.files ≡ drop k files
  pub meta : s'.meta ≡ s.meta
  pub is_there : s'.is_there ≡ s.is_there

first_turn : (keywords : List Keyword) (k n : ℕ) (files : List File) (s : Stored) → waiting_files s.files ≡ files → k ≤ length files → Holds s.files n → 0 < n → n + k < 2 ^ 32
    → First keywords s (admitted_all (take k (map name_of_file files)) n s) files n k
first_turn keywords zero n files s waits within holds positive fits = record {
  holds = let same : n ≡ n + 0 = omega arith in subst (λ (m : ℕ). Holds s.files m) same holds;
  messages = sym (append-nil (by_uid (messages_in keywords s.files)));
  entries = sym (append-nil (entries_in s.files));
  waiting = waits;
  meta = refl;
  is_there = refl;
}
first_turn keywords (suc k) n [] s waits within holds positive fits = absurd (omega arith)
first_turn keywords (suc k) n (file ∷ files) s waits within holds positive fits =
    let is : is_uid n ≡ true = grind (arith, nat_tests) in
    let one = turns keywords s.files file files n is holds waits in
    let s1 : Stored = renamed_file (name_of_file file) (admitted (name_of_file file) n) s in
    let s2 : Stored = admitted_all (take k (map name_of_file files)) (n + 1) s1 in
    let more : First keywords s1 s2 files (n + 1) k = first_turn keywords k (n + 1) files s1 one.waiting (omega arith) one.holds (omega arith) (omega arith) in
    let same : n + 1 + k ≡ n + suc k = omega arith in
    let message : Message = record { uid = n; flags = flags_by_name keywords file.name; bytes = file.bytes } in
    let entry : SurveyEntry = entry_at n (admitted (name_of_file file) n) in
    record {
      holds = subst (λ (m : ℕ). Holds s2.files m) same more.holds;
      messages = more.messages ∙ ap (λ (ms : List Message). ms ++ numbered (n + 1) (take k (map (waiting_of keywords) files))) one.messages
          ∙ append_assoc (by_uid (messages_in keywords s.files)) (message ∷ []) (numbered (n + 1) (take k (map (waiting_of keywords) files)));
      entries = more.entries ∙ ap (λ (es : List SurveyEntry). es ++ entries_from (n + 1) (take k (map name_of_file files))) one.entries
          ∙ append_assoc (entries_in s.files) (entry ∷ []) (entries_from (n + 1) (take k (map name_of_file files)));
      waiting = more.waiting;
      meta = more.meta;
      is_there = more.is_there;
    }

-- ---- the mailbox

-- what giving the UIDs leaves, said of the survey that it began with
pub given : (old begun new : Survey) (count : ℕ) → begun ≡ old → count ≡ length old.waiting.items
    → Extends (entries_from begun.meta.next begun.waiting.items) [] (raised begun.meta count) begun new
    → Extends (entries_from old.meta.next old.waiting.items) [] (raised old.meta (length old.waiting.items)) old new
given old begun new count same number extends =
    subst (λ (n : ℕ). Extends (entries_from old.meta.next old.waiting.items) [] (raised old.meta n) old new) number
    (subst (λ (v : Survey). Extends (entries_from v.meta.next v.waiting.items) [] (raised v.meta count) v new) same extends)

pub none_of_length : (files : List FileName) → length files ≡ 0 → files ≡ []
none_of_length [] none = refl
none_of_length (file ∷ files) none = absurd (omega arith)

module _ (survey : Survey) (fresh : ℕ) (keywords : List Keyword) (s : Stored) (surveys : Surveys survey fresh keywords s) (positive : 0 < fresh) (small : fresh < 2 ^ 32)
    (room : survey.meta.next + length survey.waiting.items < 2 ^ 32) where
  abbrev pub begun : Stored
  begun = set_aside_all survey.waiting.items survey.meta s

  pub fits : is_meta survey.meta ≡ true
  fits = meta_fits fresh s.meta survey.meta positive small surveys.meta

  count : length survey.waiting.items ≡ length (waiting_files s.files)
  count = ap length surveys.waiting ∙ length-map (waiting_files s.files) name_of_file

  pub first_of : (k : ℕ) → k ≤ length survey.waiting.items → First keywords begun (admitted_all (take k survey.waiting.items) survey.meta.next begun) (waiting_files s.files) survey.meta.next k
  first_of k within =
      let bounds = meta_is_positive survey.meta fits in
      subst (λ (names : List FileName). First keywords begun (admitted_all (take k names) survey.meta.next begun) (waiting_files s.files) survey.meta.next k) (sym surveys.waiting)
      (first_turn keywords k survey.meta.next (waiting_files s.files) begun refl (omega (arith, count)) (holds_from_survey survey fresh keywords s surveys) bounds.2 (omega arith))

  -- what the mailbox is once the first have theirs
  pub admitted_some : (k : ℕ) → k ≤ length survey.waiting.items → near_of fresh keywords (admitted_all (take k survey.waiting.items) survey.meta.next begun) ≡ some_admitted k (near_of fresh keywords s)
  admitted_some k within =
      let now : Stored = admitted_all (take k survey.waiting.items) survey.meta.next begun in
      let first = first_of k within in
      let meta = raised survey.meta (length survey.waiting.items) in
      let old : List Message = by_uid (messages_in keywords s.files) in
      let new : List Message = old ++ numbered survey.meta.next (take k (map (waiting_of keywords) (waiting_files s.files))) in
      near_is fresh keywords now meta (ap (meta_in fresh) first.meta ∙ raised_is_read survey.meta (length survey.waiting.items) fits room)
      ∙ ap (λ (ms : List Message). near_with keywords meta ms (waiting_files now.files)) first.messages
      ∙ ap (λ (ws : List File). near_with keywords meta new ws) first.waiting
      ∙ ap (λ (n : ℕ). near_with keywords (raised survey.meta n) new (drop k (waiting_files s.files))) (count ∙ sym (length-map (waiting_files s.files) (waiting_of keywords)))
      ∙ ap (λ (ws : List Waiting). let n : Mailbox = record {
        store = record { validity = survey.meta.validity; next = survey.meta.next + length (map (waiting_of keywords) (waiting_files s.files)); messages = new };
        waiting = ws;
      } in n) (sym (drop-map (waiting_of keywords) k (waiting_files s.files)))
      ∙ sym (ap (some_admitted k) (near_is fresh keywords s survey.meta surveys.meta))

  pub all : take (length survey.waiting.items) survey.waiting.items ≡ survey.waiting.items
  all = take_all (length survey.waiting.items) survey.waiting.items (omega arith)

  pub admitted_whole : near_of fresh keywords (admitted_all survey.waiting.items survey.meta.next begun) ≡ all_admitted (near_of fresh keywords s)
  admitted_whole =
      let waiting : List Waiting = (near_of fresh keywords s).waiting in
      let same : length survey.waiting.items ≡ length waiting = count ∙ sym (length-map (waiting_files s.files) (waiting_of keywords)) in
      ap (λ (names : List FileName). near_of fresh keywords (admitted_all names survey.meta.next begun)) (sym all)
      ∙ admitted_some (length survey.waiting.items) (omega arith)
      ∙ ap (λ (n : ℕ). some_admitted n (near_of fresh keywords s)) same

  pub admitted_surveys : (new : Survey) → Extends (entries_from survey.meta.next survey.waiting.items) [] (raised survey.meta (length survey.waiting.items)) survey new
      → Surveys new fresh keywords (admitted_all survey.waiting.items survey.meta.next begun)
  admitted_surveys new extends =
      subst (λ (names : List FileName). Surveys new fresh keywords (admitted_all names survey.meta.next begun)) all
      (survey_from_holds new fresh keywords now (subst (λ (n : ℕ). Holds now.files n) (ap (λ m. m.next) (sym extends.meta)) first.holds) (first.is_there ∙ surveys.is_there)
      (extends.entries ∙ ap (λ (es : List SurveyEntry). es ++ entries_from survey.meta.next survey.waiting.items) surveys.entries
      ∙ ap (λ (names : List FileName). entries_in s.files ++ entries_from survey.meta.next names) (sym all ∙ ap (take (length survey.waiting.items)) surveys.waiting) ∙ sym first.entries)
      (extends.waiting ∙ ap (map name_of_file) (sym (first.waiting ∙ none_left)))
      (ap (meta_in fresh) first.meta ∙ raised_is_read survey.meta (length survey.waiting.items) fits room ∙ ap Some (sym extends.meta))
      (ap is_some first.meta ∙ sym extends.has_meta)
      (marks_after (some_admitted (length survey.waiting.items) (near_of fresh keywords s)) (near_of fresh keywords now) survey.marks new.marks (admitted_some (length survey.waiting.items) (omega arith)) extends.marks
      (marks_numbered (length survey.waiting.items) (near_of fresh keywords s) survey.marks surveys.marks)))
    where
      now : Stored
      now = admitted_all (take (length survey.waiting.items) survey.waiting.items) survey.meta.next begun

      first : First keywords begun now (waiting_files s.files) survey.meta.next (length survey.waiting.items)
      first = first_of (length survey.waiting.items) (omega arith)

      none_left : drop (length survey.waiting.items) (waiting_files s.files) ≡ []
      none_left = drop_all (length survey.waiting.items) (waiting_files s.files) (omega (arith, count))

  -- a fault leaves the mailbox as it was, or with the UIDs set aside, and some of the files have theirs
  pub admission_stopped : (s' : Stored) → (s' ≡ s) ⊎ Admitting survey.waiting.items survey.meta s s'
      → (near_of fresh keywords s' ≡ near_of fresh keywords s) ⊎ ((near_of fresh keywords s' ≡ all_admitted (near_of fresh keywords s)) ⊎ AdmitsSome (near_of fresh keywords s) (near_of fresh keywords s'))
  admission_stopped s' (inl same) = inl (ap (near_of fresh keywords) same)
  admission_stopped s' (inr some) = by_count (cases_lt some.count (length survey.waiting.items))
    where
      by_count : (some.count < length survey.waiting.items) ⊎ (length survey.waiting.items ≤ some.count)
          → (near_of fresh keywords s' ≡ near_of fresh keywords s) ⊎ ((near_of fresh keywords s' ≡ all_admitted (near_of fresh keywords s)) ⊎ AdmitsSome (near_of fresh keywords s) (near_of fresh keywords s'))
      by_count (inl less) = inr (inr (record { count = some.count; now = ap (near_of fresh keywords) some.now ∙ admitted_some some.count (omega arith) }))
      by_count (inr more) =
          inr (inl (ap (near_of fresh keywords) (some.now ∙ ap (λ (names : List FileName). admitted_all names survey.meta.next begun) (take_all some.count survey.waiting.items more)) ∙ admitted_whole))

  -- nothing waits, and the meta file stays
  pub nothing_to_admit : survey.waiting.items ≡ [] → near_of fresh keywords s ≡ all_admitted (near_of fresh keywords s)
  nothing_to_admit none = near_is fresh keywords s survey.meta surveys.meta ∙ by_files (waiting_files s.files) (sym surveys.waiting ∙ none) ∙ sym (ap all_admitted (near_is fresh keywords s survey.meta surveys.meta))
    where
      by_files : (files : List File) → map name_of_file files ≡ [] → near_with keywords survey.meta (by_uid (messages_in keywords s.files)) files ≡ all_admitted (near_with keywords survey.meta (by_uid (messages_in keywords s.files)) files)
      by_files [] none =
          let same : survey.meta.next ≡ survey.meta.next + 0 = omega arith in
          ap (λ (ms : List Message). near_with keywords survey.meta ms []) (sym (append-nil (by_uid (messages_in keywords s.files))))
          ∙ ap (λ (n : ℕ). let l : Mailbox = record { store = record { validity = survey.meta.validity; next = n; messages = by_uid (messages_in keywords s.files) ++ [] }; waiting = [] } in l) same
      by_files (file ∷ files) none = cc
