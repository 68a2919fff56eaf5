-- The folder of a trial holds its mailbox: a file is put there at a time.
use Rattle.std.proofs.Common.{◌≡◌, ℕ, suc, ◌+◌, ◌<◌, ◌≤◌, ◌^◌, ◌⊎◌, inl, inr, true, false, List, [], ◌∷◌, ◌++◌, length, map, filter, All, Option, None, Some, refl, sym, ap, subst, ◌∙◌, append_assoc, append-nil, arith}
use Rattle.std.specs.Prelude.{fold, get_or}
use Rattle.std.specs.List.{filter_map}
use Rattle.std.proofs.lemmas.Bool.{false_from_ne_true, true≢false}
use Rattle.std.proofs.lemmas.List.{length_push, map-append}
use Rattle.std.proofs.lemmas.List.Elements.{All-nil, All-cons, All-head, All-tail, All-append, All-filter, All-weaker, filter-append, filter_passes}
use Rattle.std.proofs.lemmas.Bool.Decides.{nat_tests}
use Rattle.mailcore.specs.declared.mailbox.Message.{Message}
use Rattle.mailcore.specs.declared.keywords.Keyword.{Keyword}
use Rattle.mailcore.specs.KeywordNames.{IsWithin}
use Rattle.mailcore.specs.Listed.{AreRising}
use Rattle.mailcore.specs.Mailboxes.{Mailbox}
use Rattle.mailcore.specs.Ranges.{IsInRange}
use Rattle.mailcore.specs.Stores.{IsStore, Store, Waiting}
use Rattle.maildir.specs.declared.folder.File.{File}
use Rattle.maildir.specs.declared.folder.FileName.{FileName}
use Rattle.maildir.specs.declared.folder.Place.TheVariants.{Cur}
use Rattle.maildir.specs.declared.meta.Meta.{Meta}
use Rattle.maildir.specs.Folders.{AreApart, Stored, is_at, name_of_file, without}
use Rattle.maildir.specs.Metas.{is_meta, meta_of, meta_text}
use Rattle.maildir.specs.Names.{is_uid, is_waiting}
use Rattle.maildir.proofs.FileLemmas.{apart_added, at_true}
use Rattle.maildir.proofs.MetaLemmas.{spelled_meta_is_read}
use Rattle.near_box.specs.Mailboxes.{by_uid, is_before, messages_in, meta_in, near_of, waiting_files, waiting_of}
use Rattle.near_box.specs.Sorting.{sorted}
use Rattle.near_box.specs.SurveyParts.{is_before as names_before}
use Rattle.near_box.specs.Surveys.{entry_of}
use Rattle.near_box.proofs.OrderLemmas.{names_in_order}
use Rattle.near_box.proofs.NewUidLemmas.{HasUidBelow, Holds, gains, left_all, message_in, near_is, near_with, none_there, unnumbered_made}
use Rattle.near_box.proofs.PutLemmas.{sorted_last}
use Rattle.run_trial.specs.Folders.{folder_of, message_file, meta_alone, put_message, put_waiting, waiting_file}
use Rattle.run_trial.specs.Worlds.{AreNamed}
use Rattle.run_trial.proofs.DigitLemmas.{beyond}
use Rattle.run_trial.proofs.NamedFiles.{message_is_numbered, waiting_is_file, waiting_is_read, waiting_rise}

module _ (keywords : List Keyword) where
  -- ---- messages

  abbrev Settled : File → Type 0
  Settled file = is_waiting file.name ≡ false

  -- the files are those of these messages, whose UIDs are below this one
  record Kept (next : ℕ) (messages : List Message) (files : List File) : Type 0 where
    holds : Holds files next
    are : by_uid (messages_in keywords files) ≡ messages
    settled : All Settled files
    count : length files ≡ length messages

  holds_above : (next more : ℕ) (files : List File) → next ≤ more → Holds files next → Holds files more
  holds_above next more files upto holds = record {
    apart = holds.apart;
    below = All-weaker (HasUidBelow next) (HasUidBelow more) (λ file less uid e. let l = less uid e in omega arith) files holds.below;
    rising = holds.rising;
  }

  kept_one : (m : Message) (messages : List Message) (files : List File) → is_uid m.uid ≡ true → IsWithin keywords m.flags → Kept m.uid messages files
      → Kept (m.uid + 1) (messages ++ m ∷ []) (without Cur (message_file keywords m).name files ++ message_file keywords m ∷ [])
  kept_one m messages files is fits kept =
      let file : File = message_file keywords m in
      let numbered = message_is_numbered keywords m is fits in
      let stay : without Cur file.name files ≡ files = left_all None (name_of_file file) files (none_there m.uid files (name_of_file file) numbered.uid kept.holds.below) in
      let apart : AreApart (files ++ file ∷ []) = subst (λ (l : List File). AreApart (l ++ file ∷ [])) stay (apart_added files file kept.holds.apart) in
      let gained = gains keywords m.uid files files [] file numbered.uid apart kept.holds.below (All-nil (HasUidBelow m.uid))
      (ap (messages_in keywords) (append-nil files)) (ap (filter_map entry_of) (append-nil files)) kept.holds in
      subst (λ (l : List File). Kept (m.uid + 1) (messages ++ m ∷ []) (l ++ file ∷ [])) (sym stay)
      (record {
        holds = gained.holds;
        are = gained.messages ∙ ap (λ (ms : List Message). ms ++ message_in keywords file m.uid ∷ []) kept.are
            ∙ ap (λ (f : ℕ). messages ++ (let one : Message = record { uid = m.uid; flags = f; bytes = m.bytes } in one) ∷ []) numbered.flags;
        settled = All-append Settled files (file ∷ []) kept.settled (All-cons Settled file [] numbered.waits (All-nil Settled));
        count = length_push files file ∙ ap (λ (n : ℕ). n + 1) kept.count ∙ sym (length_push messages m);
      })

  -- a message that has a UID from this one on, and whose numbers are in their ranges
  record MayCome (next : ℕ) (m : Message) : Type 0 where
    above : next ≤ m.uid
    is : is_uid m.uid ≡ true
    fits : IsWithin keywords m.flags

  rest_above : (m : Message) (more : List Message) → AreRising (m ∷ more) → All (λ x. m.uid + 1 ≤ x.uid) more
  rest_above m more rising = λ k d within. let up = rising 0 (suc k) d (omega arith) (omega arith) in omega arith

  rest_rises : (m : Message) (more : List Message) → AreRising (m ∷ more) → AreRising more
  rest_rises m more rising = λ i j d less within. rising (suc i) (suc j) d (omega arith) (omega arith)

  -- the files of all
  record KeptAll (messages : List Message) (files : List File) : Type 0 where
    next : ℕ
    kept : Kept next messages files

  kept_all : (more messages : List Message) (next : ℕ) (s : Stored) → AreRising more → All (MayCome next) more → Kept next messages s.files
      → KeptAll (messages ++ more) (fold (put_message keywords) s more).files
  kept_all [] messages next s rising come kept =
      record { next = next; kept = subst (λ (ms : List Message). Kept next ms s.files) (sym (append-nil messages)) kept }
  kept_all (m ∷ more) messages next s rising come kept =
      let first = All-head (MayCome next) m more come in
      let here : Kept m.uid messages s.files = record { holds = holds_above next m.uid s.files first.above kept.holds; are = kept.are; settled = kept.settled; count = kept.count } in
      let rest = All-tail (MayCome next) m more come in
      let up = rest_above m more rising in
      subst (λ (ms : List Message). KeptAll ms (fold (put_message keywords) (put_message keywords s m) more).files) (append_assoc messages (m ∷ []) more)
      (kept_all more (messages ++ m ∷ []) (m.uid + 1) (put_message keywords s m) (rest_rises m more rising)
      (λ k d within. record { above = up k d within; is = (rest k d within).is; fits = (rest k d within).fits })
      (kept_one m messages s.files first.is first.fits here))

  -- ---- files that wait

  -- it is one of the files that wait, named by a number below this one
  record IsEarlier (number : ℕ) (file : File) : Type 0 where
    place : ℕ
    less : place < number
    waiting : Waiting
    is : file ≡ waiting_file keywords place waiting

  abbrev Either : ℕ → File → Type 0
  Either number file = Settled file ⊎ IsEarlier number file

  either_above : (number : ℕ) (file : File) → Either number file → Either (number + 1) file
  either_above number file (inl settled) = inl settled
  either_above number file (inr earlier) = inr (record { place = earlier.place; less = let l = earlier.less in omega arith; waiting = earlier.waiting; is = earlier.is })

  -- among the files of these messages these ones wait
  record Waits (messages : List Message) (waiting : List Waiting) (files : List File) : Type 0 where
    are : by_uid (messages_in keywords files) ≡ messages
    wait : map (waiting_of keywords) (waiting_files files) ≡ waiting
    each : All (Either (length files)) files

  earlier_before : (number : ℕ) (file : File) (f : Waiting) → number < beyond 20 → IsEarlier number file → is_before file (waiting_file keywords number f) ≡ true
  earlier_before number file f small earlier =
      subst (λ (x : File). is_before x (waiting_file keywords number f) ≡ true) (sym earlier.is) (waiting_rise keywords earlier.place number earlier.waiting f earlier.less small)

  not_there : (number : ℕ) (file : File) (f : Waiting) → number < beyond 20 → IsWithin keywords f.flags → Either number file → is_at Cur (waiting_file keywords number f).name file ≡ true → ⊥
  not_there number file f small fits (inl settled) at =
      let same : file.name ≡ (waiting_file keywords number f).name = ap (λ (n : FileName). n.name) (at_true (name_of_file (waiting_file keywords number f)) file at) in
      true≢false (sym (waiting_is_read keywords number f.flags fits).waits ∙ sym (ap is_waiting same) ∙ settled)
  not_there number file f small fits (inr earlier) at =
      let to : FileName = name_of_file (waiting_file keywords number f) in
      let before : names_before (name_of_file file) to ≡ true = earlier_before number file f small earlier in
      let itself : names_before to to ≡ true = subst (λ (n : FileName). names_before n to ≡ true) (at_true to file at) before in
      true≢false (sym itself ∙ names_in_order.one_way to to itself)

  stays : (number : ℕ) (files : List File) (f : Waiting) → number < beyond 20 → IsWithin keywords f.flags → All (Either number) files → without Cur (waiting_file keywords number f).name files ≡ files
  stays number files f small fits each =
      left_all None (name_of_file (waiting_file keywords number f)) files
      (λ k d within. false_from_ne_true (is_at Cur (waiting_file keywords number f).name (get_or files k d)) (not_there number (get_or files k d) f small fits (each k d within)))

  waits_one : (f : Waiting) (messages : List Message) (waiting : List Waiting) (files : List File) → length files < beyond 20 → IsWithin keywords f.flags → Waits messages waiting files
      → Waits messages (waiting ++ f ∷ []) (without Cur (waiting_file keywords (length files) f).name files ++ waiting_file keywords (length files) f ∷ [])
  waits_one f messages waiting files small fits waits =
      let number : ℕ = length files in
      let file : File = waiting_file keywords number f in
      let read = waiting_is_read keywords number f.flags fits in
      let stay : without Cur file.name files ≡ files = stays number files f small fits waits.each in
      let following : waiting_files (files ++ file ∷ []) ≡ waiting_files files ++ file ∷ [] =
      ap (sorted is_before) (filter-append (λ (x : File). is_waiting x.name) files (file ∷ []) ∙ one_waits files file read.waits)
      ∙ sorted_last is_before file (filter (λ (x : File). is_waiting x.name) files) [] (all_before number files f small waits.each) (All-nil (λ (y : File). is_before file y ≡ false))
      ∙ ap (λ (l : List File). sorted is_before l ++ file ∷ []) (append-nil (filter (λ (x : File). is_waiting x.name) files)) in
      subst (λ (l : List File). Waits messages (waiting ++ f ∷ []) (l ++ file ∷ [])) (sym stay)
      (record {
        are = ap by_uid (unnumbered_made (message_in keywords) (λ m. m.uid) (λ file uid. refl) files [] file read.uid ∙ ap (messages_in keywords) (append-nil files)) ∙ waits.are;
        wait = ap (map (waiting_of keywords)) following ∙ map-append (waiting_of keywords) (waiting_files files) (file ∷ [])
            ∙ ap (λ (l : List Waiting). l ++ waiting_of keywords file ∷ []) waits.wait ∙ ap (λ (w : Waiting). waiting ++ w ∷ []) (waiting_is_file keywords number f fits);
        each = subst (λ (n : ℕ). All (Either n) (files ++ file ∷ [])) (sym (length_push files file))
            (All-append (Either (number + 1)) files (file ∷ []) (All-weaker (Either number) (Either (number + 1)) (either_above number) files waits.each)
            (All-cons (Either (number + 1)) file [] (inr (record { place = number; less = omega arith; waiting = f; is = refl })) (All-nil (Either (number + 1)))));
      })
    where
      one_waits : (files : List File) (file : File) → is_waiting file.name ≡ true
          → filter (λ (x : File). is_waiting x.name) files ++ filter (λ (x : File). is_waiting x.name) (file ∷ []) ≡ filter (λ (x : File). is_waiting x.name) files ++ file ∷ []
      one_waits files file e = rw e refl

      all_before : (number : ℕ) (files : List File) (f : Waiting) → number < beyond 20 → All (Either number) files
          → All (λ y. is_before y (waiting_file keywords number f) ≡ true) (filter (λ (x : File). is_waiting x.name) files)
      all_before number files f small each = λ k d within.
          let x : File = get_or (filter (λ (x : File). is_waiting x.name) files) k d in
          by_case x (All-filter (λ (x : File). is_waiting x.name) (Either number) files each k d within) (filter_passes (λ (x : File). is_waiting x.name) files k d within)
        where
          by_case : (x : File) → Either number x → is_waiting x.name ≡ true → is_before x (waiting_file keywords number f) ≡ true
          by_case x (inl settled) passes = absurd (true≢false (sym passes ∙ settled))
          by_case x (inr earlier) passes = earlier_before number x f small earlier

  waits_all : (more waiting : List Waiting) (messages : List Message) (s : Stored) → length s.files + length more ≤ beyond 20 → All (λ (w : Waiting). IsWithin keywords w.flags) more → Waits messages waiting s.files
      → Waits messages (waiting ++ more) (fold (put_waiting keywords) s more).files
  waits_all [] waiting messages s few fits waits = subst (λ (ws : List Waiting). Waits messages ws s.files) (sym (append-nil waiting)) waits
  waits_all (f ∷ more) waiting messages s few fits waits =
      let one = waits_one f messages waiting s.files (omega arith) (All-head (λ (w : Waiting). IsWithin keywords w.flags) f more fits) waits in
      subst (λ (ws : List Waiting). Waits messages ws (fold (put_waiting keywords) (put_waiting keywords s f) more).files) (append_assoc waiting (f ∷ []) more)
      (waits_all more (waiting ++ f ∷ []) messages (put_waiting keywords s f) few_more (All-tail (λ (w : Waiting). IsWithin keywords w.flags) f more fits) one)
    where
      few_more : length (put_waiting keywords s f).files + length more ≤ beyond 20
      few_more =
          let file : File = waiting_file keywords (length s.files) f in
          subst (λ (l : List File). length (l ++ file ∷ []) + length more ≤ beyond 20)
          (sym (stays (length s.files) s.files f (omega arith) (All-head (λ (w : Waiting). IsWithin keywords w.flags) f more fits) waits.each))
          (let one : length (s.files ++ file ∷ []) ≡ length s.files + 1 = length_push s.files file in omega arith)

  -- ---- the mailbox

  files_alone : (more : List Message) (s : Stored) → (fold (put_message keywords) s more).meta ≡ s.meta
  files_alone [] s = refl
  files_alone (m ∷ more) s = files_alone more (put_message keywords s m)

  waiting_alone : (more : List Waiting) (s : Stored) → (fold (put_waiting keywords) s more).meta ≡ s.meta
  waiting_alone [] s = refl
  waiting_alone (f ∷ more) s = waiting_alone more (put_waiting keywords s f)

  none_kept : Kept 0 [] []
  none_kept = record {
    holds = record { apart = λ i j d less within. absurd (omega arith); below = All-nil (HasUidBelow 0); rising = λ i j d less within. absurd (omega arith) };
    are = refl;
    settled = All-nil Settled;
    count = refl;
  }

  all_come : (near : Store) → IsStore near → IsInRange near → All (λ m. IsWithin keywords m.flags) near.messages → All (MayCome 0) near.messages
  all_come near store range named = λ k d within.
      let low : 0 < (get_or near.messages k d).uid = range.messages.uids k d within in
      let high : (get_or near.messages k d).uid + 1 < 2 ^ 32 = range.messages.last k d within in
      record { above = omega arith; is = is_uid_from (get_or near.messages k d).uid low high; fits = named k d within }
    where
      is_uid_from : (uid : ℕ) → 0 < uid → uid + 1 < 2 ^ 32 → is_uid uid ≡ true
      is_uid_from uid low high = grind (arith, nat_tests)

  meta_is_read : (near : Store) → IsInRange near → meta_of (meta_text (record { validity = near.validity; next = near.next })) ≡ Some (record { validity = near.validity; next = near.next })
  meta_is_read near range =
      let meta : Meta = record { validity = near.validity; next = near.next } in
      spelled_meta_is_read meta (meta_text meta) (record { parts = refl; is = numbers near.validity near.next range.validity.positive range.validity.below range.next.positive range.next.below })
    where
      numbers : (validity next : ℕ) → 0 < validity → validity < 2 ^ 32 → 0 < next → next < 2 ^ 32 → is_meta (record { validity = validity; next = next }) ≡ true
      numbers validity next a b c d = grind (arith, nat_tests)

  -- before any file waits
  none_waits : (messages : List Message) (files : List File) → KeptAll messages files → Waits messages [] files
  none_waits messages files all = record {
    are = all.kept.are;
    wait = ap (λ (l : List File). map (waiting_of keywords) (sorted is_before l)) (none_left files all.kept.settled);
    each = All-weaker Settled (Either (length files)) (λ file settled. inl settled) files all.kept.settled;
  }
    where
      none_left : (files : List File) → All Settled files → filter (λ (x : File). is_waiting x.name) files ≡ []
      none_left [] settled = refl
      none_left (file ∷ files) settled = rw (All-head Settled file files settled) (none_left files (All-tail Settled file files settled))

  pub folder_holds : (fresh : ℕ) (near : Store) (waiting : List Waiting) → IsStore near → IsInRange near → AreNamed keywords near.messages waiting → length near.messages + length waiting ≤ beyond 20
      → near_of fresh keywords (folder_of keywords near waiting) ≡ record { store = near; waiting = waiting }
  folder_holds fresh near waiting store range fits few =
      let meta : Meta = record { validity = near.validity; next = near.next } in
      let come = all_come near store range fits.there in
      let one : Stored = fold (put_message keywords) (meta_alone near) near.messages in
      let two : Stored = folder_of keywords near waiting in
      let first = kept_all near.messages [] 0 (meta_alone near) store.rising come none_kept in
      let count : length one.files ≡ length near.messages = first.kept.count in
      let all = waits_all waiting [] near.messages one (omega arith) fits.waits (none_waits near.messages one.files first) in
      near_is fresh keywords two meta (ap (λ (text : Option (List ℕ)). meta_in fresh text) (waiting_alone waiting one ∙ files_alone near.messages (meta_alone near)) ∙ meta_is_read near range)
      ∙ ap (λ (ms : List Message). near_with keywords meta ms (waiting_files two.files)) all.are
      ∙ ap (λ (ws : List Waiting). let b : Mailbox = record { store = near; waiting = ws } in b) all.wait
