-- Marks that are known stay known: no operation on a mailbox changes the bytes of a message, and a new message has a UID
-- of its own.
use Rattle.std.proofs.Common.{◌≡◌, ℕ, ◌+◌, ◌<◌, ◌≤◌, Bool, true, false, not, cond, eqb, List, [], ◌∷◌, ◌++◌, length, get_or, take, map, All, Option, inl, inr, sym, ap, subst, ◌∙◌, arith}
use Rattle.std.specs.List.{list_any}
use Rattle.std.proofs.lemmas.Bool.{cases_lt}
use Rattle.std.proofs.lemmas.List.Elements.{All-nil, All-cons, All-append, All-filter, All-map, All-weaker}
use Rattle.std.proofs.lemmas.List.{get_or-map, get_or_default, length-map}
use Rattle.mailcore.specs.declared.keywords.Keyword.{Keyword}
use Rattle.mailcore.specs.declared.mailbox.Message.{Message}
use Rattle.mailcore.specs.Content.{mark_of}
use Rattle.mailcore.specs.Operations.{with_flags, flagged, expunged}
use Rattle.mailcore.specs.Stores.{Store, Waiting, numbered}
use Rattle.near_box.specs.declared.known_mark.KnownMark.{KnownMark}
use Rattle.near_box.specs.declared.known_mark.KnownMarks.{KnownMarks}
use Rattle.near_box.specs.declared.survey.SurveyEntry.{SurveyEntry}
use Rattle.near_box.specs.Entries.{AreRising, bytes_in, message_at}
use Rattle.near_box.specs.KnownMarks.{AreMarksAmong, AreMarksOf, AreMarksOfFile, IsMarkAmong, mark_at}
use Rattle.mailcore.specs.Mailboxes.{Mailbox, some_admitted, delivered}
use Rattle.maildir.specs.Folders.{Stored}
use Rattle.near_box.proofs.KeptLemmas.{one_place}
use Rattle.mailcore.proofs.KeptPassed.{passed_delivered, passed_expunged, passed_flagged, passed_numbered}

-- a message that has the UID bears the mark
abbrev Bears : KnownMark → Message → Type 0
Bears known m = m.uid ≡ known.uid → mark_of m.bytes ≡ known.mark

-- ---- flags

keeps_flagged : (change : ℕ → ℕ) (uid : ℕ) (k : KnownMark) (m : Message) → Bears k m → Bears k (with_flags change uid m)
keeps_flagged change uid k m bears = by_test (eqb m.uid uid)
  where
    by_test : (b : Bool) → Bears k (cond b (record m { flags = change m.flags }) m)
    by_test true = bears
    by_test false = bears

each_flagged : (change : ℕ → ℕ) (uid : ℕ) (s : Store) (known : List KnownMark) → AreMarksAmong s.next s.messages known → AreMarksAmong s.next (flagged change uid s).messages known
each_flagged change uid s known are =
    All-weaker (IsMarkAmong s.next s.messages) (IsMarkAmong s.next (flagged change uid s).messages)
    (λ k is. record {
      below = is.below;
      marks = All-map (Bears k) (with_flags change uid) s.messages
          (All-weaker (Bears k) (λ m. Bears k (with_flags change uid m)) (keeps_flagged change uid k) s.messages is.marks);
    }) known are

pub marks_flagged : (change : ℕ → ℕ) (uid : ℕ) (s : Store) (known : KnownMarks) → AreMarksOf s known → AreMarksOf (flagged change uid s) known
marks_flagged change uid s known are = record {
  each = each_flagged change uid s known.by_uid.items are.each;
  passed = passed_flagged change uid s known.passed are.passed;
}

-- ---- messages are removed

each_expunged : (uids : List ℕ) (s : Store) (known : List KnownMark) → AreMarksAmong s.next s.messages known → AreMarksAmong s.next (expunged uids s).messages known
each_expunged uids s known are =
    let stays : Message → Bool = λ m. not (list_any (λ uid. eqb m.uid uid) uids) in
    All-weaker (IsMarkAmong s.next s.messages) (IsMarkAmong s.next (expunged uids s).messages)
    (λ k is. record { below = is.below; marks = All-filter stays (Bears k) s.messages is.marks }) known are

pub marks_expunged : (uids : List ℕ) (s : Store) (known : KnownMarks) → AreMarksOf s known → AreMarksOf (expunged uids s) known
marks_expunged uids s known are = record {
  each = each_expunged uids s known.by_uid.items are.each;
  passed = passed_expunged uids s known.passed are.passed;
}

-- ---- messages are added

bears_later : (k : KnownMark) (next uid : ℕ) (flags : ℕ) (bytes : List ℕ) → k.uid < next → next ≤ uid → Bears k (record { uid = uid; flags = flags; bytes = bytes })
bears_later k next uid flags bytes below above same = absurd (omega (arith, below, above, same))

each_delivered : (bytes : List ℕ) (flags : ℕ) (n : Mailbox) (known : List KnownMark) → AreMarksAmong n.store.next n.store.messages known
    → AreMarksAmong (delivered bytes flags n).store.next (delivered bytes flags n).store.messages known
each_delivered bytes flags n known are =
    let s : Store = n.store in
    let m : Message = record { uid = s.next; flags = flags; bytes = bytes } in
    All-weaker (IsMarkAmong s.next s.messages) (IsMarkAmong (s.next + 1) (s.messages ++ m ∷ []))
    (λ k is. record {
      below = omega (arith, is.below);
      marks = All-append (Bears k) s.messages (m ∷ []) is.marks
          (All-cons (Bears k) m [] (bears_later k s.next s.next flags bytes is.below (omega arith)) (All-nil (Bears k)));
    }) known are

pub marks_delivered : (bytes : List ℕ) (flags : ℕ) (n : Mailbox) (known : KnownMarks) → AreMarksOf n.store known → AreMarksOf (delivered bytes flags n).store known
marks_delivered bytes flags n known are = record {
  each = each_delivered bytes flags n known.by_uid.items are.each;
  passed = passed_delivered bytes flags n known.passed are.passed;
}

bears_numbered : (k : KnownMark) (next uid : ℕ) (files : List Waiting) → k.uid < next → next ≤ uid → All (Bears k) (numbered uid files)
bears_numbered k next uid [] below above = All-nil (Bears k)
bears_numbered k next uid (file ∷ files) below above =
    All-cons (Bears k) (record { uid = uid; flags = file.flags; bytes = file.bytes }) (numbered (uid + 1) files)
    (bears_later k next uid file.flags file.bytes below above) (bears_numbered k next (uid + 1) files below (omega (arith, above)))

each_numbered : (count : ℕ) (n : Mailbox) (known : List KnownMark) → AreMarksAmong n.store.next n.store.messages known
    → AreMarksAmong (some_admitted count n).store.next (some_admitted count n).store.messages known
each_numbered count n known are =
    let s : Store = n.store in
    All-weaker (IsMarkAmong s.next s.messages) (IsMarkAmong (s.next + length n.waiting) (s.messages ++ numbered s.next (take count n.waiting)))
    (λ k is. record {
      below = omega (arith, is.below);
      marks = All-append (Bears k) s.messages (numbered s.next (take count n.waiting)) is.marks
          (bears_numbered k s.next s.next (take count n.waiting) is.below (omega arith));
    }) known are

pub marks_numbered : (count : ℕ) (n : Mailbox) (known : KnownMarks) → AreMarksOf n.store known → AreMarksOf (some_admitted count n).store known
marks_numbered count n known are = record {
  each = each_numbered count n known.by_uid.items are.each;
  passed = passed_numbered count n known.passed are.passed;
}

-- ---- the same known of a mailbox that is said in another way

pub marks_after : (n n' : Mailbox) (known now : KnownMarks) → n' ≡ n → now ≡ known → AreMarksOf n.store known → AreMarksOf n'.store now
marks_after n n' known now same kept are =
    subst (λ (l : KnownMarks). AreMarksOf n'.store l) (sym kept) (subst (λ (m : Mailbox). AreMarksOf m.store known) (sym same) are)

-- ---- marks of files that are read

pub known_of_file : (keywords : List Keyword) (s : Stored) (es : List SurveyEntry) (i : ℕ) (entry : SurveyEntry) (next : ℕ) (known : List KnownMark) → i < length es → entry ≡ get_or es i entry
    → AreMarksAmong next (map (message_at keywords s) es) known → AreMarksOfFile s entry known
known_of_file keywords s es i entry next known below is are =
    All-weaker (IsMarkAmong next (map (message_at keywords s) es)) (λ k. entry.uid ≡ k.uid → mark_of (bytes_in s entry) ≡ k.mark)
    (λ k marks.
    let m : Message = message_at keywords s entry in
    subst (Bears k) (get_or-map (message_at keywords s) es i entry m below ∙ ap (message_at keywords s) (sym is)) (marks.marks i m (omega (arith, below, length-map es (message_at keywords s)))))
    known are

pub mark_of_file : (keywords : List Keyword) (s : Stored) (es : List SurveyEntry) (i : ℕ) (entry : SurveyEntry) (next : ℕ) → i < length es → entry ≡ get_or es i entry → AreRising es → All (λ e. e.uid < next) es
    → IsMarkAmong next (map (message_at keywords s) es) (mark_at s entry)
mark_of_file keywords s es i entry next below is rising within = record {
  below = subst (λ (e : SurveyEntry). e.uid < next) (sym is) (within i entry below);
  marks = All-map (Bears (mark_at s entry)) (message_at keywords s) es
      (λ j d there same.
      let here : i ≡ j = one_place (λ e. e.uid) es rising i j d below there (ap (λ (e : SurveyEntry). e.uid) (get_or_default es i d entry below ∙ sym is) ∙ sym same) in
      ap (λ (e : SurveyEntry). mark_of (bytes_in s e)) (ap (λ (k : ℕ). get_or es k d) (sym here) ∙ get_or_default es i d entry below ∙ sym is));
}

-- an entry is the one message between those before it and itself
pub only_entry : (keywords : List Keyword) (s : Stored) (es : List SurveyEntry) (k : ℕ) (entry : SurveyEntry) (below : ℕ) (mark : Option (List ℕ)) → k < length es → entry ≡ get_or es k entry → AreRising es
    → ((j : ℕ) (d : SurveyEntry) → j < k → (get_or es j d).uid < below) → mark ≡ mark_of (bytes_in s entry)
    → All (λ m. below ≤ m.uid → m.uid ≤ entry.uid → mark_of m.bytes ≡ mark) (map (message_at keywords s) es)
only_entry keywords s es k entry below mark here is rising before same =
    All-map (λ m. below ≤ m.uid → m.uid ≤ entry.uid → mark_of m.bytes ≡ mark) (message_at keywords s) es (λ j d there up under.
    let own : get_or es k d ≡ entry = get_or_default es k d entry here ∙ sym is in
    elim (cases_lt j k) [
      | inl less ↦ absurd (let low = before j d less in omega (arith, low, up))
      | inr least ↦ elim (cases_lt k j) [
        | inl more ↦ absurd (let above = rising k j d more there in let uid : (get_or es k d).uid ≡ entry.uid = ap (λ (e : SurveyEntry). e.uid) own in omega (arith, above, uid, under))
        | inr most ↦ ap (λ (e : SurveyEntry). mark_of (bytes_in s e)) (ap (λ (n : ℕ). get_or es n d) (let at : j ≡ k = omega (arith, least, most) in at) ∙ own) ∙ sym same
      ]
    ])
