-- From what the near box says of a call to the clause of the trait.
use Rattle.std.proofs.Common.{◌≡◌, ◌⊎◌, inl, inr, ap, refl, subst, sym, ℕ, ◌+◌, ◌^◌, ◌≤◌, Bool, true, false, List, length, Some, Result, Ok, Err, arith}
use Rattle.std.specs.Prelude.{IfOk, IsErrOf, not}
use Rattle.std.specs.Int.NonZero.{non_zero_u32_get}
use Rattle.device.specs.Calls.{Effect, Follows, Leaves, Nothing, Went}
use Rattle.mailcore.specs.declared.keywords.Keyword.{Keyword}
use Rattle.mailcore.specs.Ranges.{IsInRange}
use Rattle.mailcore.specs.declared.side.Side.TheVariants as side
use Rattle.mailcore.specs.Visitors.{Visitors}
use Rattle.maildir.specs.declared.folder.Folder as folder
use Rattle.near_box.specs.declared.near_box.NearBox.{NearBox}
use Rattle.near_box.specs.declared.near_fault.NearFault.{NearFault}
use Rattle.near_box.specs.declared.near_fault.NearFault.TheVariants as near
use Rattle.near_box.specs.Boxes.{TurnsMailbox, box_of, mailbox_of, seen_in, stored_in}
use Rattle.mailcore.specs.Mailboxes.{Mailbox, all_admitted, delivered, AdmitsSome, SetsAside}
use Rattle.near_box.specs.Mailboxes.{IsMailbox, near_of}
use Rattle.near_box.specs.NearCalls.{Box, Ends, Goes, RunsOut, stops_of}
use Rattle.near_box.proofs.RangeLemmas.{near_in_range}
use Rattle.near_box.proofs.SurveyedLemmas.{surveyed_mailbox}
use Rattle.outside.specs.BoxArrivals.{Arrives}
use Rattle.outside.specs.declared.box_fault.BoxFault.{BoxFault}
use Rattle.outside.specs.declared.box_fault.BoxFault.TheVariants as fault
use Rattle.outside.specs.MailboxCalls.{Call, DoesSome, Halts, HasCause, LeavesBy, Never, Seen}
use Rattle.outside.specs.MailboxOperations.{Admits, AdmitsPart, Answers, Appends, IsFull, NoRoom}
use Rattle.outside.proofs.Admitted.{admits_all, admits_some}
use Rattle.outside.proofs.Quiet.{quiet}
use Rattle.mail_sides.specs.declared.near_side.NearSide.{NearSide}
use Rattle.mail_sides.specs.NearFaults.{reported, reported_by}
use Rattle.mail_sides.specs.NearSides.{is_broken_in, seen_at, seen_of}

-- ---- nobody acts before

pub unvisited : (v : Visitors) {b b' : Mailbox} (does : Effect Mailbox) → does b b' → Follows (Arrives side.Near v.ours v.alone) does b b'
unvisited v {b} does h = record { mid = b; before = quiet side.Near v.ours v.alone b; following = h }

-- ---- an open mailbox

-- one that has not failed is ready
ready_of : (is_open is_ready is_broken : Bool) → is_open ≡ true → is_broken_in is_open is_ready is_broken ≡ false → is_ready ≡ true
ready_of true true is_broken o h = refl
ready_of true false is_broken o h = absurd (cc)
ready_of false is_ready is_broken o h = absurd (cc)

-- UIDs ran out: the box is as it was
as_it_was : (gives_uids : Bool) (a b : Box) → RunsOut gives_uids a b → b ≡ a
as_it_was true a b h = h.1
as_it_was false a b h = absurd h

-- a call that does nothing
pub nothing_done : {F : Type 0} {folders : folder.Ghosts F} (s : NearSide F folders) → (seen_of s).is_broken ≡ false
    → Went (folders.honest s.near.folder) (Follows (Arrives side.Near folders.visitors.ours folders.visitors.alone) (λ b b'. b' ≡ b)) (seen_of s) (seen_of s)
nothing_done {F} {folders} s whole = record { was_whole = whole; is_whole = whole; stops = refl; effect = λ h. unvisited folders.visitors (λ b b'. b' ≡ b) refl }

-- what a call does by its answer, and what it leaves by its fault
abbrev Left : {T : Type 0} → (because : BoxFault → Mailbox → Type 0) → (does : T → Effect Mailbox) → (part : Effect Mailbox) → Result T NearFault → Effect Mailbox
Left because does part (Ok answer) = does answer
Left because does part (Err e) = LeavesBy does part because (reported e)

-- the mailbox before a call of its box, and the box after it
module _ {F : Type 0} {folders : folder.Ghosts F} (s : NearSide F folders) (new : NearBox F folders) (is_open : s.is_open ≡ true) (whole : (seen_of s).is_broken ≡ false) where
  abbrev honest : Type 0
  honest = folders.honest new.folder

  abbrev others : Effect Mailbox
  others = Arrives side.Near folders.visitors.ours folders.visitors.alone

  abbrev now : Seen
  now = seen_at s.is_open (non_zero_u32_get s.fresh) new.keywords new

  -- the box's mailbox before the call, and after it
  abbrev n : Mailbox
  n = mailbox_of s.near

  abbrev n' : Mailbox
  n' = near_of s.near.fresh s.near.keywords (stored_in new)

  -- a call changes no map
  abbrev SameMap : Type 0
  SameMap = new.keywords ≡ s.near.keywords

  says_so : (does : Effect Mailbox) → SameMap → does n n' → Follows others does (seen_of s).stored now.stored
  says_so does same h =
      let stored : Mailbox = (seen_of s).stored in
      unvisited folders.visitors does (subst (λ (keywords : List Keyword). does stored (near_of (non_zero_u32_get s.fresh) keywords (stored_in new))) (sym same)
      (subst (λ (f : ℕ). does (near_of f s.near.keywords (stored_in s.near)) (near_of f s.near.keywords (stored_in new))) s.same_fresh h))

  pub ready : s.near.is_ready ≡ true
  ready = ready_of s.is_open s.near.is_ready (seen_in s.near).is_broken is_open whole

  same_near : stored_in new ≡ stored_in s.near → n' ≡ n
  same_near same = ap (near_of s.near.fresh s.near.keywords) same

  same_box : (gives_uids : Bool) → RunsOut gives_uids (box_of s.near) (box_of new) → box_of new ≡ box_of s.near
  same_box gives_uids out = as_it_was gives_uids (box_of s.near) (box_of new) out

  -- ---- by the answer

  goes : {T : Type 0} (does : T → Effect Mailbox) (answer : T) → Goes (box_of s.near) (box_of new) → (honest → does answer n n')
      → Went honest (Follows others (does answer)) (seen_of s) now
  goes does answer ends does_so = record {
    was_whole = whole;
    is_whole = rw is_open (ap not ends.is_ready);
    stops = ends.stops;
    effect = λ h. says_so (does answer) ends.keywords (does_so h);
  }

  halts : {is_stop : Type 0} (leaves : Effect Mailbox) → SameMap → (is_stop → HasCause ⊥ (seen_of s) now) → (seen_of s).stops ≤ now.stops → (honest → leaves n n')
      → Halts honest ⊥ is_stop (Follows others leaves) (seen_of s) now
  halts leaves same cause no_less leaves_so = record { cause = cause; no_less = no_less; left = λ h. says_so leaves same (leaves_so h) }

  fails : (T : Type 0) (gives_uids : Bool) (leaves : Effect Mailbox) (e : NearFault) → Ends {T = T} gives_uids (box_of s.near) (box_of new) (Err e) → (honest → leaves n n')
      → Halts honest ⊥ (reported e ≡ fault.Stopped) (Follows others leaves) (seen_of s) now
  fails T gives_uids leaves near.Stopped ends leaves_so = halts leaves ends.keywords (λ _. inl (ends.counted ready)) (omega (arith, ends.counted ready)) leaves_so
  fails T gives_uids leaves near.NoMemory ends leaves_so = halts leaves ends.keywords (λ is. absurd (cc)) ends.no_less leaves_so
  fails T gives_uids leaves near.UidsExhausted ends leaves_so = halts leaves (ap (λ (b : Box). b.keywords) (same_box gives_uids ends)) (λ is. absurd (cc)) (omega (arith, ap stops_of (same_box gives_uids ends))) leaves_so
  fails T gives_uids leaves near.Absent ends leaves_so = absurd ends
  fails T gives_uids leaves near.TwoWithOneUid ends leaves_so = absurd ends
  fails T gives_uids leaves near.BadMeta ends leaves_so = absurd ends

  calls : {T : Type 0} (gives_uids : Bool) (because : BoxFault → Mailbox → Type 0) (does : T → Effect Mailbox) (part : Effect Mailbox) (answer : Result T NearFault)
      → Ends gives_uids (box_of s.near) (box_of new) answer → (honest → Left because does part answer n n')
      → Call honest ⊥ others because does part (seen_of s) now (reported_by answer)
  calls gives_uids because does part (Ok answer) ends left_so = goes does answer ends left_so
  calls {T} gives_uids because does part (Err e) ends left_so = fails T gives_uids (LeavesBy does part because (reported e)) e ends left_so

  -- ---- a call that changes nothing

  unchanged : {T : Type 0} (does : T → Effect Mailbox) (answer : Result T NearFault) → Ends false (box_of s.near) (box_of new) answer → n' ≡ n → IfOk answer (λ x. does x n n') → Left Never does Nothing answer n n'
  unchanged does (Ok x) ends same did = did
  unchanged does (Err near.Stopped) ends same did = inl same
  unchanged does (Err near.NoMemory) ends same did = inl same
  unchanged does (Err near.UidsExhausted) ends same did = absurd ends
  unchanged does (Err near.Absent) ends same did = absurd ends
  unchanged does (Err near.TwoWithOneUid) ends same did = absurd ends
  unchanged does (Err near.BadMeta) ends same did = absurd ends

  answered : {T : Type 0} (states : T → Mailbox → Type 0) (answer : Result T NearFault) → n' ≡ n → IfOk answer (λ x. states x n) → IfOk answer (λ x. Answers states x n n')
  answered states (Ok x) same reports_so = (same, reports_so)
  answered states (Err e) same reports_so = tt

  rested : (answer : Result (Unit {0}) NearFault) → n' ≡ n → IfOk answer (λ _. n' ≡ n)
  rested (Ok x) same = same
  rested (Err e) same = tt

  -- it reads
  pub reads : {T : Type 0} (states : T → Mailbox → Type 0) (answer : Result T NearFault) → Ends false (box_of s.near) (box_of new) answer → (honest → stored_in new ≡ stored_in s.near)
      → (honest → IfOk answer (λ x. states x n)) → Call honest ⊥ others Never (Answers states) Nothing (seen_of s) now (reported_by answer)
  reads states answer ends same reports_so = calls false Never (Answers states) Nothing answer ends
      (λ h. unchanged (Answers states) answer ends (same_near (same h)) (answered states answer (same_near (same h)) (reports_so h)))

  -- it rests
  pub rests : (answer : Result (Unit {0}) NearFault) → Ends false (box_of s.near) (box_of new) answer → (honest → stored_in new ≡ stored_in s.near)
      → Call {T = Unit {0}} honest ⊥ others Never (λ _ b b'. b' ≡ b) Nothing (seen_of s) now (reported_by answer)
  rests answer ends same = calls false Never (λ _ b b'. b' ≡ b) Nothing answer ends
      (λ h. unchanged (λ _ b b'. b' ≡ b) answer ends (same_near (same h)) (rested answer (same_near (same h))))

  -- ---- a call that changes the mailbox, or not

  may : {T : Type 0} (does : T → Effect Mailbox) (part : Effect Mailbox) (change : Mailbox → Mailbox) → (n' ≡ change n → DoesSome does n n') → (n' ≡ n) ⊎ ((n' ≡ change n) ⊎ part n n') → Leaves (DoesSome does) part n n'
  may does part change done (inl same) = inl same
  may does part change done (inr (inl all)) = inr (inl (done all))
  may does part change done (inr (inr some)) = inr (inr some)

  failed : (A : Type 0) {T : Type 0} (gives_uids : Bool) (because : BoxFault → Mailbox → Type 0) (does : T → Effect Mailbox) (part : Effect Mailbox) (change : Mailbox → Mailbox) (e : NearFault) → (n' ≡ change n → DoesSome does n n')
      → Ends {T = A} gives_uids (box_of s.near) (box_of new) (Err e) → (n' ≡ n) ⊎ ((n' ≡ change n) ⊎ part n n') → (e ≡ near.UidsExhausted → gives_uids ≡ true → because (fault.Own 5) n)
      → LeavesBy does part because (reported e) n n'
  failed A gives_uids because does part change near.Stopped done ends left_so full = may does part change done left_so
  failed A gives_uids because does part change near.NoMemory done ends left_so full = may does part change done left_so
  failed A true because does part change near.UidsExhausted done ends left_so full = (same_near (ap (λ (b : Box). b.folder.stored) ends.1), full refl refl)
  failed A false because does part change near.UidsExhausted done ends left_so full = absurd ends
  failed A gives_uids because does part change near.Absent done ends left_so full = absurd ends
  failed A gives_uids because does part change near.TwoWithOneUid done ends left_so full = absurd ends
  failed A gives_uids because does part change near.BadMeta done ends left_so full = absurd ends

  turned : (gives_uids : Bool) (because : BoxFault → Mailbox → Type 0) (part : Effect Mailbox) (change : Mailbox → Mailbox) (answer : Result (Unit {0}) NearFault) → Ends gives_uids (box_of s.near) (box_of new) answer
      → TurnsMailbox change part s.near new answer → (IsErrOf answer near.UidsExhausted → gives_uids ≡ true → because (fault.Own 5) n) → Left because (λ _ b b'. b' ≡ change b) part answer n n'
  turned gives_uids because part change (Ok x) ends did full = did
  turned gives_uids because part change (Err e) ends did full =
      failed (Unit {0}) gives_uids because (λ _ b b'. b' ≡ change b) part change e (λ all. record { answer = tt; done = all }) ends did (λ is. full (ap Err is))

  -- it gives no UIDs
  pub turns : (change : Mailbox → Mailbox) (answer : Result (Unit {0}) NearFault) → Ends false (box_of s.near) (box_of new) answer → (honest → TurnsMailbox change Nothing s.near new answer)
      → Call {T = Unit {0}} honest ⊥ others Never (λ _ b b'. b' ≡ change b) Nothing (seen_of s) now (reported_by answer)
  turns change answer ends did = calls false Never (λ _ b b'. b' ≡ change b) Nothing answer ends (λ h. turned false Never Nothing change answer ends (did h) (λ is no. absurd (cc)))

  -- all that waits was read
  some_admitted : Leaves (DoesSome {T = Unit {0}} (λ _ b b'. b' ≡ all_admitted b)) AdmitsSome n n' → Leaves (DoesSome {T = Unit {0}} (λ _. Admits folders.visitors.alone n.waiting)) (AdmitsPart folders.visitors.alone) n n'
  some_admitted (inl same) = inl same
  some_admitted (inr (inl all)) = inr (inl (record { answer = tt; done = admits_all folders.visitors.alone n n' all.done }))
  some_admitted (inr (inr some)) = inr (inr (admits_some folders.visitors.alone n n' some))

  admitted : (because : BoxFault → Mailbox → Type 0) (answer : Result (Unit {0}) NearFault) → Left because (λ _ b b'. b' ≡ all_admitted b) AdmitsSome answer n n' → Left because (λ _. Admits folders.visitors.alone n.waiting) (AdmitsPart folders.visitors.alone) answer n n'
  admitted because (Ok x) did = admits_all folders.visitors.alone n n' did
  admitted because (Err near.Stopped) did = some_admitted did
  admitted because (Err near.NoMemory) did = some_admitted did
  admitted because (Err near.UidsExhausted) did = did
  admitted because (Err near.Absent) did = did
  admitted because (Err near.TwoWithOneUid) did = did
  admitted because (Err near.BadMeta) did = did

  -- it gives all that waits its UIDs
  pub admits : (answer : Result (Unit {0}) NearFault) → Ends true (box_of s.near) (box_of new) answer → (honest → TurnsMailbox all_admitted AdmitsSome s.near new answer)
      → (honest → IsErrOf answer near.UidsExhausted → IsFull (length n.waiting) n)
      → Call {T = Unit {0}} honest ⊥ others (NoRoom side.Near (λ b. length b.waiting)) (λ _. Admits folders.visitors.alone n.waiting) (AdmitsPart folders.visitors.alone) (seen_of s) now (reported_by answer)
  admits answer ends did full = calls true (NoRoom side.Near (λ b. length b.waiting)) (λ _. Admits folders.visitors.alone n.waiting) (AdmitsPart folders.visitors.alone) answer ends
      (λ h. admitted (NoRoom side.Near (λ b. length b.waiting)) answer (turned true (NoRoom side.Near (λ b. length b.waiting)) AdmitsSome all_admitted answer ends (did h) (λ is _. (refl, full h is))))

  -- it adds a message
  appends : (bytes : List ℕ) (flags : ℕ) → n' ≡ delivered bytes flags n → Appends side.Near bytes flags (Some n.store.next) n n'
  appends bytes flags added = record { uid = n.store.next; gives = (refl, refl); now = added }

  pub added_one : (bytes : List ℕ) (flags uid : ℕ) → Goes (box_of s.near) (box_of new) → (honest → uid ≡ n.store.next) → (honest → n' ≡ delivered bytes flags n)
      → Went honest (Follows others (Appends side.Near bytes flags (Some uid))) (seen_of s) now
  added_one bytes flags uid ends next did = goes (Appends side.Near bytes flags) (Some uid) ends (λ h. rw (next h) (appends bytes flags (did h)))

  pub added_none : (bytes : List ℕ) (flags : ℕ) (e : NearFault) → Ends {T = ℕ} true (box_of s.near) (box_of new) (Err e) → (honest → (n' ≡ n) ⊎ ((n' ≡ delivered bytes flags n) ⊎ SetsAside n n'))
      → (honest → e ≡ near.UidsExhausted → IsFull 1 n)
      → Halts honest ⊥ (reported e ≡ fault.Stopped) (Follows others (LeavesBy (Appends side.Near bytes flags) SetsAside (NoRoom side.Near (λ _. 1)) (reported e))) (seen_of s) now
  added_none bytes flags e ends left_so full = fails ℕ true (LeavesBy (Appends side.Near bytes flags) SetsAside (NoRoom side.Near (λ _. 1)) (reported e)) e ends
      (λ h. failed ℕ true (NoRoom side.Near (λ _. 1)) (Appends side.Near bytes flags) SetsAside (delivered bytes flags) e (λ all. record { answer = Some n.store.next; done = appends bytes flags all }) ends (left_so h) (λ is _. (refl, full h is)))

  -- ---- a full mailbox

  pub has_no_room : (count : Mailbox → ℕ) → IsFull (count (seen_of s).stored) (seen_of s).stored → IsFull (count n) n
  has_no_room count h =
      subst (λ (f : ℕ). IsFull (count (near_of f s.near.keywords (stored_in s.near))) (near_of f s.near.keywords (stored_in s.near))) (sym s.same_fresh) h

  pub has_no_uid : folders.honest s.near.folder → IsFull 1 (seen_of s).stored → n.store.next + 1 ≡ 2 ^ 32
  has_no_uid h is_full =
      let mailbox : IsMailbox s.near.fresh (stored_in s.near) = surveyed_mailbox s.near.survey s.near.fresh s.near.keywords (stored_in s.near) (s.near.surveys ready h) in
      let range : IsInRange n.store = near_in_range s.near.fresh s.near.keywords (stored_in s.near) s.near.has_fresh.0 s.near.has_fresh.1 mailbox in
      omega (arith, has_no_room (λ _. 1) is_full, range.next.below)
