-- From what a call does to the list to the clause of the trait.
use Rattle.std.proofs.Common.{Bool, ◌≡◌, ◌+◌, inl, inr, ap, sym, ◌∙◌, refl, subst, ℕ, true, false, List, [], ◌∷◌, map, Ok, Err, Result, Some, arith}
use Rattle.std.proofs.lemmas.Bool.{false≢true}
use Rattle.device.specs.Calls.{Effect, Follows, Went}
use Rattle.mailcore.specs.declared.listing.Listing.{Listing}
use Rattle.mailcore.specs.declared.mailbox.Message.{Message}
use Rattle.mailcore.specs.declared.side.Side.{Side}
use Rattle.mailcore.specs.declared.side.Side.TheVariants as side
use Rattle.mailcore.specs.Operations.{added}
use Rattle.mailcore.specs.Stores.{Store, Waiting, numbered}
use Rattle.mailcore.specs.Mailboxes.{Mailbox, on_store}
use Rattle.outside.specs.BoxArrivals.{Arrives}
use Rattle.outside.specs.declared.box_fault.BoxFault.{BoxFault}
use Rattle.outside.specs.declared.box_fault.BoxFault.TheVariants as fault
use Rattle.outside.specs.MailboxCalls.{Call, Halts, LeavesBy}
use Rattle.outside.specs.MailboxOperations.{Appends, IsFull, Lists, NoRoom, is_full}
use Rattle.outside.proofs.Listed.{lists_all}
use Rattle.outside.proofs.Quiet.{quiet}
use Rattle.mem_mailbox.specs.BoxConditions.{Counts, Ends, Fails, Stops, out_of_memory, stopped}
use Rattle.mem_mailbox.specs.MemMailboxes.{seen_at}
use Rattle.mem_mailbox.specs.Listings.{ShowsIn}
use Rattle.mem_mailbox.specs.Views.{every, near_of, store_of, waiting_of}
use Rattle.mem_mailbox.specs.declared.mem_store.MemStore.{MemStore}

-- ---- nobody else acts

alone : (of : Side) {b b' : Mailbox} (does : Effect Mailbox) → does b b' → Follows (Arrives of every true) does b b'
alone of {b} does h = record { mid = b; before = quiet of every true b; following = h }

-- ---- exits with a fault

module _ {T : Type 0} (of : Side) (because : BoxFault → Mailbox → Type 0) (does : T → Effect Mailbox) (part : Effect Mailbox) (b : Mailbox) (c : Counts) where
  abbrev Exit : BoxFault → Mailbox → Counts → Type 0
  Exit e b' c' = Halts (c'.has_refused ≡ false) ⊥ (e ≡ fault.Stopped) (Follows (Arrives of every true) (LeavesBy does part because e)) (seen_at b c) (seen_at b' c')

  stopped_with : (b' : Mailbox) (c' : Counts) → LeavesBy does part because fault.Stopped b b' → c' ≡ stopped c → Exit fault.Stopped b' c'
  stopped_with b' c' left_so now = record {
    cause = λ _. inl (omega (arith, ap (λ (x : Counts). x.stops) now));
    no_less = omega (arith, ap (λ (x : Counts). x.stops) now);
    left = λ _. alone of (LeavesBy does part because fault.Stopped) left_so;
  }

  -- a call that has stopped before its effect
  pub stops : (e : BoxFault) (c' : Counts) → Stops e c c' → Exit e b c'
  stops e c' h = subst (λ (f : BoxFault). Exit f b c') (sym h.0) (stopped_with b c' (inl refl) h.1)

  -- the same, or one that is refused
  pub fails : (e : BoxFault) (c' : Counts) → Fails e c c' → Exit e b c'
  fails fault.Stopped c' h = stopped_with b c' (inl refl) h
  fails fault.Refused c' h = record {
    cause = λ is. absurd (cc);
    no_less = omega (arith, ap (λ (x : Counts). x.stops) h);
    left = λ honest. absurd (false≢true (sym honest ∙ ap (λ (x : Counts). x.has_refused) h));
  }
  fails (fault.Own number) c' h = absurd h
  fails fault.NoMemory c' h = absurd h

  -- a call that found no memory
  pub lacks : (b' : Mailbox) (c1 c' : Counts) → b' ≡ b → c1 ≡ c → c' ≡ out_of_memory c1 → Exit fault.NoMemory b' c'
  lacks b' c1 c' same began now = record {
    cause = λ is. absurd (cc);
    no_less = omega (arith, ap (λ (x : Counts). x.stops) now, ap (λ (x : Counts). x.stops) began);
    left = λ _. alone of (LeavesBy does part because fault.NoMemory) (inl same);
  }

  -- ---- a call that has had its effect

  pub answers : (value : T) (b' : Mailbox) → c.is_broken ≡ false → does value b b'
      → Went (c.has_refused ≡ false) (Follows (Arrives of every true) (does value)) (seen_at b c) (seen_at b' c)
  answers value b' whole done = record { was_whole = whole; is_whole = whole; stops = refl; effect = λ _. alone of (does value) done }

  pub ends : (value : T) (b' : Mailbox) (c1 c' : Counts) (answer : Result T BoxFault) → c.is_broken ≡ false → c1 ≡ c → does value b b' → Ends value answer c1 c'
      → Call (c'.has_refused ≡ false) ⊥ (Arrives of every true) because does part (seen_at b c) (seen_at b' c') answer
  ends value b' c1 c' (Ok given) whole began done h = record {
    was_whole = whole;
    is_whole = ap (λ (x : Counts). x.is_broken) (h.1 ∙ began) ∙ whole;
    stops = ap (λ (x : Counts). x.stops) (h.1 ∙ began);
    effect = λ _. alone of (does given) (subst (λ (x : T). does x b b') (sym h.0) done);
  }
  ends value b' c1 c' (Err e) whole began done h = subst (λ (f : BoxFault). Exit f b' c') (sym h.0)
      (stopped_with b' c' (inr (inl (record { answer = value; done = done }))) (h.1 ∙ ap stopped began))

-- ---- no UID is left

pub full : {T : Type 0} (of : Side) (count : Mailbox → ℕ) (does : T → Effect Mailbox) (part : Effect Mailbox) (b : Mailbox) (c c' : Counts) (e : BoxFault) → e ≡ is_full of → IsFull (count b) b → c' ≡ c
    → Halts (c'.has_refused ≡ false) ⊥ (e ≡ fault.Stopped) (Follows (Arrives of every true) (LeavesBy does part (NoRoom of count) e)) (seen_at b c) (seen_at b c')
full {T} of count does part b c c' e is is_so same = subst (λ (f : BoxFault). Exit of (NoRoom of count) does part b c f b c') (sym is) (by_side of)
  where
    by_side : (of : Side) → Exit of (NoRoom of count) does part b c (is_full of) b c'
    by_side side.Far = record {
      cause = λ is. absurd (cc);
      no_less = omega (arith, ap (λ (x : Counts). x.stops) same);
      left = λ _. alone side.Far (LeavesBy does part (NoRoom side.Far count) fault.Refused) (refl, (refl, is_so));
    }
    by_side side.Near = record {
      cause = λ is. absurd (cc);
      no_less = omega (arith, ap (λ (x : Counts). x.stops) same);
      left = λ _. alone side.Near (LeavesBy does part (NoRoom side.Near count) (fault.Own 5)) (refl, (refl, is_so));
    }

-- ---- the store of a mailbox

abbrev with_store : List Message → Store → Mailbox
with_store files s = record { store = s; waiting = map waiting_of files }

pub stays : (s s' : MemStore) (files : List Message) → store_of s' ≡ store_of s → near_of s' files ≡ near_of s files
stays s s' files same = ap (with_store files) same

pub turned : (s s' : MemStore) (files : List Message) (change : Store → Store) → store_of s' ≡ change (store_of s) → near_of s' files ≡ on_store change (near_of s files)
turned s s' files change now = ap (with_store files) now

pub added_next : (of : Side) (s s' : MemStore) (files : List Message) (uid flags : ℕ) (bytes : List ℕ) → uid ≡ s.next → store_of s' ≡ added uid flags bytes (store_of s)
    → Appends of bytes flags (Some uid) (near_of s files) (near_of s' files)
added_next side.Far s s' files uid flags bytes next now = record { uid = uid; gives = (omega (arith, next), refl); now = ap (with_store files) now }
added_next side.Near s s' files uid flags bytes next now = record { uid = uid; gives = (next, refl); now = ap (with_store files) now }

-- ---- what is listed, and what waits

pub lists : (of : Side) (known : ℕ) (spared : ℕ → Bool) (b : Mailbox) (listing : Listing) → ShowsIn of spared b.store listing → Lists of true known spared listing b
lists side.Far known spared b listing h = lists_all known listing b.store (record { validity = h.validity; next = h.next; items = h.items })
lists side.Near known spared b listing h = record { validity = h.validity; next = h.next; items = h.items }

pub numbered_waiting : (next : ℕ) (files : List Waiting) → map waiting_of (numbered next files) ≡ files
numbered_waiting next [] = refl
numbered_waiting next (f ∷ files) = ap (λ (x : List Waiting). f ∷ x) (numbered_waiting (next + 1) files)

-- the numbers of waiting files say nothing
pub unadmitted : (validity next : ℕ) (messages messages' files files' : List Message) → messages' ≡ messages → files' ≡ numbered next (map waiting_of files)
    → (let b : List Message → List Waiting → Mailbox = λ ms ws. record { store = record { validity = validity; next = next; messages = ms }; waiting = ws } in b messages' (map waiting_of files') ≡ b messages (map waiting_of files))
unadmitted validity next messages messages' files files' same now =
    ap (λ (x : List Message). record { store = record { validity = validity; next = next; messages = x }; waiting = map waiting_of files' }) same
    ∙ ap (λ (x : List Waiting). record { store = record { validity = validity; next = next; messages = messages }; waiting = x }) (ap (map waiting_of) now ∙ numbered_waiting next (map waiting_of files))
