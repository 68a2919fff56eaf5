-- The flags of a mailbox in memory have names by its map, whatever is done to it.
use Rattle.std.proofs.Common.{◌≡◌, ◌+◌, ℕ, Bool, true, false, cond, List, [], ◌∷◌, map, length, take, Result, Ok, Err, refl, sym, ap, ◌∙◌, subst}
use Rattle.std.specs.Prelude.{All, IfOk, not, ◌&&◌, ◌==◌}
use Rattle.std.proofs.lemmas.List.Elements.{All-append, All-cons, All-drop, All-filter, All-head, All-map, All-nil, All-push, All-same, All-tail, All-take, All-weaker}
use Rattle.mailcore.specs.declared.keywords.Keyword.{Keyword}
use Rattle.mailcore.specs.declared.listing.Item.{Item}
use Rattle.mailcore.specs.declared.listing.Listing.{Listing}
use Rattle.mailcore.specs.declared.mailbox.Message.{Message}
use Rattle.mailcore.specs.declared.side.Side.{Side}
use Rattle.mailcore.specs.declared.side.Side.TheVariants as side
use Rattle.mailcore.specs.FlagSet.{DELETED, has}
use Rattle.mailcore.specs.KeywordNames.{IsWithin, kept}
use Rattle.mailcore.specs.Mailboxes.{Mailbox, all_admitted}
use Rattle.mailcore.specs.Operations.{added, flags_added, flags_removed, with_flags}
use Rattle.mailcore.specs.Stores.{Store, Waiting, numbered}
use Rattle.mailcore.proofs.KnownFlags.{kept-within, minus-within, union-within}
use Rattle.outside.specs.declared.box_fault.BoxFault.{BoxFault}
use Rattle.outside.specs.MailboxOperations.{ListsWithin, removed}
use Rattle.mem_mailbox.specs.declared.mem_store.MemStore.{MemStore}
use Rattle.mem_mailbox.specs.BoxConditions.{Counts, Ends}
use Rattle.mem_mailbox.specs.Listings.{ShowsIn, item_in}
use Rattle.mem_mailbox.specs.MemMailboxes.{seen_at}
use Rattle.mem_mailbox.specs.Named.{AreWithin, named, named_file, named_message}
use Rattle.mem_mailbox.specs.Views.{near_of, waiting_of}

module _ (keywords : List Keyword) where
  abbrev Has : Message → Type 0
  Has m = IsWithin keywords m.flags

  abbrev HasFile : Waiting → Type 0
  HasFile f = IsWithin keywords f.flags

  -- of messages whose flags that have no name are left out
  pub named_within : (ms : List Message) → AreWithin keywords (map (named_message keywords) ms)
  named_within ms = All-map Has (named_message keywords) ms (λ k d l. kept-within keywords _)

  pub same_within : (s s' : Store) → s' ≡ s → AreWithin keywords s.messages → AreWithin keywords s'.messages
  same_within s s' same = subst (λ (x : Store). AreWithin keywords x.messages) (sym same)

  -- ---- flags are set and cleared

  changed_within : (change : ℕ → ℕ) → ((flags : ℕ) → IsWithin keywords flags → IsWithin keywords (change flags)) → (uid : ℕ) (ms : List Message) → AreWithin keywords ms → AreWithin keywords (map (with_flags change uid) ms)
  changed_within change keeps uid ms h = All-map Has (with_flags change uid) ms (All-weaker Has (λ m. Has (with_flags change uid m)) (λ m k. by_test m (m.uid == uid) k) ms h)
    where
      by_test : (m : Message) (b : Bool) → Has m → Has (cond b (record m { flags = change m.flags }) m)
      by_test m true k = keeps m.flags k
      by_test m false k = k

  pub added_within : (uid flags : ℕ) (s : Store) → AreWithin keywords s.messages → AreWithin keywords (flags_added uid (kept keywords flags) s).messages
  added_within uid flags s h = changed_within _ (λ f k. union-within keywords f (kept keywords flags) k (kept-within keywords flags)) uid s.messages h

  pub cleared_within : (uid flags : ℕ) (s : Store) → AreWithin keywords s.messages → AreWithin keywords (flags_removed uid (kept keywords flags) s).messages
  cleared_within uid flags s h = changed_within _ (λ f k. minus-within keywords f (kept keywords flags) k) uid s.messages h

  -- ---- messages come and go

  pub copy_within : (uid flags : ℕ) (bytes : List ℕ) (s : Store) → AreWithin keywords s.messages → AreWithin keywords (added uid (kept keywords flags) bytes s).messages
  copy_within uid flags bytes s h = All-push Has s.messages _ h (kept-within keywords flags)

  pub left_within : (uid : ℕ) (s : Store) → AreWithin keywords s.messages → AreWithin keywords (removed uid s).messages
  left_within uid s h = All-filter (λ (m : Message). not (m.uid == uid && has m.flags DELETED)) Has s.messages h

  -- ---- what is listed

  pub listed_within : (of : Side) (spared : ℕ → Bool) (s : Store) (listing : Listing) → AreWithin keywords s.messages → ShowsIn of spared s listing → ListsWithin keywords listing
  listed_within of spared s listing h shows =
      All-same (λ (i : Item). IsWithin keywords i.flags) listing.items (map (item_in of spared) s.messages) shows.items (All-map (λ (i : Item). IsWithin keywords i.flags) (item_in of spared) s.messages (each of))
    where
      each : (of : Side) → All (λ (m : Message). IsWithin keywords (item_in of spared m).flags) s.messages
      each side.Far = h
      each side.Near = h

  -- ---- waiting files

  numbered_within : (next : ℕ) (fs : List Waiting) → All HasFile fs → AreWithin keywords (numbered next fs)
  numbered_within next [] h = All-nil Has
  numbered_within next (f ∷ fs) h = All-cons Has _ (numbered (next + 1) fs) (All-head HasFile f fs h) (numbered_within (next + 1) fs (All-tail HasFile f fs h))

  files_within : (ms : List Message) → AreWithin keywords ms → All HasFile (map waiting_of ms)
  files_within ms h = All-map HasFile waiting_of ms h

  from_files : (ms : List Message) → All HasFile (map waiting_of ms) → AreWithin keywords ms
  from_files [] h = All-nil Has
  from_files (m ∷ ms) h = All-cons Has m ms (All-head HasFile (waiting_of m) (map waiting_of ms) h) (from_files ms (All-tail HasFile (waiting_of m) (map waiting_of ms) h))

  -- a mailbox that is seen so
  seen_within : (s : MemStore) (files : List Message) (b : Mailbox) → near_of s files ≡ b → AreWithin keywords b.store.messages → All HasFile b.waiting → AreWithin keywords s.messages.items × AreWithin keywords files
  seen_within s files b same h k = (subst (λ (x : Mailbox). AreWithin keywords x.store.messages) (sym same) h, from_files files (subst (λ (x : Mailbox). All HasFile x.waiting) (sym same) k))

  pub stays_within : (s s' : MemStore) (files files' : List Message) → near_of s' files' ≡ near_of s files → AreWithin keywords s.messages.items → AreWithin keywords files → AreWithin keywords s'.messages.items × AreWithin keywords files'
  stays_within s s' files files' same h k = seen_within s' files' (near_of s files) same h (files_within files k)

  pub admitted_within : (s s' : MemStore) (files files' : List Message) → near_of s' files' ≡ all_admitted (near_of s files) → AreWithin keywords s.messages.items → AreWithin keywords files → AreWithin keywords s'.messages.items × AreWithin keywords files'
  admitted_within s s' files files' now h k =
      let fs : List Waiting = map waiting_of files in
      let all : All HasFile fs = files_within files k in
      seen_within s' files' (all_admitted (near_of s files)) now
      (All-append Has s.messages.items (numbered s.next (take (length fs) fs)) h (numbered_within s.next (take (length fs) fs) (All-take HasFile (length fs) fs all)))
      (All-drop HasFile (length fs) fs all)

  -- ---- a new mailbox

  named_waiting : (ms : List Message) → map waiting_of (map (named_message keywords) ms) ≡ map (named_file keywords) (map waiting_of ms)
  named_waiting [] = refl
  named_waiting (m ∷ ms) = ap (λ (fs : List Waiting). named_file keywords (waiting_of m) ∷ fs) (named_waiting ms)

  pub seen_named : (validity next : ℕ) (ms ms' ws ws' : List Message) (c : Counts) → ms' ≡ map (named_message keywords) ms → ws' ≡ map (named_message keywords) ws
      → (let b : List Message → List Waiting → Mailbox = λ messages waiting. record { store = record { validity = validity; next = next; messages = messages }; waiting = waiting } in
      seen_at (b ms' (map waiting_of ws')) c ≡ seen_at (named keywords (b ms (map waiting_of ws))) c)
  seen_named validity next ms ms' ws ws' c messages waiting =
      let b : List Message → List Waiting → Mailbox = λ ms ws. record { store = record { validity = validity; next = next; messages = ms }; waiting = ws } in
      ap (λ (x : List Message). seen_at (b x (map waiting_of ws')) c) messages
      ∙ ap (λ (x : List Waiting). seen_at (b (map (named_message keywords) ms) x) c) (ap (map waiting_of) waiting ∙ named_waiting ws)

  -- ---- an answer

  pub ends_within : (listing : Listing) (result : Result Listing BoxFault) (old new : Counts) → Ends listing result old new → ListsWithin keywords listing → IfOk result (ListsWithin keywords)
  ends_within listing (Ok given) old new ends h = subst (ListsWithin keywords) (sym ends.0) h
  ends_within listing (Err fault) old new ends h = tt
