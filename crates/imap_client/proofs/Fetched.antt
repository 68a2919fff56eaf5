-- UID FETCH: the replies are those for the messages that the set names. Those without flags are heard as they are.
use Rattle.std.proofs.Common.{◌≡◌, ◌⊎◌, inl, inr, ℕ, ◌+◌, Bool, true, false, List, [], ◌∷◌, ◌++◌, refl, sym, ◌∙◌, ap, subst, Option, Some, None, Result, Ok, Err}
use Rattle.std.specs.Prelude.{filter, if◌then◌else◌}
use Rattle.mailcore.specs.declared.keywords.Keyword.{Keyword}
use Rattle.mailcore.specs.declared.mailbox.Message.{Message}
use Rattle.wire_tokens.specs.declared.uid_set.SetItem.{SetItem}
use Rattle.imap_commands.specs.declared.command.FetchItems.{FetchItems}
use Rattle.imap_commands.specs.declared.command.FetchItems.TheVariants as wanted
use Rattle.imap_commands.specs.declared.command.Request.TheVariants as requests
use Rattle.imap_replies.specs.declared.word.Status.TheVariants as statuses
use Rattle.imap_replies.specs.declared.response.Code.TheVariants as codes_of
use Rattle.imap_replies.specs.declared.response.ResponseText.TheVariants.{Coded}
use Rattle.imap_replies.specs.declared.fetch.FetchItem.{FetchItem}
use Rattle.imap_replies.specs.declared.fetch.FetchItem.TheVariants as items
use Rattle.imap_replies.specs.declared.reply.Reply.{Reply}
use Rattle.imap_replies.specs.declared.reply.Reply.TheVariants.{Tagged, Fetch}
use Rattle.imap_session.specs.Mailboxes.{FarMailbox}
use Rattle.imap_session.specs.NamedMessages.{named_in}
use Rattle.imap_session.specs.Servers.{Server, selected}
use Rattle.imap_session.specs.Answering.{Gives, done}
use Rattle.imap_session.specs.MessageCommands.{shown, fetched, fetches_in}
use Rattle.imap_session.specs.Heard.{AreHeardAs, AreReplies, AreSameItems, IsHeardAs, ShowsItem}
use Rattle.imap_link.specs.declared.fault.FarFault.{FarFault}
use Rattle.imap_link.specs.declared.fault.FarFault.TheVariants as faults
use Rattle.imap_link.specs.declared.uses.Uses.{Uses}
use Rattle.imap_link.specs.UsedReplies.{messages_read, fetch_uses, is_used}
use Rattle.imap_link.specs.Outcomes.{Outcome, Never}
use Rattle.imap_link.proofs.Performed.{used_same}
use Rattle.imap_client.specs.Tags.{tag_text}
use Rattle.imap_client.specs.Exchanged.{command_at, Exchanged}
use Rattle.imap_client.specs.Saying.{HeardOf}
use Rattle.imap_client.specs.Seen.{HasMap}
use Rattle.imap_client.specs.Logins.{Remains}
use Rattle.imap_answers.specs.Readings.{ReadsAs, Reports}
use Rattle.imap_client.proofs.Answered.{Sure, answered}

-- ---- as they were said

-- none of these items names flags
abbrev NamesNone : List FetchItem → Type 0
NamesNone [] = Unit {0}
NamesNone (item ∷ list) = ((names : List (List ℕ)) → item ≡ items.Flags names → ⊥) × NamesNone list

-- what shows no flags
abbrev pub IsFlagless : FetchItems → Type 0
IsFlagless wanted.Listing = ⊥
IsFlagless wanted.Body = Unit {0}
IsFlagless wanted.Head = Unit {0}

module _ (keywords : List Keyword) where
  shows_none : (what : FetchItems) (m : Message) → IsFlagless what → NamesNone (shown keywords what m)
  shows_none wanted.Listing m f = absurd f
  shows_none wanted.Body m f = (λ names e. (let both = e in cc), (λ names e. (let both = e in cc), tt))
  shows_none wanted.Head m f = (λ names e. (let both = e in cc), (λ names e. (let both = e in cc), tt))

  item_exact : (h s : FetchItem) → ((names : List (List ℕ)) → s ≡ items.Flags names → ⊥) → (h ≡ s) ⊎ ShowsItem keywords h s → h ≡ s
  item_exact h s n (inl e) = e
  item_exact h s n (inr w) = absurd (n w.names_said w.said_is)

  items_exact : (hs ss : List FetchItem) → NamesNone ss → AreSameItems keywords hs ss → hs ≡ ss
  items_exact [] [] n h = refl
  items_exact [] (s ∷ ss) n h = absurd h
  items_exact (x ∷ hs) [] n h = absurd h
  items_exact (x ∷ hs) (s ∷ ss) n h = ap (λ (i : FetchItem). i ∷ hs) (item_exact x s n.0 h.0) ∙ ap (λ (l : List FetchItem). s ∷ l) (items_exact hs ss n.1 h.1)

  -- these are heard as they are
  abbrev Exact : List Reply → Type 0
  Exact [] = Unit {0}
  Exact (r ∷ rs) = ((h : Reply) → IsHeardAs keywords h r → h ≡ r) × Exact rs

  exact_same : (hs ss : List Reply) → Exact ss → AreHeardAs keywords hs ss → hs ≡ ss
  exact_same [] [] e l = refl
  exact_same [] (s ∷ ss) e l = absurd l
  exact_same (h ∷ hs) [] e l = absurd l
  exact_same (h ∷ hs) (s ∷ ss) e l = ap (λ (r : Reply). r ∷ hs) (e.0 h l.0) ∙ ap (λ (rs : List Reply). s ∷ rs) (exact_same hs ss e.1 l.1)

  same_list : (place other : ℕ) (list said : List FetchItem) → Fetch place list ≡ Fetch other said → (place ≡ other) × (list ≡ said)
  same_list place other list said e = (let p : place ≡ other = cc in p, let l : list ≡ said = cc in l)

  fetch_exact : (place : ℕ) (list : List FetchItem) → NamesNone list → (h : Reply) → IsHeardAs keywords h (Fetch place list) → h ≡ Fetch place list
  fetch_exact place list n h (inl e) = e
  fetch_exact place list n h (inr (inl w)) = let both = w.said_is in cc
  fetch_exact place list n h (inr (inr (inl w))) = let both = w.said_is in cc
  fetch_exact place list n h (inr (inr (inr (inl w)))) = let both = w.said_is in cc
  fetch_exact place list n h (inr (inr (inr (inr w)))) =
      let same = same_list place w.place list w.list_said w.said_is in
      let exact : w.list ≡ w.list_said = items_exact w.list w.list_said (subst NamesNone same.1 n) w.same in
      w.heard_is ∙ ap (Fetch w.place) exact ∙ sym w.said_is

  done_exact : (tag : List ℕ) (h : Reply) → IsHeardAs keywords h (done tag) → h ≡ done tag
  done_exact tag h (inl e) = e
  done_exact tag h (inr (inl w)) = let both : done tag ≡ Tagged w.tag statuses.Ok (Coded (codes_of.AppendUid w.validity w.uid) w.text) = w.said_is in cc
  done_exact tag h (inr (inr (inl w))) = let both = w.said_is in cc
  done_exact tag h (inr (inr (inr (inl w)))) = let both = w.said_is in cc
  done_exact tag h (inr (inr (inr (inr w)))) = let both = w.said_is in cc

  exact_if : (b : Bool) (place : ℕ) (list : List FetchItem) (rest tail : List Reply) → NamesNone list → Exact (rest ++ tail) → Exact ((if b then Fetch place list ∷ rest else rest) ++ tail)
  exact_if true place list rest tail n e = (fetch_exact place list n, e)
  exact_if false place list rest tail n e = e

  exact_fetched : (named : ℕ → Bool) (what : FetchItems) → IsFlagless what → (place : ℕ) (ms : List Message) (tail : List Reply) → Exact tail → Exact (fetched keywords named what place ms ++ tail)
  exact_fetched named what f place [] tail e = e
  exact_fetched named what f place (m ∷ ms) tail e =
      exact_if (named m.uid) place (shown keywords what m) (fetched keywords named what (place + 1) ms) tail (shows_none what m f) (exact_fetched named what f (place + 1) ms tail e)

  -- ---- those that are kept are heard as those that are kept

  kept_if : (b : Bool) (h s : Reply) (hs ss : List Reply) → IsHeardAs keywords h s → AreHeardAs keywords hs ss → AreHeardAs keywords (if b then h ∷ hs else hs) (if b then s ∷ ss else ss)
  kept_if true h s hs ss one l = (one, l)
  kept_if false h s hs ss one l = l

  kept_heard : (uses : Uses) (hs ss : List Reply) → AreHeardAs keywords hs ss → AreHeardAs keywords (filter (is_used uses) hs) (filter (is_used uses) ss)
  kept_heard uses [] [] l = tt
  kept_heard uses [] (s ∷ ss) l = absurd l
  kept_heard uses (h ∷ hs) [] l = absurd l
  kept_heard uses (h ∷ hs) (s ∷ ss) l =
      subst (λ (b : Bool). AreHeardAs keywords (if b then h ∷ filter (is_used uses) hs else filter (is_used uses) hs) (filter (is_used uses) (s ∷ ss))) (sym (used_same keywords uses h s l.0))
      (kept_if (is_used uses s) h s (filter (is_used uses) hs) (filter (is_used uses) ss) l.0 (kept_heard uses hs ss l.1))

-- ---- all of them are about messages

read_if : (b : Bool) (place : ℕ) (list : List FetchItem) (rest tail : List Reply) → filter (is_used messages_read) (rest ++ tail) ≡ rest ++ tail
    → filter (is_used messages_read) ((if b then Fetch place list ∷ rest else rest) ++ tail) ≡ (if b then Fetch place list ∷ rest else rest) ++ tail
read_if true place list rest tail e = ap (λ (rs : List Reply). Fetch place list ∷ rs) e
read_if false place list rest tail e = e

module _ (keywords : List Keyword) where
  all_read : (named : ℕ → Bool) (what : FetchItems) (place : ℕ) (ms : List Message) (tag : List ℕ)
      → filter (is_used messages_read) (fetched keywords named what place ms ++ done tag ∷ []) ≡ fetched keywords named what place ms ++ done tag ∷ []
  all_read named what place [] tag = refl
  all_read named what place (m ∷ ms) tag = read_if (named m.uid) place (shown keywords what m) (fetched keywords named what (place + 1) ms) (done tag ∷ []) (all_read named what (place + 1) ms tag)

-- ---- what was heard

-- the replies to UID FETCH
abbrev pub replies_for : List Keyword → FarMailbox → List SetItem → FetchItems → (tag : List ℕ) → List Reply
replies_for keywords m set what tag = fetched keywords (named_in m.store set) what 1 m.store.messages ++ done tag ∷ []

-- T holds of them, and those of them that the call keeps were read
abbrev pub FetchReports : (n : ℕ) → List Keyword → FarMailbox → List SetItem → FetchItems → (T : List Reply → Type 0) → (read : List ℕ) → Type 0
FetchReports n keywords m set what T read =
    T (replies_for keywords m set what (tag_text n)) × AreReplies (filter (is_used (fetch_uses what)) (replies_for keywords m set what (tag_text n))) read

-- T holds of replies that were heard as those
pub record ListingReports (n : ℕ) (keywords : List Keyword) (m : FarMailbox) (set : List SetItem) (T : List Reply → Type 0) : Type 0 where
  pub replies : List Reply
  pub reported : T replies
  pub heard_as : AreHeardAs keywords replies (replies_for keywords m set wanted.Listing (tag_text n))

module _ (n : ℕ) (old : Server) (m : FarMailbox) (is : selected old ≡ Some m) (set : List SetItem) (what : FetchItems) where
  fetch_sure : Sure (command_at n (requests.Fetch set what)) old (fetched old.keywords (named_in m.store set) what 1 m.store.messages) (done (tag_text n)) old
  fetch_sure = record {
    each = λ said new step. subst (λ (x : Option FarMailbox). Gives (fetches_in x old (tag_text n) set what) said new) is step;
  }

  module _ (T : List Reply → Type 0) where
    abbrev HeardSo : (read : List ℕ) → Type 0
    HeardSo read = HeardOf old.keywords (fetch_uses what) T (replies_for old.keywords m set what (tag_text n)) read

    heard_by : (result : Result (Unit {0}) FarFault) (read : List ℕ) (new : Server) → Exchanged (command_at n (requests.Fetch set what)) T result read old new
        → Outcome {T = Unit {0}} (λ _ s t. HeardSo read × (t ≡ old)) Never (λ s t. t ≡ old) result old new
    heard_by result read new h =
        answered T (command_at n (requests.Fetch set what)) old (fetched old.keywords (named_in m.store set) what 1 m.store.messages) (done (tag_text n)) old fetch_sure refl result read new h

    reports_by : (Q : Type 0) (read : List ℕ) (new : Server) (result : Result (Unit {0}) FarFault) → (HeardSo read → Q)
        → Outcome {T = Unit {0}} (λ _ s t. HeardSo read × (t ≡ old)) Never (λ s t. t ≡ old) result old new
        → Outcome {T = Unit {0}} (λ x. Reports (λ _. Q) x) Never Remains result old new
    reports_by Q read new (Ok x) so h = (so h.0, h.1)
    reports_by Q read new (Err faults.Stopped) so h = h
    reports_by Q read new (Err faults.Refused) so h = h
    reports_by Q read new (Err faults.Protocol) so h = h
    reports_by Q read new (Err faults.TooLong) so h = h
    reports_by Q read new (Err faults.NoRev2) so h = h
    reports_by Q read new (Err faults.ReadOnly) so h = h
    reports_by Q read new (Err faults.NoMemory) so h = h

    module _ (flagless : IsFlagless what) where
      reports_so : (read : List ℕ) → HeardSo read → FetchReports n old.keywords m set what T read
      reports_so read h =
          let said = replies_for old.keywords m set what (tag_text n) in
          let same : h.replies ≡ said =
          exact_same old.keywords h.replies said (exact_fetched old.keywords (named_in m.store set) what flagless 1 m.store.messages (done (tag_text n) ∷ []) (done_exact old.keywords (tag_text n), tt)) h.heard_as in (
            subst T (ap (filter (is_used messages_read)) same ∙ all_read old.keywords (named_in m.store set) what 1 m.store.messages (tag_text n)) h.reported,
            subst (λ (rs : List Reply). AreReplies (filter (is_used (fetch_uses what)) rs) read) same h.spelled,
          )

      pub fetch_exchanged : (result : Result (Unit {0}) FarFault) (read : List ℕ) (new : Server) → Exchanged (command_at n (requests.Fetch set what)) T result read old new
          → Outcome {T = Unit {0}} (λ x. Reports (λ _. FetchReports n old.keywords m set what T read) x) Never Remains result old new
      fetch_exchanged result read new h = reports_by (FetchReports n old.keywords m set what T read) read new result (reports_so read) (heard_by result read new h)

-- where flags are listed, and the server has this map
module _ (n : ℕ) (old : Server) (m : FarMailbox) (is : selected old ≡ Some m) (set : List SetItem) (keywords : List Keyword) (has : HasMap keywords old) (T : List Reply → Type 0) where
  lists_heard : (read : List ℕ) → HeardOf old.keywords (fetch_uses wanted.Listing) T (replies_for old.keywords m set wanted.Listing (tag_text n)) read → ListingReports n keywords m set T
  lists_heard read h = record {
    replies = filter (is_used messages_read) h.replies;
    reported = h.reported;
    heard_as =
        subst (λ (k : List Keyword). AreHeardAs k (filter (is_used messages_read) h.replies) (replies_for k m set wanted.Listing (tag_text n))) has
        (subst (AreHeardAs old.keywords (filter (is_used messages_read) h.replies)) (all_read old.keywords (named_in m.store set) wanted.Listing 1 m.store.messages (tag_text n))
        (kept_heard old.keywords messages_read h.replies (replies_for old.keywords m set wanted.Listing (tag_text n)) h.heard_as));
  }

  pub listing_exchanged : (result : Result (Unit {0}) FarFault) (read : List ℕ) (new : Server) → Exchanged (command_at n (requests.Fetch set wanted.Listing)) T result read old new
      → Outcome {T = Unit {0}} (λ x. Reports (λ _. ListingReports n keywords m set T) x) Never Remains result old new
  listing_exchanged result read new h =
      reports_by n old m is set wanted.Listing T (ListingReports n keywords m set T) read new result (lists_heard read) (heard_by n old m is set wanted.Listing T result read new h)

-- ---- what is read of it

same_some : {X : Type 0} (a b : X) → (let x : Option X = Some a in x) ≡ Some b → a ≡ b
same_some a b e = cc

module _ (T X : Type 0) (view : T → X) (x : Option X) (v : X) (is : x ≡ Some v) (old new : Server) (same : new ≡ old) where
  pub reads_so : (t : T) → ReadsAs view (Ok t) x → Reports (λ u. view u ≡ v) t old new
  reads_so t h = (same_some (view t) v (sym h ∙ is), same)

  -- where the replies cannot be read
  pub reads_err : (f : FarFault) → ReadsAs {T = T} view (Err f) x → Outcome {T = T} (Reports (λ t. view t ≡ v)) Never Remains (Err f) old new
  reads_err faults.Stopped h = absurd h
  reads_err faults.Refused h = absurd h
  reads_err faults.Protocol h = let both : (let o : Option X = None in o) ≡ Some v = sym h ∙ is in cc
  reads_err faults.TooLong h = absurd h
  reads_err faults.NoRev2 h = absurd h
  reads_err faults.ReadOnly h = absurd h
  reads_err faults.NoMemory h = inr same

-- whatever became of it, nothing changed
pub unchanged : (T : Type 0) (P : T → Type 0) (old new : Server) (result : Result T FarFault) → Outcome (Reports P) Never Remains result old new → new ≡ old
unchanged T P old new (Ok t) h = h.1
unchanged T P old new (Err faults.Stopped) (inl q) = q
unchanged T P old new (Err faults.Stopped) (inr e) = e
unchanged T P old new (Err faults.Refused) h = absurd h
unchanged T P old new (Err faults.Protocol) h = absurd h
unchanged T P old new (Err faults.TooLong) h = absurd h
unchanged T P old new (Err faults.NoRev2) h = absurd h
unchanged T P old new (Err faults.ReadOnly) h = absurd h
unchanged T P old new (Err faults.NoMemory) (inl q) = q
unchanged T P old new (Err faults.NoMemory) (inr e) = e

module _ (n : ℕ) (old : Server) (m : FarMailbox) (is : selected old ≡ Some m) (set : List SetItem) (what : FetchItems) where
  pub fetch_unchanged : (T : List Reply → Type 0) (result : Result (Unit {0}) FarFault) (read : List ℕ) (new : Server) → Exchanged (command_at n (requests.Fetch set what)) T result read old new → new ≡ old
  fetch_unchanged T result read new h =
      unchanged (Unit {0}) (λ _. Unit {0}) old new result (reports_by n old m is set what T (Unit {0}) read new result (λ _. tt) (heard_by n old m is set what T result read new h))

-- where whole messages are asked for, all replies were read
pub bodies_read : (n : ℕ) (keywords : List Keyword) (m : FarMailbox) (set : List SetItem) (T : List Reply → Type 0) (read : List ℕ) → FetchReports n keywords m set wanted.Body T read
    → AreReplies (replies_for keywords m set wanted.Body (tag_text n)) read
bodies_read n keywords m set T read h = subst (λ (rs : List Reply). AreReplies rs read) (all_read keywords (named_in m.store set) wanted.Body 1 m.store.messages (tag_text n)) h.1
