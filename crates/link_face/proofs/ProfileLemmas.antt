-- Each reply of a server of the profile passes a test of replies that is one of names in LIST. So it is heard as it came where these stand for
-- themselves; and it is one that such a server says, whatever its mailboxes are named.
use Rattle.std.proofs.Common.{◌≡◌, inl, inr, ℕ, ◌+◌, Bool, true, false, ◌&&◌, List, [], ◌∷◌, ◌++◌, map, filter, length, codes, Option, None, Some, refl, ap, ◌∙◌}
use Rattle.std.specs.Prelude.{if◌then◌else◌, nat_eq, nat_le, not}
use Rattle.std.specs.Cmp.Lexicographic.{pointwise}
use Rattle.std.specs.List.{list_all, find, fold}
use Rattle.std.proofs.lemmas.List.Folds.{list_all-append, list_all-map}
use Rattle.mailcore.specs.declared.keywords.Keyword.{Keyword}
use Rattle.mailcore.specs.declared.mailbox.Message.{Message}
use Rattle.mailcore.specs.MailboxNames.{is_mailbox_name}
use Rattle.mailcore.specs.MailboxPatterns.{matches}
use Rattle.wire_tokens.specs.Names.{has_name}
use Rattle.wire_tokens.specs.declared.uid_set.SetItem.{SetItem}
use Rattle.imap_commands.specs.declared.command.Request.{Request}
use Rattle.imap_commands.specs.declared.command.Request.TheVariants as requests
use Rattle.imap_commands.specs.declared.command.FetchItems.{FetchItems}
use Rattle.imap_commands.specs.declared.command.FetchItems.TheVariants as wanted
use Rattle.imap_commands.specs.declared.command.StoreMode.{StoreMode}
use Rattle.imap_replies.specs.declared.response.Code.TheVariants as codes_of
use Rattle.imap_replies.specs.declared.reply.Reply.{Reply}
use Rattle.imap_replies.specs.declared.reply.Reply.TheVariants.{Continue, Tagged, Notice, Capability, Enabled, List as Listed, Flags, Exists, Expunge, Fetch, Other, OtherNumbered}
use Rattle.imap_session.specs.Answering.{Answer, Gives, done, done_with, refused, refused_with, listed, only, out_of_place}
use Rattle.imap_session.specs.AppendCommand.{AppendsIf, AppendsAt, grown, appended}
use Rattle.imap_session.specs.Mailboxes.{FarMailbox, mailbox_at, same_name}
use Rattle.imap_session.specs.MailboxCommands.{empty_mailbox, lists, creates, creates_at, makes, selects, selects_at, closes, opening, names_matched, next_validity}
use Rattle.imap_session.specs.MessageCommands.{shown, fetched, fetches_in, fetches, stores_in, stores, removed, expunges_in, expunges}
use Rattle.imap_session.specs.NameOrder.{put_in, stands_before}
use Rattle.imap_session.specs.NamedMessages.{named_in, goes}
use Rattle.imap_session.specs.Portions.{LineFault, Syntax, LiteralTooLong}
use Rattle.imap_session.specs.Serving.{fault_reply}
use Rattle.imap_session.specs.Servers.{Server, Condition, NotAuthenticated, Authenticated, Selected, LoggedOut, is_logged_in, is_before_login, selected}
use Rattle.imap_session.specs.SessionCommands.{REV2, reports_capabilities, does_nothing, logs_out, lets_in, logs_in, enables}
use Rattle.imap_session.specs.Steps.{StepOf}
use Rattle.link_face.specs.Hearing.{text_in, is_same_near, hides, is_row, is_heard}
use Rattle.link_face.specs.Profile.{NamesAreSame, AreHeard}
use Rattle.link_face.specs.Said.{is_said, AreSaid}

-- ---- two tests

both_true : (a b : Bool) → a ≡ true → b ≡ true → (a && b) ≡ true
both_true a b e f = ap (λ (x : Bool). x && b) e ∙ f

first_of_two : (a b : Bool) → (a && b) ≡ true → a ≡ true
first_of_two true b e = refl
first_of_two false b e = e

second_of_two : (a b : Bool) → (a && b) ≡ true → b ≡ true
second_of_two true b e = e
second_of_two false b e = cc

-- a reply of a server whose mailboxes have names of this test
abbrev passes : (same : List ℕ → Bool) → Reply → Bool
passes same (Continue text) = true
passes same (Tagged tag status text) = true
passes same (Notice kind text) = true
passes same (Capability names) = true
passes same (Enabled names) = true
passes same (Listed attributes delimiter name) = not (hides attributes) && same (text_in name)
passes same (Flags flags) = true
passes same (Exists n) = true
passes same (Expunge n) = true
passes same (Fetch n row) = is_row row
passes same (Other word text) = false
passes same (OtherNumbered n event text) = false

module _ (same : List ℕ → Bool) where
  abbrev ArePassed : List Reply → Type 0
  ArePassed replies = list_all (passes same) replies ≡ true

  abbrev AreNamed : Server → Type 0
  AreNamed s = list_all (λ (m : FarMailbox). same m.name) s.mailboxes ≡ true

  both_pass : (xs ys : List Reply) → ArePassed xs → ArePassed ys → ArePassed (xs ++ ys)
  both_pass xs ys h k = list_all-append (passes same) xs ys ∙ both_true (list_all (passes same) xs) (list_all (passes same) ys) h k

  -- ---- LIST

  same_if : (b : Bool) (x y : List (List ℕ)) → list_all same x ≡ true → list_all same y ≡ true → list_all same (if b then x else y) ≡ true
  same_if true x y h k = h
  same_if false x y h k = k

  same_put : (ns : List (List ℕ)) (n : List ℕ) → list_all same ns ≡ true → same n ≡ true → list_all same (put_in ns n) ≡ true
  same_put [] n h k = both_true (same n) true k refl
  same_put (m ∷ ns) n h k =
      let mine = first_of_two (same m) (list_all same ns) h in
      let others = second_of_two (same m) (list_all same ns) h in
      same_if (stands_before n m) (n ∷ m ∷ ns) (m ∷ put_in ns n)
      (both_true (same n) (list_all same (m ∷ ns)) k h)
      (both_true (same m) (list_all same (put_in ns n)) mine (same_put ns n others k))

  same_fold : (names acc : List (List ℕ)) → list_all same acc ≡ true → list_all same names ≡ true → list_all same (fold put_in acc names) ≡ true
  same_fold [] acc h k = h
  same_fold (n ∷ names) acc h k =
      same_fold names (put_in acc n) (same_put acc n h (first_of_two (same n) (list_all same names) k))
      (second_of_two (same n) (list_all same names) k)

  same_filter : (p : List ℕ → Bool) (names : List (List ℕ)) → list_all same names ≡ true → list_all same (filter p names) ≡ true
  same_filter p [] h = refl
  same_filter p (n ∷ names) h =
      let mine = first_of_two (same n) (list_all same names) h in
      let others = same_filter p names (second_of_two (same n) (list_all same names) h) in
      same_if (p n) (n ∷ filter p names) (filter p names) (both_true (same n) (list_all same (filter p names)) mine others) others

  names_same : (ms : List FarMailbox) → list_all (λ (m : FarMailbox). same m.name) ms ≡ true → list_all same (map (λ (m : FarMailbox). m.name) ms) ≡ true
  names_same ms h = list_all-map same (λ (m : FarMailbox). m.name) ms ∙ h

  listed_pass : (names : List (List ℕ)) → list_all same names ≡ true → ArePassed (map listed names)
  listed_pass names h = list_all-map (passes same) listed names ∙ h

  -- ---- answers

  answer_if : (b : Bool) (x y : Answer) → ArePassed x.replies → ArePassed y.replies → ArePassed (if b then x else y).replies
  answer_if true x y h k = h
  answer_if false x y h k = k

  replies_if : (b : Bool) (x y : List Reply) → ArePassed x → ArePassed y → ArePassed (if b then x else y)
  replies_if true x y h k = h
  replies_if false x y h k = k

  given : (a : Answer) (replies : List Reply) (new : Server) → ArePassed a.replies → Gives a replies new → ArePassed replies
  given a replies new h g = ap (list_all (passes same)) g.0 ∙ h

  lists_pass : (s : Server) (tag pattern : List ℕ) → AreNamed s → ArePassed (lists s tag pattern).replies
  lists_pass s tag pattern h =
      let names = map (λ (m : FarMailbox). m.name) s.mailboxes in
      let matched = same_fold (filter (matches pattern) names) [] refl (same_filter (matches pattern) names (names_same s.mailboxes h)) in
      let answer : Answer = record { replies = map listed (names_matched pattern s.mailboxes) ++ done tag ∷ []; after = s } in
      answer_if (is_logged_in s.condition) answer (out_of_place s tag)
      (both_pass (map listed (names_matched pattern s.mailboxes)) (done tag ∷ []) (listed_pass (names_matched pattern s.mailboxes) matched) refl) refl

  makes_pass : (s : Server) (tag name : List ℕ) (validity : ℕ) → ArePassed (makes s tag name validity).replies
  makes_pass s tag name validity =
      let answer : Answer = record { replies = done tag ∷ []; after = record s { mailboxes = s.mailboxes ++ empty_mailbox name validity ∷ [] } } in
      answer_if (nat_le validity 4294967295) answer (only s (refused tag (codes "limit"))) refl refl

  creates_at_pass : (found : Option FarMailbox) (s : Server) (tag name : List ℕ) → ArePassed (creates_at found s tag name).replies
  creates_at_pass (Some m) s tag name = refl
  creates_at_pass None s tag name =
      answer_if (is_mailbox_name name) (makes s tag name (next_validity s.mailboxes)) (only s (refused tag (codes "name"))) (makes_pass s tag name (next_validity s.mailboxes)) refl

  creates_pass : (s : Server) (tag name : List ℕ) → ArePassed (creates s tag name).replies
  creates_pass s tag name = answer_if (is_logged_in s.condition) (creates_at (mailbox_at name s.mailboxes) s tag name) (out_of_place s tag) (creates_at_pass (mailbox_at name s.mailboxes) s tag name) refl

  closes_pass : (c : Condition) → ArePassed (closes c)
  closes_pass NotAuthenticated = refl
  closes_pass Authenticated = refl
  closes_pass (Selected name) = refl
  closes_pass LoggedOut = refl

  opening_pass : (keywords : List Keyword) (m : FarMailbox) (tag : List ℕ) → same m.name ≡ true → ArePassed (opening keywords m tag)
  opening_pass keywords m tag h = both_true (same m.name) true h refl

  -- the name of a mailbox, if there is one
  IsSameIn : Option FarMailbox → Type 0
  IsSameIn None = Unit {0}
  IsSameIn (Some m) = same m.name ≡ true

  same_in_if : (b : Bool) (m : FarMailbox) (o : Option FarMailbox) → same m.name ≡ true → IsSameIn o → IsSameIn (if b then Some m else o)
  unfolding IsSameIn
  same_in_if true m o h k = h
  same_in_if false m o h k = k

  same_found : (p : FarMailbox → Bool) (ms : List FarMailbox) → list_all (λ (m : FarMailbox). same m.name) ms ≡ true → IsSameIn (find p ms)
  unfolding IsSameIn
  same_found p [] h = tt
  same_found p (m ∷ ms) h =
      same_in_if (p m) m (find p ms) (first_of_two (same m.name) (list_all (λ (n : FarMailbox). same n.name) ms) h)
      (same_found p ms (second_of_two (same m.name) (list_all (λ (n : FarMailbox). same n.name) ms) h))

  selects_at_pass : (found : Option FarMailbox) (s : Server) (tag name : List ℕ) → IsSameIn found → ArePassed (selects_at found s tag name).replies
  unfolding IsSameIn
  selects_at_pass (Some m) s tag name h = both_pass (closes s.condition) (opening s.keywords m tag) (closes_pass s.condition) (opening_pass s.keywords m tag h)
  selects_at_pass None s tag name h = both_pass (closes s.condition) (refused_with tag (codes "NONEXISTENT") (codes "no mailbox") ∷ []) (closes_pass s.condition) refl

  selects_pass : (s : Server) (tag name : List ℕ) → AreNamed s → ArePassed (selects s tag name).replies
  selects_pass s tag name h =
      answer_if (is_logged_in s.condition) (selects_at (mailbox_at name s.mailboxes) s tag name) (out_of_place s tag)
      (selects_at_pass (mailbox_at name s.mailboxes) s tag name (same_found (λ (m : FarMailbox). same_name m.name name) s.mailboxes h)) refl

  -- ---- UID FETCH, UID STORE, UID EXPUNGE

  shown_pass : (keywords : List Keyword) (what : FetchItems) (m : Message) (place : ℕ) → (passes same) (Fetch place (shown keywords what m)) ≡ true
  shown_pass keywords wanted.Listing m place = refl
  shown_pass keywords wanted.Body m place = refl
  shown_pass keywords wanted.Head m place = refl

  fetched_pass : (keywords : List Keyword) (named : ℕ → Bool) (what : FetchItems) (place : ℕ) (ms : List Message) → ArePassed (fetched keywords named what place ms)
  fetched_pass keywords named what place [] = refl
  fetched_pass keywords named what place (m ∷ ms) =
      let following = fetched keywords named what (place + 1) ms in
      let others = fetched_pass keywords named what (place + 1) ms in
      replies_if (named m.uid) (Fetch place (shown keywords what m) ∷ following) following
      (both_true ((passes same) (Fetch place (shown keywords what m))) (list_all (passes same) following) (shown_pass keywords what m place) others) others

  fetches_pass : (found : Option FarMailbox) (s : Server) (tag : List ℕ) (set : List SetItem) (what : FetchItems) → ArePassed (fetches_in found s tag set what).replies
  fetches_pass None s tag set what = refl
  fetches_pass (Some m) s tag set what = both_pass (fetched s.keywords (named_in m.store set) what 1 m.store.messages) (done tag ∷ []) (fetched_pass s.keywords (named_in m.store set) what 1 m.store.messages) refl

  stores_pass : (found : Option FarMailbox) (s : Server) (tag : List ℕ) (set : List SetItem) (mode : StoreMode) (flags : List (List ℕ)) → ArePassed (stores_in found s tag set mode flags).replies
  stores_pass None s tag set mode flags = refl
  stores_pass (Some m) s tag set mode flags = refl

  removed_pass : (named : ℕ → Bool) (place : ℕ) (ms : List Message) → ArePassed (removed named place ms)
  removed_pass named place [] = refl
  removed_pass named place (m ∷ ms) = replies_if (goes named m) (Expunge place ∷ removed named place ms) (removed named (place + 1) ms) (removed_pass named place ms) (removed_pass named (place + 1) ms)

  expunges_pass : (found : Option FarMailbox) (s : Server) (tag : List ℕ) (set : List SetItem) → ArePassed (expunges_in found s tag set).replies
  expunges_pass None s tag set = refl
  expunges_pass (Some m) s tag set = both_pass (removed (named_in m.store set) 1 m.store.messages) (done tag ∷ []) (removed_pass (named_in m.store set) 1 m.store.messages) refl

  -- ---- APPEND

  grown_pass : (c : Condition) (name : List ℕ) (count : ℕ) → ArePassed (grown c name count)
  grown_pass NotAuthenticated name count = refl
  grown_pass Authenticated name count = refl
  grown_pass (Selected at) name count = replies_if (same_name at name) (Exists count ∷ []) [] refl refl
  grown_pass LoggedOut name count = refl

  appends_at_pass : (found : Option FarMailbox) (s : Server) (tag name : List ℕ) (flags : List (List ℕ)) (message : List ℕ) (replies : List Reply) (new : Server)
      → AppendsAt found s tag name flags message replies new → ArePassed replies
  appends_at_pass None s tag name flags message replies new g = given (only s (refused_with tag (codes "TRYCREATE") (codes "no mailbox"))) replies new refl g
  appends_at_pass (Some m) s tag name flags message replies new e =
      elim e [
        | inl none ↦ given (only s (refused tag (codes "uids"))) replies new refl none.gives
        | inr under ↦ given (appended s m under.uid tag name flags message) replies new
            (both_pass (grown s.condition name (length m.store.messages + 1)) (done_with tag (codes_of.AppendUid m.store.validity under.uid) ∷ [])
            (grown_pass s.condition name (length m.store.messages + 1)) refl) under.gives
      ]

  appends_if_pass : (b : Bool) (s : Server) (tag name : List ℕ) (flags : List (List ℕ)) (message : List ℕ) (replies : List Reply) (new : Server)
      → AppendsIf b s tag name flags message replies new → ArePassed replies
  appends_if_pass true s tag name flags message replies new e = appends_at_pass (mailbox_at name s.mailboxes) s tag name flags message replies new e
  appends_if_pass false s tag name flags message replies new g = given (out_of_place s tag) replies new refl g

  -- ---- LOGIN

  lets_in_pass : (s : Server) (tag user password : List ℕ) → ArePassed (lets_in s tag user password).replies
  lets_in_pass s tag user password =
      let answer : Answer = record { replies = done tag ∷ []; after = record s { condition = Authenticated } } in
      answer_if (pointwise nat_eq user s.user && pointwise nat_eq password s.password) answer
      (only s (refused_with tag (codes "AUTHENTICATIONFAILED") (codes "login"))) refl refl

  -- ---- all commands

  step_pass : (s : Server) (tag : List ℕ) (request : Request) (replies : List Reply) (new : Server) → AreNamed s → StepOf s tag request replies new → ArePassed replies
  step_pass s tag requests.Capability replies new h g = given (reports_capabilities s tag) replies new refl g
  step_pass s tag requests.Noop replies new h g = given (does_nothing s tag) replies new refl g
  step_pass s tag requests.Logout replies new h g = given (logs_out s tag) replies new refl g
  step_pass s tag (requests.Login user password) replies new h g =
      given (logs_in s tag user password) replies new (answer_if (is_before_login s.condition) (lets_in s tag user password) (out_of_place s tag) (lets_in_pass s tag user password) refl) g
  step_pass s tag (requests.Enable names) replies new h g =
      let answer : Answer = record { replies = Enabled (if has_name REV2 names then Some (REV2 ∷ []) else None) ∷ done tag ∷ []; after = s } in
      given (enables s tag names) replies new (answer_if (is_logged_in s.condition) answer (out_of_place s tag) refl refl) g
  step_pass s tag (requests.List pattern) replies new h g = given (lists s tag pattern) replies new (lists_pass s tag pattern h) g
  step_pass s tag (requests.Create name) replies new h g = given (creates s tag name) replies new (creates_pass s tag name) g
  step_pass s tag (requests.Select name) replies new h g = given (selects s tag name) replies new (selects_pass s tag name h) g
  step_pass s tag (requests.Append name flags message) replies new h g = appends_if_pass (is_logged_in s.condition) s tag name flags message replies new g
  step_pass s tag (requests.Fetch set what) replies new h g = given (fetches s tag set what) replies new (fetches_pass (selected s) s tag set what) g
  step_pass s tag (requests.Store set mode flags) replies new h g = given (stores s tag set mode flags) replies new (stores_pass (selected s) s tag set mode flags) g
  step_pass s tag (requests.Expunge set) replies new h g = given (expunges s tag set) replies new (expunges_pass (selected s) s tag set) g

-- ---- what is heard, and what is said

-- a test that holds where another does
each_so : (p q : Reply → Bool) → ((reply : Reply) → p reply ≡ true → q reply ≡ true) → (replies : List Reply) → list_all p replies ≡ true → list_all q replies ≡ true
each_so p q so [] h = refl
each_so p q so (r ∷ replies) h =
    both_true (q r) (list_all q replies) (so r (first_of_two (p r) (list_all p replies) h)) (each_so p q so replies (second_of_two (p r) (list_all p replies) h))

heard_of : (reply : Reply) → passes is_same_near reply ≡ true → is_heard reply ≡ true
heard_of (Continue text) h = refl
heard_of (Tagged tag status text) h = refl
heard_of (Notice kind text) h = refl
heard_of (Capability names) h = refl
heard_of (Enabled names) h = refl
heard_of (Listed attributes delimiter name) h = h
heard_of (Flags flags) h = refl
heard_of (Exists n) h = refl
heard_of (Expunge n) h = refl
heard_of (Fetch n row) h = h
heard_of (Other word text) h = refl
heard_of (OtherNumbered n event text) h = refl

said_of : (reply : Reply) → passes (λ (name : List ℕ). true) reply ≡ true → is_said reply ≡ true
said_of (Continue text) h = refl
said_of (Tagged tag status text) h = refl
said_of (Notice kind text) h = refl
said_of (Capability names) h = refl
said_of (Enabled names) h = refl
said_of (Listed attributes delimiter name) h = first_of_two (not (hides attributes)) true h
said_of (Flags flags) h = refl
said_of (Exists n) h = refl
said_of (Expunge n) h = refl
said_of (Fetch n row) h = h
said_of (Other word text) h = h
said_of (OtherNumbered n event text) h = h

all_named : (ms : List FarMailbox) → list_all (λ (m : FarMailbox). true) ms ≡ true
all_named [] = refl
all_named (m ∷ ms) = all_named ms

pub both_said : (xs ys : List Reply) → AreSaid xs → AreSaid ys → AreSaid (xs ++ ys)
both_said xs ys h k = list_all-append is_said xs ys ∙ both_true (list_all is_said xs) (list_all is_said ys) h k

pub step_heard : (s : Server) (tag : List ℕ) (request : Request) (replies : List Reply) (new : Server) → NamesAreSame s → StepOf s tag request replies new → AreHeard replies
step_heard s tag request replies new h g = each_so (passes is_same_near) is_heard heard_of replies (step_pass is_same_near s tag request replies new h g)

pub step_said : (s : Server) (tag : List ℕ) (request : Request) (replies : List Reply) (new : Server) → StepOf s tag request replies new → AreSaid replies
step_said s tag request replies new g =
    let any : List ℕ → Bool = λ (name : List ℕ). true in
    each_so (passes any) is_said said_of replies (step_pass any s tag request replies new (all_named s.mailboxes) g)

pub fault_heard : (fault : LineFault) → is_heard (fault_reply fault) ≡ true
fault_heard (Syntax None) = refl
fault_heard (Syntax (Some tag)) = refl
fault_heard (LiteralTooLong tag) = refl
