-- What a server says is short.
use Rattle.std.proofs.Common.{◌≡◌, ◌≤◌, inl, inr, ℕ, ◌+◌, Bool, true, false, ◌&&◌, cond, List, [], ◌∷◌, ◌++◌, length, map, filter, fold, codes, refl, sym, ◌∙◌, ap, subst, Option, Some, None, if◌then◌else◌, arith}
use Rattle.std.specs.Prelude.{nat_eq, nat_le}
use Rattle.std.specs.List.{list_all}
use Rattle.std.specs.Cmp.Lexicographic.{pointwise}
use Rattle.std.proofs.lemmas.Bool.{cases_Bool, leb-true, le-leb, and_parts, and_from}
use Rattle.std.proofs.lemmas.List.Elements.{All-head, All-tail}
use Rattle.mailcore.specs.declared.keywords.Keyword.{Keyword}
use Rattle.mailcore.specs.declared.mailbox.Message.{Message}
use Rattle.mailcore.specs.KeywordNames.{IsMap, known_set, names_of}
use Rattle.mailcore.specs.MailboxNames.{is_name_byte, is_mailbox_name}
use Rattle.mailcore.specs.MailboxPatterns.{matches}
use Rattle.wire_reader.specs.Lexical.{outside}
use Rattle.wire_tokens.specs.declared.uid_set.SetItem.{SetItem}
use Rattle.wire_tokens.specs.Names.{has_name}
use Rattle.wire_tokens.specs.Room.{most_names}
use Rattle.wire_tokens.proofs.FlagTexts.{set_names_few}
use Rattle.imap_commands.specs.declared.command.FetchItems.{FetchItems}
use Rattle.imap_commands.specs.declared.command.FetchItems.TheVariants as wanted
use Rattle.imap_commands.specs.declared.command.StoreMode.{StoreMode}
use Rattle.imap_commands.specs.declared.command.Request.{Request}
use Rattle.imap_commands.specs.declared.command.Request.TheVariants as requests
use Rattle.imap_replies.specs.declared.word.Status.{Status}
use Rattle.imap_replies.specs.declared.word.Status.TheVariants as statuses
use Rattle.imap_replies.specs.declared.word.NoticeKind.{NoticeKind}
use Rattle.imap_replies.specs.declared.word.NoticeKind.TheVariants as notices
use Rattle.imap_replies.specs.declared.fetch.FetchItem.TheVariants as items
use Rattle.imap_replies.specs.declared.response.Code.TheVariants as codes_of
use Rattle.imap_replies.specs.declared.response.ResponseText.{ResponseText}
use Rattle.imap_replies.specs.declared.response.ResponseText.TheVariants.{Plain, Coded}
use Rattle.imap_replies.specs.declared.reply.Reply.{Reply}
use Rattle.imap_replies.specs.declared.reply.Reply.TheVariants.{Continue, Tagged, Notice, Capability, Enabled, List as Listed, Flags, Exists, Expunge, Fetch, Other, OtherNumbered}
use Rattle.imap_replies.specs.Replies.{WrittenReply}
use Rattle.imap_replies.specs.Words.{status_word, notice_word}
use Rattle.imap_replies.specs.Room.{most_response}
use Rattle.imap_replies.proofs.RepliesFit.{reply_few}
use Rattle.imap_session.specs.Mailboxes.{FarMailbox, same_name, mailbox_at}
use Rattle.imap_session.specs.NameOrder.{stands_before, put_in}
use Rattle.imap_session.specs.NamedMessages.{goes, named_in}
use Rattle.imap_session.specs.Servers.{Condition, NotAuthenticated, Authenticated, Selected, LoggedOut, Server, is_logged_in, is_before_login, selected, exists_of, news}
use Rattle.imap_session.specs.Answering.{Answer, Gives, done, listed, note}
use Rattle.imap_session.specs.SessionCommands.{REV2, logs_in}
use Rattle.imap_session.specs.MailboxCommands.{names_matched, makes, creates_at, closes, all_names, opening, selects_at, next_validity}
use Rattle.imap_session.specs.AppendCommand.{grown, AppendsAt, AppendsIf}
use Rattle.imap_session.specs.MessageCommands.{shown, fetched, removed, fetches_in, stores_in, expunges_in}
use Rattle.imap_session.specs.Steps.{StepOf}
use Rattle.imap_session.specs.Portions.{LineFault, Syntax, LiteralTooLong, Item, Asks, Faulty, Ends, Late}
use Rattle.imap_session.specs.Serving.{Does, fault_reply}
use Rattle.imap_session.specs.Short.{is_short_text, is_short, AreNamed}

-- ---- short replies fit

response_short : (text : ResponseText) → is_short_text text ≡ true → most_response text ≤ 16384
response_short (Plain text) h = let l = leb-true (length text) 1024 h in omega (arith, l)
response_short (Coded code text) h = let l = leb-true _ 8192 h in omega (arith, l)

status_short : (status : Status) → length (status_word status) ≤ 16
status_short statuses.Ok = omega arith
status_short statuses.No = omega arith
status_short statuses.Bad = omega arith

notice_short : (kind : NoticeKind) → length (notice_word kind) ≤ 16
notice_short notices.Ok = omega arith
notice_short notices.No = omega arith
notice_short notices.Bad = omega arith
notice_short notices.Bye = omega arith
notice_short notices.Preauth = omega arith

pub short_fits : (reply : Reply) (text : List ℕ) → WrittenReply reply text → is_short reply ≡ true → outside text ≤ 65536
short_fits (Continue t) text w h = let f = reply_few (Continue t) text w in let l = leb-true (length t) 1024 h in omega (arith, f, l)
short_fits (Tagged tag status t) text w h =
    let f = reply_few (Tagged tag status t) text w in
    let r = response_short t h in
    let s = status_short status in
    let most = w.first.1.most in
    let same = ap length w.first.0 in
    omega (arith, f, r, s, most, same)
short_fits (Notice kind t) text w h = let f = reply_few (Notice kind t) text w in let r = response_short t h in let s = notice_short kind in omega (arith, f, r, s)
short_fits (Capability names) text w h = let f = reply_few (Capability names) text w in let l = leb-true _ 1024 h in omega (arith, f, l)
short_fits (Enabled names) text w h = let f = reply_few (Enabled names) text w in let l = leb-true _ 1024 h in omega (arith, f, l)
short_fits (Listed attributes delimiter name) text w h = let f = reply_few (Listed attributes delimiter name) text w in let l = leb-true _ 1024 h in omega (arith, f, l)
short_fits (Flags flags) text w h = let f = reply_few (Flags flags) text w in let l = leb-true _ 8192 h in omega (arith, f, l)
short_fits (Exists n) text w h = let f = reply_few (Exists n) text w in omega (arith, f)
short_fits (Expunge n) text w h = let f = reply_few (Expunge n) text w in omega (arith, f)
short_fits (Fetch n items) text w h = let f = reply_few (Fetch n items) text w in let l = leb-true _ 8192 h in omega (arith, f, l)
short_fits (Other word t) text w h = cc
short_fits (OtherNumbered n event t) text w h = cc

-- ---- what is said is short

abbrev Short : List Reply → Type 0
Short rs = list_all is_short rs ≡ true

given : (a : Answer) (s : Server) (rs : List Reply) (new : Server) → Gives a rs new → Short a.replies → Short rs
given a s rs new h short = ap (list_all is_short) h.0 ∙ short

either : (b : Bool) (x y : Answer) → Short x.replies → Short y.replies → Short (if b then x else y).replies
either true x y h k = h
either false x y h k = k

pub short_append : (rs qs : List Reply) → Short rs → Short qs → Short (rs ++ qs)
short_append [] qs h k = k
short_append (r ∷ rs) qs h k = let p = and_parts (is_short r) (list_all is_short rs) h in and_from (is_short r) (list_all is_short (rs ++ qs)) p.0 (short_append rs qs p.1 k)

removed_short : (named : ℕ → Bool) (place : ℕ) (ms : List Message) → Short (removed named place ms)
removed_short named place [] = refl
removed_short named place (m ∷ ms) =
    elim (goes named m) as (λ b. Short (cond b (Expunge place ∷ removed named place ms) (removed named (place + 1) ms)))
    [ true ↦ removed_short named place ms | false ↦ removed_short named (place + 1) ms ]

-- names of a set are few
flags_short : (names : List (List ℕ)) → most_names names ≤ 6722 → is_short (Flags names) ≡ true
flags_short names few = le-leb _ 8192 (omega (arith, few))

permanent_short : (names : List (List ℕ)) → most_names names ≤ 6722 → is_short (note (codes_of.PermanentFlags names) (codes "flags")) ≡ true
permanent_short names few = le-leb _ 8192 (omega (arith, few))

listing_short : (place uid size : ℕ) (names : List (List ℕ)) → most_names names ≤ 6722
    → is_short (Fetch place (items.Uid uid ∷ items.Flags names ∷ items.Size size ∷ [])) ≡ true
listing_short place uid size names few = le-leb _ 8192 (omega (arith, few))

shown_short : (keywords : List Keyword) (place : ℕ) (what : FetchItems) (m : Message) → IsMap keywords → is_short (Fetch place (shown keywords what m)) ≡ true
shown_short keywords place wanted.Listing m map = listing_short place m.uid (length m.bytes) (names_of keywords m.flags) (set_names_few keywords m.flags map)
shown_short keywords place wanted.Body m map = refl
shown_short keywords place wanted.Head m map = refl

fetched_short : (keywords : List Keyword) (named : ℕ → Bool) (what : FetchItems) (place : ℕ) (ms : List Message) → IsMap keywords → Short (fetched keywords named what place ms)
fetched_short keywords named what place [] map = refl
fetched_short keywords named what place (m ∷ ms) map =
    let rest = fetched_short keywords named what (place + 1) ms map in
    elim (named m.uid) as (λ b. Short (cond b (Fetch place (shown keywords what m) ∷ fetched keywords named what (place + 1) ms) (fetched keywords named what (place + 1) ms)))
    [ true ↦ and_from (is_short (Fetch place (shown keywords what m))) _ (shown_short keywords place what m map) rest | false ↦ rest ]

grown_short : (c : Condition) (name : List ℕ) (n : ℕ) → Short (grown c name n)
grown_short NotAuthenticated name n = refl
grown_short Authenticated name n = refl
grown_short (Selected at) name n = elim (same_name at name) as (λ b. Short (cond b (Exists n ∷ []) [])) [ true ↦ refl | false ↦ refl ]
grown_short LoggedOut name n = refl

closes_short : (c : Condition) → Short (closes c)
closes_short NotAuthenticated = refl
closes_short Authenticated = refl
closes_short (Selected name) = refl
closes_short LoggedOut = refl

-- names

abbrev Short_of : List (List ℕ) → Bool
Short_of ns = list_all is_short (map listed ns)

name_short : (name : List ℕ) → is_mailbox_name name ≡ true → is_short (listed name) ≡ true
name_short name h =
    let parts = and_parts (nat_le (length name) 255 && list_all is_name_byte name) _ h in
    let first = and_parts (nat_le (length name) 255) (list_all is_name_byte name) parts.0 in
    let l = leb-true (length name) 255 first.0 in
    le-leb _ 1024 (omega (arith, l))

enabled_short : (b : Bool) → is_short (Enabled (if b then Some (REV2 ∷ []) else None)) ≡ true
enabled_short true = refl
enabled_short false = refl

put_short : (ns : List (List ℕ)) (name : List ℕ) → Short (map listed ns) → is_short (listed name) ≡ true → Short (map listed (put_in ns name))
put_short [] name h n = and_from _ _ n refl
put_short (m ∷ ns) name h n =
    let p = and_parts (is_short (listed m)) (Short_of ns) h in
    elim (stands_before name m) as (λ b. Short (map listed (cond b (name ∷ m ∷ ns) (m ∷ put_in ns name))))
    [ true ↦ and_from _ _ n h | false ↦ and_from _ _ p.0 (put_short ns name p.1 n) ]

ordered_short : (names ns : List (List ℕ)) → Short (map listed ns) → Short (map listed names) → Short (map listed (fold put_in ns names))
ordered_short [] ns h k = h
ordered_short (name ∷ names) ns h k = let p = and_parts (is_short (listed name)) (Short_of names) k in ordered_short names (put_in ns name) (put_short ns name h p.0) p.1

matched_short : (pattern : List ℕ) (ms : List FarMailbox) → AreNamed ms → Short (map listed (filter (matches pattern) (map (λ (m : FarMailbox). m.name) ms)))
matched_short pattern [] a = refl
matched_short pattern (m ∷ ms) a =
    let rest = matched_short pattern ms (All-tail (λ (x : FarMailbox). is_mailbox_name x.name ≡ true) m ms a) in
    elim (matches pattern m.name) as (λ b. Short (map listed (cond b (m.name ∷ filter (matches pattern) (map (λ (x : FarMailbox). x.name) ms)) (filter (matches pattern) (map (λ (x : FarMailbox). x.name) ms)))))
    [ true ↦ and_from _ _ (name_short m.name (All-head (λ (x : FarMailbox). is_mailbox_name x.name ≡ true) m ms a)) rest | false ↦ rest ]

-- the mailbox that is found has a name within the limits
found_named : (name : List ℕ) (ms : List FarMailbox) (m : FarMailbox) → AreNamed ms → mailbox_at name ms ≡ Some m → is_mailbox_name m.name ≡ true
found_named name [] m a e = cc
found_named name (x ∷ ms) m a e =
    elim (cases_Bool (same_name x.name name)) [
      | inl t ↦
          let one : Some x ≡ Some m = sym (ap (λ (b : Bool). cond b (Some x) (mailbox_at name ms)) t) ∙ e in
          let same : x ≡ m = cc in
          subst (λ (y : FarMailbox). is_mailbox_name y.name ≡ true) same (All-head (λ (y : FarMailbox). is_mailbox_name y.name ≡ true) x ms a)
      | inr f ↦ found_named name ms m (All-tail (λ (y : FarMailbox). is_mailbox_name y.name ≡ true) x ms a) (sym (ap (λ (b : Bool). cond b (Some x) (mailbox_at name ms)) f) ∙ e)
    ]

-- ---- each command

module _ (s : Server) (tag : List ℕ) (keywords : IsMap s.keywords) (named : AreNamed s.mailboxes) where
  lists_short : (pattern : List ℕ) → Short (map listed (names_matched pattern s.mailboxes) ++ done tag ∷ [])
  lists_short pattern = short_append (map listed (names_matched pattern s.mailboxes)) (done tag ∷ []) (ordered_short (filter (matches pattern) (map (λ (m : FarMailbox). m.name) s.mailboxes)) [] refl (matched_short pattern s.mailboxes named)) refl

  creates_short : (m : Option FarMailbox) (name : List ℕ) → Short (creates_at m s tag name).replies
  creates_short (Some m) name = refl
  creates_short None name = either (is_mailbox_name name) (makes s tag name (next_validity s.mailboxes)) _ (either (nat_le (next_validity s.mailboxes) 4294967295) _ _ refl refl) refl

  selects_short : (m : Option FarMailbox) (name : List ℕ) → mailbox_at name s.mailboxes ≡ m → Short (selects_at m s tag name).replies
  selects_short None name e = short_append (closes s.condition) _ (closes_short s.condition) refl
  selects_short (Some m) name e =
      let names : List (List ℕ) = all_names s.keywords in
      let few = set_names_few s.keywords (known_set s.keywords) keywords in
      short_append (closes s.condition) (opening s.keywords m tag) (closes_short s.condition)
      (and_from (is_short (Flags names)) _ (flags_short names few)
      (and_from true _ refl
      (and_from (is_short (listed m.name)) _ (name_short m.name (found_named name s.mailboxes m named e))
      (and_from (is_short (note (codes_of.PermanentFlags names) (codes "flags"))) _ (permanent_short names few) refl))))

  logs_in_short : (user password : List ℕ) → Short (logs_in s tag user password).replies
  logs_in_short user password = either (is_before_login s.condition) _ _ (either (pointwise nat_eq user s.user && pointwise nat_eq password s.password) _ _ refl refl) refl

  fetches_short : (m : Option FarMailbox) (set : List SetItem) (what : FetchItems) → Short (fetches_in m s tag set what).replies
  fetches_short None set what = refl
  fetches_short (Some m) set what = short_append (fetched s.keywords (named_in m.store set) what 1 m.store.messages) _ (fetched_short s.keywords (named_in m.store set) what 1 m.store.messages keywords) refl

  stores_short : (m : Option FarMailbox) (set : List SetItem) (mode : StoreMode) (flags : List (List ℕ)) → Short (stores_in m s tag set mode flags).replies
  stores_short None set mode flags = refl
  stores_short (Some m) set mode flags = refl

  expunges_short : (m : Option FarMailbox) (set : List SetItem) → Short (expunges_in m s tag set).replies
  expunges_short None set = refl
  expunges_short (Some m) set = short_append (removed (named_in m.store set) 1 m.store.messages) _ (removed_short (named_in m.store set) 1 m.store.messages) refl

  appends_short : (b : Bool) (name : List ℕ) (flags : List (List ℕ)) (message : List ℕ) (rs : List Reply) (new : Server) → AppendsIf b s tag name flags message rs new → Short rs
  appends_short false name flags message rs new h = given _ s rs new h refl
  appends_short true name flags message rs new h = at_short (mailbox_at name s.mailboxes) h
    where
      at_short : (o : Option FarMailbox) → AppendsAt o s tag name flags message rs new → Short rs
      at_short None g = given _ s rs new g refl
      at_short (Some m) (inl g) = given _ s rs new g.gives refl
      at_short (Some m) (inr g) = given _ s rs new g.gives (short_append (grown s.condition name (length m.store.messages + 1)) _ (grown_short s.condition name (length m.store.messages + 1)) refl)

  step_short : (r : Request) (rs : List Reply) (new : Server) → StepOf s tag r rs new → Short rs
  step_short requests.Capability rs new h = given _ s rs new h refl
  step_short requests.Noop rs new h = given _ s rs new h refl
  step_short requests.Logout rs new h = given _ s rs new h refl
  step_short (requests.Login user password) rs new h = given _ s rs new h (logs_in_short user password)
  step_short (requests.Enable names) rs new h = given _ s rs new h (either (is_logged_in s.condition) _ _ (and_from _ _ (enabled_short (has_name REV2 names)) refl) refl)
  step_short (requests.List pattern) rs new h = given _ s rs new h (either (is_logged_in s.condition) _ _ (lists_short pattern) refl)
  step_short (requests.Create name) rs new h = given _ s rs new h (either (is_logged_in s.condition) _ _ (creates_short (mailbox_at name s.mailboxes) name) refl)
  step_short (requests.Select name) rs new h = given _ s rs new h (either (is_logged_in s.condition) _ _ (selects_short (mailbox_at name s.mailboxes) name refl) refl)
  step_short (requests.Append name flags message) rs new h = appends_short (is_logged_in s.condition) name flags message rs new h
  step_short (requests.Fetch set what) rs new h = given _ s rs new h (fetches_short (selected s) set what)
  step_short (requests.Store set mode flags) rs new h = given _ s rs new h (stores_short (selected s) set mode flags)
  step_short (requests.Expunge set) rs new h = given _ s rs new h (expunges_short (selected s) set)

pub news_short : (s : Server) → Short (news s)
news_short s =
    elim s.has_news as (λ b. Short (if b then exists_of (selected s) else [])) [ true ↦ exists_short (selected s) | false ↦ refl ]
  where
    exists_short : (m : Option FarMailbox) → Short (exists_of m)
    exists_short None = refl
    exists_short (Some m) = refl

pub fault_short : (fault : LineFault) → is_short (fault_reply fault) ≡ true
fault_short (Syntax None) = refl
fault_short (Syntax (Some tag)) = refl
fault_short (LiteralTooLong tag) = refl

pub does_short : (old new : Server) (item : Item) (rs : List Reply) → IsMap old.keywords → AreNamed old.mailboxes → Does old item rs new → Short rs
does_short old new (Asks command) rs keywords named h = step_short old command.tag keywords named command.request rs new h
does_short old new (Faulty fault) rs keywords named h = given _ old rs new h (and_from _ _ (fault_short fault) refl)
does_short old new Ends rs keywords named h = given _ old rs new h refl
does_short old new Late rs keywords named h = given _ old rs new h refl
